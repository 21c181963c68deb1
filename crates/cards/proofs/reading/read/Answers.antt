use Rattle.std.proofs.Common.{rules, ◌≡◌, Ok, vec_items}
use Rattle.cumulative.specs.Access.{numbers}
use Rattle.cards.specs.Answers.{Answers}
use Rattle.cards.specs.Contents.{contents}
use Rattle.cards.specs.Format.{says}
use Rattle.cards.specs.Reading.{reading}
use Rattle.cards.specs.Schemes.{names_sets}
use Rattle.cards.proofs.AnswerFacts.{exactly_cards}
use Rattle.cards.proofs.FormatFacts.{read_is_card}
use Rattle.cards.proofs.reading.read.Goals as goal

pub returns-in_err-fields-clause-exactly_cards : goal.returns-in_err-fields-clause-exactly_cards
returns-in_err-fields-clause-exactly_cards c =
    let bytes = c.args.bytes.now in
    let a : Answers contents (reading bytes) (names_sets (reading bytes)) c.from_residual.result = search rules in
    exactly_cards contents bytes (names_sets (reading bytes)) c.from_residual.result a

pub returns-clause-exactly_cards : goal.returns-clause-exactly_cards
returns-clause-exactly_cards c =
    let fields = c.in_ok-fields.fields in
    let a : reading c.args.bytes.now ≡ Ok (says fields.kind fields.n (numbers (vec_items c.in_ok-sets.sets))) = search rules in
    read_is_card c.args.bytes.now _ a
