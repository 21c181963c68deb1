use Rattle.std.proofs.Common.{vec_items, rules}
use Rattle.cards.specs.Answers.{Answers}
use Rattle.cards.specs.Contents.{contents}
use Rattle.cards.specs.Writing.{sets_fit, writing}
use Rattle.cards.proofs.WritingFacts.{as_opening, opens_again, every_card}
use Rattle.cards.proofs.writing.write.Goals as goal

pub returns-in_err-check_sets-clause-as_opening : goal.returns-in_err-check_sets-clause-as_opening
returns-in_err-check_sets-clause-as_opening c = as_opening (contents c.args.card.now)

pub returns-in_err-check_sets-clause-every_card : goal.returns-in_err-check_sets-clause-every_card
returns-in_err-check_sets-clause-every_card c =
    let says = contents c.args.card.now in
    let a : Answers (λ v. vec_items v) (writing says) (sets_fit says) c.from_residual.result = search rules in
    every_card (λ v. vec_items v) says (sets_fit says) c.from_residual.result a

pub returns-in_err-_named-clause-as_opening : goal.returns-in_err-_named-clause-as_opening
returns-in_err-_named-clause-as_opening c = as_opening (contents c.args.card.now)

pub returns-clause-opens_again : goal.returns-clause-opens_again
returns-clause-opens_again c =
    let says = contents c.args.card.now in
    let a : Answers (λ v. vec_items v) (writing says) (sets_fit says) c.lay_out.result = search rules in
    opens_again (λ v. vec_items v) says (sets_fit says) c.lay_out.result a

pub returns-clause-as_opening : goal.returns-clause-as_opening
returns-clause-as_opening c = as_opening (contents c.args.card.now)
