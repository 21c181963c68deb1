use Rattle.std.proofs.Common.{rules, tests, ◌≡◌, [], ◌∷◌, ◌++◌, length, vec_items, sym}
use Rattle.std.proofs.lemmas.Iterator.{YieldsList-from_slice, YieldsList-from_map}
use Rattle.std.proofs.lemmas.Iterator.Adapters.{items_from_extend}
use Rattle.schemes.specs.declared.keyholders.KeyholderSet.{KeyholderSet}
use Rattle.cumulative.specs.Access.{numbers}
use Rattle.cards.specs.declared.card.CardKind.TheVariants.{Sets}
use Rattle.cards.proofs.ContentsFacts.{numbers_length}
use Rattle.cards.proofs.LayoutFacts.{sets_pushed}
use Rattle.cards.proofs.writing.push_sets.Goals as goal

pub returns-in_ok-extend : goal.returns-in_ok-extend
returns-in_ok-extend c =
    let sets = c.args.sets.now in
    let h = items_from_extend c.extend.result c.extend.ensures.ran
    (YieldsList-from_map _ (λ (set : KeyholderSet). set.bits) (YieldsList-from_slice sets cc) c.map.ensures.closure (λ x r q k. search (rules, tests))) in
    let is : c.args.kind ≡ Sets = search rules in
    let pushed : vec_items c.push.new.self ≡ vec_items c.args.bytes.now ++ length sets ∷ [] = search rules in
    let extended : vec_items c.extend.new.self ≡ vec_items c.push.new.self ++ numbers sets = search rules in
    sets_pushed c.args.kind (numbers sets) _ _ _ _ is pushed (sym (numbers_length sets)) extended
