use Rattle.std.proofs.Common.{rules, tests, ◌≡◌, ℕ, vec_items, map, ap, ◌∙◌}
use Rattle.std.proofs.lemmas.Iterator.{YieldsList-from_slice, YieldsList-from_map, items_from_collect}
use Rattle.schemes.specs.declared.keyholders.KeyholderSet.{KeyholderSet}
use Rattle.cumulative.specs.Access.{numbers}
use Rattle.cards.proofs.ContentsFacts.{numbers_of}
use Rattle.cards.proofs.reading.sets_of.Goals as goal

abbrev set_of : ℕ → KeyholderSet
set_of b = record { bits = b }

pub returns : goal.returns
returns c =
    let bytes = c.args.bytes.now in
    let h = items_from_collect c.collect.result c.collect.ensures.ran
    (YieldsList-from_map _ set_of (YieldsList-from_slice bytes cc) c.map-sets.ensures.closure (λ x r q k. search (rules, tests))) in
    let made : vec_items c.in_ok-collect.field-0 ≡ map set_of bytes = search rules in
    ap numbers made ∙ numbers_of bytes
