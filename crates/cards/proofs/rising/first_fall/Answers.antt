use Rattle.std.proofs.Common.{rules, tests, ◌≡◌, ◌+◌, position, zip, drop, Some}
use Rattle.std.proofs.lemmas.Iterator.{YieldsList-from_slice, YieldsList-from_zip}
use Rattle.std.proofs.lemmas.Iterator.Adapters.{YieldsList-from_skip}
use Rattle.std.proofs.lemmas.Iterator.Search.{position_from_yields_List}
use Rattle.std.specs.Ordering.{partial_le}
use Rattle.cards.specs.Rising.{first_fall}
use Rattle.cards.proofs.RisingFacts.{fall_position, fall_within}
use Rattle.cards.proofs.rising.first_fall.Goals as goal

pub returns-in_err-before : goal.returns-in_err-before
returns-in_err-before g c =
    let l = c.args.list.now in
    let found : c.position.result ≡ position (λ (p : g.row.T.Denot × g.row.T.Denot). partial_le g.T.PartialOrd.partial_cmp p.1 p.0) (zip l (drop 1 l))
    = position_from_yields_List (λ (p : g.row.T.Denot × g.row.T.Denot). partial_le g.T.PartialOrd.partial_cmp p.1 p.0) c.position.new.self _ c.position.result c.position.ensures.ran
    (YieldsList-from_zip (YieldsList-from_slice l cc) (YieldsList-from_skip 1 (YieldsList-from_slice l cc) cc)) (λ x b q k. search (rules, tests)) in
    let e = fall_position (λ x y. partial_le g.T.PartialOrd.partial_cmp y x) l in
    let first : c.from_residual.result ≡ first_fall (λ x y. partial_le g.T.PartialOrd.partial_cmp y x) l = search rules in
    record { first = first; within = fall_within (λ x y. partial_le g.T.PartialOrd.partial_cmp y x) l _ first }

pub returns : goal.returns
returns g c =
    let l = c.args.list.now in
    let found : c.position.result ≡ position (λ (p : g.row.T.Denot × g.row.T.Denot). partial_le g.T.PartialOrd.partial_cmp p.1 p.0) (zip l (drop 1 l))
    = position_from_yields_List (λ (p : g.row.T.Denot × g.row.T.Denot). partial_le g.T.PartialOrd.partial_cmp p.1 p.0) c.position.new.self _ c.position.result c.position.ensures.ran
    (YieldsList-from_zip (YieldsList-from_slice l cc) (YieldsList-from_skip 1 (YieldsList-from_slice l cc) cc)) (λ x b q k. search (rules, tests)) in
    let e = fall_position (λ x y. partial_le g.T.PartialOrd.partial_cmp y x) l in
    let first : Some (c.in_ok-before.before + 1) ≡ first_fall (λ x y. partial_le g.T.PartialOrd.partial_cmp y x) l = search rules in
    record { first = first; within = fall_within (λ x y. partial_le g.T.PartialOrd.partial_cmp y x) l _ first }
