use Rattle.std.proofs.Common.{rules}
use Rattle.cumulative.specs.CumulativeFacts.{cumulative_levels}
use Rattle.cumulative.proofs.SchemeFacts.{one_sets, one_listed, one_parts}
use Rattle.cumulative.proofs.cumulative.Cumulative.new.Goals as goal

pub invariant_of-result : goal.invariant_of-result
invariant_of-result c =
    let minimal = one_listed _ _ 1 c.in_ok-minimal.ensures.items c.everyone.ensures in
    let forbidden = one_listed _ _ 0 c.in_ok-forbidden.ensures.items (search rules) in
    let p = one_parts _ _ _ minimal forbidden c.in_ok-table.ensures.made in
    record { least = p.proper.least; most = p.proper.most; listed = p.proper.some_set; proper = p.proper.proper; found = p.found; rows = p.rows }

pub returns-clause-levels : goal.returns-clause-levels
returns-clause-levels c = cumulative_levels 1 _ one_sets
