use Rattle.std.proofs.Common.{length, ap, arith}
use Rattle.cumulative.specs.Access.{numbers}
use Rattle.cumulative.specs.AccessFacts.{some_forbidden}
use Rattle.cumulative.specs.CumulativeFacts.{cumulative_access, cumulative_levels}
use Rattle.cumulative.proofs.ListFacts.{numbers_length}
use Rattle.cumulative.proofs.MakingFacts.{table_made}
use Rattle.cumulative.proofs.SchemeFacts.{sets_listed, made_parts}
use Rattle.cumulative.proofs.cumulative.Cumulative.make.Goals as goal

pub overflow_cast-len : goal.overflow_cast-len
overflow_cast-len c =
    let listed = sets_listed c.args.n c.args.sets.now _ _ _ c.in_ok-access.ensures.list.0 c.in_ok-access.ensures.list.1 c.in_ok-forbidden.ensures in
    let long = numbers_length c.in_ok-forbidden.forbidden.items in
    omega (arith, long, ap length listed, c.in_ok-access.ensures.few, c.len.ensures)

pub returns-in_err-table-clause-refusal : goal.returns-in_err-table-clause-refusal
returns-in_err-table-clause-refusal c =
    let listed = sets_listed c.args.n c.args.sets.now _ _ _ c.in_ok-access.ensures.list.0 c.in_ok-access.ensures.list.1 c.in_ok-forbidden.ensures in
    let long = numbers_length c.in_ok-forbidden.forbidden.items in
    absurd (table_made c.len.result c.in_err-table.field-0.0
    (omega (arith, long, ap length listed, c.len.ensures, some_forbidden c.args.n (numbers c.args.sets.now) c.in_ok-access.ensures.proper))
    (omega (arith, long, ap length listed, c.len.ensures, c.in_ok-access.ensures.few)) c.in_err-table.ensures.refusal)

pub invariant_of-drop : goal.invariant_of-drop
invariant_of-drop c =
    let listed = sets_listed c.args.n c.args.sets.now _ _ _ c.in_ok-access.ensures.list.0 c.in_ok-access.ensures.list.1 c.in_ok-forbidden.ensures in
    let long = numbers_length c.in_ok-forbidden.forbidden.items in
    let p = made_parts c.args.n c.in_ok-minimal.minimal.items c.args.sets.now _ c.in_ok-table.table.n c.in_ok-minimal.ensures.items c.in_ok-access.ensures.proper listed
    (omega (arith, long, c.len.ensures, c.in_ok-table.ensures.made)) in
    record { least = p.proper.least; most = p.proper.most; listed = p.proper.some_set; proper = p.proper.proper; found = p.found; rows = p.rows }

pub returns-clause-access : goal.returns-clause-access
returns-clause-access c = cumulative_access c.args.n (numbers c.args.sets.now)

pub returns-clause-levels : goal.returns-clause-levels
returns-clause-levels c = cumulative_levels c.args.n (numbers c.args.sets.now) c.in_ok-access.ensures.proper
