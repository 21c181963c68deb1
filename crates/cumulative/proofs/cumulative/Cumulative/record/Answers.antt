use Rattle.std.proofs.Common.{rules, ◌<◌, ◌⊎◌, arith}
use Rattle.cumulative.specs.Access.{numbers, forbidden_sets}
use Rattle.cumulative.specs.CumulativeFacts.{record_outside}
use Rattle.cumulative.proofs.cumulative.Cumulative.record.Goals as goal

pub returns-then-not-contains : goal.returns-then-not-contains
returns-then-not-contains c q =
    let s = c.args.self.now in
    let outside : (c.args.keyholder < 1) ⊎ (s.n < c.args.keyholder) = grind arith in
    record_outside s.n (forbidden_sets s.n (numbers s.minimal.items)) c.args.keyholder c.default.result.rows.bits q outside (search rules)
