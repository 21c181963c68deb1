use Rattle.std.proofs.Common.{rules}
use Rattle.schemes.specs.Meaning.{stack}
use Rattle.schemes.proofs.RangeFacts.{count_from_zero}
use Rattle.schemes.proofs.levels.count_blacks.Goals as goal

pub returns : goal.returns
returns g c =
    let s = g.S.Scheme.means c.args.scheme.now in
    count_from_zero _ _ (stack s c.args.colour c.args.set.bits) (λ x b f' k. search rules)
    c.filter.result _ s.m c.count.result (search rules) (search rules) c.count.ensures.runs c.filter.ensures.runs
