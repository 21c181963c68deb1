use Rattle.std.proofs.Common.{rules, suc, ◌+◌, ◌&&◌, ◌∙◌}
use Rattle.schemes.specs.Keyholders.{member}
use Rattle.schemes.proofs.RangeFacts.{any_from_zero}
use Rattle.schemes.proofs.levels.is_stack_black.Goals as goal

pub returns : goal.returns
returns g c =
    let s = g.S.Scheme.means c.args.scheme.now in
    any_from_zero _ _ (λ k. member c.args.set.bits (suc k) && s.cell c.args.colour (suc k) c.args.column) (λ x b f' k. search rules)
    _ s.n c.any.result (search rules) (search rules) c.any.ensures.runs
