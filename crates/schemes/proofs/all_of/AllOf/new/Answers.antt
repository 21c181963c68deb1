use Rattle.std.proofs.Common.{◌≤◌, arith}
use Rattle.std.proofs.lemmas.Bool.Decides.{nat_tests}
use Rattle.schemes.specs.AllOfFacts.{all_of_levels}
use Rattle.schemes.proofs.all_of.AllOf.new.Goals as goal

pub returns-clause-levels : goal.returns-clause-levels
returns-clause-levels c = let least : 1 ≤ c.args.n = grind (arith, nat_tests) in all_of_levels c.args.n least
