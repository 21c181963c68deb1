use Rattle.schemes.specs.TwoOfFacts.{two_of_levels}
use Rattle.schemes.proofs.two_of.TwoOf.new.Goals as goal

pub returns-in_err-check_keyholders-clause-levels : goal.returns-in_err-check_keyholders-clause-levels
returns-in_err-check_keyholders-clause-levels c = two_of_levels c.args.n

pub returns-clause-levels : goal.returns-clause-levels
returns-clause-levels c = two_of_levels c.args.n
