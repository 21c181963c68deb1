use Rattle.schemes.specs.AllOfFacts.{odd_ones}
use Rattle.schemes.proofs.all_of.is_odd.Goals as goal

pub returns : goal.returns
returns c = odd_ones c.args.width c.args.column c.requires
