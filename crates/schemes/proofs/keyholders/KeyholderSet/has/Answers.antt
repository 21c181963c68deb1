use Rattle.std.proofs.Common.{arith}
use Rattle.schemes.proofs.KeyholderFacts.{member_none, member_above}
use Rattle.schemes.proofs.keyholders.KeyholderSet.has.Goals as goal

pub returns-else-contains : goal.returns-else-contains
returns-else-contains c = grind (arith, member_none, member_above)
