use Rattle.std.proofs.Common.{arith}
use Rattle.schemes.proofs.KeyholderFacts.{member_with}
use Rattle.schemes.proofs.keyholders.KeyholderSet.with.Goals as goal

pub returns-clause-members : goal.returns-clause-members
returns-clause-members c = grind (arith, member_with)
