use Rattle.std.proofs.Common.{arith}
use Rattle.schemes.proofs.KeyholderFacts.{within_decided}
use Rattle.schemes.proofs.keyholders.KeyholderSet.contains.Goals as goal

pub returns : goal.returns
returns c = within_decided c.args.other.bits c.args.self.bits (omega arith) (omega arith)
