use Rattle.std.proofs.Common.{arith}
use Rattle.schemes.proofs.KeyholderFacts.{empty_decided}
use Rattle.schemes.proofs.keyholders.KeyholderSet.is_empty.Goals as goal

pub returns : goal.returns
returns c = empty_decided c.args.self.bits (omega arith)
