use Rattle.std.proofs.Common.{arith}
use Rattle.schemes.proofs.KeyholderFacts.{ones_size}
use Rattle.schemes.proofs.keyholders.KeyholderSet.len.Goals as goal

pub returns : goal.returns
returns c = ones_size c.args.self.bits (omega arith)
