use Rattle.std.proofs.Common.{refl}
use Rattle.schemes.specs.Bits.{bit}
use Rattle.schemes.proofs.bits.has_bit.Goals as goal

pub returns : goal.returns
unfolding bit
returns c = refl
