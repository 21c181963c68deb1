use Rattle.std.proofs.Common.{arith}
use Rattle.schemes.proofs.PackedFacts.{bit_at_is, bit_at_past}
use Rattle.schemes.proofs.packed_rows.bit_at.Goals as goal

pub returns : goal.returns
returns c = grind (arith, bit_at_is, bit_at_past)
