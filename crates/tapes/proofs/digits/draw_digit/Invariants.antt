use Rattle.std.proofs.Common.{◌≡◌, length}
use Rattle.tapes.specs.Digits.{digit}
use Rattle.tapes.proofs.digits.draw_digit.Given as goal

-- What is drawn from the bytes that are left is what is drawn from all.
abbrev pub invariant-loop-byte : goal.invariant-loop-byte
invariant-loop-byte g l = let bytes = g.T.Tape.bytes in digit l.base.value (bytes l.tape) ≡ digit l.base.value (bytes l.initial.tape)

abbrev pub decreases-loop-byte : goal.decreases-loop-byte
decreases-loop-byte g l = length (g.T.Tape.bytes l.tape)
