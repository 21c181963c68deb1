use Rattle.std.proofs.Common.{◌≡◌, ◌≤◌, length}
use Rattle.pictures.specs.Reading.{digits, number}
use Rattle.pictures.proofs.parts.read_number.Given as goal

abbrev pub invariant-loop-rest : goal.invariant-loop-rest
invariant-loop-rest l = (l.n ≤ 4097) × (digits l.bytes l.n l.rest ≡ number l.bytes)

abbrev pub decreases-loop-rest : goal.decreases-loop-rest
decreases-loop-rest l = length l.rest
