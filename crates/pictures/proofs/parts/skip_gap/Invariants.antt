use Rattle.std.proofs.Common.{◌≡◌, false, length}
use Rattle.pictures.specs.Reading.{blank, gap}
use Rattle.pictures.proofs.parts.skip_gap.Given as goal

abbrev pub invariant-loop-rest : goal.invariant-loop-rest
invariant-loop-rest l = blank false l.rest ≡ gap l.bytes

abbrev pub decreases-loop-rest : goal.decreases-loop-rest
decreases-loop-rest l = length l.rest
