use Rattle.std.proofs.Common.{length}
use Rattle.tapes.proofs.orders.+arrange.Given as goal

abbrev pub decreases-arrange : goal.decreases-arrange
decreases-arrange g l = length l.remaining.now
