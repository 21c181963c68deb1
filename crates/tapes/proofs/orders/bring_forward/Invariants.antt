use Rattle.tapes.proofs.Forward.{Forward}
use Rattle.tapes.proofs.orders.bring_forward.Given as goal

abbrev pub invariant-loop-k : goal.invariant-loop-k
invariant-loop-k l = Forward l.initial.remaining l.place l.k l.carried l.remaining
