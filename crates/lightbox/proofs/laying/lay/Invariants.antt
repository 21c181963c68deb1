use Rattle.lightbox.proofs.LayFacts.{Overlaid}
use Rattle.lightbox.proofs.laying.lay.Given as goal

abbrev pub invariant-loop-i : goal.invariant-loop-i
invariant-loop-i l = Overlaid l.initial.glass l.strip l.i l.glass
