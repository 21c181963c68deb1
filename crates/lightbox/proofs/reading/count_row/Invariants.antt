use Rattle.lightbox.proofs.ReadFacts.{ReadSoFar}
use Rattle.lightbox.proofs.reading.count_row.Given as goal

abbrev pub invariant-loop-c : goal.invariant-loop-c
invariant-loop-c l = ReadSoFar l.seen.columns l.seen.light l.seen.dark l.w l.glass l.c l.out
