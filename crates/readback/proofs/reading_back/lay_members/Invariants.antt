use Rattle.std.proofs.Common.{◌≡◌, ◌+◌, false, length}
use Rattle.readback.proofs.MemberStrips.{LaidSoFar}
use Rattle.readback.proofs.reading_back.lay_members.Given as goal

abbrev pub invariant-loop-keyholder : goal.invariant-loop-keyholder
invariant-loop-keyholder l = record {
  so_far : LaidSoFar l.size l.set.bits l.films (length l.yielded) l.glass l.keyholder-iterator.b.rest.now;
  piece : l.keyholder-iterator.b.size ≡ l.size;
  next : l.keyholder-iterator.a.exhausted ≡ false → l.keyholder-iterator.a.start ≡ length l.yielded + 1;
}
