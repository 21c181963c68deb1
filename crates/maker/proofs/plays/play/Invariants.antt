use Rattle.std.proofs.Common.{◌+◌, ◌≤◌, map, length, vec_items, vec_len, vec_capacity}
use Rattle.std.specs.Vec.Iter.{into_iter_items}
use Rattle.maker.specs.Plays.{call_of}
use Rattle.maker.proofs.Playing.{Playing}
use Rattle.maker.proofs.plays.play.Given as goal

abbrev pub invariant-loop-call : goal.invariant-loop-call
invariant-loop-call g l =
    Playing g.S.Scheme.means g.T.Tape.bytes l.initial.maker (map call_of (into_iter_items l.initial.call-iterator)) l.maker
    (map call_of (into_iter_items l.call-iterator)) (vec_items l.replies)
    × (vec_len l.replies + length (into_iter_items l.call-iterator) ≤ vec_capacity l.replies)
