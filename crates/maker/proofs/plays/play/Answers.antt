use Rattle.std.proofs.Common.{◌≡◌, ◌∷◌, map, length, vec_items, sym, ap, subst, arith}
use Rattle.std.specs.Vec.Iter.{into_iter_items}
use Rattle.maker.specs.Plays.{call_of}
use Rattle.maker.proofs.Laws.{conceals, shows}
use Rattle.maker.proofs.Playing.{Playing, playing_none, playing_more}
use Rattle.maker.proofs.plays.play.Goals as goal

pub returns-in_default-clause-conceals : goal.returns-in_default-clause-conceals
returns-in_default-clause-conceals g c =
    conceals (g.S.Scheme.means c.args.scheme) (g.met.S.Scheme.in_range c.args.scheme) (g.met.S.Scheme.lawful c.args.scheme) c.args.width c.args.height

pub returns-in_default-clause-shows : goal.returns-in_default-clause-shows
returns-in_default-clause-shows g c =
    shows (g.S.Scheme.means c.args.scheme) (g.met.S.Scheme.in_range c.args.scheme) (g.met.S.Scheme.lawful c.args.scheme) c.args.width c.args.height

pub loop-call-init : goal.loop-call-init
loop-call-init g c =
    let all = map call_of (into_iter_items c.into_iter-call-iterator.result) in
    let empty = c.in-Ok.ensures in (
      rw empty.items (playing_none g.S.Scheme.means g.T.Tape.bytes c.new-maker.result all),
      omega (arith, empty.len, empty.capacity, c.len.ensures, ap length c.into_iter-call-iterator.ensures.into_iter_gives.0, c.args.calls.ok.0),
    )

pub loop-call-preserved : goal.loop-call-preserved
loop-call-preserved g c =
    let means = g.S.Scheme.means in
    let bytes = g.T.Tape.bytes in
    let all = map call_of (into_iter_items c.into_iter-call-iterator.result) in
    let start = c.new-maker.result in
    let rest = into_iter_items c.next.new.self in
    let e : into_iter_items c.loop-call.call-iterator ≡ c.in-Some.call ∷ rest = c.in-Some.ensures.steps.0 in
    let h = subst (λ l. Playing means bytes start all c.loop-call.maker (map call_of l) (vec_items c.loop-call.replies)) e c.loop-call.invariant.0 in
    let more = playing_more means bytes start all c.loop-call.maker c.perform.new.maker (call_of c.in-Some.call) (map call_of rest)
    (vec_items c.loop-call.replies) c.perform.result h c.perform.ensures.reply c.perform.ensures.leaves in (
      subst (λ l. Playing means bytes start all c.perform.new.maker (map call_of rest) l) (sym c.push_reserved.ensures.items) more,
      omega (arith, c.loop-call.invariant.1, ap length e, c.push_reserved.ensures.len, c.push_reserved.ensures.capacity),
    )
