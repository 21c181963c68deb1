-- A whole run played by the code: its calls with their buffers, and its replies.
use Rattle.std.specs.Prelude.{◌≡◌, ℕ, Bool, true, false, List, [], ◌∷◌, vec_items, Option, MatchOption}
use Rattle.schemes.specs.Meaning.{Meaning}
use Rattle.maker.specs.declared.plays.Call.{Call as Call-made}
use Rattle.maker.specs.declared.plays.Call.TheVariants as made
use Rattle.maker.specs.declared.plays.Reply.{Reply}
use Rattle.maker.specs.declared.plays.Reply.TheVariants as reply
use Rattle.maker.specs.declared.runs.Closed.{Closed}
use Rattle.maker.specs.Refusals.{row_number, spoil_number}
use Rattle.maker.specs.Runs.{Call, row, spoil, tally, Event, Outcome, fresh, transcript, state_after, close_answer}
use Rattle.maker.specs.Makers.{Answers, tally_answer, answer_of}

-- The call, with what its buffers hold.
abbrev pub call_of : Call-made → Call
call_of (made.Row secret out work) = row (vec_items secret) (vec_items out) (vec_items work)
call_of made.Spoil = spoil
call_of made.Tally = tally

-- A reply to a call: its answer, and its buffers as they were left.
abbrev pub ReplyTo : Call → Outcome → Reply → Type 0
ReplyTo (row secret out work) o (reply.Row answer secret' out' work') =
    Answers row_number answer o.answer × (vec_items secret' ≡ secret) × (vec_items out' ≡ o.out) × (vec_items work' ≡ o.work)
ReplyTo (row _ _ _) o (reply.Spoil _) = ⊥
ReplyTo (row _ _ _) o (reply.Tally _) = ⊥
ReplyTo spoil o (reply.Row _ _ _ _) = ⊥
ReplyTo spoil o (reply.Spoil answer) = Answers spoil_number answer o.answer
ReplyTo spoil o (reply.Tally _) = ⊥
ReplyTo tally o (reply.Row _ _ _ _) = ⊥
ReplyTo tally o (reply.Spoil _) = ⊥
ReplyTo tally o (reply.Tally counts) = tally_answer counts ≡ o.answer

-- One reply to each call.
abbrev pub Replies : List Event → List Reply → Type 0
Replies [] [] = Unit {0}
Replies [] (_ ∷ _) = ⊥
Replies (_ ∷ _) [] = ⊥
Replies (e ∷ es) (r ∷ rs) = ReplyTo e.call e.outcome r × Replies es rs

-- What closing answers for the state that the calls left.
abbrev pub ClosedBy : Meaning → (w h : ℕ) → (tape : List ℕ) → List Call → Closed → Type 0
ClosedBy s w h tape calls c = answer_of c ≡ close_answer s w h (state_after s w h (fresh tape) calls)

-- A run, closed at its end or not: the replies are those of its transcript, and closing answered for its last state.
pub record Played (s : Meaning) (w h : ℕ) (tape : List ℕ) (calls : List Call) (closes : Bool) (replies : List Reply) (close : Option Closed) : Type 0 where
  pub throughout : Replies (transcript s w h (fresh tape) calls) replies
  pub at_close : MatchOption close (closes ≡ false) (λ c. (closes ≡ true) × ClosedBy s w h tape calls c)
