-- A run: what each call answers, what it leaves in the buffers that it was handed, and the state that it leaves.
use Rattle.std.specs.Prelude.{ℕ, ◌+◌, ◌-◌, Bool, not, ◌&&◌, ◌||◌, List, [], ◌∷◌, ◌++◌, length, drop, replicate, is_some, Some, None, Option, ◌==◌, nat_lt}
use Rattle.schemes.specs.Meaning.{Meaning}
use Rattle.schemes.specs.PackedRows.{bytes_for}
use Rattle.schemes.specs.Refusals.{first_refusal}
use Rattle.schemes.specs.Strips.{most_pixels, most_squares, strip_squares, pixel}
use Rattle.tapes.specs.Drawing.{Drawn, short, drawn}
use Rattle.tapes.specs.Orders.{orders}
use Rattle.maker.specs.declared.refusals.RowRefusal.TheVariants.{PageSize, StripLength, AllRowsMade, SecretLength, OutputShort, WorkShort, TapeEnd}
use Rattle.maker.specs.declared.refusals.SpoilRefusal.TheVariants.{NoRowMade, CountFull}
use Rattle.maker.specs.Refusals.{row_number, spoil_number}
use Rattle.maker.specs.Films.{strips_of, films_size}

-- A page has at most so many rows, and at most so many are spoiled.
abbrev pub most_rows : ℕ
most_rows = 4096

abbrev pub most_spoiled : ℕ
most_spoiled = 65535

-- ---- states, calls and what comes of them

-- Rows made, rows spoiled, how many bytes waited when the maker was made, and the bytes that wait now.
pub record State : Type 0 where
  pub made : ℕ
  pub spoiled : ℕ
  pub supply : ℕ
  pub tape : List ℕ

-- A fresh maker.
abbrev pub fresh : (tape : List ℕ) → State
fresh tape = record { made = 0; spoiled = 0; supply = length tape; tape = tape }

abbrev pub bytes_taken : State → ℕ
bytes_taken st = st.supply - length st.tape

-- The state with another tape, with a row more, and with a row spoiled.
abbrev pub on_tape : State → List ℕ → State
on_tape st tape = record { made = st.made; spoiled = st.spoiled; supply = st.supply; tape = tape }

abbrev pub row_more : State → State
row_more st = record { made = st.made + 1; spoiled = st.spoiled; supply = st.supply; tape = st.tape }

abbrev pub row_spoiled : State → State
row_spoiled st = record { made = st.made - 1; spoiled = st.spoiled + 1; supply = st.supply; tape = st.tape }

-- A call, with what its buffers hold. Closing is no call of a list: a run ends in one close or none.
pub data Call : Type 0 where
  row : (secret out work : List ℕ) → Call
  spoil : Call
  tally : Call

-- A refusal by its number; the new number of rows made or spoiled; the tally; the tally and whether the run is full.
pub data Answer : Type 0 where
  refused : ℕ → Answer
  number : ℕ → Answer
  tallied : (made spoiled taken : ℕ) → Answer
  closed : (made spoiled taken : ℕ) (full : Bool) → Answer

-- What a call answers, and what it leaves: the output and the work strip, which only a row has, and the state.
pub record Outcome : Type 0 where
  pub answer : Answer
  pub out : List ℕ
  pub work : List ℕ
  pub left : State

-- ---- refusals

-- Why no row is made of a page of this size: the number of each reason, in rising order, so that of several the lowest is answered.
abbrev pub page_refusals : Meaning → (w h : ℕ) → List (Bool × ℕ)
page_refusals s w h =
    ((nat_lt w 1 || nat_lt most_pixels w) || (nat_lt h 1 || nat_lt most_rows h), row_number PageSize) ∷
    (nat_lt most_squares (strip_squares s.m w), row_number StripLength) ∷ []

-- Why a row is refused before a byte is taken: by the page, the rows made, and the lengths of the buffers.
abbrev pub row_refusal : Meaning → (w h made secret out work : ℕ) → Option ℕ
row_refusal s w h made secret out work = first_refusal (page_refusals s w h ++ (
    ((made == h), row_number AllRowsMade) ∷
    (not (secret == bytes_for w), row_number SecretLength) ∷
    (nat_lt out (films_size s w), row_number OutputShort) ∷
    (nat_lt work s.m, row_number WorkShort) ∷ []))

abbrev pub spoil_refusal : State → Option ℕ
spoil_refusal st = first_refusal (
    ((st.made == 0), spoil_number NoRowMade) ∷
    ((st.spoiled == most_spoiled), spoil_number CountFull) ∷ [])

-- ---- outcomes

abbrev pub wiped : (work : List ℕ) → List ℕ
wiped work = replicate (length work) 0

-- A row whose orders were drawn, or for which the tape ran short.
abbrev pub row_drawn : Meaning → (w : ℕ) → State → (secret out work : List ℕ) → Drawn (List (List ℕ)) → Outcome
row_drawn s w st secret out work short = record {
  answer = refused (row_number TapeEnd);
  out = replicate (films_size s w) 0 ++ drop (films_size s w) out;
  work = wiped work;
  left = on_tape st [];
}
row_drawn s w st secret out work (drawn os rest) = record {
  answer = number (st.made + 1);
  out = strips_of s w (pixel secret) os ++ drop (films_size s w) out;
  work = wiped work;
  left = on_tape (row_more st) rest;
}

abbrev pub row_outcome : Option ℕ → Meaning → (w : ℕ) → State → (secret out work : List ℕ) → Outcome
row_outcome (Some why) s w st secret out work = record { answer = refused why; out = out; work = wiped work; left = st }
row_outcome None s w st secret out work = row_drawn s w st secret out work (orders s.m w st.tape)

abbrev pub spoil_outcome : Option ℕ → State → Outcome
spoil_outcome (Some why) st = record { answer = refused why; out = []; work = []; left = st }
spoil_outcome None st = record { answer = number (st.spoiled + 1); out = []; work = []; left = row_spoiled st }

-- A call, with what came of it.
pub record Event : Type 0 where
  pub call : Call
  pub outcome : Outcome

-- The maker of a scheme and of a page of w by h.
module _ (s : Meaning) (w h : ℕ) where
  abbrev pub outcome : State → Call → Outcome
  outcome st (row secret out work) = row_outcome (row_refusal s w h st.made (length secret) (length out) (length work)) s w st secret out work
  outcome st spoil = spoil_outcome (spoil_refusal st) st
  outcome st tally = record { answer = tallied st.made st.spoiled (bytes_taken st); out = []; work = []; left = st }

  -- what comes of each call of a list, and the state after the last
  abbrev pub transcript : State → List Call → List Event
  transcript st [] = []
  transcript st (call ∷ calls) = record { call = call; outcome = outcome st call } ∷ transcript (outcome st call).left calls

  abbrev pub state_after : State → List Call → State
  state_after st [] = st
  state_after st (call ∷ calls) = state_after (outcome st call).left calls

  -- the size of the page is not refused, and every row of it is made
  abbrev pub run_is_full : State → Bool
  run_is_full st = not (is_some (first_refusal (page_refusals s w h))) && st.made == h

  abbrev pub close_answer : State → Answer
  close_answer st = closed st.made st.spoiled (bytes_taken st) (run_is_full st)
