-- The law of whole runs: a run conceals the secret rows from every set of keyholders that is not qualified, and shows them
-- to every set that is.
use Rattle.std.specs.Prelude.{◌≡◌, ℕ, ◌<◌, ◌≤◌, true, false, List, length}
use Rattle.std.specs.List.{All, AllZip}
use Rattle.schemes.specs.Keyholders.{member, Among}
use Rattle.schemes.specs.Meaning.{Meaning, light, dark}
use Rattle.schemes.specs.Strips.{strip_size, strip_in, stack_bit, blacks_over, pixel}
use Rattle.schemes.specs.declared.colour.Colour.TheVariants.{White, Black}
use Rattle.maker.specs.Runs.{State, fresh, Call, row, spoil, tally, number, Outcome, Event, transcript, state_after, close_answer}

-- ---- concealing

-- A tape on which so many bytes wait.
pub record TapeOf (size : ℕ) (tape : List ℕ) : Type 0 where
  pub long : length tape ≡ size
  pub bytes : All (λ b. b < 256) tape

-- A bijection of the tapes of so many bytes onto themselves, with its inverse.
pub record Pairing (size : ℕ) : Type 0 where
  pub to : List ℕ → List ℕ
  pub from : List ℕ → List ℕ
  pub to_tape : (tape : List ℕ) → TapeOf size tape → TapeOf size (to tape)
  pub from_tape : (tape : List ℕ) → TapeOf size tape → TapeOf size (from tape)
  pub there_back : (tape : List ℕ) → TapeOf size tape → from (to tape) ≡ tape
  pub back_there : (tape : List ℕ) → TapeOf size tape → to (from tape) ≡ tape

-- Two calls that differ at most in the bytes of the secret row.
abbrev pub SameButSecrets : Call → Call → Type 0
SameButSecrets (row secret out work) (row secret' out' work') = (length secret ≡ length secret') × (out ≡ out') × (work ≡ work')
SameButSecrets (row _ _ _) spoil = ⊥
SameButSecrets (row _ _ _) tally = ⊥
SameButSecrets spoil (row _ _ _) = ⊥
SameButSecrets spoil spoil = Unit {0}
SameButSecrets spoil tally = ⊥
SameButSecrets tally (row _ _ _) = ⊥
SameButSecrets tally spoil = ⊥
SameButSecrets tally tally = Unit {0}

-- The answers are the same, and the strips of every member of the set hold the same bytes, as far as the output reaches.
pub record SameToSet (s : Meaning) (w set : ℕ) (e e' : Event) : Type 0 where
  pub answers : e.outcome.answer ≡ e'.outcome.answer
  pub strips : (i : ℕ) → i ≤ s.n → member set i ≡ true →
      strip_in (strip_size s.m w) e.outcome.out i ≡ strip_in (strip_size s.m w) e'.outcome.out i

-- Two runs, from two states, are the same to a set: after every call, and at a close.
pub record Indistinct (s : Meaning) (w h set : ℕ) (st st' : State) (calls calls' : List Call) : Type 0 where
  pub throughout : AllZip (SameToSet s w set) (transcript s w h st calls) (transcript s w h st' calls')
  pub at_close : close_answer s w h (state_after s w h st calls) ≡ close_answer s w h (state_after s w h st' calls')

-- Whatever the secret rows hold, a set that is not qualified sees the same: the first list of calls on a tape, and the
-- second on the tape's partner. The pairing is there before the tape.
abbrev pub Conceals : Meaning → (w h : ℕ) → Type 0
Conceals s w h =
    (set : ℕ) → Among s.n set → s.qualified set ≡ false →
    (calls calls' : List Call) → AllZip SameButSecrets calls calls' →
    (size : ℕ) →
    (partner : Pairing size) ×
    ((tape : List ℕ) → TapeOf size tape → Indistinct s w h set (fresh tape) (fresh (partner.to tape)) calls calls')

-- ---- showing

-- A set reads a secret row from the output: over each pixel the stack of its strips has as many black squares as the set's
-- light or dark, by the pixel's colour, and light is less than dark.
pub record Readable (s : Meaning) (w set : ℕ) (secret out : List ℕ) : Type 0 where
  pub contrast : light s set < dark s set
  pub over_white : (c : ℕ) → c < w → pixel secret c ≡ White →
      blacks_over s.m (stack_bit s.n (strip_size s.m w) set out) c ≡ light s set
  pub over_black : (c : ℕ) → c < w → pixel secret c ≡ Black →
      blacks_over s.m (stack_bit s.n (strip_size s.m w) set out) c ≡ dark s set

-- A row, if it was accepted, is readable to every qualified set.
abbrev pub ShownIn : Meaning → (w : ℕ) → Call → Outcome → Type 0
ShownIn s w (row secret out work) o =
    (made : ℕ) → o.answer ≡ number made →
    (set : ℕ) → Among s.n set → s.qualified set ≡ true → Readable s w set secret o.out
ShownIn s w spoil o = Unit {0}
ShownIn s w tally o = Unit {0}

abbrev pub Shows : Meaning → (w h : ℕ) → Type 0
Shows s w h = (calls : List Call) (tape : List ℕ) → All (λ e. ShownIn s w e.call e.outcome) (transcript s w h (fresh tape) calls)
