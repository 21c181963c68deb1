-- The law that ties the maker to the light box: what was made can be read back.
use Rattle.std.specs.Prelude.{◌≡◌, ℕ, true, List, All, length, Ok, Result}
use Rattle.schemes.specs.Keyholders.{Among}
use Rattle.schemes.specs.Meaning.{Meaning}
use Rattle.schemes.specs.PackedRows.{bytes_for}
use Rattle.schemes.specs.Strips.{strip_size}
use Rattle.maker.specs.Runs.{fresh, Call, row, spoil, tally, number, Outcome, transcript}
use Rattle.lightbox.specs.Laying.{stacked, StripsOf}
use Rattle.lightbox.specs.Reading.{Reading, cleared}
use Rattle.lightbox.specs.declared.refusals.ReadRefusal.{ReadRefusal}

-- A set reads a secret row from a glass into an output: the answer is Ok and the output is the row with its spare bits
-- cleared, and there is no other reading.
pub record ReadsRow (s : Meaning) (w set : ℕ) (glass out secret : List ℕ) : Type 0 where
  pub reads : Reading s set w glass out (Ok tt) (cleared w secret)
  pub only_so : (r : Result Unit ReadRefusal) (pixels : List ℕ) → Reading s set w glass out r pixels → (r ≡ Ok tt) × (pixels ≡ cleared w secret)

-- A row, if it was accepted, is read back by every qualified set: its members' strips are laid on a clear glass, in any order
-- and each any number of times, and the glass is read into any output of a row's length.
abbrev pub ReadBackFrom : Meaning → (w : ℕ) → Call → Outcome → Type 0
ReadBackFrom s w (row secret _ _) o =
    (made : ℕ) → o.answer ≡ number made →
    (set : ℕ) → Among s.n set → s.qualified set ≡ true →
    (strips : List (List ℕ)) → StripsOf s.n (strip_size s.m w) set o.out strips →
    (out : List ℕ) → length out ≡ bytes_for w →
    ReadsRow s w set (stacked (strip_size s.m w) strips) out secret
ReadBackFrom s w spoil o = Unit {0}
ReadBackFrom s w tally o = Unit {0}

-- Whatever a run of any height does, on whatever tape: every row that it accepts is read back.
abbrev pub ReadsBack : Meaning → (w : ℕ) → Type 0
ReadsBack s w =
    (h : ℕ) (calls : List Call) (tape : List ℕ) →
    All (λ e. ReadBackFrom s w e.call e.outcome) (transcript s w h (fresh tape) calls)
