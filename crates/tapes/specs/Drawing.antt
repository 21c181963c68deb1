-- What it means to draw from a tape. A tape is the list of the bytes that still wait.
use Rattle.std.specs.Prelude.{◌≡◌, ℕ, List, [], Some, None, Option}

-- Drawing ran short, at the tape's end; or it drew a value, and these bytes wait after it.
pub data Drawn (A : Type 0) : Type 0 where
  short : Drawn A
  drawn : A → List ℕ → Drawn A

-- A way of drawing a value from a tape.
abbrev pub Draw : Type 0 → Type 0
Draw A = List ℕ → Drawn A

-- Draws on with what was drawn, unless that ran short.
abbrev pub onward : {A B : Type 0} → Drawn A → (A → Draw B) → Drawn B
onward short next = short
onward (drawn a rest) next = next a rest

-- The value that a call answers.
abbrev pub value_of : {A : Type 0} → Drawn A → Option A
value_of short = None
value_of (drawn a rest) = Some a

-- The bytes that wait after it: none where drawing ran short.
abbrev pub rest_of : {A : Type 0} → Drawn A → List ℕ
rest_of short = []
rest_of (drawn a rest) = rest

-- A call that draws in place: it answers whether it drew, what it drew is held, and these bytes wait after it.
abbrev pub DrawnInPlace : {A : Type 0} → Drawn A → (answer : Option (Unit {0})) (held : A) (waiting : List ℕ) → Type 0
DrawnInPlace drawing None held waiting = (drawing ≡ short) × (waiting ≡ [])
DrawnInPlace drawing (Some _) held waiting = drawing ≡ drawn held waiting
