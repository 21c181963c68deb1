-- The rows of a picture: how many bytes each takes, and which part of the file is row y. Assumes nothing.
use Rattle.std.specs.Prelude.{◌≡◌, ℕ, ◌+◌, ◌*◌, ◌/◌, ◌<◌, cond, ◌&&◌, List, length, take, drop, Some, None, Option, nat_le, nat_lt}

-- the bytes of a row of w points: w / 8, rounded up
abbrev pub row_bytes : ℕ → ℕ
row_bytes w = (w + 7) / 8

-- s has the bytes of h rows of w points, no more and no fewer
abbrev pub RowsFit : ℕ → ℕ → List ℕ → Type 0
RowsFit w h s = length s ≡ h * row_bytes w

-- row y, from 0, of rows of w points that stand one after another
abbrev pub part : ℕ → List ℕ → ℕ → List ℕ
part w s y = take (row_bytes w) (drop (y * row_bytes w) s)

-- Row y of h rows of w points that stand in s. There is none from h on, nor where s ends before the row does.
abbrev pub row_of : ℕ → ℕ → List ℕ → ℕ → Option (List ℕ)
row_of w h s y = cond (nat_lt y h && nat_le (y * row_bytes w + row_bytes w) (length s)) (Some (part w s y)) None

-- every row below h is there, and whole
abbrev pub EveryRow : ℕ → ℕ → List ℕ → Type 0
EveryRow w h s = (y : ℕ) → y < h → (row_of w h s y ≡ Some (part w s y)) × (length (part w s y) ≡ row_bytes w)
