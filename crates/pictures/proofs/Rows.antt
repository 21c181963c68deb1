-- The rows of a picture that was opened are all there. Serves the clause `every_row` of `open`. Assumes nothing.
use Rattle.std.proofs.Common.{ℕ, ◌+◌, ◌*◌, ◌<◌, ◌≤◌, List, length, drop, mul-le-mul_right, add-mul, one-mul, arith, length-drop}
use Rattle.std.proofs.lemmas.List.{length-take-le}
use Rattle.std.proofs.lemmas.Bool.{cond-true, and_from, lt-ltb, le-leb}
use Rattle.pictures.specs.Rows.{row_bytes, RowsFit, EveryRow}

row_fits : (w h : ℕ) (s : List ℕ) (y : ℕ) → RowsFit w h s → y < h → y * row_bytes w + row_bytes w ≤ length s
row_fits w h s y all lt =
    let most : (y + 1) * row_bytes w ≤ h * row_bytes w = mul-le-mul_right (row_bytes w) (omega arith) in
    omega (arith, add-mul y 1 (row_bytes w), one-mul (row_bytes w))

pub every-row : (w h : ℕ) (s : List ℕ) → RowsFit w h s → EveryRow w h s
every-row w h s all y lt =
    let fits = row_fits w h s y all lt in (
      cond-true _ _ _ (and_from _ _ (lt-ltb y h lt) (le-leb _ _ fits)),
      length-take-le (row_bytes w) (drop (y * row_bytes w) s) (omega (arith, length-drop (y * row_bytes w) s)),
    )
