use Rattle.std.proofs.Common.{arith, ◌≤◌, ℕ, ◌<◌, ◌^◌}
use Rattle.std.proofs.lemmas.Nat.{mul-le}
use Rattle.schemes.specs.PackedRows.{bytes_for}
use Rattle.schemes.specs.Strips.{strip_squares}
use Rattle.weldlatch.proofs.film_files.Films.new.Goals as goal

-- A strip of a picture's row, of any number of columns, has fewer bytes than 2 ^ 32.
strip_fits : (m w : ℕ) → m < 256 → w ≤ 4096 → bytes_for (strip_squares m w) < 2 ^ 32
unfolding strip_squares
strip_fits m w few short = omega (arith, mul-le w m 4096 255 short (omega arith))

pub overflow_cast-result : goal.overflow_cast-result
overflow_cast-result g c =
    omega (arith, c.strip_size.ensures, strip_fits c.columns-columns.result c.args.width c.columns-columns.type_inv c.requires.width)
