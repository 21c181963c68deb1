-- The rows of one film, out of the strips of a run: each row of the run has the strips of keyholders 1 to n, one after another.
use Rattle.std.specs.Prelude.{ℕ, zero, suc, ◌*◌, Bool, ◌&&◌, List, [], ◌++◌, length, drop, nat_le}
use Rattle.schemes.specs.Strips.{strip_in}

-- The strips of row y and of those after it.
abbrev pub rows_from : (n size : ℕ) (strips : List ℕ) (y : ℕ) → List ℕ
rows_from n size strips y = drop (y * (n * size)) strips

-- The strips of a keyholder in the first rows, one after another.
abbrev pub film_of : (n size : ℕ) (strips : List ℕ) (keyholder rows : ℕ) → List ℕ
film_of n size strips i zero = []
film_of n size strips i (suc y) = film_of n size strips i y ++ strip_in size (rows_from n size strips y) i

-- There are so many rows of strips, and there is such a keyholder.
abbrev pub has_film : (n size : ℕ) (strips : List ℕ) (keyholder rows : ℕ) → Bool
has_film n size strips i h = (nat_le 1 i && nat_le i n) && nat_le (h * (n * size)) (length strips)
