-- Orders are the permutations of the columns, and lists of digits spell them one to one.
use Rattle.std.specs.Prelude.{◌≡◌, ℕ, ◌-◌, ◌<◌, ◌≤◌, List, [], length, count_by, nat_eq, slice_index}
use Rattle.tapes.specs.Drawing.{drawn}
use Rattle.tapes.specs.Orders.{digits, columns, arranged}

-- A permutation of the columns 0 to m - 1: a list of m, in which each of them stands exactly once.
pub record Permutation (m : ℕ) (o : List ℕ) : Type 0 where
  pub size : length o ≡ m
  pub once : (j : ℕ) → j < m → count_by (λ c. nat_eq c j) o ≡ 1

-- A list of digits for m columns: m - 1 of them, below m, m - 1, down to 2.
pub record DigitList (m : ℕ) (ds : List ℕ) : Type 0 where
  pub size : length ds ≡ m - 1
  pub below : (k : ℕ) → k < m - 1 → slice_index ds k < m - k

-- Lists of digits and permutations of the columns are in bijection, and every list of digits can be drawn: so that no
-- permutation can fail to come up, and none comes up by more lists of digits than another.
pub record OneToOne (m : ℕ) : Type 0 where
  -- a list of digits arranges the columns to a permutation
  pub arranges : (ds : List ℕ) → DigitList m ds → Permutation m (arranged (columns m) ds)
  -- every permutation is spelled by a list of digits
  pub reaches : (o : List ℕ) → Permutation m o → (ds : List ℕ) × DigitList m ds × (arranged (columns m) ds ≡ o)
  -- and by no other
  pub apart : (ds es : List ℕ) → DigitList m ds → DigitList m es → arranged (columns m) ds ≡ arranged (columns m) es → ds ≡ es
  -- what is drawn is a list of digits
  pub draws : (tape ds rest : List ℕ) → digits m tape ≡ drawn ds rest → DigitList m ds
  -- every list of digits is drawn, by the bytes of these very numbers
  pub drawable : m ≤ 128 → (ds : List ℕ) → DigitList m ds → digits m ds ≡ drawn ds []
