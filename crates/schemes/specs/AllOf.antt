-- All of n (Naor and Shamir, k out of k). There are 2 ^ (n - 1) columns. The bits of a column's number are the cells of
-- keyholders 1 to n - 1, in both colours. Keyholder n has their parity for white, and the opposite for black.
-- Only the set of all is qualified.
use Rattle.std.specs.Prelude.{◌≡◌, ℕ, ◌-◌, ◌^◌, Bool, cond, not, nat_eq, nat_lt}
use Rattle.schemes.specs.Bits.{bit, parity}
use Rattle.schemes.specs.Keyholders.{everyone}
use Rattle.schemes.specs.Meaning.{Meaning, tabled, light, dark}
use Rattle.schemes.specs.declared.colour.Colour.{Colour}
use Rattle.schemes.specs.declared.colour.Colour.TheVariants.{White, Black}

-- The last row, over columns of r bits.
abbrev pub last_row : (r : ℕ) (colour : Colour) (column : ℕ) → Bool
last_row r White j = parity r j
last_row r Black j = not (parity r j)

-- Row k of the r + 1 rows, that of keyholder k + 1.
unfoldable pub row : (r : ℕ) (colour : Colour) (k column : ℕ) → Bool
row r colour k j = cond (nat_lt k r) (bit j k) (last_row r colour j)

-- n keyholders, and columns of r bits.
abbrev pub all_with : (n r : ℕ) → Meaning
all_with n r = tabled n (2 ^ r) (row r) (λ set. nat_eq set (everyone n))

abbrev pub all_of : (n : ℕ) → Meaning
all_of n = all_with n (n - 1)

-- The levels of the set of all: every column is dark, and every column but one is light.
pub record LevelsOfAll (n : ℕ) : Type 0 where
  pub light_level : light (all_of n) (everyone n) ≡ 2 ^ (n - 1) - 1
  pub dark_level : dark (all_of n) (everyone n) ≡ 2 ^ (n - 1)
