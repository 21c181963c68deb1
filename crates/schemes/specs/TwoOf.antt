-- Two of n (Naor and Shamir). There are n columns. For white every keyholder has 1 at column 0 only; for black keyholder i
-- has 1 at column i - 1 only. Sets of two or more are qualified.
use Rattle.std.specs.Prelude.{◌≡◌, ℕ, Bool, true, ◌==◌, nat_le}
use Rattle.schemes.specs.Keyholders.{members_among}
use Rattle.schemes.specs.Meaning.{Meaning, tabled, light, dark}
use Rattle.schemes.specs.declared.colour.Colour.{Colour}
use Rattle.schemes.specs.declared.colour.Colour.TheVariants.{White, Black}

-- Row k, that of keyholder k + 1.
abbrev pub row : (colour : Colour) (k column : ℕ) → Bool
row White k j = j == 0
row Black k j = j == k

abbrev pub two_of : (n : ℕ) → Meaning
two_of n = tabled n n row (λ set. nat_le 2 (members_among n set))

-- The levels of the qualified sets: light is 1, and dark is the size of the set.
pub record LevelsOfTwo (n : ℕ) : Type 0 where
  pub light_level : (set : ℕ) → (two_of n).qualified set ≡ true → light (two_of n) set ≡ 1
  pub dark_level : (set : ℕ) → (two_of n).qualified set ≡ true → dark (two_of n) set ≡ members_among n set
