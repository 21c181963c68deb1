-- Sets of keyholders. Keyholders are numbered from 1 on, and a set of them is a number whose bit i - 1 is set where
-- keyholder i is in the set.
use Rattle.std.specs.Prelude.{◌≡◌, ℕ, zero, suc, ◌-◌, ◌^◌, ◌<◌, Bool, true, false}
use Rattle.schemes.specs.Bits.{bit, count_below}

-- A set has so many bits: the width of `KeyholderSet`.
abbrev pub most_keyholders : ℕ
most_keyholders = 8

-- Keyholder i is in the set.
abbrev pub member : (set i : ℕ) → Bool
member set zero = false
member set (suc k) = bit set k

-- Every member of a is a member of b.
abbrev pub Within : (a b : ℕ) → Type 0
Within a b = (i : ℕ) → member a i ≡ true → member b i ≡ true

-- The set has no member.
abbrev pub Empty : (set : ℕ) → Type 0
Empty set = (i : ℕ) → member set i ≡ false

-- How many members a set of keyholders 1 to n has.
abbrev pub members_among : (n set : ℕ) → ℕ
members_among n set = count_below n (λ k. member set (suc k))

-- How many members a set has.
abbrev pub size : (set : ℕ) → ℕ
size set = members_among most_keyholders set

-- A set of keyholders 1 to n: it has no bit from n on.
abbrev pub Among : (n set : ℕ) → Type 0
Among n set = set < 2 ^ n

-- The set of all keyholders 1 to n.
abbrev pub everyone : (n : ℕ) → ℕ
everyone n = 2 ^ n - 1
