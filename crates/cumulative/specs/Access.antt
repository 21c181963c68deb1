-- Who may open together. The owners list minimal sets of keyholders. A set that contains one of them is qualified; any
-- other set is forbidden. A forbidden set is maximal if every larger set of keyholders 1 to n is qualified.
use Rattle.std.specs.Prelude.{◌≡◌, ℕ, zero, suc, ◌-◌, ◌^◌, ◌<◌, Bool, cond, not, ◌&&◌, List, [], ◌∷◌, ◌++◌, map, length, ◌==◌, bit_and, bit_or, slice_index}
use Rattle.schemes.specs.Bits.{any_below}
use Rattle.schemes.specs.Keyholders.{member, Within, Among}
use Rattle.schemes.specs.declared.keyholders.KeyholderSet.{KeyholderSet}

-- The numbers of a list of sets.
abbrev pub numbers : List KeyholderSet → List ℕ
numbers sets = map (λ set. set.bits) sets

-- The set of a number.
abbrev pub set_of : ℕ → KeyholderSet
set_of number = record { bits = number }

-- Every member of a is a member of b.
unfoldable pub subset : (a b : ℕ) → Bool
subset a b = bit_and a b == a

-- The set contains one of the minimal sets.
unfoldable pub qualifies : (minimal : List ℕ) (set : ℕ) → Bool
qualifies minimal set = any_below (length minimal) (λ i. subset (slice_index minimal i) set)

-- The other set is larger than the set, and still forbidden.
abbrev pub can_grow_to : (minimal : List ℕ) (set other : ℕ) → Bool
can_grow_to minimal set other = (subset set other && not (other == set)) && not (qualifies minimal other)

-- The keyholder is not in the set, and it stays forbidden where he joins it.
abbrev pub can_join : (minimal : List ℕ) (set keyholder : ℕ) → Bool
can_join minimal set keyholder = not (member set keyholder) && not (qualifies minimal (bit_or set (2 ^ (keyholder - 1))))

-- The set is forbidden, and every larger set of keyholders 1 to n is qualified.
unfoldable pub maximal : (n : ℕ) (minimal : List ℕ) (set : ℕ) → Bool
maximal n minimal set = not (qualifies minimal set) && not (any_below (2 ^ n) (can_grow_to minimal set))

-- The numbers below a bound that pass the test, in rising order.
unfoldable pub those_below : (bound : ℕ) (test : ℕ → Bool) → List ℕ
those_below zero test = []
those_below (suc k) test = those_below k test ++ cond (test k) (k ∷ []) []

-- F_0, F_1, ..: the maximal forbidden sets, in rising order as numbers.
abbrev pub forbidden_sets : (n : ℕ) (minimal : List ℕ) → List ℕ
forbidden_sets n minimal = those_below (2 ^ n) (maximal n minimal)

-- ---- the same in words, without a test

-- The set contains one of the minimal sets.
abbrev pub Qualified : (minimal : List ℕ) (set : ℕ) → Type 0
Qualified minimal set = (i : ℕ) × (i < length minimal) × Within (slice_index minimal i) set

-- A set of keyholders 1 to n that contains no minimal set, while every larger one does.
pub record MaximalForbidden (n : ℕ) (minimal : List ℕ) (set : ℕ) : Type 0 where
  pub among : Among n set
  pub forbidden : Qualified minimal set → ⊥
  pub larger_qualify : (other : ℕ) → Among n other → Within set other → (other ≡ set → ⊥) → Qualified minimal other

-- The list is exactly that of the maximal forbidden sets, in rising order.
pub record IsForbiddenList (n : ℕ) (minimal list : List ℕ) : Type 0 where
  pub each : (q : ℕ) → q < length list → MaximalForbidden n minimal (slice_index list q)
  pub every : (set : ℕ) → MaximalForbidden n minimal set → (q : ℕ) × (q < length list) × (slice_index list q ≡ set)
  pub rising : (p q : ℕ) → p < q → q < length list → slice_index list p < slice_index list q
