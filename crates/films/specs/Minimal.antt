-- The minimal qualified sets of a scheme: those that are qualified while no smaller set is.
use Rattle.std.specs.Prelude.{◌≡◌, ℕ, ◌^◌, ◌<◌, Bool, true, false, not, ◌&&◌, List, length, slice_index}
use Rattle.schemes.specs.Bits.{any_below}
use Rattle.schemes.specs.Keyholders.{most_keyholders, Within}
use Rattle.schemes.specs.Meaning.{Meaning}
use Rattle.cumulative.specs.Access.{subset, those_below}

-- A qualified set of which every smaller part is forbidden.
pub record MinimalQualified (s : Meaning) (set : ℕ) : Type 0 where
  pub qualifies : s.qualified set ≡ true
  pub no_smaller : (other : ℕ) → Within other set → (other ≡ set → ⊥) → s.qualified other ≡ false

-- The list is exactly that of the minimal qualified sets, in rising order.
pub record IsMinimalList (s : Meaning) (list : List ℕ) : Type 0 where
  pub each : (q : ℕ) → q < length list → MinimalQualified s (slice_index list q)
  pub every : (set : ℕ) → MinimalQualified s set → (q : ℕ) × (q < length list) × (slice_index list q ≡ set)
  pub rising : (p q : ℕ) → p < q → q < length list → slice_index list p < slice_index list q

-- ---- the same as a test: a smaller part of a set has a smaller number

-- The other set is a part of the set, and qualified.
unfoldable pub is_qualified_part : Meaning → (set other : ℕ) → Bool
is_qualified_part s set other = subset other set && s.qualified other

-- The set is qualified, and none of its parts with a smaller number is.
unfoldable pub is_minimal : Meaning → (set : ℕ) → Bool
is_minimal s set = s.qualified set && not (any_below set (is_qualified_part s set))

abbrev pub minimal_sets_of : Meaning → List ℕ
minimal_sets_of s = those_below (2 ^ most_keyholders) (is_minimal s)
