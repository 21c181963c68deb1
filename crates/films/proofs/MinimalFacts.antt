-- The minimal qualified sets: the test of a set, and the list of those that pass it.
use Rattle.std.proofs.Common.{◌≡◌, ℕ, ◌^◌, ◌<◌, ◌≤◌, Bool, true, false, not, ◌&&◌, ◌⊎◌, get_or, Decides, sym, refl, ap, ◌∙◌, subst, inl, inr, arith, pow_mono}
use lib.Bits.{bit_and, and_le_r}
use Rattle.std.proofs.lemmas.Bool.{cases_lt, true≢false, eqb-true, and_parts, and_from, not-true}
use Rattle.std.proofs.lemmas.Bool.Decides.{same_from_decides}
use Rattle.std.specs.List.{list_any, range_with_len}
use Rattle.schemes.specs.Bits.{any_below}
use Rattle.schemes.specs.Keyholders.{most_keyholders, Within}
use Rattle.schemes.specs.Laws.{InRange}
use Rattle.schemes.specs.Meaning.{Meaning}
use Rattle.schemes.specs.TestFacts.{any_false, any_none}
use Rattle.cumulative.specs.Access.{subset}
use Rattle.cumulative.specs.AccessFacts.{within_subset, subset_within, subset_decided}
use Rattle.cumulative.specs.ListedFacts.{listed, list_passes, list_rising}
use Rattle.cumulative.proofs.ListFacts.{any_range}
use Rattle.films.specs.Minimal.{MinimalQualified, IsMinimalList, is_qualified_part, is_minimal, minimal_sets_of}

-- a part of a set has no greater number
part_le : (other set : ℕ) → Within other set → other ≤ set
unfolding subset
part_le other set h = subst (λ (x : ℕ). x ≤ set) (eqb-true (bit_and other set) other (within_subset other set h)) (and_le_r other set)

-- ---- the questions of the code

pub part_asked : (s : Meaning) (set other : ℕ) (within : Bool) → Decides within (Within other set) → (within && s.qualified other) ≡ is_qualified_part s set other
unfolding is_qualified_part
part_asked s set other within d = ap (λ (x : Bool). x && s.qualified other) (same_from_decides within (subset other set) d (subset_decided other set))

pub minimal_unqualified : (s : Meaning) (set : ℕ) → s.qualified set ≡ false → false ≡ is_minimal s set
unfolding is_minimal
minimal_unqualified s set e = rw e refl

pub minimal_asked : (s : Meaning) (set : ℕ) → s.qualified set ≡ true → not (list_any (is_qualified_part s set) (range_with_len 0 set)) ≡ is_minimal s set
unfolding is_minimal
minimal_asked s set e = rw (any_range set (is_qualified_part s set), e) refl

minimal_is : (s : Meaning) (set n : ℕ) → s.qualified set ≡ true → set ≤ n → ((k : ℕ) → k < n → is_qualified_part s set k ≡ false) → true ≡ is_minimal s set
unfolding is_minimal
minimal_is s set n e l h = rw (e, any_false set (is_qualified_part s set) (λ k b. h k (omega arith))) refl

-- ---- the test, in words

module _ (s : Meaning) (set : ℕ) where
  pub minimal_from_test : is_minimal s set ≡ true → MinimalQualified s set
  unfolding is_minimal is_qualified_part
  minimal_from_test e =
      let parts = and_parts (s.qualified set) (not (any_below set (is_qualified_part s set))) e in
      let none = any_none set (is_qualified_part s set) (not-true (any_below set (is_qualified_part s set)) parts.1) in
      record {
        qualifies = parts.0;
        no_smaller = λ other h ne. go other h (none other (omega (arith, part_le other set h))) (s.qualified other) refl;
      }
    where
      go : (other : ℕ) → Within other set → (subset other set && s.qualified other) ≡ false → (x : Bool) → s.qualified other ≡ x → s.qualified other ≡ false
      go other h f false e' = e'
      go other h f true e' = absurd (true≢false (sym (and_from (subset other set) (s.qualified other) (within_subset other set h) e') ∙ f))

  pub test_from_minimal : MinimalQualified s set → is_minimal s set ≡ true
  unfolding is_qualified_part
  test_from_minimal m = sym (minimal_is s set set m.qualifies (omega arith) (λ k l. none k l (is_qualified_part s set k) refl))
    where
      none : (k : ℕ) → k < set → (x : Bool) → is_qualified_part s set k ≡ x → is_qualified_part s set k ≡ false
      none k l false e = e
      none k l true e =
          let parts = and_parts (subset k set) (s.qualified k) e in
          absurd (true≢false (sym parts.1 ∙ m.no_smaller k (subset_within k set parts.0) (λ same. omega (arith, same))))

-- ---- the list

-- a qualified set is one of keyholders 1 to 8
qualified_few : (s : Meaning) → InRange s → (set : ℕ) → s.qualified set ≡ true → set < 2 ^ most_keyholders
qualified_few s r set e = go (cases_lt set (2 ^ s.n))
  where
    go : (set < 2 ^ s.n) ⊎ (2 ^ s.n ≤ set) → set < 2 ^ most_keyholders
    go (inl l) = omega (arith, pow_mono r.few_keyholders)
    go (inr g) = absurd (true≢false (sym e ∙ r.set_above set (λ l. omega (arith, l))))

pub minimal_list : (s : Meaning) → InRange s → IsMinimalList s (minimal_sets_of s)
minimal_list s r = record {
  each = λ q l. minimal_from_test s (get_or (minimal_sets_of s) q 0) (list_passes (is_minimal s) (2 ^ most_keyholders) q l).1;
  every = λ set m. listed (is_minimal s) (2 ^ most_keyholders) set (qualified_few s r set m.qualifies) (test_from_minimal s set m);
  rising = λ p q a b. list_rising (is_minimal s) (2 ^ most_keyholders) p q a b;
}
