-- What chains over a list answer, as tests of its places: whether some place passes, and the first that does.
use Rattle.std.proofs.Common.{◌≡◌, ℕ, zero, suc, ◌<◌, ◌≤◌, Bool, true, false, cond, not, ◌&&◌, ◌||◌, eqb, ltb, ◌^◌, ◌⊎◌, List, [], ◌∷◌, length, get_or, is_some, Some, None, Option, sym, refl, ap, ◌∙◌, inl, inr, zero-add, arith}
use Rattle.std.specs.List.{list_any, position, position_or_len, range_with_len, enumerate_from}
use Rattle.std.specs.Option.{option_or}
use Rattle.std.proofs.Math.Bool.{or_assoc, or-false}
use Rattle.std.proofs.lemmas.Bool.{cases_eq, cases_lt, lt-ltb, le-ltb}
use Rattle.std.proofs.lemmas.List.{get_or-map, length-map}
use Rattle.std.proofs.lemmas.List.FromFn.{length-range_with_len, get_or-range_with_len, length-enumerate_from, get_or-enumerate_from}
use Rattle.std.proofs.lemmas.List.Quantifiers.{position-Some}
use Rattle.std.proofs.lemmas.List.Sums.{fails_before_first}
use Rattle.schemes.specs.Bits.{any_below}
use Rattle.schemes.specs.TestFacts.{any_none}
use Rattle.schemes.specs.declared.keyholders.KeyholderSet.{KeyholderSet}
use Rattle.cumulative.specs.Access.{numbers, subset, qualifies}
use Rattle.cumulative.specs.Making.{first_below, first_place, improper, redundant}

-- ---- the first number below a bound that passes

first_none : (n : ℕ) (test : ℕ → Bool) → ((k : ℕ) → k < n → test k ≡ false) → first_below n test ≡ None
first_none zero test h = refl
first_none (suc n) test h = rw (first_none n test (λ k l. h k (omega arith)), h n (omega arith)) refl

first_found : (n : ℕ) (test : ℕ → Bool) (i : ℕ) → i < n → test i ≡ true → ((k : ℕ) → k < i → test k ≡ false) → first_below n test ≡ Some i
first_found zero test i l e h = absurd (omega arith)
first_found (suc n) test i l e h = go (cases_eq i n) (λ l'. first_found n test i l' e h)
  where
    go : (i ≡ n) ⊎ (i ≡ n → ⊥) → (i < n → first_below n test ≡ Some i) → option_or (first_below n test) (cond (test n) (Some n) None) ≡ Some i
    go (inl q) r = rw (first_none n test (λ k b. h k (omega arith)), sym (ap test q) ∙ e) (ap Some (sym q))
    go (inr q) r = rw (r (omega arith)) refl

some_first : (n : ℕ) (test : ℕ → Bool) → is_some (first_below n test) ≡ any_below n test
some_first zero test = refl
some_first (suc n) test = go (first_below n test) (any_below n test) (test n) (some_first n test)
  where
    go : (o : Option ℕ) (a b : Bool) → is_some o ≡ a → is_some (option_or o (cond b (Some n) None)) ≡ (a || b)
    go (Some x) a b e = ap (λ (y : Bool). y || b) e
    go None a true e = ap (λ (y : Bool). y || true) e
    go None a false e = ap (λ (y : Bool). y || false) e

-- where there is none, none passes
pub none_first : (n : ℕ) (test : ℕ → Bool) → first_below n test ≡ None → (k : ℕ) → k < n → test k ≡ false
none_first n test e = any_none n test (sym (some_first n test) ∙ ap is_some e)

-- ---- a test of elements, and the same test of places

any_front : (n : ℕ) (test : ℕ → Bool) → any_below (suc n) test ≡ (test 0 || any_below n (λ i. test (suc i)))
any_front zero test = sym (or-false (test 0))
any_front (suc n) test =
    ap (λ (b : Bool). b || test (suc n)) (any_front n test) ∙ or_assoc (test 0) (any_below n (λ i. test (suc i))) (test (suc n))

any_places : {X : Type 0} (p : X → Bool) (d : X) (xs : List X) (test : ℕ → Bool)
    → ((i : ℕ) → i < length xs → p (get_or xs i d) ≡ test i) → list_any p xs ≡ any_below (length xs) test
any_places p d [] test h = refl
any_places p d (x ∷ xs) test h =
    ap (λ (b : Bool). p x || b) (any_places p d xs (λ i. test (suc i)) (λ i l. h (suc i) (omega arith)))
    ∙ ap (λ (b : Bool). b || any_below (length xs) (λ i. test (suc i))) (h 0 (omega arith))
    ∙ sym (any_front (length xs) test)

position_places : {X : Type 0} (p : X → Bool) (d : X) (xs : List X) (test : ℕ → Bool)
    → ((i : ℕ) → i < length xs → p (get_or xs i d) ≡ test i) → position p xs ≡ first_below (length xs) test
position_places {X} p d xs test h = go (cases_lt i (length xs))
  where
    i : ℕ
    i = position_or_len p xs

    go : (i < length xs) ⊎ (length xs ≤ i) → position p xs ≡ first_below (length xs) test
    go (inl l) =
        let here : position p xs ≡ Some i = rw (lt-ltb i (length xs) l) refl in
        here
        ∙ sym (first_found (length xs) test i l (sym (h i l) ∙ (position-Some p xs i d here).1)
        (λ k b. sym (h k (omega (arith, l, b))) ∙ fails_before_first p xs k d b))
    go (inr g) =
        let none : position p xs ≡ None = rw (le-ltb i (length xs) g) refl in
        none ∙ sym (first_none (length xs) test (λ k b. sym (h k b) ∙ fails_before_first p xs k d (omega (arith, g, b))))

pub any_range : (n : ℕ) (test : ℕ → Bool) → list_any test (range_with_len 0 n) ≡ any_below n test
any_range n test =
    any_places test 0 (range_with_len 0 n) test
    (λ i l. ap test (get_or-range_with_len 0 n i 0 (omega (arith, l, length-range_with_len 0 n)) ∙ zero-add i))
    ∙ ap (λ (k : ℕ). any_below k test) (length-range_with_len 0 n)

-- ---- a list of sets, and their numbers

abbrev nobody : KeyholderSet
nobody = record { bits = 0 }

pub numbers_length : (sets : List KeyholderSet) → length (numbers sets) ≡ length sets
numbers_length sets = length-map sets (λ set. set.bits)

number_at : (sets : List KeyholderSet) (i : ℕ) → i < length sets → get_or (numbers sets) i 0 ≡ (get_or sets i nobody).bits
number_at sets i l = get_or-map (λ (set : KeyholderSet). set.bits) sets i nobody 0 l

module _ (sets : List KeyholderSet) (test : ℕ → ℕ → Bool) where
  -- the test of a place and the number of its set
  abbrev at_place : ℕ → Bool
  at_place j = test j (get_or (numbers sets) j 0)

  abbrev of_pair : ℕ × KeyholderSet → Bool
  of_pair e = test e.0 e.1.bits

  numbered : (i : ℕ) → i < length (enumerate_from 0 sets) → of_pair (get_or (enumerate_from 0 sets) i (0, nobody)) ≡ at_place i
  numbered i l =
      let b : i < length sets = omega (arith, l, length-enumerate_from 0 sets) in
      ap of_pair (get_or-enumerate_from 0 sets i (0, nobody) b)
      ∙ ap (λ (k : ℕ). test k (get_or sets i nobody).bits) (zero-add i) ∙ ap (test i) (sym (number_at sets i b))

  long : length (enumerate_from 0 sets) ≡ length (numbers sets)
  long = length-enumerate_from 0 sets ∙ sym (numbers_length sets)

  any_numbered : list_any (λ e. test e.0 e.1.bits) (enumerate_from 0 sets) ≡ any_below (length (numbers sets)) (λ j. test j (get_or (numbers sets) j 0))
  any_numbered = any_places of_pair (0, nobody) (enumerate_from 0 sets) at_place numbered ∙ ap (λ (k : ℕ). any_below k at_place) long

-- ---- the questions of the code

pub any_within : (minimal : List KeyholderSet) (set : ℕ) → list_any (λ least. subset least.bits set) minimal ≡ qualifies (numbers minimal) set
unfolding qualifies
any_within minimal set =
    any_places (λ (least : KeyholderSet). subset least.bits set) nobody minimal (λ i. subset (get_or (numbers minimal) i 0) set)
    (λ i l. ap (λ (x : ℕ). subset x set) (sym (number_at minimal i l)))
    ∙ ap (λ (k : ℕ). any_below k (λ i. subset (get_or (numbers minimal) i 0) set)) (sym (numbers_length minimal))

pub improper_first : (n : ℕ) (sets : List KeyholderSet)
    → position (λ set. eqb set.bits 0 || not (ltb set.bits (2 ^ n))) sets ≡ first_place (numbers sets) (improper n (numbers sets))
unfolding improper
improper_first n sets =
    position_places (λ (set : KeyholderSet). eqb set.bits 0 || not (ltb set.bits (2 ^ n))) nobody sets (improper n (numbers sets))
    (λ i l. ap (λ (x : ℕ). eqb x 0 || not (ltb x (2 ^ n))) (sym (number_at sets i l)))
    ∙ ap (λ (k : ℕ). first_below k (improper n (numbers sets))) (sym (numbers_length sets))

pub redundant_first : (sets : List KeyholderSet)
    → position (λ s. list_any (λ e. not (eqb e.0 s.0) && subset e.1.bits s.1.bits) (enumerate_from 0 sets)) (enumerate_from 0 sets)
    ≡ first_place (numbers sets) (redundant (numbers sets))
unfolding redundant
redundant_first sets =
    position_places clashing (0, nobody) (enumerate_from 0 sets) (redundant (numbers sets))
    (λ i l. numbered sets (λ j x. list_any (λ (e : ℕ × KeyholderSet). not (eqb e.0 j) && subset e.1.bits x) (enumerate_from 0 sets)) i l
    ∙ any_numbered sets (λ j x. not (eqb j i) && subset x (get_or (numbers sets) i 0)))
    ∙ ap (λ (k : ℕ). first_below k (redundant (numbers sets))) (long sets (λ j x. true))
  where
    clashing : ℕ × KeyholderSet → Bool
    clashing s = list_any (λ (e : ℕ × KeyholderSet). not (eqb e.0 s.0) && subset e.1.bits s.1.bits) (enumerate_from 0 sets)
