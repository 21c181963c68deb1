-- Making a scheme of sets: which refusal applies, if any, to a number of keyholders and a list of minimal sets.
use Rattle.std.specs.Prelude.{◌≡◌, ℕ, zero, suc, ◌^◌, ◌<◌, ◌≤◌, Bool, false, cond, not, ◌&&◌, ◌||◌, ◌⊎◌, List, [], ◌∷◌, length, Some, None, Option, ◌==◌, nat_lt, slice_index}
use Rattle.std.specs.Option.{option_or, option_map}
use Rattle.schemes.specs.Bits.{any_below}
use Rattle.schemes.specs.Keyholders.{most_keyholders}
use Rattle.schemes.specs.Refusals.{keyholders_from}
use Rattle.schemes.specs.declared.refusals.SchemeRefusal.{SchemeRefusal}
use Rattle.schemes.specs.declared.refusals.SchemeRefusal.TheVariants.{ListLength, Members, Redundant, ForbiddenSets, Memory}
use Rattle.cumulative.specs.Access.{subset, forbidden_sets}

-- A list has at most so many minimal sets, and a scheme at most so many maximal forbidden sets.
abbrev pub most_sets : ℕ
most_sets = 16

abbrev pub most_forbidden : ℕ
most_forbidden = most_keyholders

-- The set at this place is empty, or names a keyholder above n.
unfoldable pub improper : (n : ℕ) (sets : List ℕ) (place : ℕ) → Bool
improper n sets i = slice_index sets i == 0 || not (nat_lt (slice_index sets i) (2 ^ n))

-- The set at this place contains another of the list, or equals it.
unfoldable pub redundant : (sets : List ℕ) (place : ℕ) → Bool
redundant sets i = any_below (length sets) (λ j. not (j == i) && subset (slice_index sets j) (slice_index sets i))

-- The first number below a bound that passes the test.
abbrev pub first_below : (bound : ℕ) (test : ℕ → Bool) → Option ℕ
first_below zero test = None
first_below (suc k) test = option_or (first_below k test) (cond (test k) (Some k) None)

-- The first place of the list, from 0, that passes the test.
abbrev pub first_place : (sets : List ℕ) (test : ℕ → Bool) → Option ℕ
first_place sets test = first_below (length sets) test

-- The first of the refusals that applies.
abbrev pub first_refusal : List (Option SchemeRefusal) → Option SchemeRefusal
first_refusal [] = None
first_refusal (answer ∷ rest) = option_or answer (first_refusal rest)

-- The refusal, if the test passes.
abbrev pub when : Bool → SchemeRefusal → Option SchemeRefusal
when test why = cond test (Some why) None

-- The refusal of too many maximal forbidden sets, which is the last.
abbrev pub forbidden_refusal : (n : ℕ) (sets : List ℕ) → Option SchemeRefusal
forbidden_refusal n sets = when (nat_lt most_forbidden (length (forbidden_sets n sets))) ForbiddenSets

-- Refusals 7 to 11, in this order.
abbrev pub making_refusal : (n : ℕ) (sets : List ℕ) → Option SchemeRefusal
making_refusal n sets =
    first_refusal
    (keyholders_from 1 n
    ∷ when (nat_lt (length sets) 1 || nat_lt most_sets (length sets)) ListLength
    ∷ option_map Members (first_place sets (improper n sets))
    ∷ option_map Redundant (first_place sets (redundant sets))
    ∷ forbidden_refusal n sets
    ∷ [])

-- What making answers: the refusal that the rules give, or want of memory where the rules give none.
abbrev pub ByRulesOrNoMemory : (answer ruled : Option SchemeRefusal) → Type 0
ByRulesOrNoMemory answer ruled = (answer ≡ ruled) ⊎ ((answer ≡ Some Memory) × (ruled ≡ None))

-- ---- what the checks leave

-- There are 1 to 8 keyholders and a minimal set; each set has a member, and none above n.
pub record ProperSets (n : ℕ) (sets : List ℕ) : Type 0 where
  pub least : 1 ≤ n
  pub most : n ≤ most_keyholders
  pub some_set : 1 ≤ length sets
  pub proper : (i : ℕ) → i < length sets → improper n sets i ≡ false
