-- The checks in their order, against `making_refusal`.
use Rattle.std.proofs.Common.{◌≡◌, ℕ, ◌<◌, ◌≤◌, Bool, cond, ltb, ◌⊎◌, List, length, is_some, Some, None, Option, sym, refl, ap, ◌∙◌, inl, inr}
use Rattle.std.specs.Option.{option_or, option_map}
use Rattle.std.proofs.lemmas.Bool.{le-ltb, lt-ltb, or_right, cases_lt, true≢false, false≢true}
use Rattle.schemes.specs.Keyholders.{most_keyholders}
use Rattle.schemes.specs.Refusals.{keyholders_from}
use Rattle.schemes.specs.declared.refusals.SchemeRefusal.{SchemeRefusal}
use Rattle.schemes.specs.declared.refusals.SchemeRefusal.TheVariants.{Keyholders, Members, Redundant, ForbiddenSets}
use Rattle.cumulative.specs.Access.{forbidden_sets}
use Rattle.cumulative.specs.Making.{most_sets, most_forbidden, improper, redundant, first_place, forbidden_refusal, making_refusal, ProperSets}
use Rattle.cumulative.proofs.ListFacts.{none_first}

or_none : (o : Option SchemeRefusal) → option_or o None ≡ o
or_none (Some x) = refl
or_none None = refl

-- a number of keyholders that is not refused
pub keyholders_passed : (n : ℕ) → None ≡ keyholders_from 1 n → (1 ≤ n) × (n ≤ most_keyholders)
keyholders_passed n e = (low (cases_lt n 1), high (cases_lt most_keyholders n))
  where
    low : (n < 1) ⊎ (1 ≤ n) → 1 ≤ n
    low (inl l) =
        let refused : keyholders_from 1 n ≡ Some Keyholders = rw (lt-ltb n 1 l) refl in
        absurd (false≢true (ap is_some (e ∙ refused)))
    low (inr l) = l

    high : (most_keyholders < n) ⊎ (n ≤ most_keyholders) → n ≤ most_keyholders
    high (inl l) =
        let refused : keyholders_from 1 n ≡ Some Keyholders
        = ap (λ (b : Bool). cond b (Some Keyholders) None) (or_right (ltb n 1) (ltb most_keyholders n) (lt-ltb most_keyholders n l)) in
        absurd (false≢true (ap is_some (e ∙ refused)))
    high (inr l) = l

module _ (n : ℕ) (sets : List ℕ) (p : 1 ≤ n) (q : n ≤ most_keyholders) where
  module _ (l : 1 ≤ length sets) (m : length sets ≤ most_sets) where
    passed_length : making_refusal n sets
        ≡ option_or (option_map Members (first_place sets (improper n sets))) (option_or (option_map Redundant (first_place sets (redundant sets))) (option_or (forbidden_refusal n sets) None))
    passed_length = rw (le-ltb n 1 p, le-ltb most_keyholders n q, le-ltb (length sets) 1 l, le-ltb most_sets (length sets) m) refl

    pub refused_members : (i : ℕ) → Some i ≡ first_place sets (improper n sets) → making_refusal n sets ≡ Some (Members i)
    refused_members i e =
        passed_length
        ∙ ap (λ (o : Option ℕ). option_or (option_map Members o) (option_or (option_map Redundant (first_place sets (redundant sets))) (option_or (forbidden_refusal n sets) None))) (sym e)

    module _ (none : None ≡ first_place sets (improper n sets)) where
      passed_members : making_refusal n sets ≡ option_or (option_map Redundant (first_place sets (redundant sets))) (option_or (forbidden_refusal n sets) None)
      passed_members =
          passed_length
          ∙ ap (λ (o : Option ℕ). option_or (option_map Members o) (option_or (option_map Redundant (first_place sets (redundant sets))) (option_or (forbidden_refusal n sets) None))) (sym none)

      pub refused_redundant : (i : ℕ) → Some i ≡ first_place sets (redundant sets) → making_refusal n sets ≡ Some (Redundant i)
      refused_redundant i e = passed_members ∙ ap (λ (o : Option ℕ). option_or (option_map Redundant o) (option_or (forbidden_refusal n sets) None)) (sym e)

      pub passed_all : None ≡ first_place sets (redundant sets) → making_refusal n sets ≡ forbidden_refusal n sets
      passed_all e =
          passed_members ∙ ap (λ (o : Option ℕ). option_or (option_map Redundant o) (option_or (forbidden_refusal n sets) None)) (sym e) ∙ or_none (forbidden_refusal n sets)

      pub sets_proper : ProperSets n sets
      sets_proper = record { least = p; most = q; some_set = l; proper = none_first (length sets) (improper n sets) (sym none) }

-- ---- what is refused when the list has passed

pub refused_forbidden : (n : ℕ) (sets : List ℕ) → most_forbidden < length (forbidden_sets n sets) → forbidden_refusal n sets ≡ Some ForbiddenSets
refused_forbidden n sets l = rw (lt-ltb most_forbidden (length (forbidden_sets n sets)) l) refl

pub passed_forbidden : (n : ℕ) (sets : List ℕ) → length (forbidden_sets n sets) ≤ most_forbidden → forbidden_refusal n sets ≡ None
passed_forbidden n sets l = rw (le-ltb most_forbidden (length (forbidden_sets n sets)) l) refl

-- all of t is not refused
pub table_made : (t : ℕ) (why : SchemeRefusal) → 1 ≤ t → t ≤ most_keyholders → Some why ≡ keyholders_from 1 t → ⊥
table_made t why p q e = true≢false (ap is_some (e ∙ none))
  where
    none : keyholders_from 1 t ≡ None
    none = rw (le-ltb t 1 p, le-ltb most_keyholders t q) refl
