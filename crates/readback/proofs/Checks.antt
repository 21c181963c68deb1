-- The first refusal of a list of checks that is passed on and goes on with others. For `read_back`.
use Rattle.std.proofs.Common.{◌≡◌, ℕ, Bool, true, false, cond, List, [], ◌∷◌, ◌++◌, map, Some, None, Option, refl, arith}
use Rattle.schemes.specs.Refusals.{first_refusal}

module _ {A B : Type 0} (f : A → B) where
  abbrev passed : Bool × A → Bool × B
  passed check = (check.0, f check.1)

  some_kept : (b : Bool) (x why : A) (o : Option A) (o' : Option B) → (o ≡ Some why → o' ≡ Some (f why)) → cond b (Some x) o ≡ Some why → cond b (Some (f x)) o' ≡ Some (f why)
  some_kept true x why o o' h e = let same : x ≡ why = cc in cc
  some_kept false x why o o' h e = h e

  pub first_some : (checks : List (Bool × A)) (more : List (Bool × B)) (why : A) → first_refusal checks ≡ Some why → first_refusal (map (λ (check : Bool × A). (check.0, f check.1)) checks ++ more) ≡ Some (f why)
  first_some [] more why e = let z : ◌≡◌ {A = ℕ} 0 1 = cc in absurd (omega arith)
  first_some (check ∷ checks) more why e =
      some_kept check.0 check.1 why (first_refusal checks) (first_refusal (map passed checks ++ more)) (first_some checks more why) e

  none_kept : (b : Bool) (x : A) (o : Option A) (o' o'' : Option B) → (o ≡ None → o' ≡ o'') → cond b (Some x) o ≡ None → cond b (Some (f x)) o' ≡ o''
  none_kept true x o o' o'' h e = let z : ◌≡◌ {A = ℕ} 0 1 = cc in absurd (omega arith)
  none_kept false x o o' o'' h e = h e

  pub first_none : (checks : List (Bool × A)) (more : List (Bool × B)) → first_refusal checks ≡ None → first_refusal (map (λ (check : Bool × A). (check.0, f check.1)) checks ++ more) ≡ first_refusal more
  first_none [] more e = refl
  first_none (check ∷ checks) more e =
      none_kept check.0 check.1 (first_refusal checks) (first_refusal (map passed checks ++ more)) (first_refusal more) (first_none checks more) e
