-- What each part of a file reads as: a comment up to its end, and a number by its digits. Serves the contracts of src/parts.rt, and by
-- them that of `open`. Assumes nothing.
use Rattle.std.proofs.Common.{◌≡◌, ℕ, ◌+◌, ◌-◌, ◌*◌, ◌<◌, ◌≤◌, min, Bool, true, false, cond, ◌&&◌, eqb, leb, List, [], ◌∷◌, length, get_or, drop, Some, None, sym, refl, ap, ◌∙◌, ⊎_elim, arith, zero, suc, add-one}
use Rattle.std.specs.List.{position, position_from}
use Rattle.std.proofs.lemmas.Bool.{cond-true, cond-false, cases_Bool, and_from, and_right, lt-leb, le-leb, cases_lt}
use Rattle.std.proofs.lemmas.List.Quantifiers.{position-Some}
use Rattle.std.proofs.lemmas.Iterator.Adapters.{position_from-zero}
use Rattle.pictures.specs.Reading.{Read, got, fault, ◌⟫◌, is_digit_byte, blank, digits}
use Rattle.pictures.specs.declared.refusals.PictureRefusal.TheVariants.{NumberOutside, EndsEarly}

-- from one part to the next
pub go : {A B : Type 0} {r : Read A} {x : A} {t : List ℕ} (next : A → List ℕ → Read B) → r ≡ got x t → (r ⟫ next) ≡ next x t
go next e = ap (λ p. p ⟫ next) e

-- ---- a comment, which goes on through the next byte 10
abbrev ends_line : ℕ → Bool
ends_line b = eqb b 10

open_from : (s : List ℕ) (i : ℕ) → position_from ends_line i s ≡ None → blank true s ≡ fault EndsEarly []
open_from [] i e = refl
open_from (b ∷ s) i e =
    ⊎_elim
    (λ p. absurd (let f : ◌≡◌ (Some i) None = sym (cond-true _ _ _ p) ∙ e in cc))
    (λ p. cond-false _ _ _ p ∙ open_from s (i + 1) (sym (cond-false _ _ _ p) ∙ e))
    (cases_Bool (eqb b 10))

pub comment_open : (s : List ℕ) → position (λ b. eqb b 10) s ≡ None → blank true s ≡ fault EndsEarly []
comment_open s e = open_from s 0 (sym (position_from-zero ends_line s) ∙ e)

closed_at : (k : ℕ) (s : List ℕ) → k < length s → eqb (get_or s k 0) 10 ≡ true → ((j : ℕ) → j < k → eqb (get_or s j 0) 10 ≡ false) → blank true s ≡ blank false (drop (suc k) s)
closed_at k [] lt at before = absurd (omega arith)
closed_at zero (b ∷ s) lt at before = cond-true _ _ _ at
closed_at (suc k) (b ∷ s) lt at before = cond-false _ _ _ (before 0 (omega arith)) ∙ closed_at k s (omega arith) at (λ j h. before (suc j) (omega arith))

pub comment_closed : (s : List ℕ) (k : ℕ) → position (λ b. eqb b 10) s ≡ Some k → blank true s ≡ blank false (drop (k + 1) s)
comment_closed s k e = let p = position-Some ends_line s k 0 e in closed_at k s p.0 p.1 p.2 ∙ ap (λ n. blank false (drop n s)) (sym (add-one k))

-- ---- a number
-- past 4096 the number itself does not matter
over : (whole : List ℕ) (m n : ℕ) (s : List ℕ) → 4096 < m → 4096 < n → digits whole m s ≡ digits whole n s
over whole m n [] g h = refl
over whole m n (b ∷ s) g h =
    let both = over whole (m * 10 + (b - 48)) (n * 10 + (b - 48)) s (omega arith) (omega arith) in
    let outside : (k : ℕ) → 4096 < k → (leb 1 k && leb k 4096) ≡ false = λ k j. and_right _ _ (lt-leb k 4096 j) in
    (λ i. cond (is_digit_byte b) (both i) (cond (outside m g i) (got m (b ∷ s)) (fault NumberOutside whole)))
    ∙ sym (λ i. cond (is_digit_byte b) (digits whole (n * 10 + (b - 48)) s) (cond (outside n h i) (got n (b ∷ s)) (fault NumberOutside whole)))

saturates : (whole : List ℕ) (n : ℕ) (s : List ℕ) → digits whole (min n 4097) s ≡ digits whole n s
saturates whole n s = ⊎_elim (λ h. over whole (min n 4097) n s (omega arith) h) (λ h. let e : min n 4097 ≡ n = omega arith in ap (λ k. digits whole k s) e) (cases_lt 4096 n)

pub digits_more : (whole s : List ℕ) (n : ℕ) → 0 < length s → 48 ≤ get_or s 0 0 → get_or s 0 0 ≤ 57 → digits whole (min (n * 10 + (get_or s 0 0 - 48)) 4097) (drop 1 s) ≡ digits whole n s
digits_more whole [] n lt least most = absurd (omega arith)
digits_more whole (b ∷ s) n lt least most = saturates whole (n * 10 + (b - 48)) s ∙ sym (cond-true _ _ _ (and_from _ _ (le-leb 48 b least) (le-leb b 57 most)))
