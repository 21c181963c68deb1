-- A list from which the item at a place is taken away: what stands where, and how often.
use Rattle.std.proofs.Common.{◌≡◌, ℕ, suc, ◌+◌, ◌-◌, ◌<◌, Bool, cond, ltb, List, ◌∷◌, ◌++◌, length, get_or, take, drop, count_by, sym, ap, ◌∙◌, add-one, arith, drop-cons}
use Rattle.std.specs.List.{remove}
use Rattle.std.proofs.lemmas.List.{take-append-drop}
use Rattle.std.proofs.lemmas.Bool.{cond_both, ltb-true, ltb-false}
use Rattle.std.proofs.lemmas.Bool.Decides.{nat_tests}
use Rattle.std.proofs.lemmas.List.Edits.{length-remove, get_or-remove_below, get_or-remove_above}
use Rattle.std.proofs.lemmas.List.Sums.{sum_by-cons, sum_by-append}

-- Where place j of a list stood before place d was taken away, and where another place j stands after.
abbrev pub before : ℕ → ℕ → ℕ
before d j = cond (ltb j d) j (j + 1)

abbrev pub after : ℕ → ℕ → ℕ
after d j = cond (ltb j d) j (j - 1)

pub after_before : (d j : ℕ) → after d (before d j) ≡ j
after_before d j = grind (arith, nat_tests)

pub before_below : (k d j : ℕ) → j < k → before d j < suc k
before_below k d j h = grind (arith, nat_tests)

pub get_or_removed : (xs : List ℕ) (d j : ℕ) → d < length xs → get_or (remove xs d) j 0 ≡ get_or xs (before d j) 0
get_or_removed xs d j h =
    sym (cond_both (ltb j d) j (j + 1) (λ k. get_or xs k 0 ≡ get_or (remove xs d) j 0)
    (λ e. sym (get_or-remove_below xs d 0 j (ltb-true j d e) h))
    (λ e. sym (get_or-remove_above xs d 0 j (ltb-false j d e) h)))

pub count_by_cons : (test : ℕ → Bool) (x : ℕ) (xs : List ℕ) → count_by test (x ∷ xs) ≡ cond (test x) 1 0 + count_by test xs
count_by_cons test = sum_by-cons (λ x. cond (test x) 1 0)

pub count_by_removed : (test : ℕ → Bool) (xs : List ℕ) (d : ℕ) → d < length xs →
    count_by test xs ≡ cond (test (get_or xs d 0)) 1 0 + count_by test (remove xs d)
count_by_removed test xs d l =
    let one : ℕ → ℕ = λ x. cond (test x) 1 0 in
    let whole : count_by test xs ≡ count_by test (take d xs ++ (get_or xs d 0 ∷ drop (suc d) xs)) =
    ap (count_by test) (sym (take-append-drop d xs) ∙ ap (λ l'. take d xs ++ l') (drop-cons xs d 0 l)) in
    omega (
      arith,
      whole,
      sum_by-cons one (get_or xs d 0) (drop (suc d) xs),
      sum_by-append one (take d xs) (get_or xs d 0 ∷ drop (suc d) xs),
      sum_by-append one (take d xs) (drop (suc d) xs),
    )

-- No item stands at two places.
abbrev pub Distinct : List ℕ → Type 0
Distinct xs = (i j : ℕ) → i < length xs → j < length xs → get_or xs i 0 ≡ get_or xs j 0 → i ≡ j

pub distinct_removed : (xs : List ℕ) (d : ℕ) → d < length xs → Distinct xs → Distinct (remove xs d)
distinct_removed xs d l apart i j hi hj e =
    let size = length-remove xs d l in
    let low : before d i < length xs = rw (sym size ∙ add-one _) (before_below (length (remove xs d)) d i hi) in
    let low' : before d j < length xs = rw (sym size ∙ add-one _) (before_below (length (remove xs d)) d j hj) in
    let same : before d i ≡ before d j = apart (before d i) (before d j) low low' (sym (get_or_removed xs d i l) ∙ e ∙ get_or_removed xs d j l) in
    sym (after_before d i) ∙ ap (after d) same ∙ after_before d j
