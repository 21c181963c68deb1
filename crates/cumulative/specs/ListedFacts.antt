-- The numbers below a bound that pass a test, in rising order: what is listed, and how a loop or a chain over the numbers lists them.
use Rattle.std.proofs.Common.{◌≡◌, ℕ, zero, suc, ◌+◌, ◌-◌, ◌<◌, ◌≤◌, Bool, true, false, cond, ◌⊎◌, List, [], ◌∷◌, ◌++◌, map, filter, count_by, length, get_or, sym, refl, ap, ◌∙◌, subst, inl, inr, add-one, arith}
use Rattle.std.proofs.lemmas.List.{append-nil, length-append, length_push, get_or_append_left, get_or_push}
use Rattle.std.proofs.lemmas.List.{map-append, map-id}
use Rattle.std.proofs.lemmas.List.Sums.{length-filter}
use Rattle.std.proofs.lemmas.List.FromFn.{filter_of_map_range_with_len_more}
use Rattle.std.proofs.lemmas.Bool.{cases_lt, cases_eq, false≢true}
use Rattle.std.specs.List.{range_with_len}
use Rattle.cumulative.specs.Access.{numbers, set_of, those_below}

-- ---- a list with one more, or not

push : List ℕ → ℕ → Bool → List ℕ
push xs b x = xs ++ cond x (b ∷ []) []

push_old : (xs : List ℕ) (b : ℕ) (x : Bool) (q : ℕ) → q < length xs → (q < length (push xs b x)) × (get_or (push xs b x) q 0 ≡ get_or xs q 0)
unfolding push
push_old xs b x q l =
    (omega (arith, length-append xs (cond x (b ∷ []) [])), get_or_append_left xs (cond x (b ∷ []) []) 0 q l)

push_new : (xs : List ℕ) (b : ℕ) (x : Bool) → x ≡ true → (length xs < length (push xs b x)) × (get_or (push xs b x) (length xs) 0 ≡ b)
unfolding push
push_new xs b true e = (omega (arith, length_push xs b), get_or_push xs b 0 (length xs) refl)
push_new xs b false e = absurd (false≢true e)

push_cases : (xs : List ℕ) (b : ℕ) (x : Bool) (q : ℕ) → q < length (push xs b x)
    → (q < length xs) ⊎ ((q ≡ length xs) × (x ≡ true) × (get_or (push xs b x) q 0 ≡ b))
unfolding push
push_cases xs b true q l = elim (cases_lt q (length xs)) [
  | inl s ↦ inl s
  | inr s ↦ inr (omega (arith, length_push xs b), refl, get_or_push xs b 0 q (omega (arith, length_push xs b)))
]
push_cases xs b false q l = inl (subst (λ (y : List ℕ). q < length y) (append-nil xs) l)

-- ---- what is listed

module _ (test : ℕ → Bool) where
  -- every number that passes
  pub listed : (b f : ℕ) → f < b → test f ≡ true → (q : ℕ) × (q < length (those_below b test)) × (get_or (those_below b test) q 0 ≡ f)
  unfolding those_below push
  listed zero f l e = absurd (omega arith)
  listed (suc b) f l e = go (cases_eq f b) (λ l'. listed b f l' e)
    where
      xs : List ℕ
      xs = those_below b test

      go : (f ≡ b) ⊎ (f ≡ b → ⊥) → (f < b → (q : ℕ) × (q < length xs) × (get_or xs q 0 ≡ f))
          → (q : ℕ) × (q < length (push xs b (test b))) × (get_or (push xs b (test b)) q 0 ≡ f)
      go (inl w) r =
          let t = push_new xs b (test b) (ap test (sym w) ∙ e) in
          (length xs, t.0, t.1 ∙ sym w)
      go (inr w) r =
          let u = r (omega arith) in
          let t = push_old xs b (test b) u.0 u.1 in
          (u.0, t.0, t.1 ∙ u.2)

  -- and no other
  pub list_passes : (b q : ℕ) → q < length (those_below b test) → (get_or (those_below b test) q 0 < b) × (test (get_or (those_below b test) q 0) ≡ true)
  unfolding those_below push
  list_passes zero q l = absurd (omega arith)
  list_passes (suc b) q l = go (push_cases (those_below b test) b (test b) q l) (λ l'. list_passes b q l')
    where
      xs : List ℕ
      xs = those_below b test

      Good : ℕ → ℕ → Type 0
      Good c f = (f < c) × (test f ≡ true)

      go : (q < length xs) ⊎ ((q ≡ length xs) × (test b ≡ true) × (get_or (push xs b (test b)) q 0 ≡ b))
          → (q < length xs → Good b (get_or xs q 0))
          → Good (suc b) (get_or (push xs b (test b)) q 0)
      go (inl s) r =
          let t = push_old xs b (test b) q s in
          subst (Good (suc b)) (sym t.1) (omega (arith, (r s).0), (r s).1)
      go (inr t) r = subst (Good (suc b)) (sym t.2) (omega arith, t.1)

  pub list_rising : (b p q : ℕ) → p < q → q < length (those_below b test) → get_or (those_below b test) p 0 < get_or (those_below b test) q 0
  unfolding those_below push
  list_rising zero p q s l = absurd (omega arith)
  list_rising (suc b) p q s l = go (push_cases (those_below b test) b (test b) q l) (λ l'. list_rising b p q s l')
    where
      xs : List ℕ
      xs = those_below b test

      go : (q < length xs) ⊎ ((q ≡ length xs) × (test b ≡ true) × (get_or (push xs b (test b)) q 0 ≡ b))
          → (q < length xs → get_or xs p 0 < get_or xs q 0)
          → get_or (push xs b (test b)) p 0 < get_or (push xs b (test b)) q 0
      go (inl l') r = omega (arith, r l', (push_old xs b (test b) q l').1, (push_old xs b (test b) p (omega arith)).1)
      go (inr t) r = omega (arith, t.2, (push_old xs b (test b) p (omega (arith, t.0))).1, (list_passes b p (omega (arith, t.0))).0)

  -- ---- a loop over the numbers

  pub list_none : those_below 0 test ≡ []
  unfolding those_below
  list_none = refl

  pub list_yes : (b : ℕ) → test b ≡ true → those_below (b + 1) test ≡ those_below b test ++ b ∷ []
  unfolding those_below
  list_yes b e = rw (add-one b, e) refl

  pub list_no : (b : ℕ) → test b ≡ false → those_below (b + 1) test ≡ those_below b test
  unfolding those_below
  list_no b e = rw (add-one b, e) (append-nil (those_below b test))

  list_add : (b d : ℕ) → length (those_below b test) ≤ length (those_below (d + b) test)
  unfolding those_below
  list_add b zero = let e : 0 + b ≡ b = omega arith in rw e (omega arith)
  list_add b (suc d) =
      let e : suc d + b ≡ suc (d + b) = omega arith in
      rw e (omega (arith, list_add b d, length-append (those_below (d + b) test) (cond (test (d + b)) ((d + b) ∷ []) [])))

  pub list_more : (b c : ℕ) → b ≤ c → length (those_below b test) ≤ length (those_below c test)
  list_more b c l =
      let e : (c - b) + b ≡ c = omega arith in
      subst (λ (x : ℕ). length (those_below b test) ≤ length (those_below x test)) e (list_add b (c - b))

  -- ---- a chain over the numbers

  module _ {X : Type 0} (of : ℕ → X) (number : X → ℕ) (same : (k : ℕ) → number (of k) ≡ k) where
    abbrev passes : X → Bool
    passes x = test (number x)

    one_listed : (b : ℕ) (x : Bool) → map number (cond x (of b ∷ []) []) ≡ cond x (b ∷ []) []
    one_listed b true = ap (λ (k : ℕ). k ∷ []) (same b)
    one_listed b false = refl

    chain_listed : (b : ℕ) → map number (filter passes (map of (range_with_len 0 b))) ≡ those_below b test
    unfolding those_below
    chain_listed zero = refl
    chain_listed (suc b) =
        let more : filter passes (map of (range_with_len 0 (suc b))) ≡ filter passes (map of (range_with_len 0 b)) ++ cond (passes (of b)) (of b ∷ []) []
        = ap (λ (n : ℕ). filter passes (map of (range_with_len 0 n))) (sym (add-one b)) ∙ filter_of_map_range_with_len_more passes of 0 b b (omega arith) in
        ap (map number) more
        ∙ map-append number (filter passes (map of (range_with_len 0 b))) (cond (passes (of b)) (of b ∷ []) [])
        ∙ ap (λ (xs : List ℕ). map number (filter passes (map of (range_with_len 0 b))) ++ xs) (one_listed b (passes (of b)))
        ∙ ap (λ (xs : List ℕ). xs ++ cond (passes (of b)) (b ∷ []) []) (chain_listed b)
        ∙ ap (λ (k : ℕ). those_below b test ++ cond (test k) (b ∷ []) []) (same b)

  -- of the sets of the numbers
  pub list_filtered : (b : ℕ) → numbers (filter (λ set. test set.bits) (map set_of (range_with_len 0 b))) ≡ those_below b test
  list_filtered b = chain_listed set_of (λ set. set.bits) (λ k. refl) b

  -- how many there are
  pub list_counted : (b : ℕ) → count_by test (range_with_len 0 b) ≡ length (those_below b test)
  list_counted b =
      let same : (xs : List ℕ) → map (λ x. x) xs ≡ xs = λ xs. map-id xs in
      sym (length-filter test (range_with_len 0 b))
      ∙ ap (λ (xs : List ℕ). length (filter test xs)) (sym (same (range_with_len 0 b)))
      ∙ ap length (sym (same (filter test (map (λ x. x) (range_with_len 0 b)))) ∙ chain_listed (λ x. x) (λ x. x) (λ k. refl) b)
