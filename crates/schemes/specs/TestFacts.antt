-- Tests of the numbers below a bound: whether some number passes, and how many do.
use Rattle.std.specs.Prelude.{◌≡◌, ℕ, zero, suc, ◌+◌, ◌-◌, ◌<◌, ◌≤◌, Bool, true, false, cond, ◌||◌, ◌⊎◌, ◌≢◌, refl}
use Rattle.std.proofs.Common.{sym, ap, subst, ◌∙◌, inl, inr, add-zero, add-suc, add-one, arith}
use Rattle.std.proofs.lemmas.Bool.{cases_eq, true≢false, false≢true, or_right}
use Rattle.schemes.specs.Bits.{any_below, count_below}

-- ---- some number passes

pub any_false : (n : ℕ) (p : ℕ → Bool) → ((k : ℕ) → k < n → p k ≡ false) → any_below n p ≡ false
any_false zero p h = refl
any_false (suc n) p h = rw (any_false n p (λ k l. h k (omega arith)), h n (omega arith)) refl

pub any_true : (n : ℕ) (p : ℕ → Bool) (k : ℕ) → k < n → p k ≡ true → any_below n p ≡ true
any_true zero p k l e = absurd (omega arith)
any_true (suc n) p k l e = go (cases_eq k n) (λ l'. any_true n p k l' e)
  where
    go : (k ≡ n) ⊎ (k ≢ n) → (k < n → any_below n p ≡ true) → (any_below n p || p n) ≡ true
    go (inl q) h = or_right (any_below n p) (p n) (sym (ap p q) ∙ e)
    go (inr q) h = rw (h (omega arith)) refl

pub look : (n : ℕ) (p : ℕ → Bool) → ((k : ℕ) × (k < n) × (p k ≡ true)) ⊎ ((k : ℕ) → k < n → p k ≡ false)
look zero p = inr (λ k l. absurd (omega arith))
look (suc n) p = go (look n p) (p n) refl
  where
    go : ((k : ℕ) × (k < n) × (p k ≡ true)) ⊎ ((k : ℕ) → k < n → p k ≡ false) → (b : Bool) → p n ≡ b
        → ((k : ℕ) × (k < suc n) × (p k ≡ true)) ⊎ ((k : ℕ) → k < suc n → p k ≡ false)
    go (inl t) b e = inl (t.0, omega (arith, t.1), t.2)
    go (inr h) true e = inl (n, omega arith, e)
    go (inr h) false e =
        inr (λ k l. elim (cases_eq k n) [ inl q ↦ ap p q ∙ e | inr q ↦ h k (omega arith) ])

pub any_find : (n : ℕ) (p : ℕ → Bool) → any_below n p ≡ true → (k : ℕ) × (k < n) × (p k ≡ true)
any_find n p e = go (look n p)
  where
    go : ((k : ℕ) × (k < n) × (p k ≡ true)) ⊎ ((k : ℕ) → k < n → p k ≡ false) → (k : ℕ) × (k < n) × (p k ≡ true)
    go (inl t) = t
    go (inr h) = absurd (true≢false (sym e ∙ any_false n p h))

pub any_none : (n : ℕ) (p : ℕ → Bool) → any_below n p ≡ false → (k : ℕ) → k < n → p k ≡ false
any_none n p e k l = go (p k) refl
  where
    go : (b : Bool) → p k ≡ b → p k ≡ false
    go true w = absurd (true≢false (sym (any_true n p k l w) ∙ e))
    go false w = w

pub any_same : (n : ℕ) (p q : ℕ → Bool) → ((k : ℕ) → k < n → p k ≡ q k) → any_below n p ≡ any_below n q
any_same zero p q h = refl
any_same (suc n) p q h = rw (any_same n p q (λ k l. h k (omega arith)), h n (omega arith)) refl

pub any_next : (n : ℕ) (p : ℕ → Bool) → any_below n p ≡ false → p n ≡ false → any_below (n + 1) p ≡ false
any_next n p h e = rw (add-one n, h) e

-- a loop over the numbers below n has passed them all
pub any_end : (n m : ℕ) (p : ℕ → Bool) → n ≤ m → m ≤ n → any_below m p ≡ false → false ≡ any_below n p
any_end n m p a b h =
    let e : m ≡ n = omega arith in
    sym (subst (λ (x : ℕ). any_below x p ≡ false) e h)

-- ---- how many pass

pub count_same : (n : ℕ) (p q : ℕ → Bool) → ((k : ℕ) → k < n → p k ≡ q k) → count_below n p ≡ count_below n q
count_same zero p q h = refl
count_same (suc n) p q h = rw (count_same n p q (λ k l. h k (omega arith)), h n (omega arith)) refl

-- what passes p passes q
pub count_more : (n : ℕ) (p q : ℕ → Bool) → ((k : ℕ) → k < n → p k ≡ true → q k ≡ true) → count_below n p ≤ count_below n q
count_more zero p q h = omega arith
count_more (suc n) p q h = go (p n) (q n) (h n (omega arith)) (count_more n p q (λ k l. h k (omega arith)))
  where
    go : (a b : Bool) → (a ≡ true → b ≡ true) → count_below n p ≤ count_below n q
        → cond a (suc (count_below n p)) (count_below n p) ≤ cond b (suc (count_below n q)) (count_below n q)
    go true true i r = omega arith
    go true false i r = absurd (false≢true (i refl))
    go false true i r = omega arith
    go false false i r = r

pub count_le : (n : ℕ) (p : ℕ → Bool) → count_below n p ≤ n
count_le zero p = omega arith
count_le (suc n) p = go (p n) (count_le n p)
  where
    go : (a : Bool) → count_below n p ≤ n → cond a (suc (count_below n p)) (count_below n p) ≤ suc n
    go true r = omega arith
    go false r = omega arith

pub count_all : (n : ℕ) (p : ℕ → Bool) → ((k : ℕ) → k < n → p k ≡ true) → count_below n p ≡ n
count_all zero p h = refl
count_all (suc n) p h = rw (h n (omega arith), count_all n p (λ k l. h k (omega arith))) refl

-- one does not pass
pub count_less : (n : ℕ) (p : ℕ → Bool) (k : ℕ) → k < n → p k ≡ false → count_below n p < n
count_less zero p k l e = absurd (omega arith)
count_less (suc n) p k l e = go (p n) refl (cases_eq k n) (λ l'. count_less n p k l' e)
  where
    go : (a : Bool) → p n ≡ a → (k ≡ n) ⊎ (k ≢ n) → (k < n → count_below n p < n) → cond a (suc (count_below n p)) (count_below n p) < suc n
    go true w (inl q) r = absurd (true≢false (sym w ∙ ap p (sym q) ∙ e))
    go true w (inr q) r = omega (arith, r (omega arith))
    go false w c r = omega (arith, count_le n p)

-- one passes
pub count_some : (n : ℕ) (p : ℕ → Bool) (k : ℕ) → k < n → p k ≡ true → 1 ≤ count_below n p
count_some zero p k l e = absurd (omega arith)
count_some (suc n) p k l e = go (p n) refl (cases_eq k n) (λ l'. count_some n p k l' e)
  where
    go : (a : Bool) → p n ≡ a → (k ≡ n) ⊎ (k ≢ n) → (k < n → 1 ≤ count_below n p) → 1 ≤ cond a (suc (count_below n p)) (count_below n p)
    go true w c r = omega arith
    go false w (inl q) r = absurd (true≢false (sym e ∙ ap p q ∙ w))
    go false w (inr q) r = r (omega arith)

-- two pass
pub count_two : (n : ℕ) (p : ℕ → Bool) (i k : ℕ) → i < k → k < n → p i ≡ true → p k ≡ true → 2 ≤ count_below n p
count_two zero p i k s l d e = absurd (omega arith)
count_two (suc n) p i k s l d e = go (p n) refl (cases_eq k n) (λ l'. count_two n p i k s l' d e)
  where
    go : (a : Bool) → p n ≡ a → (k ≡ n) ⊎ (k ≢ n) → (k < n → 2 ≤ count_below n p) → 2 ≤ cond a (suc (count_below n p)) (count_below n p)
    go true w (inl q) r = omega (arith, count_some n p i (omega arith) d)
    go true w (inr q) r = omega (arith, r (omega arith))
    go false w (inl q) r = absurd (true≢false (sym e ∙ ap p q ∙ w))
    go false w (inr q) r = r (omega arith)

-- all but the first pass
pub count_rest : (m : ℕ) (p : ℕ → Bool) → p 0 ≡ false → ((j : ℕ) → 0 < j → j < m → p j ≡ true) → count_below m p ≡ m - 1
count_rest zero p e h = refl
count_rest (suc zero) p e h = rw e refl
count_rest (suc (suc m)) p e h =
    rw (h (suc m) (omega arith) (omega arith)) (omega (arith, count_rest (suc m) p e (λ j a b. h j a (omega arith))))

pub count_none : (n : ℕ) (p : ℕ → Bool) → ((k : ℕ) → k < n → p k ≡ false) → count_below n p ≡ 0
count_none zero p h = refl
count_none (suc n) p h = rw (h n (omega arith)) (count_none n p (λ k l. h k (omega arith)))

count_yes : (n : ℕ) (p : ℕ → Bool) → p n ≡ true → count_below (n + 1) p ≡ count_below n p + 1
count_yes n p e = rw (add-one n, e, add-one (count_below n p)) refl

count_no : (n : ℕ) (p : ℕ → Bool) → p n ≡ false → count_below (n + 1) p ≡ count_below n p
count_no n p e = rw (add-one n, e) refl

-- a running count, one number on
pub count_found : (n : ℕ) (p : ℕ → Bool) (t t' : ℕ) → t ≡ count_below n p → t' ≡ t + 1 → true ≡ p n → t' ≡ count_below (n + 1) p
count_found n p t t' h e f = e ∙ ap (λ (x : ℕ). x + 1) h ∙ sym (count_yes n p (sym f))

pub count_passed : (n : ℕ) (p : ℕ → Bool) (t t' : ℕ) → t ≡ count_below n p → t' ≡ t → false ≡ p n → t' ≡ count_below (n + 1) p
count_passed n p t t' h e f = e ∙ h ∙ sym (count_no n p (sym f))

add_one_more : (t : Bool) (x y z : ℕ) → x ≡ y + z → cond t (suc x) x ≡ y + cond t (suc z) z
add_one_more true x y z e = omega arith
add_one_more false x y z e = e

-- the numbers below a, and those from a on
pub count_add : (a b : ℕ) (p : ℕ → Bool) → count_below (a + b) p ≡ count_below a p + count_below b (λ i. p (a + i))
count_add a zero p = ap (λ (n : ℕ). count_below n p) (add-zero a) ∙ sym (add-zero (count_below a p))
count_add a (suc b) p =
    ap (λ (n : ℕ). count_below n p) (add-suc a b)
    ∙ add_one_more (p (a + b)) (count_below (a + b) p) (count_below a p) (count_below b (λ i. p (a + i))) (count_add a b p)
