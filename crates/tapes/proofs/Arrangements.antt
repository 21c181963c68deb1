-- Columns arranged by digits: each of them once, by one list of digits only, and every arrangement by some. For the clauses
-- `permutation` and `bijection` of `draw_order`.
use Rattle.std.proofs.Common.{◌≡◌, ℕ, suc, ◌+◌, ◌-◌, ◌<◌, ◌≤◌, Bool, true, false, cond, eqb, List, [], ◌∷◌, length, get_or, take, drop, count_by, sym, refl, ap, ◌∙◌, subst, ap₂, arith}
use Rattle.std.specs.List.{remove, All}
use Rattle.std.proofs.lemmas.List.Edits.{length-remove}
use Rattle.std.proofs.lemmas.List.Elements.{All-cons, All-append, All-take, All-drop}
use Rattle.std.proofs.lemmas.List.{nil_from_length}
use Rattle.std.proofs.lemmas.Bool.{eqb-true, eq-eqb}
use Rattle.tapes.specs.Orders.{arranged}
use Rattle.tapes.proofs.Removals.{count_by_cons, count_by_removed, Distinct, distinct_removed}

-- A list arranges another: it has each item as often.
pub record Arranged (columns o : List ℕ) : Type 0 where
  pub size : length o ≡ length columns
  pub counts : (test : ℕ → Bool) → count_by test o ≡ count_by test columns
  pub below : (m : ℕ) → All (λ j. j < m) columns → All (λ j. j < m) o

pub as_it_is : (columns : List ℕ) → Arranged columns columns
as_it_is columns = record { size = refl; counts = λ test. refl; below = λ m h. h }

-- An item is taken away and comes first.
pub comes_first : (columns : List ℕ) (d : ℕ) → d < length columns → (o : List ℕ) → Arranged (remove columns d) o → Arranged columns (get_or columns d 0 ∷ o)
comes_first columns d l o h = record {
  size = omega (arith, h.size, length-remove columns d l);
  counts = λ test. count_by_cons test (get_or columns d 0) o ∙ ap (λ n. cond (test (get_or columns d 0)) 1 0 + n) (h.counts test) ∙ sym (count_by_removed test columns d l);
  below = λ m all.
      let P : ℕ → Type 0 = λ j. j < m in
      All-cons P (get_or columns d 0) o (all d 0 l) (h.below m (All-append P (take d columns) (drop (suc d) columns) (All-take P d columns all) (All-drop P (suc d) columns all)));
}

-- Digits below n, n - 1, down to 2.
abbrev pub Falling : ℕ → List ℕ → Type 0
Falling n [] = n ≤ 1
Falling n (d ∷ ds) = (1 < n) × (d < n) × Falling (n - 1) ds

pub arranged_by : (columns ds : List ℕ) → Falling (length columns) ds → Arranged columns (arranged columns ds)
arranged_by columns [] h = as_it_is columns
arranged_by columns (d ∷ ds) h =
    let size : length columns - 1 ≡ length (remove columns d) = omega (arith, length-remove columns d h.1) in
    comes_first columns d h.1 _ (arranged_by (remove columns d) ds (rw size at h.2))

-- Two lists of digits that arrange distinct columns alike are one.
pub arranged_apart : (columns ds es : List ℕ) → Distinct columns → Falling (length columns) ds → Falling (length columns) es →
    arranged columns ds ≡ arranged columns es → ds ≡ es
arranged_apart columns [] [] apart h k e = refl
arranged_apart columns [] (_ ∷ _) apart h k e = absurd (omega (arith, k.0))
arranged_apart columns (_ ∷ _) [] apart h k e = absurd (omega (arith, h.0))
arranged_apart columns (d ∷ ds) (d' ∷ es) apart h k e =
    let head : get_or columns d 0 ≡ get_or columns d' 0 = cc in
    let tail : arranged (remove columns d) ds ≡ arranged (remove columns d') es = cc in
    let same : d' ≡ d = sym (apart d d' h.1 k.1 head) in
    let size : length columns - 1 ≡ length (remove columns d) = omega (arith, length-remove columns d h.1) in
    let rest : ds ≡ es =
    arranged_apart (remove columns d) ds es (distinct_removed columns d h.1 apart) (rw size at h.2) (rw size at k.2)
    (tail ∙ ap (λ x. arranged (remove columns x) es) same) in
    ap₂ (λ x xs. x ∷ xs) (sym same) rest

-- An item that a list has stands at a place.
pub place_of : (x : ℕ) (xs : List ℕ) → 0 < count_by (λ c. eqb c x) xs → (d : ℕ) × (d < length xs) × (get_or xs d 0 ≡ x)
place_of x [] h = absurd (omega arith)
place_of x (y ∷ ys) h = go (eqb y x) refl (place_of x ys)
  where
    go : (here : Bool) → eqb y x ≡ here → (0 < count_by (λ c. eqb c x) ys → (d : ℕ) × (d < length ys) × (get_or ys d 0 ≡ x)) →
        (d : ℕ) × (d < suc (length ys)) × (get_or (y ∷ ys) d 0 ≡ x)
    go true e later = (0, omega arith, eqb-true y x e)
    go false e later =
        let none : ◌≡◌ {A = ℕ} (cond (eqb y x) 1 0) 0 = rw e in
        let found = later (omega (arith, count_by_cons (λ c. eqb c x) y ys, none)) in
        (suc found.0, omega (arith, found.1), found.2)

pub alone : (xs : List ℕ) → length xs ≡ 1 → xs ≡ get_or xs 0 0 ∷ []
alone [] e = absurd (omega arith)
alone (x ∷ xs) e = ap (λ l. x ∷ l) (nil_from_length xs (omega arith))

module _ (x : ℕ) (o columns : List ℕ) (counts : (z : ℕ) → count_by (λ c. eqb c z) (x ∷ o) ≡ count_by (λ c. eqb c z) columns) where
  the_first : (d : ℕ) × (d < length columns) × (get_or columns d 0 ≡ x)
  the_first =
      let one : ◌≡◌ {A = ℕ} (cond (eqb x x) 1 0) 1 = rw (eq-eqb x x refl) in
      place_of x columns (omega (arith, counts x, count_by_cons (λ c. eqb c x) x o, one))

  the_rest : (d : ℕ) → d < length columns → get_or columns d 0 ≡ x → (z : ℕ) → count_by (λ c. eqb c z) o ≡ count_by (λ c. eqb c z) (remove columns d)
  the_rest d l e z =
      let same : ◌≡◌ {A = ℕ} (cond (eqb (get_or columns d 0) z) 1 0) (cond (eqb x z) 1 0) = rw e in
      omega (arith, counts z, count_by_cons (λ c. eqb c z) x o, count_by_removed (λ c. eqb c z) columns d l, same)

-- Every arrangement is spelled by a list of digits.
pub arranged_reached : (o columns : List ℕ) → length o ≡ length columns → ((x : ℕ) → count_by (λ c. eqb c x) o ≡ count_by (λ c. eqb c x) columns) →
    (ds : List ℕ) × Falling (length columns) ds × (arranged columns ds ≡ o)
arranged_reached [] columns size counts = ([], omega arith, nil_from_length columns (sym size))
arranged_reached (x ∷ []) columns size counts =
    let found = the_first x [] columns counts in
    let here : found.0 ≡ 0 = omega (arith, found.1) in
    ([], omega arith, alone columns (sym size) ∙ ap (λ y. y ∷ []) (ap (λ d. get_or columns d 0) (sym here) ∙ found.2))
arranged_reached (x ∷ y ∷ o) columns size counts =
    let found = the_first x (y ∷ o) columns counts in
    let d = found.0 in
    let less = length-remove columns d found.1 in
    let later = arranged_reached (y ∷ o) (remove columns d) (omega arith) (λ z. the_rest x (y ∷ o) columns counts d found.1 found.2 z) in
    let fewer : length (remove columns d) ≡ length columns - 1 = omega arith in
    let P : ℕ → Type 0 = λ n. Falling n later.0 in
    (d ∷ later.0, (omega arith, found.1, subst P fewer later.1), ap₂ (λ z l. z ∷ l) found.2 later.2)
