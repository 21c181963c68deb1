-- Lists of digits and permutations of the columns are in bijection: the clauses `permutation` and `bijection` of `draw_order`.
use Rattle.std.proofs.Common.{◌≡◌, ℕ, zero, suc, ◌+◌, ◌<◌, ◌≤◌, cond, eqb, ltb, List, [], ◌∷◌, length, Some, Option, count_by, sym, refl, ap, ◌∙◌, subst, inl, inr, add-one, arith}
use Rattle.std.specs.List.{All}
use Rattle.std.proofs.lemmas.List.FromFn.{length-range_with_len, get_or-range_with_len}
use Rattle.std.proofs.lemmas.List.Elements.{All-from_get_or}
use Rattle.std.proofs.lemmas.Bool.{lt-ltb, le-ltb, cases_lt}
use Rattle.std.proofs.lemmas.Bool.Decides.{nat_tests}
use Rattle.tapes.specs.Drawing.{drawn, DrawnInPlace}
use Rattle.tapes.specs.Orders.{digits, columns, arranged, arranging, order}
use Rattle.tapes.specs.Permutations.{Permutation, OneToOne}
use Rattle.tapes.proofs.Drawing.{both_drawn}
use Rattle.tapes.proofs.Outcomes.{arranging_columns}
use Rattle.tapes.proofs.Counts.{count_by_counting_more}
use Rattle.tapes.proofs.Removals.{count_by_cons, Distinct}
use Rattle.tapes.proofs.Arrangements.{Arranged, arranged_by, arranged_apart, arranged_reached, Falling}
use Rattle.tapes.proofs.DigitLists.{falling, digit_list, digits_falling, digits_themselves}

-- How often a number stands among the columns.
one_more : (j m a : ℕ) → a ≡ cond (ltb j m) 1 0 → a + cond (eqb m j) 1 0 ≡ cond (ltb j (suc m)) 1 0
one_more j m a e = grind (arith, nat_tests)

pub column_count : (j m : ℕ) → count_by (λ c. eqb c j) (columns m) ≡ cond (ltb j m) 1 0
column_count j zero = grind (arith, nat_tests)
column_count j (suc m) =
    ap (λ n. count_by (λ c. eqb c j) (columns n)) (sym (add-one m)) ∙ count_by_counting_more (λ c. eqb c j) m ∙ one_more j m _ (column_count j m)

pub columns_distinct : (m : ℕ) → Distinct (columns m)
columns_distinct m i j hi hj e =
    let size = length-range_with_len 0 m in
    omega (arith, get_or-range_with_len 0 m i 0 (omega arith), get_or-range_with_len 0 m j 0 (omega arith))

pub columns_below : (m : ℕ) → All (λ j. j < m) (columns m)
columns_below m =
    All-from_get_or (λ j. j < m) (columns m) 0 (λ i l.
    let size = length-range_with_len 0 m in
    omega (arith, get_or-range_with_len 0 m i 0 (omega arith)))

pub permutation_of : (m : ℕ) (o : List ℕ) → Arranged (columns m) o → Permutation m o
permutation_of m o h = record {
  size = h.size ∙ length-range_with_len 0 m;
  once = λ j l. h.counts (λ c. eqb c j) ∙ column_count j m ∙ ap (λ t. cond t 1 0) (lt-ltb j m l);
}

-- In a permutation no other number stands: the columns fill its places.
count_none : (o : List ℕ) → count_by (λ c. ltb c 0) o ≡ 0
count_none [] = refl
count_none (x ∷ o) =
    let none : ◌≡◌ {A = ℕ} (cond (ltb x 0) 1 0) 0 = rw (le-ltb x 0 (omega arith)) in
    omega (arith, count_by_cons (λ c. ltb c 0) x o, count_none o, none)

count_next : (n : ℕ) (o : List ℕ) → count_by (λ c. ltb c (suc n)) o ≡ count_by (λ c. ltb c n) o + count_by (λ c. eqb c n) o
count_next n [] = refl
count_next n (x ∷ o) =
    let one : ◌≡◌ {A = ℕ} (cond (ltb x (suc n)) 1 0) (cond (ltb x n) 1 0 + cond (eqb x n) 1 0) = grind (arith, nat_tests) in
    omega (arith, count_by_cons (λ c. ltb c (suc n)) x o, count_by_cons (λ c. ltb c n) x o, count_by_cons (λ c. eqb c n) x o, count_next n o, one)

count_below : (o : List ℕ) (n : ℕ) → ((j : ℕ) → j < n → count_by (λ c. eqb c j) o ≡ 1) → count_by (λ c. ltb c n) o ≡ n
count_below o zero once = count_none o
count_below o (suc n) once =
    omega (arith, count_next n o, count_below o n (λ j l. once j (omega arith)), once n (omega arith))

count_apart : (m z : ℕ) → m ≤ z → (o : List ℕ) → count_by (λ c. ltb c m) o + count_by (λ c. eqb c z) o ≤ length o
count_apart m z l [] = omega arith
count_apart m z l (x ∷ o) =
    let one : cond (ltb x m) 1 0 + cond (eqb x z) 1 0 ≤ 1 = grind (arith, nat_tests) in
    omega (arith, count_by_cons (λ c. ltb c m) x o, count_by_cons (λ c. eqb c z) x o, count_apart m z l o, one)

pub permutation_counts : (m : ℕ) (o : List ℕ) → Permutation m o → (z : ℕ) → count_by (λ c. eqb c z) o ≡ count_by (λ c. eqb c z) (columns m)
permutation_counts m o h z = elim (cases_lt z m) [
  | inl below ↦ h.once z below ∙ sym (column_count z m ∙ ap (λ t. cond t 1 0) (lt-ltb z m below))
  | inr above ↦
      let none : count_by (λ c. eqb c z) o ≡ 0 = omega (arith, count_apart m z above o, count_below o m h.once, h.size) in
      none ∙ sym (column_count z m ∙ ap (λ t. cond t 1 0) (le-ltb z m above))
]

module _ (m : ℕ) where
  as_many : (ds : List ℕ) → Falling m ds → Falling (length (columns m)) ds
  as_many ds h = let P : ℕ → Type 0 = λ n. Falling n ds in subst P (sym (length-range_with_len 0 m)) h

  pub one_to_one : OneToOne m
  one_to_one = record {
    arranges = λ ds h. permutation_of m _ (arranged_by (columns m) ds (as_many ds (falling m ds h)));
    reaches = λ o h.
        let found = arranged_reached o (columns m) (h.size ∙ sym (length-range_with_len 0 m)) (permutation_counts m o h) in
        let P : ℕ → Type 0 = λ n. Falling n found.0 in
        (found.0, digit_list m found.0 (subst P (length-range_with_len 0 m) found.1), found.2);
    apart = λ ds es h k e. arranged_apart (columns m) ds es (columns_distinct m) (as_many ds (falling m ds h)) (as_many es (falling m es k)) e;
    draws = λ tape ds rest e. digit_list m ds (digits_falling m tape ds rest e);
    drawable = λ most ds h. digits_themselves m most ds (falling m ds h);
  }

  -- An order that was drawn arranges the columns.
  pub order_arranged : (tape o rest : List ℕ) → order m tape ≡ drawn o rest → Arranged (columns m) o
  order_arranged tape o rest e =
      let parts = both_drawn (digits m tape) (λ ds left. drawn (arranged (columns m) ds) left) o rest e in
      let whole = parts.3 in
      let is : arranged (columns m) parts.0 ≡ o = cc in
      subst (Arranged (columns m)) is (arranged_by (columns m) parts.0 (as_many parts.0 (digits_falling m tape parts.0 parts.1 parts.2)))

  pub order_permutation : (tape o rest : List ℕ) → order m tape ≡ drawn o rest → Permutation m o
  order_permutation tape o rest e = permutation_of m o (order_arranged tape o rest e)

  pub order_within : (tape o rest : List ℕ) → order m tape ≡ drawn o rest → All (λ j. j < m) o
  order_within tape o rest e = (order_arranged tape o rest e).below m (columns_below m)

-- Columns in rising order that were arranged in place.
pub arranged_permutation : (m : ℕ) (start tape o rest : List ℕ) (r : Option (Unit {0})) → start ≡ columns m →
    DrawnInPlace (arranging (length start) start tape) r o rest → r ≡ Some tt → Permutation m o
arranged_permutation m start tape o rest r rising drew some =
    order_permutation m tape o rest (sym (arranging_columns m start tape rising) ∙ (rw some at drew))
