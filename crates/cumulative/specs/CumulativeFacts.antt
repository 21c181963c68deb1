-- The cumulative scheme: the four laws for every proper list of minimal sets, reduced to the rows of all of t, and the levels.
use Rattle.std.proofs.Common.{◌≡◌, ℕ, zero, suc, ◌+◌, ◌-◌, ◌^◌, ◌<◌, ◌≤◌, Bool, true, false, not, ◌&&◌, ltb, leb, ◌⊎◌, List, length, get_or, sym, refl, ap, ◌∙◌, inl, inr, add-one, arith, pow_pos, pow_mono}
use Rattle.std.proofs.lemmas.Bool.{lt-ltb, le-leb, lt-leb, ltb-true, cases_lt, cases_eq, and_parts, and_from, and_left, and_right, not_from_true, not_from_false}
use Rattle.std.proofs.lemmas.Bool.Decides.{Decides-and}
use Rattle.schemes.specs.AllOf.{row, all_of}
use Rattle.schemes.specs.Bits.{bit, any_below}
use Rattle.schemes.specs.Keyholders.{most_keyholders}
use Rattle.schemes.specs.Laws.{InRange, Renumbering, Lawful}
use Rattle.schemes.specs.declared.colour.Colour.{Colour}
use Rattle.schemes.specs.declared.colour.Colour.TheVariants.{White, Black}
use Rattle.schemes.specs.TestFacts.{any_true, any_false, any_same}
use Rattle.schemes.specs.BitFacts.{bit_of_0}
use Rattle.schemes.specs.AllOfFacts.{hide_row, white_0, black_all, white_rest, all_show, all_light, all_dark}
use Rattle.schemes.specs.TableFacts.{LawfulRows, row_stack, tabled_lawful, tabled_in_range, light_is, dark_is, cell_in, keyholder_past, column_past}
use Rattle.cumulative.specs.Access.{qualifies, forbidden_sets}
use Rattle.cumulative.specs.Cumulative.{all_row, film_row, cumulative, LevelsOfSets, OpensToQualified}
use Rattle.cumulative.specs.Records.{noted, lacks, in_record}
use Rattle.cumulative.specs.Making.{ProperSets}
use Rattle.cumulative.specs.AccessFacts.{qualifies_decided, qualifies_more, covered, outside, everyone_qualifies, some_forbidden}

-- ---- the rows of all of t

-- Row q at a column, as all of t has it.
all_row_is : (t : ℕ) (c : Colour) (q j : ℕ) → q < t → j < 2 ^ (t - 1) → all_row t c q j ≡ row (t - 1) c q j
all_row_is t c q j p l = cell_in t (2 ^ (t - 1)) (row (t - 1) c) q j p l

lacks_in : (F : List ℕ) (k q : ℕ) → q < length F → lacks F (suc k) q ≡ not (bit (get_or F q 0) k)
lacks_in F k q l = rw (lt-ltb q (length F) l) refl

-- ---- what a set of keyholders has together

module _ (n : ℕ) (minimal : List ℕ) (s : ProperSets n minimal) where
  abbrev F : List ℕ
  F = forbidden_sets n minimal

  abbrev t : ℕ
  t = length F

  abbrev r : ℕ
  r = t - 1

  -- where all the rows are white, so is every stack
  stack_white : (set : ℕ) (c : Colour) (j : ℕ) → j < 2 ^ r → ((q : ℕ) → row r c q j ≡ false) → row_stack n (film_row F c) set j ≡ false
  unfolding film_row
  stack_white set c j l h =
      any_false n (λ k. bit set k && film_row F c k j)
      (λ k b. and_right (bit set k) (film_row F c k j)
      (any_false t (λ q. lacks F (suc k) q && all_row t c q j)
      (λ q p. and_right (lacks F (suc k) q) (all_row t c q j) (all_row_is t c q j p l ∙ h q))))

  -- where some row is black, so is the stack of a qualified set: somebody in it is not in that row's forbidden set
  stack_black : (set : ℕ) → set < 2 ^ n → qualifies minimal set ≡ true → (c : Colour) (j : ℕ) → j < 2 ^ r
      → (q : ℕ) × (q < suc r) × (row r c q j ≡ true) → row_stack n (film_row F c) set j ≡ true
  unfolding film_row
  stack_black set l e c j b u =
      let p : u.0 < t = omega (arith, u.1, some_forbidden n minimal s) in
      let v = outside n minimal set u.0 l e p in
      any_true n (λ k. bit set k && film_row F c k j) v.0 v.1
      (and_from (bit set v.0) (film_row F c v.0 j) v.2.0
      (any_true t (λ i. lacks F (suc v.0) i && all_row t c i j) u.0 p
      (and_from (lacks F (suc v.0) u.0) (all_row t c u.0 j)
      (lacks_in F v.0 u.0 p ∙ not_from_false (bit (get_or F u.0 0) v.0) v.2.1)
      (all_row_is t c u.0 j p b ∙ u.2))))

  -- who is in forbidden set i has not row i, so that the renumbering without it serves him
  row_hidden : (i : ℕ) (ren : Renumbering (2 ^ r)) → ((x y : ℕ) → (x ≡ i → ⊥) → x < suc r → row r Black x y ≡ row r White x (ren.to y))
      → (k j : ℕ) → bit (get_or F i 0) k ≡ true → j < 2 ^ r → film_row F Black k j ≡ film_row F White k (ren.to j)
  unfolding film_row
  row_hidden i ren h k j b l =
      any_same t (λ q. lacks F (suc k) q && all_row t Black q j) (λ q. lacks F (suc k) q && all_row t White q (ren.to j))
      (λ q p. go q p (cases_eq q i))
    where
      go : (q : ℕ) → q < t → (q ≡ i) ⊎ (q ≡ i → ⊥) → (lacks F (suc k) q && all_row t Black q j) ≡ (lacks F (suc k) q && all_row t White q (ren.to j))
      go q p (inl e) = rw (lacks_in F k q p ∙ not_from_true (bit (get_or F q 0) k) (ap (λ (x : ℕ). bit (get_or F x 0) k) e ∙ b)) refl
      go q p (inr e) =
          ap (λ (x : Bool). lacks F (suc k) q && x)
          (all_row_is t Black q j p l ∙ h q j e (omega (arith, some_forbidden n minimal s, p)) ∙ sym (all_row_is t White q (ren.to j) p (ren.to_below j l)))

  -- ---- the laws

  rows : LawfulRows n (2 ^ r) (film_row F) (qualifies minimal)
  rows = record {
    all_qualify = everyone_qualifies n minimal s;
    more_qualify = λ a b p q w e. qualifies_more minimal a b w e;
    shows = λ set l e.
        all_show r (row_stack n (film_row F White) set) (row_stack n (film_row F Black) set)
        (stack_white set White 0 (pow_pos r) (white_0 r))
        (λ j b. stack_black set l e Black j b (black_all r j));
    hides = λ set l e.
        let u = covered n minimal set l e in
        let v = hide_row r u.0 (omega (arith, u.1)) in
        (v.0, λ k j p m b. row_hidden u.0 v.0 v.1 k j (u.2 (suc k) m) b);
  }

  pub cumulative_lawful : Lawful (cumulative n minimal)
  cumulative_lawful = tabled_lawful n (2 ^ r) (film_row F) (qualifies minimal) rows

  pub cumulative_in_range : t ≤ most_keyholders → InRange (cumulative n minimal)
  cumulative_in_range l = tabled_in_range n (2 ^ r) (film_row F) (qualifies minimal) s.least s.most (pow_pos r) (pow_mono {j = 7} (omega arith))

  -- ---- the levels

  pub cumulative_levels : LevelsOfSets n minimal
  cumulative_levels = record {
    light_level = λ set e.
        let u = and_parts (ltb set (2 ^ n)) (qualifies minimal set) e in
        let l = ltb-true set (2 ^ n) u.0 in
        light_is n (2 ^ r) (film_row F) (qualifies minimal) set
        ∙ all_light r (row_stack n (film_row F White) set) (stack_white set White 0 (pow_pos r) (white_0 r))
        (λ j p b. stack_black set l u.1 White j b (white_rest r j p b));
    dark_level = λ set e.
        let u = and_parts (ltb set (2 ^ n)) (qualifies minimal set) e in
        let l = ltb-true set (2 ^ n) u.0 in
        dark_is n (2 ^ r) (film_row F) (qualifies minimal) set
        ∙ all_dark r (row_stack n (film_row F Black) set) (λ j b. stack_black set l u.1 Black j b (black_all r j));
  }

-- ---- who is qualified, in words

pub cumulative_access : (n : ℕ) (minimal : List ℕ) → OpensToQualified n minimal
cumulative_access n minimal set =
    Decides-and (ltb set (2 ^ n)) (qualifies minimal set) (ltb-true set (2 ^ n), lt-ltb set (2 ^ n)) (qualifies_decided minimal set)

-- ---- the records

-- the record of anybody who is not a keyholder
pub record_outside : (n : ℕ) (F : List ℕ) (i x q : ℕ) → (i < 1) ⊎ (n < i) → x ≡ 0 → noted x q ≡ in_record n F i q
record_outside n F i x q h e = ap (λ (y : ℕ). noted y q) e ∙ bit_of_0 q ∙ sym (go h)
  where
    go : (i < 1) ⊎ (n < i) → in_record n F i q ≡ false
    go (inl l) = ap (λ (b : Bool). (b && leb i n) && lacks F i q) (lt-leb 1 i l)
    go (inr l) = ap (λ (b : Bool). b && lacks F i q) (and_right (leb 1 i) (leb i n) (lt-leb i n l))

-- the record of keyholder i of 1 to n
pub record_inside : (n : ℕ) (F : List ℕ) (i x q : ℕ) → 1 ≤ i → i ≤ n → noted x q ≡ lacks F i q → noted x q ≡ in_record n F i q
record_inside n F i x q p l e = e ∙ sym (ap (λ (b : Bool). b && lacks F i q) (and_from (leb 1 i) (leb i n) (le-leb 1 i p) (le-leb i n l)))

-- ---- the cell of a keyholder, by his record

-- what the loop over the rows asks
abbrev pub has_row : (n : ℕ) (F : List ℕ) (c : Colour) (i j q : ℕ) → Bool
has_row n F c i j q = in_record n F i q && all_row (length F) c q j

pub cell_by_record : (n : ℕ) (minimal : List ℕ) (c : Colour) (i j : ℕ)
    → any_below (length (forbidden_sets n minimal)) (has_row n (forbidden_sets n minimal) c i j) ≡ (cumulative n minimal).cell c i j
unfolding film_row
cell_by_record n minimal c i j = go i (cases_lt j (2 ^ (length F - 1)))
  where
    F : List ℕ
    F = forbidden_sets n minimal

    -- past the last column all of t has no cell
    past : (i : ℕ) → 2 ^ (length F - 1) ≤ j → any_below (length F) (has_row n F c i j) ≡ false
    past i l = any_false (length F) (has_row n F c i j) (λ q p. and_right (in_record n F i q) (all_row (length F) c q j) (column_past (length F) (2 ^ (length F - 1)) (row (length F - 1) c) (suc q) j l))

    none : (i : ℕ) → ((q : ℕ) → in_record n F i q ≡ false) → any_below (length F) (has_row n F c i j) ≡ false
    none i h = any_false (length F) (has_row n F c i j) (λ q p. and_left (in_record n F i q) (all_row (length F) c q j) (h q))

    inside : (k : ℕ) → k < n → j < 2 ^ (length F - 1) → any_below (length F) (has_row n F c (suc k) j) ≡ (cumulative n minimal).cell c (suc k) j
    inside k p l =
        any_same (length F) (has_row n F c (suc k) j) (λ q. lacks F (suc k) q && all_row (length F) c q j)
        (λ q b. ap (λ (x : Bool). (x && lacks F (suc k) q) && all_row (length F) c q j) (and_from (leb 1 (suc k)) (leb (suc k) n) (le-leb 1 (suc k) (omega arith)) (le-leb (suc k) n p)))
        ∙ sym (cell_in n (2 ^ (length F - 1)) (film_row F c) k j p l)

    go : (i : ℕ) → (j < 2 ^ (length F - 1)) ⊎ (2 ^ (length F - 1) ≤ j) → any_below (length F) (has_row n F c i j) ≡ (cumulative n minimal).cell c i j
    go zero d = none zero (λ q. ap (λ (b : Bool). (b && leb 0 n) && lacks F 0 q) (lt-leb 1 0 (omega arith)))
    go (suc k) (inr l) = past (suc k) l ∙ sym (column_past n (2 ^ (length F - 1)) (film_row F c) (suc k) j l)
    go (suc k) (inl l) = elim (cases_lt k n) [
      | inl p ↦ inside k p l
      | inr p ↦
          none (suc k) (λ q. ap (λ (b : Bool). b && lacks F (suc k) q) (and_right (leb 1 (suc k)) (leb (suc k) n) (lt-leb (suc k) n (omega arith))))
          ∙ sym (keyholder_past n (2 ^ (length F - 1)) (film_row F c) (suc k) j (omega arith))
    ]

-- what all of t answers for row q
pub row_asked : (t : ℕ) (F : List ℕ) (c : Colour) (j q : ℕ) (answer : Bool) → length F ≡ t → answer ≡ (all_of t).cell c (q + 1) j → all_row (length F) c q j ≡ answer
row_asked t F c j q answer e h = ap (λ (x : ℕ). all_row x c q j) e ∙ ap (λ (x : ℕ). (all_of t).cell c x j) (sym (add-one q)) ∙ sym h

-- as many maximal forbidden sets as the table has rows, which are at most 8
pub few_forbidden : (forbidden : List ℕ) (t : ℕ) → length forbidden ≡ t → t ≤ most_keyholders → length forbidden ≤ most_keyholders
few_forbidden forbidden t e l = omega arith
