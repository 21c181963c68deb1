-- Which bytes spell a digit, and how many: for `draw_digit` and its clause `fair`.
use Rattle.std.proofs.Common.{◌≡◌, ℕ, zero, suc, ◌+◌, ◌*◌, ◌/◌, ◌%◌, ◌<◌, ◌≤◌, Bool, true, false, cond, eqb, ltb, List, [], ◌∷◌, Some, count_by, sym, refl, ap, ◌∙◌, suc-mul, add-one, arith}
use Rattle.std.specs.List.{range_with_len}
use Rattle.std.proofs.lemmas.Bool.{lt-ltb, le-ltb}
use Rattle.std.proofs.lemmas.Nat.{mod_below, div-add-mod', mod-mul-add, div-mul-add}
use Rattle.std.proofs.lemmas.Bool.Decides.{nat_tests}
use Rattle.tapes.specs.Drawing.{drawn, value_of, rest_of}
use Rattle.tapes.specs.Digits.{bound, digit, spells, Fair}
use Rattle.tapes.proofs.Drawing.{from_answer}
use Rattle.tapes.proofs.Counts.{count_by_counting_more}

module _ (b : ℕ) (some : 0 < b) where
  -- The bound ends a whole number of rows.
  pub bound_rows : bound b ≡ 256 / b * b
  bound_rows = omega (arith, div-add-mod' 256 b)

  module _ (d : ℕ) where
    -- How many of the first n bytes spell d.
    abbrev among : ℕ → ℕ
    among n = count_by (spells b d) (range_with_len 0 n)

    spells_kept : (x : ℕ) → x < bound b → spells b d x ≡ eqb (x % b) d
    spells_kept x h = rw (lt-ltb x (bound b) h)

    pub spells_thrown : (x : ℕ) → bound b ≤ x → spells b d x ≡ false
    spells_thrown x h = rw (le-ltb x (bound b) h)

    among_more : (n : ℕ) → among (suc n) ≡ among n + cond (spells b d n) 1 0
    among_more n = ap among (sym (add-one n)) ∙ count_by_counting_more (spells b d) n

    step : (q r a : ℕ) → a ≡ q + cond (ltb d r) 1 0 → a + cond (eqb r d) 1 0 ≡ q + cond (ltb d (suc r)) 1 0
    step q r a e = grind (arith, nat_tests)

    -- Each whole row has one byte that spells d; a part of a row has it if it reaches d.
    in_row : (q r : ℕ) → among (q * b) ≡ q → r ≤ b → q * b + r ≤ bound b → among (q * b + r) ≡ q + cond (ltb d r) 1 0
    in_row q zero rows _ _ = let same : q * b + 0 ≡ q * b = omega arith in rw same (rows ∙ grind (arith, nat_tests))
    in_row q (suc r) rows l in' =
        let before = in_row q r rows (omega arith) (omega arith) in
        let one : among (suc (q * b + r)) ≡ among (q * b + r) + cond (eqb r d) 1 0 =
        among_more (q * b + r) ∙ ap (λ t. among (q * b + r) + cond t 1 0) (spells_kept (q * b + r) (omega arith) ∙ ap (λ e. eqb e d) (mod-mul-add q b r (omega arith))) in
        let next : q * b + suc r ≡ suc (q * b + r) = omega arith in
        rw next (one ∙ step q r (among (q * b + r)) before)

    in_rows : d < b → (q : ℕ) → q * b ≤ bound b → among (q * b) ≡ q
    in_rows h zero _ = let none : 0 * b ≡ 0 = omega arith in rw none refl
    in_rows h (suc q) l =
        let more = suc-mul q b in
        let row = in_row q b (in_rows h q (omega arith)) (omega arith) (omega arith) in
        ap among more ∙ row ∙ ap (λ t. q + cond t 1 0) (lt-ltb d b h) ∙ add-one q

    -- No byte from the bound on spells it.
    past_bound : (n k : ℕ) → bound b ≤ n → among (n + k) ≡ among n
    past_bound n zero h = let same : n + 0 ≡ n = omega arith in ap among same
    past_bound n (suc k) h =
        let next : n + suc k ≡ suc (n + k) = omega arith in
        let none : among (n + k) + 0 ≡ among (n + k) = omega arith in
        ap among next ∙ among_more (n + k) ∙ ap (λ t. among (n + k) + cond t 1 0) (spells_thrown (n + k) (omega arith)) ∙ none ∙ past_bound n k h

  pub fair : Fair b
  fair = record {
    equally = λ d h.
        let whole : bound b + 256 % b ≡ 256 = omega (arith, div-add-mod' 256 b) in
        let even : bound b ≡ 256 / b * b + 0 = omega (arith, bound_rows) in
        let rows : bound b / b ≡ 256 / b = ap (λ n. n / b) even ∙ div-mul-add (256 / b) b 0 some in
        ap (among d) (sym whole) ∙ past_bound d (bound b) (256 % b) (omega arith) ∙ ap (among d) bound_rows ∙ in_rows d h (256 / b) (omega (arith, bound_rows)) ∙ sym rows;
    thrown = λ d x h. spells_thrown d x h;
  }

-- A digit is below its base.
pub digit_below : (b : ℕ) → 0 < b → (t : List ℕ) (d : ℕ) (rest : List ℕ) → digit b t ≡ drawn d rest → d < b
digit_below b some [] d rest e = let z : ◌≡◌ {A = ℕ} 0 1 = cc in absurd (omega arith)
digit_below b some (x ∷ t) d rest e = go (digit_below b some t d rest) (ltb x (bound b)) e
  where
    go : (digit b t ≡ drawn d rest → d < b) → (kept : Bool) → cond kept (drawn (x % b) t) (digit b t) ≡ drawn d rest → d < b
    go later true f = let is : x % b ≡ d = cc in omega (arith, mod_below x b some)
    go later false f = later f

pub drawn_below : (b d : ℕ) (t : List ℕ) → 0 < b → Some d ≡ value_of (digit b t) → d < b
drawn_below b d t some e = digit_below b some t d (rest_of (digit b t)) (from_answer d _ (digit b t) e refl)
