-- One square after another is set on the strips of an output. For `set_square`.
use Rattle.std.proofs.Common.{◌≡◌, ℕ, zero, suc, ◌+◌, ◌-◌, ◌*◌, ◌/◌, ◌%◌, ◌^◌, ◌<◌, Bool, true, false, ◌&&◌, ◌||◌, eqb, ltb, ◌⊎◌, List, length, get_or, set, sym, refl, ap, ◌∙◌, ap₂, inl, inr, one-mul, zero-mul, arith}
use lib.Bits.{bit_or}
use Rattle.std.proofs.lemmas.List.{get_or-set_same, get_or-set_other, get_or-drop}
use Rattle.std.proofs.lemmas.Bool.{cases_eq, eq-eqb, ne_eqb, lt-ltb, le-ltb, and_left, and_right}
use Rattle.std.proofs.lemmas.Bool.Decides.{nat_tests}
use Rattle.std.proofs.lemmas.Nat.{or_lt, mul-add-lt, div-mul-add, mod_below, shl_whole}
use Rattle.schemes.specs.Bits.{bit}
use Rattle.schemes.specs.BitFacts.{bit_of_0, bit_pow, bit-or}
use Rattle.schemes.specs.PackedRows.{bit_at}
use Rattle.maker.specs.Filling.{film_bit, AllBytes, Blackened, one_square}

pub or_none : (x : Bool) {y : Bool} → y ≡ false → (x || y) ≡ x
or_none true e = refl
or_none false e = e

or_either : (x : Bool) {y z u : Bool} → y ≡ false → z ≡ u → ((x || y) || z) ≡ (x || u)
or_either true e d = refl
or_either false e d = rw e d

or_kept : (x : Bool) {y z u : Bool} → z ≡ false → y ≡ u → ((x || y) || z) ≡ (x || u)
or_kept x {y} {z} {u} e d = or_none (x || y) e ∙ ap (λ t. x || t) d

and_both : {x y : Bool} → x ≡ true → (x && y) ≡ y
and_both {x} {y} e = ap (λ t. t && y) e

-- a digit, shifted, has one bit
shifted_bit : (v s i : ℕ) → v < 2 → bit (v * 2 ^ s) i ≡ (eqb i s && eqb v 1)
shifted_bit zero s i l = ap (λ x. bit x i) (zero-mul (2 ^ s)) ∙ bit_of_0 i ∙ sym (and_right (eqb i s) false refl)
shifted_bit (suc zero) s i l = ap (λ x. bit x i) (one-mul (2 ^ s)) ∙ bit_pow s i ∙ and_yes (eqb i s)
  where
    and_yes : (x : Bool) → x ≡ (x && true)
    and_yes true = refl
    and_yes false = refl
shifted_bit (suc (suc v)) s i l = absurd (omega arith)

-- which byte and which of its bits a square is
pub film_bit_is : (size : ℕ) (out : List ℕ) (k b : ℕ) → film_bit size out k b ≡ bit (get_or out (k * size + b / 8) 0) (7 - b % 8)
unfolding bit_at
film_bit_is size out k b = ap (λ (x : ℕ). bit x (7 - b % 8)) (get_or-drop (k * size) out (b / 8) 0)

module _ (out : List ℕ) (size k at v : ℕ) (fits : k * size + at / 8 < length out) (inside : at < 8 * size) (small : v < 2) where
  abbrev spot : ℕ
  spot = k * size + at / 8

  abbrev new : ℕ
  new = bit_or (get_or out spot 0) (v * 2 ^ (7 - at % 8))

  same_tests : (k' b : ℕ) → k' ≡ k → b / 8 ≡ at / 8 → (eqb (7 - b % 8) (7 - at % 8) && eqb v 1) ≡ (eqb k' k && (eqb b at && eqb v 1))
  same_tests k' b e d =
      let same : eqb (7 - b % 8) (7 - at % 8) ≡ eqb b at = grind (arith, nat_tests) in
      ap (λ t. t && eqb v 1) same ∙ sym (and_both (eq-eqb k' k e))

  other_tests : (k' b : ℕ) → (k' * size + b / 8 ≡ spot → ⊥) → (eqb k' k && (eqb b at && eqb v 1)) ≡ false
  other_tests k' b ne = go (cases_eq k' k) (cases_eq b at)
    where
      go : (k' ≡ k) ⊎ (k' ≡ k → ⊥) → (b ≡ at) ⊎ (b ≡ at → ⊥) → (eqb k' k && (eqb b at && eqb v 1)) ≡ false
      go (inl e) (inl d) = absurd (ne (ap₂ (λ x y. x * size + y / 8) e d))
      go (inl e) (inr d) = and_right (eqb k' k) _ (and_left (eqb b at) (eqb v 1) (ne_eqb b at d))
      go (inr e) _ = and_left (eqb k' k) _ (ne_eqb k' k e)

  pub square_set : (k' b : ℕ) → b < 8 * size → film_bit size (set out spot new) k' b ≡ (film_bit size out k' b || (eqb k' k && (eqb b at && eqb v 1)))
  square_set k' b l = go (cases_eq (k' * size + b / 8) spot)
    where
      go : (k' * size + b / 8 ≡ spot) ⊎ (k' * size + b / 8 ≡ spot → ⊥) → film_bit size (set out spot new) k' b ≡ (film_bit size out k' b || (eqb k' k && (eqb b at && eqb v 1)))
      go (inl e) =
          let strip : k' ≡ k = sym (div-mul-add k' size (b / 8) (omega arith)) ∙ ap (λ x. x / size) e ∙ div-mul-add k size (at / 8) (omega arith) in
          let byte : b / 8 ≡ at / 8 = omega (arith, ap (λ x. x * size) strip) in
          film_bit_is size (set out spot new) k' b ∙ ap (λ j. bit (get_or (set out spot new) j 0) (7 - b % 8)) e
          ∙ ap (λ x. bit x (7 - b % 8)) (get_or-set_same out spot new 0 fits)
          ∙ bit-or (get_or out spot 0) (v * 2 ^ (7 - at % 8)) (7 - b % 8)
          ∙ ap₂ (λ x y. x || y) (ap (λ j. bit (get_or out j 0) (7 - b % 8)) (sym e) ∙ sym (film_bit_is size out k' b)) (shifted_bit v (7 - at % 8) (7 - b % 8) small ∙ same_tests k' b strip byte)
      go (inr ne) =
          film_bit_is size (set out spot new) k' b ∙ ap (λ x. bit x (7 - b % 8)) (get_or-set_other out spot (k' * size + b / 8) new 0 ne) ∙ sym (film_bit_is size out k' b)
          ∙ sym (or_none (film_bit size out k' b) (other_tests k' b ne))

-- one more strip
merge_strip : (x : Bool) (f : ℕ → Bool) (k' k : ℕ) → ((x || (ltb k' k && f k')) || (eqb k' k && f k)) ≡ (x || (ltb k' (k + 1) && f k'))
merge_strip x f k' k = go (cases_eq k' k)
  where
    go : (k' ≡ k) ⊎ (k' ≡ k → ⊥) → ((x || (ltb k' k && f k')) || (eqb k' k && f k)) ≡ (x || (ltb k' (k + 1) && f k'))
    go (inl e) =
        or_either x (and_left (ltb k' k) _ (le-ltb k' k (omega arith)))
        (and_both (eq-eqb k' k e) ∙ ap f (sym e) ∙ sym (and_both (lt-ltb k' (k + 1) (omega arith))))
    go (inr ne) =
        let same : ltb k' k ≡ ltb k' (k + 1) = grind (arith, nat_tests) in
        or_kept x (and_left (eqb k' k) _ (ne_eqb k' k ne)) (ap (λ t. t && f k') same)

pub bytes_set : (out : List ℕ) (i x : ℕ) → i < length out → x < 256 → AllBytes out → AllBytes (set out i (bit_or (get_or out i 0) x))
bytes_set out i x within l all j = go (cases_eq j i)
  where
    go : (j ≡ i) ⊎ (j ≡ i → ⊥) → get_or (set out i (bit_or (get_or out i 0) x)) j 0 < 256
    go (inl e) = omega (arith, ap (λ k. get_or (set out i (bit_or (get_or out i 0) x)) k 0) e, get_or-set_same out i (bit_or (get_or out i 0) x) 0 within, or_lt 8 (get_or out i 0) x (all i) l)
    go (inr ne) = omega (arith, get_or-set_other out i j (bit_or (get_or out i 0) x) 0 ne, all j)

-- So many strips have the square, and one more gets it.
module _ (n size at cells : ℕ) (before : List ℕ) where
  square_of : ℕ → ℕ → Bool
  square_of b k = one_square at cells k b

  pub strip_more : at < 8 * size → (k : ℕ) (out : List ℕ) → Blackened n size before out (λ k' b. ltb k' k && one_square at cells k' b) → k < n → length out ≡ n * size →
      Blackened n size before (set out (k * size + at / 8) (bit_or (get_or out (k * size + at / 8) 0) (cells / 2 ^ k % 2 * 2 ^ (7 - at % 8) % 256))) (λ k' b. ltb k' (k + 1) && one_square at cells k' b)
  unfolding bit square_of
  strip_more inside k out h l long =
      let v = cells / 2 ^ k % 2 in
      let small : v < 2 = mod_below (cells / 2 ^ k) 2 (omega arith) in
      let value : v * 2 ^ (7 - at % 8) % 256 ≡ v * 2 ^ (7 - at % 8) = shl_whole v 1 (7 - at % 8) 8 small (omega arith) in
      let within : k * size + at / 8 < length out = omega (arith, long, mul-add-lt k size (at / 8) n l (omega arith)) in
      record {
        bytes = λ all. bytes_set out (k * size + at / 8) _ within (mod_below (v * 2 ^ (7 - at % 8)) 256 (omega arith)) (h.bytes all);
        bits = λ k' b lk lb.
            ap (λ x. film_bit size (set out (k * size + at / 8) (bit_or (get_or out (k * size + at / 8) 0) x)) k' b) value
            ∙ square_set out size k at v within inside small k' b lb
            ∙ ap (λ x. x || (eqb k' k && (eqb b at && eqb v 1))) (h.bits k' b lk lb)
            ∙ merge_strip (film_bit size before k' b) (square_of b) k' k;
      }
