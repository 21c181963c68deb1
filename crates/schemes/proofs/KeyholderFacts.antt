-- Sets of keyholders, by the tests on their numbers that the code makes.
use Rattle.std.proofs.Common.{◌≡◌, ℕ, zero, suc, ◌+◌, ◌-◌, ◌^◌, ◌<◌, ◌≤◌, min, Bool, true, false, ◌&&◌, ◌||◌, eqb, ltb, leb, Decides, sym, refl, ap, ◌∙◌, inl, inr, arith, pow_pos, pow_mono}
use Rattle.std.specs.Prelude.{count_ones}
use Rattle.std.specs.Ordering.{is_le, nat_cmp}
use Rattle.std.specs.Int.Bits.{bit_and, bit_or, and_lt}
use Rattle.std.proofs.Math.Bool.{or_comm}
use Rattle.std.proofs.Math.Dec.{eqb-suc-suc}
use Rattle.std.proofs.lemmas.Bool.{cases_lt, eqb-true, eq-eqb, ne_eqb, and_parts, and_from, and_left}
use Rattle.std.proofs.lemmas.Bool.Decides.{nat_tests}
use Rattle.schemes.specs.Bits.{bit}
use Rattle.schemes.specs.Keyholders.{most_keyholders, member, Within, Empty, members_among, size, everyone}
use Rattle.schemes.specs.TestFacts.{count_none, count_add}
use Rattle.schemes.specs.BitFacts.{bit_of_0, bit-and, bit-or, bit_pow, bit_past, bit_same, ones_counted}

-- nobody is above the width of a set
pub member_above : (set i : ℕ) → set < 2 ^ most_keyholders → most_keyholders < i → member set i ≡ false
member_above set zero b l = refl
member_above set (suc k) b l = bit_past most_keyholders set k b (omega arith)

-- keyholder 0 is nobody
pub member_none : (set i : ℕ) → i < 1 → member set i ≡ false
member_none set zero l = refl
member_none set (suc k) l = absurd (omega arith)

-- one more member
pub member_with : (set i j : ℕ) → 1 ≤ i → member (bit_or set (2 ^ (i - 1))) j ≡ (eqb j i || member set j)
member_with set zero j l = absurd (omega arith)
member_with set (suc k) zero l = rw (ne_eqb 0 (suc k) (λ e. omega arith)) refl
member_with set (suc k) (suc j) l =
    let e : suc k - 1 ≡ k = omega arith in
    rw e (bit-or set (2 ^ k) j ∙ ap (λ (b : Bool). bit set j || b) (bit_pow k j) ∙ or_comm (bit set j) (eqb j k) ∙ ap (λ (b : Bool). b || bit set j) (sym (eqb-suc-suc j k)))

-- containing, by the bits that are in both
pub within_decided : (a b : ℕ) → a < 2 ^ most_keyholders → b < 2 ^ most_keyholders → Decides (eqb (bit_and a b) a) (Within a b)
within_decided a b p q = (λ e. there (eqb-true (bit_and a b) a e), λ w. eq-eqb (bit_and a b) a (back w))
  where
    there : bit_and a b ≡ a → Within a b
    there e zero m = m
    there e (suc k) m = (and_parts (bit a k) (bit b k) (sym (bit-and a b k) ∙ ap (λ (x : ℕ). bit x k) e ∙ m)).1

    same : Within a b → (k : ℕ) → (x : Bool) → bit a k ≡ x → (bit a k && bit b k) ≡ bit a k
    same w k true e = and_from (bit a k) (bit b k) e (w (suc k) e) ∙ sym e
    same w k false e = and_left (bit a k) (bit b k) e ∙ sym e

    back : Within a b → bit_and a b ≡ a
    back w = bit_same most_keyholders (bit_and a b) a (and_lt most_keyholders a b p q) p (λ k l. bit-and a b k ∙ same w k (bit a k) refl)

pub empty_decided : (set : ℕ) → set < 2 ^ most_keyholders → Decides (eqb set 0) (Empty set)
empty_decided set p = (λ e. none (eqb-true set 0 e), λ h. eq-eqb set 0 (bit_same most_keyholders set 0 p (pow_pos most_keyholders) (λ k l. h (suc k) ∙ sym (bit_of_0 k))))
  where
    none : set ≡ 0 → Empty set
    none e zero = refl
    none e (suc k) = ap (λ (x : ℕ). bit x k) e ∙ bit_of_0 k

is_le_test : (a b : ℕ) → is_le (nat_cmp a b) ≡ leb a b
is_le_test a b = grind (arith, nat_tests)

-- the sets of keyholders 1 to n are those up to the set of all, in the order of sets
pub among_decided : (n set : ℕ) → set < 2 ^ most_keyholders → is_le (nat_cmp set (everyone (min n most_keyholders))) ≡ ltb set (2 ^ n)
among_decided n set p = is_le_test set (everyone (min n most_keyholders)) ∙ elim (cases_lt n most_keyholders) [
  | inl l ↦
      let e : min n most_keyholders ≡ n = omega arith in
      let pos = pow_pos n in
      ap (λ (x : ℕ). leb set (everyone x)) e ∙ grind (arith, nat_tests)
  | inr l ↦
      let e : min n most_keyholders ≡ most_keyholders = omega arith in
      let more : 2 ^ most_keyholders ≤ 2 ^ n = pow_mono l in
      ap (λ (x : ℕ). leb set (everyone x)) e ∙ grind (arith, nat_tests)
]

-- how many members there are
pub ones_size : (set : ℕ) → set < 2 ^ most_keyholders → count_ones set ≡ size set
ones_size set p = ones_counted most_keyholders set p

-- none of them is above n in a set of keyholders 1 to n
pub size_among : (n set : ℕ) → n ≤ most_keyholders → set < 2 ^ n → size set ≡ members_among n set
size_among n set l b =
    let e : most_keyholders ≡ n + (most_keyholders - n) = omega arith in
    let none = count_none (most_keyholders - n) (λ i. bit set (n + i)) (λ i h. bit_past n set (n + i) b (omega arith)) in
    ap (λ (x : ℕ). members_among x set) e ∙ count_add n (most_keyholders - n) (bit set) ∙ omega (arith, none)
