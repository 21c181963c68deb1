-- The lists of digits that are drawn, and that every one of them can be drawn. For the clause `bijection` of `draw_order`.
use Rattle.std.proofs.Common.{◌≡◌, ℕ, zero, suc, ◌-◌, ◌<◌, ◌≤◌, ltb, List, [], ◌∷◌, get_or, refl, ap, ◌∙◌, mod-eq_of_lt, arith}
use Rattle.std.proofs.lemmas.Bool.{lt-ltb, cond-true}
use Rattle.std.proofs.lemmas.Nat.{mod_below}
use Rattle.tapes.specs.Drawing.{drawn, onward}
use Rattle.tapes.specs.Digits.{bound, digit}
use Rattle.tapes.specs.Orders.{digits}
use Rattle.tapes.specs.Permutations.{DigitList}
use Rattle.tapes.proofs.Drawing.{both_drawn}
use Rattle.tapes.proofs.Arrangements.{Falling}
use Rattle.tapes.proofs.Spellings.{digit_below}

pub falling : (m : ℕ) (ds : List ℕ) → DigitList m ds → Falling m ds
falling m [] h = omega (arith, h.size)
falling m (d ∷ ds) h =
    let more : 1 < m = omega (arith, h.size) in (
      more,
      omega (arith, h.below 0 (omega arith)),
      falling (m - 1) ds (record {
        size = omega (arith, h.size);
        below = λ k l. omega (arith, h.below (suc k) (omega arith));
      }),
    )

pub digit_list : (m : ℕ) (ds : List ℕ) → Falling m ds → DigitList m ds
digit_list m [] h = record { size = omega arith; below = λ k l. absurd (omega arith) }
digit_list m (d ∷ ds) h = record {
  size = omega (arith, h.0, (digit_list (m - 1) ds h.2).size);
  below = λ k l. go (λ i b. (digit_list (m - 1) ds h.2).below i b) k l;
}
  where
    go : ((i : ℕ) → i < m - 1 - 1 → get_or ds i 0 < m - 1 - i) → (k : ℕ) → k < m - 1 → get_or (d ∷ ds) k 0 < m - k
    go later zero l = omega (arith, h.1)
    go later (suc k) l = omega (arith, later k (omega arith))

pub digits_falling : (m : ℕ) (tape ds rest : List ℕ) → digits m tape ≡ drawn ds rest → Falling m ds
digits_falling zero tape ds rest e = let none : ds ≡ [] = cc in rw none (omega arith)
digits_falling (suc zero) tape ds rest e = let none : ds ≡ [] = cc in rw none (omega arith)
digits_falling (suc (suc k)) tape ds rest e =
    let first = both_drawn (digit (suc (suc k)) tape) (λ d left. onward (digits (suc k) left) (λ es more. drawn (d ∷ es) more)) ds rest e in
    let d = first.0 in
    let second = both_drawn (digits (suc k) first.1) (λ es more. drawn (d ∷ es) more) ds rest first.3 in
    let is : ds ≡ d ∷ second.0 = let whole = second.3 in cc in
    let less : suc (suc k) - 1 ≡ suc k = omega arith in
    rw (is, less) (omega arith, digit_below (suc (suc k)) (omega arith) tape d first.1 first.2, digits_falling (suc k) first.1 second.0 second.1 second.2)

-- A byte below the base spells itself.
pub digit_itself : (b d : ℕ) (rest : List ℕ) → b ≤ 128 → d < b → digit b (d ∷ rest) ≡ drawn d rest
digit_itself b d rest most l =
    let low = mod_below 256 b (omega arith) in
    cond-true (ltb d (bound b)) _ _ (lt-ltb d (bound b) (omega arith)) ∙ ap (λ e. drawn e rest) (mod-eq_of_lt l)

pub digits_themselves : (m : ℕ) → m ≤ 128 → (ds : List ℕ) → Falling m ds → digits m ds ≡ drawn ds []
digits_themselves zero most [] h = refl
digits_themselves zero most (d ∷ ds) h = absurd (omega (arith, h.0))
digits_themselves (suc zero) most [] h = refl
digits_themselves (suc zero) most (d ∷ ds) h = absurd (omega (arith, h.0))
digits_themselves (suc (suc k)) most [] h = absurd (omega arith)
digits_themselves (suc (suc k)) most (d ∷ ds) h =
    let less : suc (suc k) - 1 ≡ suc k = omega arith in
    let later = digits_themselves (suc k) (omega arith) ds (rw less at h.2) in
    ap (λ x. onward x (λ e rest. onward (digits (suc k) rest) (λ es left. drawn (e ∷ es) left))) (digit_itself (suc (suc k)) d ds most h.1)
    ∙ ap (λ x. onward x (λ es left. drawn (d ∷ es) left)) later
