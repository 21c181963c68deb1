use Rattle.std.proofs.Common.{rules, tests, ◌≡◌, ℕ, zero, suc, ◌+◌, ◌*◌, ◌%◌, ◌^◌, ◌≤◌, Bool, true, false, cond, bit_or, ◌∷◌, [], ◌++◌, sym, refl, ap, ◌∙◌, add-zero, add-one, zero-add, arith}
use mathlib.Core.Path.{fun_ext}
use Rattle.std.specs.List.{fold, range_with_len}
use Rattle.std.proofs.lemmas.Iterator.{YieldsList-from_range}
use Rattle.std.proofs.lemmas.Iterator.Consumers.{fold_from_yields_List}
use Rattle.std.proofs.lemmas.List.Sums.{fold-append}
use Rattle.std.proofs.lemmas.Nat.{one_shl, or_comm}
use Rattle.schemes.specs.Bits.{number_of}
use Rattle.maker.proofs.tables.column_cells.Goals as goal

-- bits that are set one after another, from the lowest on
abbrev with_bit : (ℕ → Bool) → ℕ → ℕ → ℕ
with_bit test cells k = bit_or cells (cond (test k) 1 0 * 2 ^ k % 256)

one_more : (a n : ℕ) → range_with_len a (suc n) ≡ range_with_len a n ++ (a + n) ∷ []
one_more a zero = ap (λ x. x ∷ []) (sym (add-zero a))
one_more a (suc n) =
    let there : a + 1 + n ≡ a + suc n = omega arith in
    ap (λ l. a ∷ l) (one_more (a + 1) n ∙ ap (λ x. range_with_len (a + 1) n ++ x ∷ []) there)

folded_bits : (test : ℕ → Bool) (n : ℕ) → n ≤ 8 → fold (with_bit test) 0 (range_with_len 0 n) ≡ number_of n test
folded_bits test zero few = refl
folded_bits test (suc n) few =
    ap (fold (with_bit test) 0) (one_more 0 n ∙ ap (λ x. range_with_len 0 n ++ x ∷ []) (zero-add n)) ∙ fold-append (with_bit test) 0 (range_with_len 0 n) (n ∷ [])
    ∙ ap (λ cells. with_bit test cells n) (folded_bits test n (omega arith)) ∙ bit_more (test n) (number_of n test)
  where
    bit_more : (b : Bool) (cells : ℕ) → bit_or cells (cond b 1 0 * 2 ^ n % 256) ≡ cond b (bit_or cells (2 ^ n)) cells
    bit_more true cells = ap (bit_or cells) (one_shl n 8 (omega arith))
    bit_more false cells = grind (arith, or_comm)

pub returns : goal.returns
returns g c =
    let s = g.S.Scheme.means c.args.scheme.now in
    let n = c.keyholders.result in
    let cell : ℕ → Bool = λ k. s.cell c.args.colour (suc k) c.args.column in
    let folded : c.fold.result ≡ fold (with_bit (λ k. s.cell c.args.colour (k + 1) c.args.column)) 0 (range_with_len 0 n) =
    fold_from_yields_List _ _ 0 c.fold.result c.fold.ensures.ran (YieldsList-from_range 0 n n refl (omega arith)) (λ a x b q k. search (rules, tests)) in
    let same : (λ k. s.cell c.args.colour (k + 1) c.args.column) ≡ cell = fun_ext (λ k. ap (λ i. s.cell c.args.colour i c.args.column) (add-one k)) in
    let few : n ≤ 8 = omega (arith, c.keyholders.ensures, (g.met.S.Scheme.in_range c.args.scheme.now).few_keyholders) in
    folded ∙ ap (λ test. fold (with_bit test) 0 (range_with_len 0 n)) same ∙ folded_bits cell n few ∙ ap (λ k. number_of k cell) c.keyholders.ensures
