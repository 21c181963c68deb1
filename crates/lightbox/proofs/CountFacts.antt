-- A count of squares as a sum in a byte, which holds up to 255 of them. Serves `count_block`.
use Rattle.std.proofs.Common.{◌≡◌, ℕ, suc, ◌+◌, ◌%◌, ◌^◌, ◌<◌, Bool, true, false, cond, List, [], ◌∷◌, length, fold, refl, ap, ◌∙◌, arith, zero-add}
use Rattle.std.specs.List.{range_with_len}
use Rattle.std.proofs.lemmas.List.FromFn.{length-range_with_len, get_or-range_with_len}
use Rattle.schemes.specs.Bits.{count_below}
use Rattle.schemes.specs.TestFacts.{count_same}
use Rattle.schemes.proofs.RangeFacts.{fold_counted}

-- one more square still fits
fits_more : (b : Bool) (m t : ℕ) → t + suc m < 2 ^ 8 → ((t + cond b 1 0) % 2 ^ 8 ≡ t + cond b 1 0) × (t + cond b 1 0 + m < 2 ^ 8)
fits_more true m t l = (omega (arith, l), omega (arith, l))
fits_more false m t l = (omega (arith, l), omega (arith, l))

module _ (test : ℕ → Bool) where
  fold_fits : (xs : List ℕ) (t : ℕ) → t + length xs < 2 ^ 8
      → fold (λ n x. (n + cond (test x) 1 0) % 2 ^ 8) t xs ≡ fold (λ n x. n + cond (test x) 1 0) t xs
  fold_fits [] t l = refl
  fold_fits (x ∷ xs) t l =
      let s = fits_more (test x) (length xs) t l in
      ap (λ k. fold (λ n x. (n + cond (test x) 1 0) % 2 ^ 8) k xs) s.0 ∙ fold_fits xs (t + cond (test x) 1 0) s.1

  pub squares_added : (n : ℕ) → n < 2 ^ 8 → fold (λ n x. (n + cond (test x) 1 0) % 2 ^ 8) 0 (range_with_len 0 n) ≡ count_below n test
  squares_added n l =
      fold_fits (range_with_len 0 n) 0 (omega (arith, l, length-range_with_len 0 n))
      ∙ fold_counted test (range_with_len 0 n) 0 0 (λ k b. get_or-range_with_len 0 n k 0 (omega (arith, b, length-range_with_len 0 n)))
      ∙ zero-add (count_below (length (range_with_len 0 n)) (λ k. test (0 + k)))
      ∙ ap (λ m. count_below m (λ k. test (0 + k))) (length-range_with_len 0 n)
      ∙ count_same n (λ k. test (0 + k)) test (λ k l. ap test (zero-add k))
