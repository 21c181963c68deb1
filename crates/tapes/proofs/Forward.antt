-- A column is brought to the front, place by place, and those before it are carried on by one: for `bring_forward`.
use Rattle.std.proofs.Common.{◌≡◌, ℕ, zero, suc, ◌+◌, ◌<◌, ◌≤◌, Bool, true, false, cond, ltb, leb, List, ◌∷◌, length, get_or, sym, refl, ap, ◌∙◌, add-one, arith}
use Rattle.std.specs.List.{remove}
use Rattle.std.proofs.lemmas.List.{ext_get_or}
use Rattle.std.proofs.lemmas.List.Edits.{length-remove}
use Rattle.std.proofs.lemmas.Bool.{le-leb, cond-true}
use Rattle.tapes.proofs.Removals.{get_or_removed}

module _ (xs : List ℕ) (d : ℕ) where
  -- what is carried to a place, and what stands there in the end
  abbrev pub carries : ℕ → ℕ
  carries zero = get_or xs d 0
  carries (suc i) = get_or xs i 0

  abbrev pub moved : ℕ → ℕ
  moved i = cond (leb i d) (carries i) (get_or xs i 0)

  pub record Forward (j carried : ℕ) (left : List ℕ) : Type 0 where
    pub carry : carried ≡ carries j
    pub past : (i : ℕ) → i < j → get_or left i 0 ≡ moved i
    pub ahead : (i : ℕ) → j ≤ i → get_or left i 0 ≡ get_or xs i 0

  later : (b : Bool) (i : ℕ) → cond b (get_or xs i 0) (get_or xs (suc i) 0) ≡ get_or xs (cond b i (i + 1)) 0
  later true i = refl
  later false i = ap (λ k. get_or xs k 0) (sym (add-one i))

  pub forward_all : (j carried : ℕ) (left : List ℕ) → Forward j carried left → length left ≤ j → length left ≡ length xs → d < length xs →
      left ≡ get_or xs d 0 ∷ remove xs d
  forward_all j carried left h all size l =
      ext_get_or 0 left (get_or xs d 0 ∷ remove xs d) (omega (arith, length-remove xs d l)) (λ i b. h.past i (omega arith) ∙ at i)
    where
      at : (i : ℕ) → moved i ≡ get_or (get_or xs d 0 ∷ remove xs d) i 0
      at zero = cond-true (leb 0 d) (get_or xs d 0) (get_or xs 0 0) (le-leb 0 d (omega arith))
      at (suc i) = later (ltb i d) i ∙ sym (get_or_removed xs d i l)
