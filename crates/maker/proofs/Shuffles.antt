-- Bijections of tapes that keep their length and their bytes, and the one that relabels a digit and goes on by it.
use Rattle.std.proofs.Common.{◌≡◌, ℕ, suc, ◌+◌, ◌*◌, ◌/◌, ◌%◌, ◌<◌, cond, ltb, List, [], ◌∷◌, length, refl, ap, ◌∙◌, ap₂, arith}
use Rattle.std.specs.List.{All}
use Rattle.std.proofs.lemmas.List.Elements.{All-cons, All-head, All-tail}
use Rattle.std.proofs.lemmas.Bool.{ltb-true, lt-ltb, cond-true, cond-false, cond_both}
use Rattle.std.proofs.lemmas.Nat.{mul-add-lt, div-mul-add, mod-mul-add, div_below, mod_below, div-add-mod'}
use Rattle.schemes.specs.Laws.{Renumbering}
use Rattle.tapes.specs.Digits.{bound}

abbrev is_byte : ℕ → Type 0
is_byte x = x < 256

abbrev pub Bytes : List ℕ → Type 0
Bytes t = All is_byte t

pub record Shuffle : Type 0 where
  pub to : List ℕ → List ℕ
  pub from : List ℕ → List ℕ
  pub there_back : (t : List ℕ) → from (to t) ≡ t
  pub back_there : (t : List ℕ) → to (from t) ≡ t
  pub length_to : (t : List ℕ) → length (to t) ≡ length t
  pub length_from : (t : List ℕ) → length (from t) ≡ length t
  pub bytes_to : (t : List ℕ) → Bytes t → Bytes (to t)
  pub bytes_from : (t : List ℕ) → Bytes t → Bytes (from t)

abbrev pub unmoved : Shuffle
unmoved = record {
  to = λ t. t;
  from = λ t. t;
  there_back = λ t. refl;
  back_there = λ t. refl;
  length_to = λ t. refl;
  length_from = λ t. refl;
  bytes_to = λ t h. h;
  bytes_from = λ t h. h;
}

-- The byte whose digit is f of the digit of x, in the same place otherwise.
abbrev pub relabelled : ℕ → (ℕ → ℕ) → ℕ → ℕ
relabelled base f x = x / base * base + f (x % base)

-- Relabels the first byte that is not thrown away, and does what follows its digit to the rest.
abbrev pub redrawn : ℕ → (ℕ → ℕ) → (ℕ → List ℕ → List ℕ) → List ℕ → List ℕ
redrawn base f next [] = []
redrawn base f next (x ∷ t) = cond (ltb x (bound base)) (relabelled base f x ∷ next (x % base) t) (x ∷ redrawn base f next t)

module _ (b : ℕ) (f : ℕ → ℕ) (f-below : (d : ℕ) → d < suc b → f d < suc b) where
  pub relabelled_digit : (x : ℕ) → relabelled (suc b) f x % suc b ≡ f (x % suc b)
  relabelled_digit x = mod-mul-add (x / suc b) (suc b) (f (x % suc b)) (f-below _ (mod_below x (suc b) (omega arith)))

  pub relabelled_quotient : (x : ℕ) → relabelled (suc b) f x / suc b ≡ x / suc b
  relabelled_quotient x = div-mul-add (x / suc b) (suc b) (f (x % suc b)) (f-below _ (mod_below x (suc b) (omega arith)))

  pub relabelled_kept : (x : ℕ) → x < bound (suc b) → relabelled (suc b) f x < bound (suc b)
  relabelled_kept x h =
      let whole = div-add-mod' 256 (suc b) in
      let place : x / suc b < 256 / suc b = div_below x (suc b) (256 / suc b) (omega arith) (omega arith) in
      omega (arith, mul-add-lt (x / suc b) (suc b) (f (x % suc b)) (256 / suc b) place (f-below _ (mod_below x (suc b) (omega arith))))

  module _ (next : ℕ → List ℕ → List ℕ) where
    pub redrawn_length : ((d : ℕ) (t : List ℕ) → length (next d t) ≡ length t) → (t : List ℕ) → length (redrawn (suc b) f next t) ≡ length t
    redrawn_length next-length [] = refl
    redrawn_length next-length (x ∷ t) =
        cond_both (ltb x (bound (suc b))) _ _ (λ l. length l ≡ suc (length t))
        (λ _. ap suc (next-length _ t)) (λ _. ap suc (redrawn_length next-length t))

    pub redrawn_bytes : ((d : ℕ) (t : List ℕ) → Bytes t → Bytes (next d t)) → (t : List ℕ) → Bytes t → Bytes (redrawn (suc b) f next t)
    redrawn_bytes next-bytes [] h = h
    redrawn_bytes next-bytes (x ∷ t) h =
        cond_both (ltb x (bound (suc b))) _ _ Bytes
        (λ e. All-cons is_byte _ _ (omega (arith, relabelled_kept x (ltb-true _ _ e))) (next-bytes _ t (All-tail is_byte x t h)))
        (λ _. All-cons is_byte _ _ (All-head is_byte x t h) (redrawn_bytes next-bytes t (All-tail is_byte x t h)))

    pub redrawn_back : (g : ℕ → ℕ) → ((d : ℕ) → d < suc b → g (f d) ≡ d) →
        (back : ℕ → List ℕ → List ℕ) → ((d : ℕ) (t : List ℕ) → d < suc b → back (f d) (next d t) ≡ t) →
        (t : List ℕ) → redrawn (suc b) g back (redrawn (suc b) f next t) ≡ t
    redrawn_back g g-f back back-next [] = refl
    redrawn_back g g-f back back-next (x ∷ t) =
        cond_both (ltb x (bound (suc b))) _ _ (λ l. redrawn (suc b) g back l ≡ x ∷ t)
        (λ e.
        let digit : x % suc b < suc b = mod_below x (suc b) (omega arith) in
        let same : relabelled (suc b) g (relabelled (suc b) f x) ≡ x =
        ap₂ (λ q d. q * suc b + g d) (relabelled_quotient x) (relabelled_digit x)
        ∙ ap (λ d. x / suc b * suc b + d) (g-f _ digit) ∙ div-add-mod' x (suc b) in
        let rest : back (relabelled (suc b) f x % suc b) (next (x % suc b) t) ≡ t =
        ap (λ d. back d (next (x % suc b) t)) (relabelled_digit x) ∙ back-next _ t digit in
        cond-true _ _ _ (lt-ltb _ _ (relabelled_kept x (ltb-true _ _ e))) ∙ ap₂ (λ y l. y ∷ l) same rest)
        (λ e. cond-false _ _ _ e ∙ ap (λ l. x ∷ l) (redrawn_back g g-f back back-next t))

-- Relabels the next digit by a renumbering, and goes on as the digit says.
abbrev pub relabel : (b : ℕ) → Renumbering (suc b) → (ℕ → Shuffle) → Shuffle
relabel b ρ next = record {
  to = redrawn (suc b) ρ.to (λ d. (next d).to);
  from = redrawn (suc b) ρ.from (λ d. (next (ρ.from d)).from);
  there_back = redrawn_back b ρ.to ρ.to_below (λ d. (next d).to) ρ.from ρ.there_back (λ d. (next (ρ.from d)).from)
      (λ d t h. ap (λ e. (next e).from ((next d).to t)) (ρ.there_back d h) ∙ (next d).there_back t);
  back_there = redrawn_back b ρ.from ρ.from_below (λ d. (next (ρ.from d)).from) ρ.to ρ.back_there (λ d. (next d).to)
      (λ d t h. (next (ρ.from d)).back_there t);
  length_to = redrawn_length b ρ.to ρ.to_below _ (λ d. (next d).length_to);
  length_from = redrawn_length b ρ.from ρ.from_below _ (λ d. (next (ρ.from d)).length_from);
  bytes_to = redrawn_bytes b ρ.to ρ.to_below _ (λ d. (next d).bytes_to);
  bytes_from = redrawn_bytes b ρ.from ρ.from_below _ (λ d. (next (ρ.from d)).bytes_from);
}
