-- Strips laid on a glass, byte by byte and bit by bit; a stack is black exactly where some strip is (`StacksAddUp`).
use Rattle.std.proofs.Common.{◌≡◌, ℕ, ◌+◌, ◌-◌, ◌/◌, ◌%◌, ◌<◌, ◌≤◌, Bool, true, ◌||◌, eqb, ◌≢◌, List, [], ◌∷◌, length, get_or, set, replicate, fold, sym, refl, ap, ◌∙◌, ap₂, inl, inr, arith}
use Rattle.std.proofs.Math.Bool.{or-false, or_assoc}
use Rattle.std.specs.Int.Bits.{bit_or}
use Rattle.std.specs.Simd.Lanes.{zip2}
use Rattle.std.specs.List.{All, Contains, list_any}
use Rattle.std.proofs.lemmas.List.Elements.{All-head, All-tail}
use Rattle.std.proofs.lemmas.List.Folds.{Any-from_list_any, list_any-from_Any}
use Rattle.std.proofs.lemmas.Simd.{length-zip2, get_or-zip2}
use Rattle.std.proofs.lemmas.List.{get_or-set_same, get_or-set_other, ext_get_or, length-replicate}
use Rattle.std.proofs.lemmas.Bool.{cases_eq, cases_lt, cond-true, eq-eqb}
use Rattle.schemes.specs.Bits.{bit}
use Rattle.schemes.specs.PackedRows.{bit_at}
use Rattle.schemes.specs.BitFacts.{bit-or}
use Rattle.schemes.proofs.PackedFacts.{bit_at_past, bit_at_zeros}
use Rattle.lightbox.specs.Laying.{laid, stacked, StacksAddUp}

-- ---- one strip, byte by byte

-- the strip lies on the first i bytes of the glass
pub record Overlaid (glass strip : List ℕ) (i : ℕ) (now : List ℕ) : Type 0 where
  pub covered : (k : ℕ) → k < i → get_or now k 0 ≡ bit_or (get_or glass k 0) (get_or strip k 0)
  pub bare : (k : ℕ) → i ≤ k → get_or now k 0 ≡ get_or glass k 0

pub overlaid_none : (glass strip : List ℕ) → Overlaid glass strip 0 glass
overlaid_none glass strip = record { covered = λ k l. absurd (omega arith); bare = λ k l. refl }

pub overlaid_more : (glass strip : List ℕ) (i : ℕ) (now : List ℕ) → i < length now → Overlaid glass strip i now
    → Overlaid glass strip (i + 1) (set now i (bit_or (get_or now i 0) (get_or strip i 0)))
overlaid_more glass strip i now l u =
    let v = bit_or (get_or now i 0) (get_or strip i 0) in
    record {
      covered = λ k h. elim (cases_eq k i) [
        | inl e ↦
            ap (λ (j : ℕ). get_or (set now i v) j 0) e
            ∙ get_or-set_same now i v 0 l
            ∙ ap (λ (x : ℕ). bit_or x (get_or strip i 0)) (u.bare i (omega arith))
            ∙ ap (λ (j : ℕ). bit_or (get_or glass j 0) (get_or strip j 0)) (sym e)
        | inr ne ↦ get_or-set_other now i k v 0 ne ∙ u.covered k (omega arith)
      ];
      bare = λ k h. let ne : k ≢ i = omega arith in get_or-set_other now i k v 0 ne ∙ u.bare k (omega arith);
    }

pub laid_same_length : (glass strip : List ℕ) → length glass ≡ length strip → laid glass strip ≡ zip2 bit_or glass strip
laid_same_length glass strip e =
    cond-true (eqb (length glass) (length strip)) (zip2 bit_or glass strip) glass (eq-eqb (length glass) (length strip) e)

pub overlaid_all : (glass strip : List ℕ) (i : ℕ) (now : List ℕ) → length now ≡ length glass → length glass ≡ length strip → length glass ≤ i
    → Overlaid glass strip i now → now ≡ laid glass strip
overlaid_all glass strip i now e f l u =
    let z = length-zip2 bit_or glass strip f in
    ext_get_or 0 now (zip2 bit_or glass strip) (e ∙ sym z)
    (λ k h. u.covered k (omega arith) ∙ sym (get_or-zip2 bit_or glass strip k 0 0 0 (omega arith) (omega arith)))
    ∙ sym (laid_same_length glass strip f)

-- ---- one strip, bit by bit

pub laid_length : (glass strip : List ℕ) → length glass ≡ length strip → length (laid glass strip) ≡ length glass
laid_length glass strip e = ap length (laid_same_length glass strip e) ∙ length-zip2 bit_or glass strip e

zipped_bit : (glass strip : List ℕ) (b : ℕ) → b / 8 < length glass → b / 8 < length strip
    → bit_at (zip2 bit_or glass strip) b ≡ (bit_at glass b || bit_at strip b)
unfolding bit_at
zipped_bit glass strip b l h =
    ap (λ (x : ℕ). bit x (7 - b % 8)) (get_or-zip2 bit_or glass strip (b / 8) 0 0 0 l h)
    ∙ bit-or (get_or glass (b / 8) 0) (get_or strip (b / 8) 0) (7 - b % 8)

pub laid_bit : (glass strip : List ℕ) (b : ℕ) → length glass ≡ length strip → bit_at (laid glass strip) b ≡ (bit_at glass b || bit_at strip b)
laid_bit glass strip b e = elim (cases_lt (b / 8) (length glass)) [
  | inl l ↦ ap (λ (row : List ℕ). bit_at row b) (laid_same_length glass strip e) ∙ zipped_bit glass strip b l (omega arith)
  | inr l ↦
      let long = laid_length glass strip e in
      bit_at_past (laid glass strip) b (omega arith)
      ∙ sym (ap₂ (λ (x y : Bool). x || y) (bit_at_past glass b l) (bit_at_past strip b (omega arith)))
]

-- ---- any number of strips

-- some strip of the list is black at bit b
abbrev pub any_black : (strips : List (List ℕ)) (b : ℕ) → Bool
any_black strips b = list_any (λ strip. bit_at strip b) strips

module _ (size : ℕ) where
  abbrev pub sized : List ℕ → Type 0
  sized strip = length strip ≡ size

  abbrev pub OfSize : (strips : List (List ℕ)) → Type 0
  OfSize strips = All sized strips

  pub folded_length : (strips : List (List ℕ)) (glass : List ℕ) → length glass ≡ size → OfSize strips → length (fold laid glass strips) ≡ size
  folded_length [] glass e h = e
  folded_length (strip ∷ more) glass e h =
      folded_length more (laid glass strip) (laid_length glass strip (e ∙ sym (All-head sized strip more h)) ∙ e) (All-tail sized strip more h)

  pub folded_bit : (strips : List (List ℕ)) (glass : List ℕ) → length glass ≡ size → OfSize strips
      → (b : ℕ) → bit_at (fold laid glass strips) b ≡ (bit_at glass b || any_black strips b)
  folded_bit [] glass e h b = sym (or-false (bit_at glass b))
  folded_bit (strip ∷ more) glass e h b =
      let f : length glass ≡ length strip = e ∙ sym (All-head sized strip more h) in
      folded_bit more (laid glass strip) (laid_length glass strip f ∙ e) (All-tail sized strip more h) b
      ∙ ap (λ (x : Bool). x || any_black more b) (laid_bit glass strip b f)
      ∙ or_assoc (bit_at glass b) (bit_at strip b) (any_black more b)

  pub stacked_length : (strips : List (List ℕ)) → OfSize strips → length (stacked size strips) ≡ size
  stacked_length strips h = folded_length strips (replicate size 0) (length-replicate size 0) h

  pub stacked_bit : (strips : List (List ℕ)) → OfSize strips → (b : ℕ) → bit_at (stacked size strips) b ≡ any_black strips b
  stacked_bit strips h b =
      folded_bit strips (replicate size 0) (length-replicate size 0) h b
      ∙ ap (λ (x : Bool). x || any_black strips b) (bit_at_zeros size b)

-- ---- some strip is black, as a strip of the list

pub any_black_has : (b : ℕ) (strips : List (List ℕ)) (strip : List ℕ) → Contains strips strip → bit_at strip b ≡ true → any_black strips b ≡ true
any_black_has b strips strip has e = list_any-from_Any (λ x. bit_at x b) strips (has.0, strip, has.1, has.2, e)

pub any_black_find : (b : ℕ) (strips : List (List ℕ)) → any_black strips b ≡ true → (strip : List ℕ) × Contains strips strip × (bit_at strip b ≡ true)
any_black_find b strips e = let t = Any-from_list_any (λ x. bit_at x b) strips e in (t.1, (t.0, t.2, t.3), t.4)

pub stacks_add_up : StacksAddUp
stacks_add_up size strips h b = (
  λ e. any_black_find b strips (sym (stacked_bit size strips h b) ∙ e),
  λ t. stacked_bit size strips h b ∙ any_black_has b strips t.0 t.1 t.2,
)
