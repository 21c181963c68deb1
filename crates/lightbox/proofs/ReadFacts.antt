-- A row that is read pixel by pixel: what the counts make of it (`Counted`).
use Rattle.std.proofs.Common.{◌≡◌, ℕ, ◌+◌, ◌*◌, ◌<◌, ◌≤◌, Bool, true, false, cond, ◌&&◌, ◌||◌, eqb, ltb, ◌≢◌, ◌⊎◌, ◌↔◌, List, length, get_or, replicate, sym, refl, ap, ◌∙◌, inl, inr, arith}
use Rattle.std.proofs.lemmas.Bool.{cases_eq, eq-eqb, ne_eqb, lt-ltb}
use Rattle.schemes.specs.PackedRows.{bytes_for, bit_at}
use Rattle.schemes.specs.Strips.{colour_of}
use Rattle.schemes.specs.declared.colour.Colour.TheVariants.{White, Black}
use Rattle.schemes.proofs.PackedFacts.{byte_of_zeros, bit_at_zeros}
use Rattle.lightbox.specs.Reading.{glass_count, RowRead, FirstNeither}

-- the bits of a row once the bit of pixel c is set
abbrev pub Blackened : (row : List ℕ) (c : ℕ) (after : List ℕ) → Type 0
Blackened row c after = (j : ℕ) → bit_at after j ≡ ((eqb j c && ltb c (8 * length row)) || bit_at row j)

module _ (m light dark w : ℕ) (glass : List ℕ) where
  -- the first n pixels are read, and the others are white
  pub record ReadSoFar (n : ℕ) (row : List ℕ) : Type 0 where
    pub counted : (c : ℕ) → c < n → glass_count m glass c ≡ cond (bit_at row c) dark light
    pub rest : (c : ℕ) → n ≤ c → bit_at row c ≡ false
    pub below : (i : ℕ) → get_or row i 0 < 256

  pub none_read : (size : ℕ) → ReadSoFar 0 (replicate size 0)
  none_read size = record {
    counted = λ c l. absurd (omega arith);
    rest = λ c l. bit_at_zeros size c;
    below = λ i. let e = byte_of_zeros size i in omega arith;
  }

  pub black_read : (n : ℕ) (row after : List ℕ) → n < 8 * length row → ReadSoFar n row → glass_count m glass n ≡ dark
      → Blackened row n after → ((i : ℕ) → get_or after i 0 < 256) → ReadSoFar (n + 1) after
  black_read n row after within so e new below =
      let other : (c : ℕ) → c ≢ n → bit_at after c ≡ bit_at row c
      = λ c ne. new c ∙ ap (λ (b : Bool). (b && ltb n (8 * length row)) || bit_at row c) (ne_eqb c n ne) in
      let here : (c : ℕ) → c ≡ n → bit_at after c ≡ true
      = λ c f. new c ∙ rw (eq-eqb c n f, lt-ltb n (8 * length row) within) refl in
      record {
        counted = λ c l. elim (cases_eq c n) [
          | inl f ↦ ap (glass_count m glass) f ∙ e ∙ sym (ap (λ (b : Bool). cond b dark light) (here c f))
          | inr ne ↦ so.counted c (omega arith) ∙ ap (λ (b : Bool). cond b dark light) (sym (other c ne))
        ];
        rest = λ c l. other c (omega arith) ∙ so.rest c (omega arith);
        below = below;
      }

  pub white_read : (n : ℕ) (row : List ℕ) → ReadSoFar n row → glass_count m glass n ≡ light → ReadSoFar (n + 1) row
  white_read n row so e =
      record {
        counted = λ c l. elim (cases_eq c n) [
          | inl f ↦ ap (glass_count m glass) f ∙ e ∙ sym (ap (λ (b : Bool). cond b dark light) (so.rest c (omega arith)))
          | inr ne ↦ so.counted c (omega arith)
        ];
        rest = λ c l. so.rest c (omega arith);
        below = so.below;
      }

  -- a count is that of the pixel's colour, and not that of the other
  tells_colour : (b : Bool) (n : ℕ) → light < dark → n ≡ cond b dark light
      → ((colour_of b ≡ White) ↔ (n ≡ light)) × ((colour_of b ≡ Black) ↔ (n ≡ dark))
  tells_colour true n l e = ((λ f. let z : ◌≡◌ {A = ℕ} 0 1 = cc in absurd (omega arith), λ f. absurd (omega arith)), (λ f. e, λ f. refl))
  tells_colour false n l e = ((λ f. e, λ f. refl), (λ f. let z : ◌≡◌ {A = ℕ} 0 1 = cc in absurd (omega arith), λ f. absurd (omega arith)))

  pub all_read : (n : ℕ) (row : List ℕ) → n ≡ w → length row ≡ bytes_for w → light < dark → ReadSoFar n row → RowRead m light dark w glass row
  all_read n row e long l so = record {
    bytes = record { long = long; below = so.below };
    white = λ c h. (tells_colour (bit_at row c) (glass_count m glass c) l (so.counted c (omega arith))).0;
    black = λ c h. (tells_colour (bit_at row c) (glass_count m glass c) l (so.counted c (omega arith))).1;
    spare = λ c h. so.rest c (omega arith);
  }

  either_level : (b : Bool) (n : ℕ) → n ≡ cond b dark light → (n ≡ light) ⊎ (n ≡ dark)
  either_level true n e = inr e
  either_level false n e = inl e

  pub neither_read : (n : ℕ) (row : List ℕ) → n < w → (glass_count m glass n ≡ light → ⊥) → (glass_count m glass n ≡ dark → ⊥)
      → ReadSoFar n row → FirstNeither m light dark w glass n
  neither_read n row l not_light not_dark so = record {
    within = l;
    not_light = not_light;
    not_dark = not_dark;
    before = λ c h. either_level (bit_at row c) (glass_count m glass c) (so.counted c h);
  }

pub ruleset steps = (none_read, black_read, white_read, all_read, neither_read)
