-- What is read from a glass. Over each pixel the black squares are counted: as many as light is white, as many as dark is
-- black, and any other count is refused.
use Rattle.std.specs.Prelude.{◌≡◌, ℕ, ◌<◌, ◌≤◌, Bool, false, not, ◌&&◌, ◌||◌, ◌⊎◌, ◌↔◌, List, [], ◌∷◌, length, replicate, None, Ok, Err, Option, Result, MatchOption, MatchResult, ◌==◌, nat_lt}
use Rattle.schemes.specs.declared.colour.Colour.TheVariants.{White, Black}
use Rattle.schemes.specs.Laws.{InRange, Lawful}
use Rattle.schemes.specs.Meaning.{Meaning, blacks, light, dark}
use Rattle.schemes.specs.PackedRows.{bytes_for, bit_at, packed, Bytes}
use Rattle.schemes.specs.Refusals.{first_refusal}
use Rattle.schemes.specs.Strips.{most_pixels, most_squares, strip_squares, strip_size, blacks_over, pixel}
use Rattle.lightbox.specs.declared.refusals.ContrastRefusal.TheVariants.{NotQualified}
use Rattle.lightbox.specs.declared.refusals.ReadRefusal.{ReadRefusal}
use Rattle.lightbox.specs.declared.refusals.ReadRefusal.TheVariants.{Width, Squares, Contrast, GlassLength, OutputLength, NeitherLevel}

-- ---- before a square is counted

-- What is asked before a square is counted, and how it is refused; by the lengths of the glass and the output.
abbrev pub early_checks : Meaning → (set w glass_bytes out_bytes : ℕ) → List (Bool × ReadRefusal)
early_checks s set w glass_bytes out_bytes =
    (nat_lt w 1 || nat_lt most_pixels w, Width) ∷
    (nat_lt most_squares (strip_squares s.m w), Squares) ∷
    (not (s.qualified set), Contrast NotQualified) ∷
    (not (glass_bytes == strip_size s.m w), GlassLength) ∷
    (not (out_bytes == bytes_for w), OutputLength) ∷ []

-- The refusal that is answered then, if one is.
abbrev pub early_refusal : Meaning → (set w glass_bytes out_bytes : ℕ) → Option ReadRefusal
early_refusal s set w glass_bytes out_bytes = first_refusal (early_checks s set w glass_bytes out_bytes)

-- ---- the counts of w pixels with m squares each, and the two levels that they are held against

-- How many squares of pixel c are black on the glass.
abbrev pub glass_count : (m : ℕ) (glass : List ℕ) (c : ℕ) → ℕ
glass_count m glass c = blacks_over m (bit_at glass) c

module _ (m light_level dark_level w : ℕ) (glass : List ℕ) where
  -- A row that is read: white exactly where the count is light, black exactly where it is dark, and spare bits 0.
  pub record RowRead (row : List ℕ) : Type 0 where
    pub bytes : Bytes (bytes_for w) row
    pub white : (c : ℕ) → c < w → (pixel row c ≡ White) ↔ (glass_count m glass c ≡ light_level)
    pub black : (c : ℕ) → c < w → (pixel row c ≡ Black) ↔ (glass_count m glass c ≡ dark_level)
    pub spare : (c : ℕ) → w ≤ c → bit_at row c ≡ false

  -- The first pixel whose count is neither light nor dark.
  pub record FirstNeither (c : ℕ) : Type 0 where
    pub within : c < w
    pub not_light : glass_count m glass c ≡ light_level → ⊥
    pub not_dark : glass_count m glass c ≡ dark_level → ⊥
    pub before : (b : ℕ) → b < c → (glass_count m glass b ≡ light_level) ⊎ (glass_count m glass b ≡ dark_level)

  -- What comes of the counts: a row, or the first pixel that is neither, and an output that is all 0.
  abbrev pub Counted : Result Unit ReadRefusal → (row : List ℕ) → Type 0
  Counted r row =
      MatchResult r
      (λ _. RowRead row)
      (λ why. (c : ℕ) × (why ≡ NeitherLevel c) × FirstNeither c × (row ≡ replicate (bytes_for w) 0))

-- ---- the reading

-- What a set reads from a glass: the answer, and what the output holds then. An early refusal leaves the output as it was.
abbrev pub Reading : Meaning → (set w : ℕ) (glass out : List ℕ) → Result Unit ReadRefusal → (row : List ℕ) → Type 0
Reading s set w glass out r row =
    MatchOption (early_refusal s set w (length glass) (length out))
    (Counted s.m (light s set) (dark s set) w glass r row)
    (λ why. (r ≡ Err why) × (row ≡ out))

-- Of every scheme that keeps the laws: a reading has one answer and one output, and no others.
abbrev pub OneReading : Type 0
OneReading =
    (s : Meaning) → InRange s → Lawful s → (set w : ℕ) (glass out : List ℕ) →
    (r : Result Unit ReadRefusal) × (row : List ℕ) × Reading s set w glass out r row ×
    ((r' : Result Unit ReadRefusal) (row' : List ℕ) → Reading s set w glass out r' row' → (r' ≡ r) × (row' ≡ row))

-- ---- a secret row is read back

-- The glass shows a secret row to the set: over each pixel as many black squares as the scheme has for its colour.
abbrev pub Shows : Meaning → (set w : ℕ) (glass secret : List ℕ) → Type 0
Shows s set w glass secret = (c : ℕ) → c < w → glass_count s.m glass c ≡ blacks s (pixel secret c) set

-- A row of w pixels with its spare bits cleared.
abbrev pub cleared : (w : ℕ) (row : List ℕ) → List ℕ
cleared w row = packed (bytes_for w) (λ c. nat_lt c w && bit_at row c)

-- A reading that is not refused early gives the secret row that the glass shows to the set.
abbrev pub ReadsWhatShows : Type 0
ReadsWhatShows =
    (s : Meaning) (set w : ℕ) (glass out secret : List ℕ) (r : Result Unit ReadRefusal) (row : List ℕ) →
    early_refusal s set w (length glass) (length out) ≡ None → Shows s set w glass secret →
    Reading s set w glass out r row → (r ≡ Ok tt) × (row ≡ cleared w secret)
