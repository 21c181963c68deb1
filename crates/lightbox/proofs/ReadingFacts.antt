-- Whole readings: there is exactly one answer and one output (`OneReading`), and what a glass shows is read from it
-- (`ReadsWhatShows`).
use Rattle.std.proofs.Common.{◌≡◌, ℕ, zero, suc, ◌*◌, ◌<◌, ◌≤◌, Bool, true, false, cond, ◌&&◌, eqb, ltb, ◌⊎◌, List, length, replicate, Some, None, Ok, Err, Option, Result, sym, refl, ap, ◌∙◌, inl, inr, arith, MatchOption}
use Rattle.std.proofs.lemmas.Option.{MatchOption-at_none}
use Rattle.std.proofs.lemmas.Bool.{cases_Bool, cases_eq, cases_lt, cases_order, eq-eqb, le-ltb, lt-ltb, ne_eqb}
use Rattle.std.proofs.lemmas.Bool.Decides.{nat_tests}
use Rattle.schemes.specs.Laws.{InRange, Lawful}
use Rattle.schemes.specs.Meaning.{Meaning, blacks, light, dark}
use Rattle.schemes.specs.PackedRows.{bytes_for, bit_at, packed}
use Rattle.schemes.specs.Strips.{most_pixels, most_squares, strip_squares, strip_size, colour_of, pixel}
use Rattle.schemes.specs.declared.colour.Colour.{Colour}
use Rattle.schemes.specs.declared.colour.Colour.TheVariants.{White, Black}
use Rattle.schemes.proofs.PackedFacts.{bit_at_packed, bit_at_past, packed_bytes, packed_from_bits, packed_length, same_from_bits}
use Rattle.lightbox.specs.declared.refusals.ReadRefusal.{ReadRefusal}
use Rattle.lightbox.specs.declared.refusals.ReadRefusal.TheVariants.{NeitherLevel}
use Rattle.lightbox.specs.Reading.{early_refusal, glass_count, RowRead, FirstNeither, Counted, Reading, OneReading, Shows, cleared, ReadsWhatShows}
use Rattle.lightbox.proofs.ContrastFacts.{levels_distinct}
use Rattle.lightbox.proofs.ReadFacts.{all_read}

-- ---- the colour of a bit

white_bit : (b : Bool) → colour_of b ≡ White → b ≡ false
white_bit true e = let z : ◌≡◌ {A = ℕ} 0 1 = cc in absurd (omega arith)
white_bit false e = refl

black_bit : (b : Bool) → colour_of b ≡ Black → b ≡ true
black_bit true e = refl
black_bit false e = let z : ◌≡◌ {A = ℕ} 0 1 = cc in absurd (omega arith)

-- ---- two readings of one glass

module _ (m light dark w : ℕ) (glass : List ℕ) where
  abbrev Row : List ℕ → Type 0
  Row = RowRead m light dark w glass

  abbrev First : ℕ → Type 0
  First = FirstNeither m light dark w glass

  rows_agree : (row row' : List ℕ) → Row row → Row row' → (c : ℕ) → bit_at row c ≡ bit_at row' c
  rows_agree row row' x y c = elim (cases_lt c w) [
    | inl l ↦ elim (cases_Bool (bit_at row c)) [
      | inl t ↦ t ∙ sym (black_bit (bit_at row' c) ((y.black c l).1 ((x.black c l).0 (ap colour_of t))))
      | inr f ↦ f ∙ sym (white_bit (bit_at row' c) ((y.white c l).1 ((x.white c l).0 (ap colour_of f))))
    ]
    | inr l ↦ x.spare c l ∙ sym (y.spare c l)
  ]

  row_or_neither : (row : List ℕ) (c : ℕ) → Row row → First c → ⊥
  row_or_neither row c x first = elim (cases_Bool (bit_at row c)) [
    | inl t ↦ first.not_dark ((x.black c first.within).0 (ap colour_of t))
    | inr f ↦ first.not_light ((x.white c first.within).0 (ap colour_of f))
  ]

  not_earlier : (c d : ℕ) → First c → First d → c < d → ⊥
  not_earlier c d x y l = elim (y.before c l) [ inl e ↦ x.not_light e | inr e ↦ x.not_dark e ]

  firsts_agree : (c d : ℕ) → First c → First d → c ≡ d
  firsts_agree c d x y = elim (cases_order c d) [
    | inl e ↦ e
    | inr o ↦ elim o [ inl l ↦ absurd (not_earlier c d x y l) | inr l ↦ absurd (not_earlier d c y x l) ]
  ]

  counts_agree : (r r' : Result Unit ReadRefusal) (row row' : List ℕ)
      → Counted m light dark w glass r row → Counted m light dark w glass r' row' → (r ≡ r') × (row ≡ row')
  counts_agree (Ok _) (Ok _) row row' x y = (refl, same_from_bits (bytes_for w) row row' x.bytes y.bytes (λ c _. rows_agree row row' x y c))
  counts_agree (Ok _) (Err why) row row' x y = absurd (row_or_neither row y.0 x y.2)
  counts_agree (Err why) (Ok _) row row' x y = absurd (row_or_neither row' x.0 y x.2)
  counts_agree (Err why) (Err why') row row' x y =
      (ap Err (x.1 ∙ ap NeitherLevel (firsts_agree x.0 y.0 x.2 y.2) ∙ sym y.1), x.3 ∙ sym y.3)

  unless_agree : (early : Option ReadRefusal) (out : List ℕ) (r r' : Result Unit ReadRefusal) (row row' : List ℕ)
      → MatchOption early (Counted m light dark w glass r row) (λ why. (r ≡ Err why) × (row ≡ out))
      → MatchOption early (Counted m light dark w glass r' row') (λ why. (r' ≡ Err why) × (row' ≡ out))
      → (r ≡ r') × (row ≡ row')
  unless_agree None out r r' row row' x y = counts_agree r r' row row' x y
  unless_agree (Some why) out r r' row row' x y = (x.0 ∙ sym y.0, x.1 ∙ sym y.1)

pub readings_agree : (s : Meaning) (set w : ℕ) (glass out : List ℕ) (r r' : Result Unit ReadRefusal) (row row' : List ℕ)
    → Reading s set w glass out r row → Reading s set w glass out r' row' → (r ≡ r') × (row ≡ row')
readings_agree s set w glass out r r' row row' x y =
    unless_agree s.m (light s set) (dark s set) w glass (early_refusal s set w (length glass) (length out)) out r r' row row' x y

-- ---- every glass has a reading

module _ (m light dark w : ℕ) (glass : List ℕ) where
  -- each of the first n pixels has a level
  abbrev Levelled : ℕ → Type 0
  Levelled n = (c : ℕ) → c < n → (glass_count m glass c ≡ light) ⊎ (glass_count m glass c ≡ dark)

  search_neither : (n : ℕ) → n ≤ w → Levelled n ⊎ ((c : ℕ) × FirstNeither m light dark w glass c)
  search_neither zero l = inl (λ c h. absurd (omega arith))
  search_neither (suc n) l = go (search_neither n (omega arith)) (cases_eq (glass_count m glass n) light) (cases_eq (glass_count m glass n) dark)
    where
      go : Levelled n ⊎ ((c : ℕ) × FirstNeither m light dark w glass c)
          → (glass_count m glass n ≡ light) ⊎ (glass_count m glass n ≡ light → ⊥) → (glass_count m glass n ≡ dark) ⊎ (glass_count m glass n ≡ dark → ⊥)
          → Levelled (suc n) ⊎ ((c : ℕ) × FirstNeither m light dark w glass c)
      go (inr found) x y = inr found
      go (inl so) (inr a) (inr b) = inr (n, record { within = omega arith; not_light = a; not_dark = b; before = so })
      go (inl so) (inl e) y = inl (λ c h. elim (cases_eq c n) [ inl q ↦ inl (ap (glass_count m glass) q ∙ e) | inr q ↦ so c (omega arith) ])
      go (inl so) (inr a) (inl e) = inl (λ c h. elim (cases_eq c n) [ inl q ↦ inr (ap (glass_count m glass) q ∙ e) | inr q ↦ so c (omega arith) ])

  -- the row that is black where the count is dark
  abbrev dark_bits : ℕ → Bool
  dark_bits c = ltb c w && eqb (glass_count m glass c) dark

  abbrev dark_row : List ℕ
  dark_row = packed (bytes_for w) dark_bits

  dark_row_bit : (c : ℕ) → c < w → bit_at dark_row c ≡ eqb (glass_count m glass c) dark
  dark_row_bit c l =
      bit_at_packed (bytes_for w) dark_bits c (omega arith)
      ∙ ap (λ (b : Bool). b && eqb (glass_count m glass c) dark) (lt-ltb c w l)

  dark_row_spare : (c : ℕ) → w ≤ c → bit_at dark_row c ≡ false
  dark_row_spare c l = elim (cases_lt c (8 * bytes_for w)) [
    | inl h ↦ bit_at_packed (bytes_for w) dark_bits c h ∙ ap (λ (b : Bool). b && eqb (glass_count m glass c) dark) (le-ltb c w l)
    | inr h ↦ let long = packed_length (bytes_for w) dark_bits in bit_at_past dark_row c (omega arith)
  ]

  levelled_row : light < dark → Levelled w → RowRead m light dark w glass dark_row
  levelled_row l so =
      all_read m light dark w glass w dark_row refl (packed_length (bytes_for w) dark_bits) l
      (record {
        counted = λ c h. elim (so c h) [
          | inl e ↦ e ∙ sym (ap (λ (b : Bool). cond b dark light) (dark_row_bit c h ∙ ne_eqb (glass_count m glass c) dark (omega arith)))
          | inr e ↦ e ∙ sym (ap (λ (b : Bool). cond b dark light) (dark_row_bit c h ∙ eq-eqb (glass_count m glass c) dark e))
        ];
        rest = dark_row_spare;
        below = (packed_bytes (bytes_for w) dark_bits).below;
      })

  counted_exists : light < dark → (r : Result Unit ReadRefusal) × (row : List ℕ) × Counted m light dark w glass r row
  counted_exists l = elim (search_neither w (omega arith)) [
    | inl so ↦ (Ok tt, dark_row, levelled_row l so)
    | inr found ↦ (Err (NeitherLevel found.0), replicate (bytes_for w) 0, (found.0, refl, found.1, refl))
  ]

-- a reading that is not refused early is of a qualified set
pub early_qualified : (s : Meaning) (set w glass_bytes out_bytes : ℕ) → early_refusal s set w glass_bytes out_bytes ≡ None → s.qualified set ≡ true
early_qualified s set w glass_bytes out_bytes e = grind (arith, nat_tests)

-- a reading of a qualified set, with sizes that fit, is not refused early
pub not_refused_early : (s : Meaning) (set w glass_bytes out_bytes : ℕ) → 1 ≤ w → w ≤ most_pixels → strip_squares s.m w ≤ most_squares
    → s.qualified set ≡ true → glass_bytes ≡ strip_size s.m w → out_bytes ≡ bytes_for w → early_refusal s set w glass_bytes out_bytes ≡ None
not_refused_early s set w glass_bytes out_bytes a b d q e f = grind (arith, nat_tests)

reading_exists : (s : Meaning) → InRange s → Lawful s → (set w : ℕ) (glass out : List ℕ)
    → (r : Result Unit ReadRefusal) × (row : List ℕ) × Reading s set w glass out r row
reading_exists s range lawful set w glass out = go (early_refusal s set w (length glass) (length out)) refl
  where
    go : (early : Option ReadRefusal) → early_refusal s set w (length glass) (length out) ≡ early
        → (r : Result Unit ReadRefusal) × (row : List ℕ) × Reading s set w glass out r row
    go (Some why) e = (Err why, out, rw e (refl, refl))
    go None e =
        let l = (levels_distinct s range lawful set (early_qualified s set w (length glass) (length out) e)).darker in
        let found = counted_exists s.m (light s set) (dark s set) w glass l in
        (found.0, found.1, rw e found.2)

pub one_reading : OneReading
one_reading s range lawful set w glass out =
    let found = reading_exists s range lawful set w glass out in
    (found.0, found.1, found.2, λ r row x. readings_agree s set w glass out r found.0 row found.1 x found.2)

-- ---- a glass that shows a secret row

module _ (s : Meaning) (set w : ℕ) (glass secret : List ℕ) (shows : Shows s set w glass secret) where
  abbrev Read : List ℕ → Type 0
  Read = RowRead s.m (light s set) (dark s set) w glass

  count_of : (c : ℕ) → c < w → (colour : Colour) → pixel secret c ≡ colour → glass_count s.m glass c ≡ blacks s colour set
  count_of c l colour e = shows c l ∙ ap (λ (x : Colour). blacks s x set) e

  shown_pixel : (row : List ℕ) → Read row → (c : ℕ) → c < w → bit_at row c ≡ bit_at secret c
  shown_pixel row x c l = elim (cases_Bool (bit_at secret c)) [
    | inl t ↦ black_bit (bit_at row c) ((x.black c l).1 (count_of c l Black (ap colour_of t))) ∙ sym t
    | inr f ↦ white_bit (bit_at row c) ((x.white c l).1 (count_of c l White (ap colour_of f))) ∙ sym f
  ]

  shown_bit : (row : List ℕ) → Read row → (c : ℕ) → bit_at row c ≡ (ltb c w && bit_at secret c)
  shown_bit row x c = elim (cases_lt c w) [
    | inl l ↦ shown_pixel row x c l ∙ sym (ap (λ (b : Bool). b && bit_at secret c) (lt-ltb c w l))
    | inr l ↦ x.spare c l ∙ sym (ap (λ (b : Bool). b && bit_at secret c) (le-ltb c w l))
  ]

  none_neither : (c : ℕ) → FirstNeither s.m (light s set) (dark s set) w glass c → ⊥
  none_neither c first = elim (cases_Bool (bit_at secret c)) [
    | inl t ↦ first.not_dark (count_of c first.within Black (ap colour_of t))
    | inr f ↦ first.not_light (count_of c first.within White (ap colour_of f))
  ]

  shown_counted : (r : Result Unit ReadRefusal) (row : List ℕ) → Counted s.m (light s set) (dark s set) w glass r row
      → (r ≡ Ok tt) × (row ≡ cleared w secret)
  shown_counted (Ok _) row x = (refl, packed_from_bits (bytes_for w) (λ c. ltb c w && bit_at secret c) row x.bytes (λ c _. shown_bit row x c))
  shown_counted (Err why) row x = absurd (none_neither x.0 x.2)

pub reads_what_shows : ReadsWhatShows
reads_what_shows s set w glass out secret r row early shows reading =
    shown_counted s set w glass secret shows r row
    (MatchOption-at_none (Counted s.m (light s set) (dark s set) w glass r row) (λ why. (r ≡ Err why) × (row ≡ out)) early reading)
