-- What the maker's films show to a set, the light box reads: the law of whole runs, `ReadsBack`.
use Rattle.std.proofs.Common.{◌≡◌, ℕ, ◌<◌, ◌≤◌, List, [], ◌∷◌, length, None, Ok, Result, refl, subst, arith}
use Rattle.std.specs.List.{All}
use Rattle.std.proofs.lemmas.List.Elements.{All-nil, All-cons}
use Rattle.schemes.specs.Laws.{InRange, Lawful}
use Rattle.schemes.specs.Meaning.{Meaning, blacks}
use Rattle.schemes.specs.Strips.{strip_size, stack_bit, blacks_over, pixel}
use Rattle.schemes.specs.declared.colour.Colour.{Colour}
use Rattle.schemes.specs.declared.colour.Colour.TheVariants.{White, Black}
use Rattle.maker.specs.Films.{films_size}
use Rattle.maker.specs.Law.{Readable}
use Rattle.maker.specs.Runs.{State, fresh, Call, Event, row, spoil, tally, row_refusal, outcome, transcript}
use Rattle.maker.proofs.Showing.{run_shown}
use Rattle.lightbox.specs.Laying.{stacked, StripsOf}
use Rattle.lightbox.specs.Reading.{early_refusal, Reading, Shows, cleared}
use Rattle.lightbox.specs.declared.refusals.ReadRefusal.{ReadRefusal}
use Rattle.lightbox.proofs.LayFacts.{stacked_length}
use Rattle.lightbox.proofs.ReadingFacts.{not_refused_early, one_reading, reads_what_shows}
use Rattle.lightbox.proofs.StackFacts.{strips_of_size, stack_shows}
use Rattle.readback.specs.Law.{ReadsRow, ReadBackFrom, ReadsBack}
use Rattle.readback.proofs.Accepted.{accepted}

-- ---- films that are readable to a set

module _ (s : Meaning) (w set : ℕ) (films secret : List ℕ) (readable : Readable s w set secret films) (long : films_size s w ≤ length films) where
  over_colour : (c : ℕ) → c < w → (colour : Colour) → pixel secret c ≡ colour → blacks_over s.m (stack_bit s.n (strip_size s.m w) set films) c ≡ blacks s colour set
  over_colour c l White e = readable.over_white c l e
  over_colour c l Black e = readable.over_black c l e

  module _ (strips : List (List ℕ)) (of : StripsOf s.n (strip_size s.m w) set films strips) where
    abbrev glass : List ℕ
    glass = stacked (strip_size s.m w) strips

    pub glass_length : length glass ≡ strip_size s.m w
    glass_length = stacked_length (strip_size s.m w) strips (strips_of_size s.n (strip_size s.m w) set films strips of long)

    glass_shows : Shows s set w glass secret
    glass_shows = stack_shows s set w films secret strips long of (λ c l. over_colour c l (pixel secret c) refl)

    pub readable_read : (out : List ℕ) (r : Result Unit ReadRefusal) (read : List ℕ) → early_refusal s set w (length glass) (length out) ≡ None
        → Reading s set w glass out r read → (r ≡ Ok tt) × (read ≡ cleared w secret)
    readable_read out r read early reading = reads_what_shows s set w glass out secret r read early glass_shows reading

    reads_row : InRange s → Lawful s → (out : List ℕ) → early_refusal s set w (length glass) (length out) ≡ None → ReadsRow s w set glass out secret
    reads_row range lawful out early =
        let found = one_reading s range lawful set w glass out in
        let same = readable_read out found.0 found.1 early found.2 in
        record {
          reads =
              subst (λ (r : Result Unit ReadRefusal). Reading s set w glass out r (cleared w secret)) same.0
              (subst (λ (read : List ℕ). Reading s set w glass out found.0 read) same.1 found.2);
          only_so = λ r read reading. readable_read out r read early reading;
        }

-- ---- runs

module _ (s : Meaning) (range : InRange s) (lawful : Lawful s) (w h : ℕ) where
  call_read_back : (st : State) (call : Call) → ReadBackFrom s w call (outcome s w h st call)
  call_read_back st (row secret out work) = λ made a set among qualified strips of read long.
      let films = (outcome s w h st (row secret out work)).out in
      let event : Event = record { call = row secret out work; outcome = outcome s w h st (row secret out work) } in
      let fits = accepted s w h st secret out work (row_refusal s w h st.made (length secret) (length out) (length work)) refl made a in
      let readable = run_shown s w h lawful st (row secret out work ∷ []) 0 event (omega arith) made a set among qualified in
      let glass-long = glass_length s w set films secret readable fits.all_strips strips of in
      reads_row s w set films secret readable fits.all_strips strips of range lawful read
      (not_refused_early s set w (length (stacked (strip_size s.m w) strips)) (length read) fits.some_pixel fits.few_pixels fits.few_squares qualified glass-long long)
  call_read_back st spoil = tt
  call_read_back st tally = tt

  abbrev IsReadBack : Event → Type 0
  IsReadBack e = ReadBackFrom s w e.call e.outcome

  run_read_back : (st : State) (calls : List Call) → All IsReadBack (transcript s w h st calls)
  run_read_back st [] = All-nil IsReadBack
  run_read_back st (call ∷ calls) =
      All-cons IsReadBack (record { call = call; outcome = outcome s w h st call }) (transcript s w h (outcome s w h st call).left calls)
      (call_read_back st call) (run_read_back (outcome s w h st call).left calls)

pub reads_back : (s : Meaning) → InRange s → Lawful s → (w : ℕ) → ReadsBack s w
reads_back s range lawful w h calls tape = run_read_back s range lawful w h (fresh tape) calls
