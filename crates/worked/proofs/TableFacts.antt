-- The table of films worked by hand: the definitions are computed.
use Rattle.std.proofs.Common.{◌≡◌, ℕ, zero, suc, List, [], ◌∷◌, None, Ok, Result, refl, ◌∙◌, subst₂, arith}
use Rattle.schemes.specs.AllOf.{all_of, row}
use Rattle.schemes.specs.Bits.{bit}
use Rattle.schemes.specs.PackedRows.{bit_at}
use Rattle.schemes.specs.Strips.{strip_squares, square_bit, pixel_at, square_at}
use Rattle.schemes.specs.AllOfFacts.{all_of_lawful, all_of_in_range}
use Rattle.cumulative.specs.Access.{subset, qualifies, maximal, those_below}
use Rattle.cumulative.specs.Cumulative.{film_row}
use Rattle.cumulative.specs.Making.{improper, redundant}
use Rattle.cards.specs.declared.faults.CardFault.TheVariants.{Format}
use Rattle.cards.specs.declared.faults.CardRefusal.TheVariants.{WrongValue}
use Rattle.lightbox.specs.declared.refusals.ReadRefusal.{ReadRefusal}
use Rattle.lightbox.specs.Reading.{early_refusal, Reading, Shows, cleared}
use Rattle.lightbox.proofs.ReadingFacts.{one_reading, reads_what_shows}
use Rattle.worked.specs.Table.{AllOfThree, TwoOfThree, Drawing, Chain, Alone, Cards, WorkedRow, WorkedByHand}

all_of_three : AllOfThree
unfolding row bit
all_of_three = record {
  film_1 = record { over_white = refl; over_black = refl };
  film_2 = record { over_white = refl; over_black = refl };
  film_3 = record { over_white = refl; over_black = refl };
  levels = record { light_is = refl; dark_is = refl };
}

two_of_three : TwoOfThree
unfolding bit
two_of_three = record {
  film_1 = record { over_white = refl; over_black = refl };
  film_2 = record { over_white = refl; over_black = refl };
  film_3 = record { over_white = refl; over_black = refl };
  first_and_third = record { light_is = refl; dark_is = refl };
  all_three = record { light_is = refl; dark_is = refl };
}

drawing : Drawing
drawing = record { four_columns = refl; base_three = refl }

of_chain : Chain
unfolding subset qualifies maximal those_below film_row row bit
of_chain = record {
  forbidden = refl;
  columns_are = refl;
  film_1 = record { over_white = refl; over_black = refl };
  film_2 = record { over_white = refl; over_black = refl };
  film_3 = record { over_white = refl; over_black = refl };
  film_4 = record { over_white = refl; over_black = refl };
}

of_alone : Alone
unfolding subset qualifies maximal those_below film_row row bit
of_alone = record {
  forbidden = refl;
  columns_are = refl;
  film_1 = record { over_white = refl; over_black = refl };
  film_2 = record { over_white = refl; over_black = refl };
}

cards : Cards
unfolding improper redundant subset qualifies maximal those_below
cards = record { of_chain = refl; kind_written = (Format WrongValue 1, refl, refl, refl) }

-- ---- the worked row

-- the glass shows white, black to both
shows_worked : Shows (all_of 2) 3 2 (176 ∷ []) (64 ∷ [])
unfolding bit bit_at square_bit row
shows_worked zero l = refl
shows_worked (suc zero) l = refl
shows_worked (suc (suc c)) l = absurd (omega arith)

not_refused : early_refusal (all_of 2) 3 2 1 1 ≡ None
unfolding strip_squares
not_refused = refl

cleared_worked : cleared 2 (64 ∷ []) ≡ 64 ∷ []
unfolding bit bit_at
cleared_worked = refl

reads_worked : (before : ℕ) → Reading (all_of 2) 3 2 (176 ∷ []) (before ∷ []) (Ok tt) (64 ∷ [])
reads_worked before =
    let found = one_reading (all_of 2) (all_of_in_range 2 (omega arith) (omega arith)) (all_of_lawful 2 (omega arith)) 3 2 (176 ∷ []) (before ∷ []) in
    let same = reads_what_shows (all_of 2) 3 2 (176 ∷ []) (before ∷ []) (64 ∷ []) found.0 found.1 not_refused shows_worked found.2 in
    subst₂ (λ (r : Result Unit ReadRefusal) (after : List ℕ). Reading (all_of 2) 3 2 (176 ∷ []) (before ∷ []) r after) same.0 (same.1 ∙ cleared_worked) found.2

worked_row : WorkedRow
unfolding row bit bit_at square_bit strip_squares pixel_at square_at
worked_row = record { card = refl; strips = λ a b x y. refl; stack = refl; reads = reads_worked }

pub worked_by_hand : WorkedByHand
worked_by_hand = record {
  all_of_three = all_of_three;
  two_of_three = two_of_three;
  drawing = drawing;
  of_chain = of_chain;
  of_alone = of_alone;
  cards = cards;
  worked_row = worked_row;
}
