-- A worked row of all of 2, pixels white and black: the strips 1001 and 1010 lie on the glass as 1011, which reads 01.
use Rattle.std.proofs.Common.{◌≡◌, ℕ, zero, suc, List, [], ◌∷◌, None, Ok, Result, refl, ◌∙◌, subst₂, arith}
use Rattle.schemes.specs.AllOf.{all_of, row}
use Rattle.schemes.specs.Bits.{bit}
use Rattle.schemes.specs.PackedRows.{bit_at}
use Rattle.schemes.specs.Strips.{strip_squares, square_bit}
use Rattle.schemes.specs.AllOfFacts.{all_of_lawful, all_of_in_range}
use Rattle.lightbox.specs.declared.refusals.ReadRefusal.{ReadRefusal}
use Rattle.lightbox.specs.Laying.{stacked}
use Rattle.lightbox.specs.Reading.{early_refusal, Reading, Shows, cleared}
use Rattle.lightbox.proofs.ReadingFacts.{one_reading, reads_what_shows}

pub worked_stack : stacked 1 ((144 ∷ []) ∷ (160 ∷ []) ∷ []) ≡ 176 ∷ []
worked_stack = refl

-- the glass shows white, black to both
shows_worked : Shows (all_of 2) 3 2 (176 ∷ []) (64 ∷ [])
unfolding bit bit_at square_bit row
shows_worked zero l = refl
shows_worked (suc zero) l = refl
shows_worked (suc (suc c)) l = absurd (omega arith)

not_refused : early_refusal (all_of 2) 3 2 1 1 ≡ None
unfolding strip_squares
not_refused = refl

cleared_worked : cleared 2 (64 ∷ []) ≡ 64 ∷ []
unfolding bit bit_at
cleared_worked = refl

-- whatever byte the output held
pub worked_reading : (before : ℕ) → Reading (all_of 2) 3 2 (176 ∷ []) (before ∷ []) (Ok tt) (64 ∷ [])
worked_reading before =
    let found = one_reading (all_of 2) (all_of_in_range 2 (omega arith) (omega arith)) (all_of_lawful 2 (omega arith)) 3 2 (176 ∷ []) (before ∷ []) in
    let same = reads_what_shows (all_of 2) 3 2 (176 ∷ []) (before ∷ []) (64 ∷ []) found.0 found.1 not_refused shows_worked found.2 in
    subst₂ (λ (r : Result Unit ReadRefusal) (after : List ℕ). Reading (all_of 2) 3 2 (176 ∷ []) (before ∷ []) r after) same.0 (same.1 ∙ cleared_worked) found.2
