-- The record of a keyholder before any set is asked, and the cell that it gives.
use Rattle.std.proofs.Common.{◌≡◌, ℕ, ◌+◌, Bool, not, ◌&&◌, ltb, List, length, get_or, sym, refl, ap, ◌∙◌, arith}
use Rattle.std.specs.List.{list_any, range_with_len}
use Rattle.std.proofs.lemmas.Bool.{le-ltb}
use Rattle.schemes.specs.AllOf.{all_of}
use Rattle.schemes.specs.Bits.{any_below}
use Rattle.schemes.specs.Keyholders.{member}
use Rattle.schemes.specs.BitFacts.{bit_of_0}
use Rattle.schemes.specs.TestFacts.{any_same}
use Rattle.schemes.specs.declared.colour.Colour.{Colour}
use Rattle.cumulative.specs.Access.{forbidden_sets}
use Rattle.cumulative.specs.Cumulative.{cumulative}
use Rattle.cumulative.specs.CumulativeFacts.{has_row, row_asked, cell_by_record}
use Rattle.cumulative.specs.Records.{noted, in_record}
use Rattle.cumulative.proofs.ListFacts.{any_range}

-- ---- he has noted the numbers below q of the sets that he is not in

abbrev pub NotedBelow : (list : List ℕ) (keyholder q rows : ℕ) → Type 0
NotedBelow list i q rows = (p : ℕ) → noted rows p ≡ (ltb p q && not (member (get_or list p 0) i))

pub noted_none : (list : List ℕ) (i rows : ℕ) → rows ≡ 0 → NotedBelow list i 0 rows
noted_none list i rows e p =
    ap (λ (x : ℕ). noted x p) e ∙ bit_of_0 p ∙ sym (ap (λ (b : Bool). b && not (member (get_or list p 0) i)) (le-ltb p 0 (omega arith)))

-- ---- the cell, by the rows of the record

pub cell_asked : (n : ℕ) (minimal : List ℕ) (t : ℕ) (c : Colour) (i j : ℕ) → length (forbidden_sets n minimal) ≡ t
    → list_any (λ q. in_record n (forbidden_sets n minimal) i q && (all_of t).cell c (q + 1) j) (range_with_len 0 t) ≡ (cumulative n minimal).cell c i j
cell_asked n minimal t c i j e =
    any_range t asked
    ∙ any_same t asked (has_row n F c i j)
    (λ q l. ap (λ (b : Bool). in_record n F i q && b) (sym (row_asked t F c j q ((all_of t).cell c (q + 1) j) e refl)))
    ∙ ap (λ (k : ℕ). any_below k (has_row n F c i j)) (sym e)
    ∙ cell_by_record n minimal c i j
  where
    F : List ℕ
    F = forbidden_sets n minimal

    asked : ℕ → Bool
    asked q = in_record n F i q && (all_of t).cell c (q + 1) j
