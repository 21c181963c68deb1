-- The three outcomes of drawing an order into a slice: for `draw_order`, and for those who call it.
use Rattle.std.proofs.Common.{◌≡◌, ℕ, ◌≤◌, leb, List, length, Some, None, Option, refl, ap, ◌∙◌, arith}
use Rattle.std.proofs.lemmas.List.FromFn.{length-range_with_len}
use Rattle.std.proofs.lemmas.Bool.{le-leb, and_from, cond-true}
use Rattle.tapes.specs.Drawing.{Drawn, short, drawn, DrawnInPlace}
use Rattle.tapes.specs.Orders.{columns, arranging, order}
use Rattle.tapes.specs.Blocks.{is_block, ordered, outcome}

module _ (slice tape : List ℕ) where
  pub outcome_ordered : 1 ≤ length slice → length slice ≤ 128 → outcome slice tape ≡ ordered (length slice) (order (length slice) tape)
  outcome_ordered least most = cond-true (is_block (length slice)) _ _ (and_from (leb 1 (length slice)) (leb (length slice) 128) (le-leb 1 (length slice) least) (le-leb (length slice) 128 most))

-- What was arranged of the columns in rising order is the order.
pub arranging_columns : (m : ℕ) (start tape : List ℕ) → start ≡ columns m → arranging (length start) start tape ≡ order m tape
arranging_columns m start tape e =
    let size : length start ≡ m = ap length e ∙ length-range_with_len 0 m in
    ap (λ k. arranging k start tape) size ∙ ap (λ l. arranging m l tape) e

-- What a caller with a block learns of the order, and of the slice at the tape's end.
module _ (m : ℕ) (held rest : List ℕ) where
  ordered_in_place : (drawing : Drawn (List ℕ)) (r : Option (Unit {0})) → r ≡ (ordered m drawing).answer → held ≡ (ordered m drawing).slice →
      rest ≡ (ordered m drawing).waiting → DrawnInPlace drawing r held rest
  ordered_in_place short None answer holds left = (refl, left)
  ordered_in_place short (Some _) answer holds left = let z : ◌≡◌ {A = ℕ} 0 1 = cc in absurd (omega arith)
  ordered_in_place (drawn o left') None answer holds left = let z : ◌≡◌ {A = ℕ} 0 1 = cc in absurd (omega arith)
  ordered_in_place (drawn o left') (Some _) answer holds left = cc

module _ (slice tape : List ℕ) (least : 1 ≤ length slice) (most : length slice ≤ 128) (held rest : List ℕ) where
  pub block_drawn : (r : Option (Unit {0})) → r ≡ (outcome slice tape).answer → held ≡ (outcome slice tape).slice → rest ≡ (outcome slice tape).waiting →
      DrawnInPlace (order (length slice) tape) r held rest
  block_drawn r answer holds left =
      let is = outcome_ordered slice tape least most in
      ordered_in_place (length slice) held rest (order (length slice) tape) r (rw is at answer) (rw is at holds) (rw is at left)
