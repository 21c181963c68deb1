-- What the answer of `draw_order` says to a caller with a slice of 1 to 128 bytes. For `fill_pixels`.
use Rattle.std.proofs.Common.{◌≡◌, ℕ, ◌<◌, ◌≤◌, List, [], length, Some, None, Option}
use Rattle.std.specs.List.{All}
use Rattle.tapes.specs.Blocks.{outcome}
use Rattle.tapes.specs.Drawing.{short, drawn, DrawnInPlace}
use Rattle.tapes.specs.Orders.{order}
use Rattle.tapes.proofs.Outcomes.{block_drawn}
use Rattle.tapes.proofs.Permutations.{order_within}

module _ (before tape : List ℕ) (least : 1 ≤ length before) (most : length before ≤ 128) (slice rest : List ℕ) (answer : Option (Unit {0}))
    (answers : answer ≡ (outcome before tape).answer) (held : slice ≡ (outcome before tape).slice) (left : rest ≡ (outcome before tape).waiting) where
  abbrev m : ℕ
  m = length before

  in_place : DrawnInPlace (order m tape) answer slice rest
  in_place = block_drawn before tape least most slice rest answer answers held left

  pub order_drawn : {unit : Unit {0}} → answer ≡ Some unit → order m tape ≡ drawn slice rest
  order_drawn e = rw e at in_place

  pub order_short : answer ≡ None → (order m tape ≡ short) × (rest ≡ [])
  order_short e = rw e at in_place

  pub order_columns : {unit : Unit {0}} → answer ≡ Some unit → All (λ j. j < m) slice
  order_columns e = order_within m tape slice rest (order_drawn e)
