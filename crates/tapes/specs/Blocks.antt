-- What a call that draws an order into a slice answers and leaves.
use Rattle.std.specs.Prelude.{ℕ, Bool, cond, ◌&&◌, List, [], length, replicate, Some, None, Option, nat_le}
use Rattle.tapes.specs.Drawing.{Drawn, short, drawn}
use Rattle.tapes.specs.Orders.{order}

-- Whether a block has so many columns.
abbrev pub is_block : ℕ → Bool
is_block m = nat_le 1 m && nat_le m 128

pub record Outcome : Type 0 where
  pub answer : Option (Unit {0})
  pub slice : List ℕ
  pub waiting : List ℕ

-- No block: nothing changes.
abbrev pub untouched : (slice tape : List ℕ) → Outcome
untouched slice tape = record { answer = None; slice = slice; waiting = tape }

-- A block of m columns: its order; or at the tape's end none, and the slice is wiped.
abbrev pub ordered : ℕ → Drawn (List ℕ) → Outcome
ordered m short = record { answer = None; slice = replicate m 0; waiting = [] }
ordered m (drawn o rest) = record { answer = Some tt; slice = o; waiting = rest }

-- The slice has a byte for each column of the block.
abbrev pub outcome : (slice tape : List ℕ) → Outcome
outcome slice tape = cond (is_block (length slice)) (ordered (length slice) (order (length slice) tape)) (untouched slice tape)
