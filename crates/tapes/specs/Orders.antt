-- The column order of a block: digits, and the columns that they take away one by one.
use Rattle.std.specs.Prelude.{ℕ, zero, suc, List, [], ◌∷◌, slice_index}
use Rattle.std.specs.List.{range_with_len, remove}
use Rattle.tapes.specs.Drawing.{drawn, Draw, onward}
use Rattle.tapes.specs.Digits.{digit}

-- The digits of a block of m columns: one of each base m, m - 1, down to 2.
abbrev pub digits : ℕ → Draw (List ℕ)
digits zero tape = drawn [] tape
digits (suc zero) tape = drawn [] tape
digits (suc (suc k)) tape =
    onward (digit (suc (suc k)) tape) (λ d rest. onward (digits (suc k) rest) (λ ds left. drawn (d ∷ ds) left))

-- The columns 0 to m - 1, in rising order.
abbrev pub columns : ℕ → List ℕ
columns m = range_with_len 0 m

-- Each digit takes away the column at its place among those that remain; the columns taken, then what is left, are the order.
abbrev pub arranged : (remaining ds : List ℕ) → List ℕ
arranged remaining [] = remaining
arranged remaining (d ∷ ds) = slice_index remaining d ∷ arranged (remove remaining d) ds

-- These m columns, arranged by digits drawn from the tape.
abbrev pub arranging : ℕ → List ℕ → Draw (List ℕ)
arranging m remaining tape = onward (digits m tape) (λ ds left. drawn (arranged remaining ds) left)

-- The order of a block of m columns.
abbrev pub order : ℕ → Draw (List ℕ)
order m tape = arranging m (columns m) tape

-- The orders of w blocks, one after another.
abbrev pub orders : (m w : ℕ) → Draw (List (List ℕ))
orders m zero tape = drawn [] tape
orders m (suc w) tape =
    onward (order m tape) (λ o rest. onward (orders m w rest) (λ os left. drawn (o ∷ os) left))
