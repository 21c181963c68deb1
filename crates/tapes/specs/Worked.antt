-- Worked examples: what the definitions yield.
use Rattle.std.specs.Prelude.{◌≡◌, [], ◌∷◌, refl}
use Rattle.tapes.specs.Tapes.{arithmetic_run}
use Rattle.tapes.specs.Drawing.{drawn, short}
use Rattle.tapes.specs.Digits.{digit}
use Rattle.tapes.specs.Orders.{columns, arranged, order}

-- In base 3 the bytes 255, 254 give the digit 2: the bound is 255, so that 255 is thrown away, and 254 is 84 * 3 + 2.
pub base_three : digit 3 (255 ∷ 254 ∷ []) ≡ drawn 2 []
base_three = refl

-- With 4 columns the digits 2 0 1 give the order 2 0 3 1.
pub four_columns : arranged (columns 4) (2 ∷ 0 ∷ 1 ∷ []) ≡ 2 ∷ 0 ∷ 3 ∷ 1 ∷ []
four_columns = refl

-- The same from a tape: 254 is 2 mod 4; 255 is thrown away and 0 is 0 mod 3; 7 is 1 mod 2; and 9 still waits.
pub four_columns_drawn : order 4 (254 ∷ 255 ∷ 0 ∷ 7 ∷ 9 ∷ []) ≡ drawn (2 ∷ 0 ∷ 3 ∷ 1 ∷ []) (9 ∷ [])
four_columns_drawn = refl

-- One column draws nothing.
pub one_column : order 1 [] ≡ drawn (0 ∷ []) []
one_column = refl

-- At a tape's end there is no order.
pub too_short : order 3 (1 ∷ []) ≡ short
too_short = refl

-- A run around 256.
pub run_around : arithmetic_run 250 3 4 ≡ 250 ∷ 253 ∷ 0 ∷ 3 ∷ []
run_around = refl
