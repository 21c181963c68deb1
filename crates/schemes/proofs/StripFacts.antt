-- The facts about where squares lie that everything said of strips rests on: every square of a strip has a bit of its own.
use Rattle.std.proofs.Common.{◌≡◌, ℕ, ◌+◌, ◌*◌, ◌<◌, refl, arith}
use Rattle.std.proofs.lemmas.Nat.{mul-add-lt, div-mul-add, mod-mul-add, div_below, mod_below}
use Rattle.schemes.specs.Strips.{strip_squares, square_bit, pixel_at, square_at}

pub square_bit_below : (m w c p : ℕ) → c < w → p < m → square_bit m c p < strip_squares m w
unfolding square_bit strip_squares
square_bit_below m w c p lc lp = omega (arith, mul-add-lt c m p w lc lp)

pub pixel_at_bit : (m c p : ℕ) → p < m → pixel_at m (square_bit m c p) ≡ c
unfolding square_bit pixel_at
pixel_at_bit m c p lp = div-mul-add c m p lp

pub square_at_bit : (m c p : ℕ) → p < m → square_at m (square_bit m c p) ≡ p
unfolding square_bit square_at
square_at_bit m c p lp = mod-mul-add c m p lp

pub pixel_at_below : (m w k : ℕ) → 0 < m → k < strip_squares m w → pixel_at m k < w
unfolding strip_squares pixel_at
pixel_at_below m w k pos l = div_below k m w pos l

pub square_at_below : (m k : ℕ) → 0 < m → square_at m k < m
unfolding square_at
square_at_below m k pos = mod_below k m pos

-- what the code computes
pub strip_squares_are : (m w : ℕ) → strip_squares m w ≡ w * m
unfolding strip_squares
strip_squares_are m w = refl

pub square_bit_is : (m c p : ℕ) → square_bit m c p ≡ c * m + p
unfolding square_bit
square_bit_is m c p = refl
