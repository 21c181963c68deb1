-- Strips: the rows of a film. A strip has m squares for each of its w pixels.
-- Where a square lies is shut in the first four definitions: what is proved of strips rests on the facts of
-- proofs/StripFacts.antt alone, so that another arrangement of the squares can take their place.
use Rattle.std.specs.Prelude.{ℕ, zero, suc, ◌+◌, ◌*◌, ◌/◌, ◌%◌, Bool, true, false, ◌&&◌, List, [], take, drop}
use Rattle.schemes.specs.Bits.{any_below, count_below}
use Rattle.schemes.specs.Keyholders.{member}
use Rattle.schemes.specs.PackedRows.{bytes_for, bit_at}
use Rattle.schemes.specs.declared.colour.Colour.{Colour}
use Rattle.schemes.specs.declared.colour.Colour.TheVariants.{White, Black}

-- A row has at most so many pixels, and a strip at most so many squares.
abbrev pub most_pixels : ℕ
most_pixels = 4096

abbrev pub most_squares : ℕ
most_squares = 32768

-- How many squares a strip of w pixels has.
unfoldable pub strip_squares : (m w : ℕ) → ℕ
strip_squares m w = w * m

-- The bit of square p of pixel c: the squares of one pixel come after those of another.
unfoldable pub square_bit : (m c p : ℕ) → ℕ
square_bit m c p = c * m + p

-- The pixel and the square at bit k.
unfoldable pub pixel_at : (m k : ℕ) → ℕ
pixel_at m k = k / m

unfoldable pub square_at : (m k : ℕ) → ℕ
square_at m k = k % m

-- How many bytes a strip has.
abbrev pub strip_size : (m w : ℕ) → ℕ
strip_size m w = bytes_for (strip_squares m w)

-- The strip of keyholder i in an output that has the strips of keyholders 1, 2, .. one after another; as far as it reaches.
abbrev pub strip_in : (size : ℕ) (out : List ℕ) (keyholder : ℕ) → List ℕ
strip_in size out zero = []
strip_in size out (suc k) = take size (drop (k * size) out)

-- Bit b of the stack of a set's strips, out of n: it is black where some member's strip is black.
abbrev pub stack_bit : (n size set : ℕ) (out : List ℕ) (b : ℕ) → Bool
stack_bit n size set out b = any_below n (λ k. member set (suc k) && bit_at (strip_in size out (suc k)) b)

-- How many of the m squares of pixel c are black among these bits.
abbrev pub blacks_over : (m : ℕ) (bits : ℕ → Bool) (c : ℕ) → ℕ
blacks_over m bits c = count_below m (λ p. bits (square_bit m c p))

-- The colour of pixel c of a packed row: a bit that is set is black.
abbrev pub colour_of : Bool → Colour
colour_of true = Black
colour_of false = White

abbrev pub pixel : (row : List ℕ) (c : ℕ) → Colour
pixel row c = colour_of (bit_at row c)
