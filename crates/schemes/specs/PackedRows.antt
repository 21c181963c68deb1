-- Rows of bits packed into bytes, the highest bit of each byte first: bit 0 of a row is the highest bit of its first byte.
use Rattle.std.specs.Prelude.{◌≡◌, ℕ, ◌+◌, ◌-◌, ◌*◌, ◌/◌, ◌%◌, ◌<◌, Bool, List, map, length, slice_index}
use Rattle.std.specs.List.{range_with_len}
use Rattle.schemes.specs.Bits.{bit, number_of}

-- How many bytes hold so many bits.
abbrev pub bytes_for : (bits : ℕ) → ℕ
bytes_for bits = (bits + 7) / 8

-- Bit k of a row; 0 past its end.
unfoldable pub bit_at : (row : List ℕ) (k : ℕ) → Bool
bit_at row k = bit (slice_index row (k / 8)) (7 - k % 8)

-- The byte of eight bits, the highest first.
abbrev pub byte_of : (bits : ℕ → Bool) → ℕ
byte_of bits = number_of 8 (λ k. bits (7 - k))

-- So many bytes of the bits.
abbrev pub packed : (size : ℕ) (bits : ℕ → Bool) → List ℕ
packed size bits = map (λ b. byte_of (λ k. bits (8 * b + k))) (range_with_len 0 size)

-- A list of so many bytes.
pub record Bytes (size : ℕ) (row : List ℕ) : Type 0 where
  pub long : length row ≡ size
  pub below : (i : ℕ) → slice_index row i < 256
