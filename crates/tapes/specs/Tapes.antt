-- The bytes that still wait on a practice tape.
use Rattle.std.specs.Prelude.{ℕ, ◌+◌, ◌*◌, ◌%◌, List, map}
use Rattle.std.specs.List.{range_with_len}

-- Byte k of the run, from 0 on, is byte + k * step mod 256.
abbrev pub arithmetic_run : (byte step count : ℕ) → List ℕ
arithmetic_run byte step count = map (λ k. (byte + k * step) % 256) (range_with_len 0 count)
