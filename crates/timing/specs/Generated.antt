-- The bytes of a linear congruential generator: the highest byte of each state.
use Rattle.std.specs.Prelude.{ℕ, zero, suc, ◌+◌, ◌*◌, ◌/◌, ◌%◌, ◌^◌, List, [], ◌∷◌}

abbrev pub generated : (state count : ℕ) → List ℕ
generated s zero = []
generated s (suc n) = s / 2 ^ 24 % 256 ∷ generated ((s * 1664525 % 2 ^ 32 + 1013904223) % 2 ^ 32) n
