-- Digits drawn from a tape, and why they are fair.
use Rattle.std.specs.Prelude.{◌≡◌, ℕ, ◌-◌, ◌/◌, ◌%◌, ◌<◌, ◌≤◌, Bool, false, cond, ◌&&◌, [], ◌∷◌, count_by, ◌==◌, nat_le, nat_lt}
use Rattle.std.specs.List.{range_with_len}
use Rattle.tapes.specs.Drawing.{Drawn, short, drawn, Draw}

-- Whether digits are drawn of this base.
abbrev pub is_base : ℕ → Bool
is_base base = nat_le 2 base && nat_le base 128

-- The greatest multiple of the base up to 256. Bytes from here on are thrown away.
abbrev pub bound : ℕ → ℕ
bound base = 256 - 256 % base

-- The digit is the first byte below the bound, mod the base.
abbrev pub digit : ℕ → Draw ℕ
digit base [] = short
digit base (byte ∷ rest) = cond (nat_lt byte (bound base)) (drawn (byte % base) rest) (digit base rest)

-- Whether a digit was drawn, and is d.
abbrev pub drew : ℕ → Drawn ℕ → Bool
drew d short = false
drew d (drawn e rest) = e == d

-- Whether a byte, alone on a tape, spells the digit d.
abbrev pub spells : (base d byte : ℕ) → Bool
spells base d byte = drew d (digit base (byte ∷ []))

-- How many of the 256 bytes spell the digit d.
abbrev pub spellings : (base d : ℕ) → ℕ
spellings base d = count_by (spells base d) (range_with_len 0 256)

-- Every digit is spelled by equally many bytes, and a byte that is thrown away spells none.
pub record Fair (base : ℕ) : Type 0 where
  pub equally : (d : ℕ) → d < base → spellings base d ≡ bound base / base
  pub thrown : (d byte : ℕ) → bound base ≤ byte → spells base d byte ≡ false
