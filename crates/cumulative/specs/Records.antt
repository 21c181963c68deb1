-- The record of a keyholder: the numbers of the maximal forbidden sets that he is not in.
use Rattle.std.specs.Prelude.{ℕ, suc, Bool, not, ◌&&◌, List, length, nat_le, nat_lt, slice_index}
use Rattle.schemes.specs.Keyholders.{member}

-- Forbidden set q is there, and keyholder i is not in it.
abbrev pub lacks : (forbidden : List ℕ) (i q : ℕ) → Bool
lacks forbidden i q = nat_lt q (length forbidden) && not (member (slice_index forbidden q) i)

-- The record of keyholder i of 1 to n has the number q; anybody else's is empty.
abbrev pub in_record : (n : ℕ) (forbidden : List ℕ) (i q : ℕ) → Bool
in_record n forbidden i q = (nat_le 1 i && nat_le i n) && lacks forbidden i q

-- A record names rows of the table of all of t: row q, that of forbidden set q, is the row of keyholder q + 1 there.
abbrev pub noted : (record_number q : ℕ) → Bool
noted rows q = member rows (suc q)
