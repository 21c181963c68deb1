-- Bits of numbers, and tests of the numbers below a bound. The lowest bit is bit 0.
use Rattle.std.specs.Prelude.{ℕ, zero, suc, ◌/◌, ◌%◌, ◌^◌, Bool, true, false, cond, not, ◌||◌, ◌==◌, bit_or}

-- Bit k of x.
unfoldable pub bit : (x k : ℕ) → Bool
bit x k = x / 2 ^ k % 2 == 1

-- Some number below n passes the test.
abbrev pub any_below : (n : ℕ) → (ℕ → Bool) → Bool
any_below zero test = false
any_below (suc n) test = any_below n test || test n

-- How many numbers below n pass the test.
abbrev pub count_below : (n : ℕ) → (ℕ → Bool) → ℕ
count_below zero test = zero
count_below (suc n) test = cond (test n) (suc (count_below n test)) (count_below n test)

-- Exactly one of the two is true.
abbrev pub differ : (a b : Bool) → Bool
differ true b = not b
differ false b = b

-- An odd number of the lowest r bits of x is set.
abbrev pub parity : (r x : ℕ) → Bool
parity zero x = false
parity (suc r) x = differ (bit x r) (parity r x)

-- The number of n bits whose bit k is set where k passes the test.
abbrev pub number_of : (n : ℕ) → (ℕ → Bool) → ℕ
number_of zero test = zero
number_of (suc n) test = cond (test n) (bit_or (number_of n test) (2 ^ n)) (number_of n test)
