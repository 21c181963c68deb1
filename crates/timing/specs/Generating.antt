-- The bytes that wait on a generated tape.
use Rattle.std.specs.Prelude.{◌≡◌, ℕ, zero, suc, ◌+◌, ◌-◌, ◌*◌, ◌/◌, ◌%◌, ◌^◌, ◌<◌, ◌∷◌, length, refl}
use Rattle.std.proofs.Common.{ap, arith}
use Rattle.std.specs.List.{All}
use Rattle.std.proofs.lemmas.List.Elements.{All-nil, All-cons}
use Rattle.std.proofs.lemmas.Nat.{mod_below}
use Rattle.timing.specs.Generated.{generated}

pub generated_below : (s n : ℕ) → All (λ b. b < 256) (generated s n)
generated_below s zero = All-nil (λ b. b < 256)
generated_below s (suc n) =
    All-cons (λ b. b < 256) (s / 2 ^ 24 % 256) _ (mod_below (s / 2 ^ 24) 256 (omega arith)) (generated_below ((s * 1664525 % 2 ^ 32 + 1013904223) % 2 ^ 32) n)

pub generated_length : (s n : ℕ) → length (generated s n) ≡ n
generated_length s zero = refl
generated_length s (suc n) = ap suc (generated_length ((s * 1664525 % 2 ^ 32 + 1013904223) % 2 ^ 32) n)

pub generated_next : (s n : ℕ) → 0 < n → generated s n ≡ s / 2 ^ 24 % 256 ∷ generated ((s * 1664525 % 2 ^ 32 + 1013904223) % 2 ^ 32) (n - 1)
generated_next s zero h = absurd (omega arith)
generated_next s (suc n) h = let e : suc n - 1 ≡ n = omega arith in rw e
