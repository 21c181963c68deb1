-- The numbers of a list of sets.
use Rattle.std.proofs.Common.{◌≡◌, ℕ, List, [], ◌∷◌, length, map, refl, ap}
use Rattle.std.proofs.lemmas.List.{length-map}
use Rattle.schemes.specs.declared.keyholders.KeyholderSet.{KeyholderSet}
use Rattle.cumulative.specs.Access.{numbers}

pub numbers_length : (sets : List KeyholderSet) → length (numbers sets) ≡ length sets
numbers_length sets = length-map sets (λ (s : KeyholderSet). s.bits)

-- the sets of some numbers have those numbers
pub numbers_of : (bytes : List ℕ) → numbers (map (λ b. record { bits = b }) bytes) ≡ bytes
numbers_of [] = refl
numbers_of (b ∷ bytes) = ap (λ l. b ∷ l) (numbers_of bytes)
