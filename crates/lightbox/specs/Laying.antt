-- Strips laid on a glass. A glass is a strip too: as many bytes, a set bit is a black square. What lies on it adds up:
-- a square of the glass is black where some strip that was laid on it is black.
use Rattle.std.specs.Prelude.{◌≡◌, ℕ, suc, ◌*◌, ◌<◌, ◌≤◌, true, cond, not, ◌↔◌, List, [], ◌∷◌, All, Contains, length, replicate, fold, Option, ◌==◌, bit_or}
use Rattle.std.specs.Simd.Lanes.{zip2}
use Rattle.schemes.specs.Keyholders.{member}
use Rattle.schemes.specs.PackedRows.{bit_at}
use Rattle.schemes.specs.Refusals.{first_refusal}
use Rattle.schemes.specs.Strips.{strip_in, stack_bit}
use Rattle.lightbox.specs.declared.refusals.LayRefusal.{LayRefusal}
use Rattle.lightbox.specs.declared.refusals.LayRefusal.TheVariants.{Lengths}

-- Why a strip is not laid, if it is not; by the lengths of the glass and the strip.
abbrev pub lay_refusal : (glass_bytes strip_bytes : ℕ) → Option LayRefusal
lay_refusal glass_bytes strip_bytes = first_refusal ((not (glass_bytes == strip_bytes), Lengths) ∷ [])

-- What the glass holds once a strip is laid on it: each byte's OR with that of the strip. A strip of another length
-- leaves the glass as it is.
abbrev pub laid : (glass strip : List ℕ) → List ℕ
laid glass strip = cond (length glass == length strip) (zip2 bit_or glass strip) glass

-- A clear glass of so many bytes, with strips laid on it one after another.
abbrev pub stacked : (size : ℕ) (strips : List (List ℕ)) → List ℕ
stacked size strips = fold laid (replicate size 0) strips

-- Whatever strips are laid on a clear glass, in any order and each any number of times: the glass is black exactly where
-- some of them is.
abbrev pub StacksAddUp : Type 0
StacksAddUp =
    (size : ℕ) (strips : List (List ℕ)) → All (λ strip. length strip ≡ size) strips → (b : ℕ) →
    (bit_at (stacked size strips) b ≡ true) ↔ ((strip : List ℕ) × Contains strips strip × (bit_at strip b ≡ true))

-- The strips of a list are those of a set's members, out of n and as they stand in an output: every member's strip is in
-- the list, and no other.
pub record StripsOf (n size set : ℕ) (out : List ℕ) (strips : List (List ℕ)) : Type 0 where
  pub every : (k : ℕ) → k < n → member set (suc k) ≡ true → Contains strips (strip_in size out (suc k))
  pub only : All (λ strip. (k : ℕ) × (k < n) × (member set (suc k) ≡ true) × (strip ≡ strip_in size out (suc k))) strips

-- The strips of a set's members, laid on a clear glass in any order and each any number of times, give the set's stack.
abbrev pub StacksOfMembers : Type 0
StacksOfMembers =
    (n size set : ℕ) (out : List ℕ) (strips : List (List ℕ)) → n * size ≤ length out → StripsOf n size set out strips →
    (b : ℕ) → bit_at (stacked size strips) b ≡ stack_bit n size set out b
