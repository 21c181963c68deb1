-- What was drawn, from what a call answers and leaves; for every function that draws, and for its callers.
use Rattle.std.proofs.Common.{◌≡◌, ℕ, List, Some, refl, arith}
use Rattle.tapes.specs.Drawing.{Drawn, short, drawn, Draw, onward, value_of, rest_of}

-- The answer and what it leaves, as what was drawn.
pub from_answer : {A : Type 0} (a : A) (rest : List ℕ) (drawing : Drawn A) → Some a ≡ value_of drawing → rest ≡ rest_of drawing → drawing ≡ drawn a rest
from_answer a rest short answer leaves = let z : ◌≡◌ {A = ℕ} 0 1 = cc in absurd (omega arith)
from_answer a rest (drawn a' rest') answer leaves = cc

-- What was drawn in two steps was drawn in the first and then in the second.
pub both_drawn : {A B : Type 0} (first : Drawn A) (next : A → Draw B) (b : B) (rest : List ℕ) → onward first next ≡ drawn b rest →
    (a : A) × (between : List ℕ) × (first ≡ drawn a between) × (next a between ≡ drawn b rest)
both_drawn short next b rest e = let z : ◌≡◌ {A = ℕ} 0 1 = cc in absurd (omega arith)
both_drawn (drawn a between) next b rest e = (a, between, refl, e)
