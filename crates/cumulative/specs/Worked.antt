-- Two schemes of sets worked out: the maximal forbidden sets, the number of columns, and the films' cells from column 0 on.
use Rattle.std.specs.Prelude.{◌≡◌, ℕ, cond, List, [], ◌∷◌, map, refl}
use Rattle.std.specs.List.{range_with_len}
use Rattle.schemes.specs.AllOf.{row}
use Rattle.schemes.specs.Bits.{bit}
use Rattle.schemes.specs.Meaning.{Meaning}
use Rattle.schemes.specs.declared.colour.Colour.{Colour}
use Rattle.schemes.specs.declared.colour.Colour.TheVariants.{White, Black}
use Rattle.cumulative.specs.Access.{subset, qualifies, maximal, those_below, forbidden_sets}
use Rattle.cumulative.specs.Cumulative.{film_row, cumulative}

-- The cells of a keyholder.
abbrev film : Meaning → Colour → (keyholder : ℕ) → List ℕ
film s colour i = map (λ j. cond (s.cell colour i j) 1 0) (range_with_len 0 s.m)

-- ---- 1 with 2, 2 with 3, or 3 with 4, of four keyholders

abbrev pairs : List ℕ
pairs = 3 ∷ 6 ∷ 12 ∷ []

abbrev chain : Meaning
chain = cumulative 4 pairs

pub chain_forbidden : forbidden_sets 4 pairs ≡ 5 ∷ 9 ∷ 10 ∷ []
unfolding subset qualifies maximal those_below
chain_forbidden = refl

pub chain_columns : chain.m ≡ 4
unfolding subset qualifies maximal those_below
chain_columns = refl

pub chain_film_1 : (film chain White 1 ≡ 0 ∷ 1 ∷ 1 ∷ 0 ∷ []) × (film chain Black 1 ≡ 1 ∷ 0 ∷ 0 ∷ 1 ∷ [])
unfolding subset qualifies maximal those_below film_row row bit
chain_film_1 = (refl, refl)

pub chain_film_2 : (film chain White 2 ≡ 0 ∷ 1 ∷ 1 ∷ 1 ∷ []) × (film chain Black 2 ≡ 0 ∷ 1 ∷ 1 ∷ 1 ∷ [])
unfolding subset qualifies maximal those_below film_row row bit
chain_film_2 = (refl, refl)

pub chain_film_3 : (film chain White 3 ≡ 0 ∷ 1 ∷ 1 ∷ 1 ∷ []) × (film chain Black 3 ≡ 1 ∷ 0 ∷ 1 ∷ 1 ∷ [])
unfolding subset qualifies maximal those_below film_row row bit
chain_film_3 = (refl, refl)

pub chain_film_4 : (film chain White 4 ≡ 0 ∷ 1 ∷ 0 ∷ 1 ∷ []) × (film chain Black 4 ≡ 0 ∷ 1 ∷ 0 ∷ 1 ∷ [])
unfolding subset qualifies maximal those_below film_row row bit
chain_film_4 = (refl, refl)

-- ---- 1 or 2 alone, of two keyholders: the films are the picture

abbrev alone : List ℕ
alone = 1 ∷ 2 ∷ []

-- Only the empty set is forbidden.
pub alone_forbidden : forbidden_sets 2 alone ≡ 0 ∷ []
unfolding subset qualifies maximal those_below
alone_forbidden = refl

pub alone_columns : (cumulative 2 alone).m ≡ 1
unfolding subset qualifies maximal those_below
alone_columns = refl

pub alone_white : (film (cumulative 2 alone) White 1 ≡ 0 ∷ []) × (film (cumulative 2 alone) White 2 ≡ 0 ∷ [])
unfolding subset qualifies maximal those_below film_row row bit
alone_white = (refl, refl)

pub alone_black : (film (cumulative 2 alone) Black 1 ≡ 1 ∷ []) × (film (cumulative 2 alone) Black 2 ≡ 1 ∷ [])
unfolding subset qualifies maximal those_below film_row row bit
alone_black = (refl, refl)
