-- The cumulative scheme (Ateniese, Blundo, De Santis and Stinson). Its table comes from that of all of t, where t is the
-- number of maximal forbidden sets: a keyholder's cell is 1 where some row q has 1 whose forbidden set he is not in.
use Rattle.std.specs.Prelude.{◌≡◌, ℕ, suc, ◌-◌, ◌^◌, Bool, true, ◌&&◌, List, length, Decides}
use Rattle.schemes.specs.AllOf.{all_of}
use Rattle.schemes.specs.Bits.{any_below}
use Rattle.schemes.specs.Keyholders.{Among}
use Rattle.schemes.specs.Meaning.{Meaning, tabled, light, dark}
use Rattle.schemes.specs.declared.colour.Colour.{Colour}
use Rattle.cumulative.specs.Access.{qualifies, forbidden_sets, Qualified}
use Rattle.cumulative.specs.Records.{lacks}

-- Row q is that of keyholder q + 1 in the table of all of t.
abbrev pub all_row : (t : ℕ) (colour : Colour) (q column : ℕ) → Bool
all_row t colour q j = (all_of t).cell colour (suc q) j

-- The row of keyholder k + 1: the OR of the rows q whose forbidden set he is not in.
unfoldable pub film_row : (forbidden : List ℕ) (colour : Colour) (k column : ℕ) → Bool
film_row forbidden colour k j = any_below (length forbidden) (λ q. lacks forbidden (suc k) q && all_row (length forbidden) colour q j)

-- n keyholders, and the films of these forbidden sets.
abbrev pub cumulative_with : (n : ℕ) (minimal forbidden : List ℕ) → Meaning
cumulative_with n minimal forbidden = tabled n (2 ^ (length forbidden - 1)) (film_row forbidden) (qualifies minimal)

abbrev pub cumulative : (n : ℕ) (minimal : List ℕ) → Meaning
cumulative n minimal = cumulative_with n minimal (forbidden_sets n minimal)

-- The levels of every qualified set: each column is dark, and each column but one is light.
pub record LevelsOfSets (n : ℕ) (minimal : List ℕ) : Type 0 where
  pub light_level : (set : ℕ) → (cumulative n minimal).qualified set ≡ true → light (cumulative n minimal) set ≡ (cumulative n minimal).m - 1
  pub dark_level : (set : ℕ) → (cumulative n minimal).qualified set ≡ true → dark (cumulative n minimal) set ≡ (cumulative n minimal).m

-- The sets of keyholders 1 to n that contain a minimal set are qualified, and no others.
abbrev pub OpensToQualified : (n : ℕ) (minimal : List ℕ) → Type 0
OpensToQualified n minimal = (set : ℕ) → Decides ((cumulative n minimal).qualified set) (Among n set × Qualified minimal set)
