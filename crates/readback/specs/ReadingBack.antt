-- The films of a row are read back: the strips of a set's members are laid on a clear glass, and the glass is read.
use Rattle.std.specs.Prelude.{◌≡◌, ℕ, zero, suc, ◌*◌, ◌<◌, ◌≤◌, Bool, cond, List, [], ◌∷◌, ◌++◌, map, length, None, Ok, Err, Option, Result, MatchOption, nat_lt}
use Rattle.schemes.specs.Keyholders.{member}
use Rattle.schemes.specs.Meaning.{Meaning}
use Rattle.schemes.specs.Strips.{strip_size, strip_in}
use Rattle.maker.specs.Films.{films_size}
use Rattle.maker.specs.Law.{Readable}
use Rattle.lightbox.specs.Laying.{stacked}
use Rattle.lightbox.specs.Reading.{early_checks, Reading, cleared}
use Rattle.schemes.specs.Refusals.{first_refusal}
use Rattle.lightbox.specs.declared.refusals.LayRefusal.{LayRefusal}
use Rattle.lightbox.specs.declared.refusals.LayRefusal.TheVariants.{Lengths}
use Rattle.lightbox.specs.declared.refusals.ReadRefusal.{ReadRefusal}
use Rattle.readback.specs.declared.refusals.ReadBackRefusal.{ReadBackRefusal}
use Rattle.readback.specs.declared.refusals.ReadBackRefusal.TheVariants.{Lay, Read}

-- ---- before anything is changed

-- What is asked then, and how it is refused: what a reading asks before it counts a square, and after it that the films have
-- the strips of all keyholders. By the lengths of the films, the glass and the output.
abbrev pub back_checks : Meaning → (set w films_bytes glass_bytes out_bytes : ℕ) → List (Bool × ReadBackRefusal)
back_checks s set w films_bytes glass_bytes out_bytes =
    map (λ (check : Bool × ReadRefusal). (check.0, Read check.1)) (early_checks s set w glass_bytes out_bytes)
    ++ ((nat_lt films_bytes (films_size s w), Lay Lengths) ∷ [])

-- The refusal that is answered then, if one is.
abbrev pub back_refusal : Meaning → (set w films_bytes glass_bytes out_bytes : ℕ) → Option ReadBackRefusal
back_refusal s set w films_bytes glass_bytes out_bytes = first_refusal (back_checks s set w films_bytes glass_bytes out_bytes)

-- ---- laid and read

-- The strips of those of keyholders 1 to n who are in the set, as they stand in the films.
abbrev pub member_strips : (n size set : ℕ) (films : List ℕ) → List (List ℕ)
member_strips zero size set films = []
member_strips (suc k) size set films =
    cond (member set (suc k)) (member_strips k size set films ++ (strip_in size films (suc k) ∷ [])) (member_strips k size set films)

-- A clear glass with these strips on it.
abbrev pub members_stack : Meaning → (set w : ℕ) (films : List ℕ) → List ℕ
members_stack s set w films = stacked (strip_size s.m w) (member_strips s.n (strip_size s.m w) set films)

-- The answer of a reading, passed on.
abbrev pub passed_on : Result Unit ReadRefusal → Result Unit ReadBackRefusal
passed_on (Ok value) = Ok value
passed_on (Err why) = Err (Read why)

-- What a set reads from a glass, with the answer passed on.
abbrev pub ReadFrom : Meaning → (set w : ℕ) (glass out : List ℕ) → Result Unit ReadBackRefusal → (row : List ℕ) → Type 0
ReadFrom s set w glass out r row = (answer : Result Unit ReadRefusal) × Reading s set w glass out answer row × (r ≡ passed_on answer)

-- What comes of a call: the glass with the members' strips on it, and what the set reads from it. An early refusal leaves the
-- glass and the output as they were.
abbrev pub LaidAndRead : Meaning → (set w : ℕ) (films glass out : List ℕ) → Result Unit ReadBackRefusal → (glass' row : List ℕ) → Type 0
LaidAndRead s set w films glass out r glass' row =
    MatchOption (back_refusal s set w (length films) (length glass) (length out))
    ((glass' ≡ members_stack s set w films) × ReadFrom s set w glass' out r row)
    (λ why. (r ≡ Err why) × (glass' ≡ glass) × (row ≡ out))

-- Films that are readable to the set, as the maker promises it of an accepted row, give the secret row back with its spare
-- bits cleared, unless there is an early refusal.
abbrev pub Restores : Meaning → (set w : ℕ) (films glass out : List ℕ) → Result Unit ReadBackRefusal → (row : List ℕ) → Type 0
Restores s set w films glass out r row =
    (secret : List ℕ) → Readable s w set secret films →
    back_refusal s set w (length films) (length glass) (length out) ≡ None →
    (r ≡ Ok tt) × (row ≡ cleared w secret)

-- ---- what the private function that lays the strips promises, for n keyholders; no public contract rests on it

pub record MembersLaid (n size set : ℕ) (films glass' : List ℕ) : Type 0 where
  pub room : n * size ≤ length films
  pub stack : glass' ≡ stacked size (member_strips n size set films)

pub record FilmsShort (n : ℕ) (films glass : List ℕ) (why : LayRefusal) (glass' : List ℕ) : Type 0 where
  pub short : length films < n * length glass
  pub lengths : why ≡ Lengths
  pub unchanged : glass' ≡ glass
