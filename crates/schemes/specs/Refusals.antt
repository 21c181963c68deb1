-- Why a scheme is not made: the number and the place of each refusal.
use Rattle.std.specs.Prelude.{ℕ, Bool, cond, ◌||◌, List, [], ◌∷◌, Some, None, Ok, Err, Option, Result, nat_lt}
use Rattle.schemes.specs.Keyholders.{most_keyholders}
use Rattle.schemes.specs.declared.refusals.SchemeRefusal.{SchemeRefusal}
use Rattle.schemes.specs.declared.refusals.SchemeRefusal.TheVariants.{Keyholders, ListLength, Members, Redundant, ForbiddenSets, Memory}

-- Want of memory is no refusal of the rules, and has the number 0.
abbrev pub number : SchemeRefusal → ℕ
number Keyholders = 7
number ListLength = 8
number (Members place) = 9
number (Redundant place) = 10
number ForbiddenSets = 11
number Memory = 0

-- The place of the set that a refusal is about, in the list of sets; 0 where it is about no set.
abbrev pub place : SchemeRefusal → ℕ
place Keyholders = 0
place ListLength = 0
place (Members i) = i
place (Redundant i) = i
place ForbiddenSets = 0
place Memory = 0

-- The refusal that an answer holds, if it is one.
abbrev pub refusal_in : {A E : Type 0} → Result A E → Option E
refusal_in (Ok value) = None
refusal_in (Err why) = Some why

-- The refusal of a number of keyholders that is outside least to 8.
abbrev pub keyholders_from : (least n : ℕ) → Option SchemeRefusal
keyholders_from least n = cond (nat_lt n least || nat_lt most_keyholders n) (Some Keyholders) None

-- The first refusal of a list whose test applies.
abbrev pub first_refusal : {A : Type 0} → List (Bool × A) → Option A
first_refusal [] = None
first_refusal (check ∷ more) = cond check.0 (Some check.1) (first_refusal more)
