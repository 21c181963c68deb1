-- Where a list stops rising. This is for the private checks in src/rising.rt; nothing public rests on it.
use Rattle.std.specs.Prelude.{ℕ, ◌+◌, Bool, cond, List, [], ◌∷◌, Some, None, Option, option_map}
use Rattle.cards.specs.declared.faults.CardRefusal.TheVariants.{WrongSets}
use Rattle.cards.specs.declared.faults.CardFault.{CardFault}
use Rattle.cards.specs.declared.faults.CardFault.TheVariants.{Format}

-- The place of the first element that is not above the one before it, where an element x stands before the list. The test tells
-- of an element and the next that the next is not above it.
abbrev pub fall_after : {T : Type 0} (falls : T → T → Bool) (x : T) (list : List T) → Option ℕ
fall_after falls x [] = None
fall_after falls x (y ∷ list) = cond (falls x y) (Some 0) (option_map (λ place. place + 1) (fall_after falls y list))

abbrev pub first_fall : {T : Type 0} (falls : T → T → Bool) (list : List T) → Option ℕ
first_fall falls [] = None
first_fall falls (x ∷ list) = option_map (λ place. place + 1) (fall_after falls x list)

-- The fault of a card whose sets fall, where the first set stands at this place of the card.
abbrev pub wrong_at : (first_at fall : ℕ) → CardFault
wrong_at first_at fall = Format WrongSets (first_at + fall)
