-- What a call that needs memory may answer.
use Rattle.std.specs.Prelude.{◌≡◌, Bool, true, ◌⊎◌, Ok, Err, Result}
use Rattle.cards.specs.Refusals.{fault_number}
use Rattle.cards.specs.declared.faults.CardFault.{CardFault}

-- There is no memory left. It is the only fault that has no number.
abbrev pub NoMemory : CardFault → Type 0
NoMemory why = fault_number why ≡ 0

-- The answer is the one that is defined, where `meaning` is what is promised of an accepted value. The call is free in one
-- way: where memory is needed to go on, it may answer that there is none left.
abbrev pub Answers : {A B : Type 0} (meaning : A → B) (defined : Result B CardFault) (memory_needed : Bool) → Result A CardFault → Type 0
Answers meaning defined memory_needed (Ok value) = defined ≡ Ok (meaning value)
Answers meaning defined memory_needed (Err why) = (defined ≡ Err why) ⊎ (NoMemory why × (memory_needed ≡ true))
