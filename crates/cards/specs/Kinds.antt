-- The kinds of schemes that a card can name, and their numbers.
use Rattle.std.specs.Prelude.{ℕ, cond, ◌==◌, Ok, Err, Result}
use Rattle.cards.specs.declared.card.CardKind.{CardKind}
use Rattle.cards.specs.declared.card.CardKind.TheVariants.{AllOf, TwoOf, Sets}
use Rattle.cards.specs.declared.faults.CardRefusal.{CardRefusal}
use Rattle.cards.specs.declared.faults.CardRefusal.TheVariants.{WrongValue}

abbrev pub kind_number : CardKind → ℕ
kind_number AllOf = 1
kind_number TwoOf = 2
kind_number Sets = 3

-- The kind of a number; of any other number all of n.
abbrev pub kind_numbered : ℕ → CardKind
kind_numbered number = cond (number == 2) TwoOf (cond (number == 3) Sets AllOf)

-- The kind of a number, where it has one.
abbrev pub kind_of_number : ℕ → Result CardKind CardRefusal
kind_of_number number = cond (number == 1) (Ok AllOf) (cond (number == 2) (Ok TwoOf) (cond (number == 3) (Ok Sets) (Err WrongValue)))
