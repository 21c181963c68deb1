-- Why a card is refused: the number and the place of each fault.
use Rattle.std.specs.Prelude.{ℕ}
use Rattle.schemes.specs.Refusals as scheme
use Rattle.cards.specs.declared.faults.CardRefusal.{CardRefusal}
use Rattle.cards.specs.declared.faults.CardRefusal.TheVariants.{WrongMap, EndsEarly, WrongValue, BytesLeftOver, WrongSets}
use Rattle.cards.specs.declared.faults.CardFault.{CardFault}
use Rattle.cards.specs.declared.faults.CardFault.TheVariants.{Format, Scheme, Memory}

-- The rules of the format.
abbrev pub refusal_number : CardRefusal → ℕ
refusal_number WrongMap = 12
refusal_number EndsEarly = 13
refusal_number WrongValue = 14
refusal_number BytesLeftOver = 15
refusal_number WrongSets = 16

-- A scheme that is not made keeps its number and its place. Want of memory is no refusal of the rules, and has the number 0.
abbrev pub fault_number : CardFault → ℕ
fault_number (Format why place) = refusal_number why
fault_number (Scheme why) = scheme.number why
fault_number Memory = 0

abbrev pub fault_place : CardFault → ℕ
fault_place (Format why place) = place
fault_place (Scheme why) = scheme.place why
fault_place Memory = 0
