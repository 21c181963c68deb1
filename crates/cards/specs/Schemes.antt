-- The scheme that a card names. The sets count for the kind of sets alone.
use Rattle.std.specs.Prelude.{◌≡◌, ℕ, Bool, true, false, List, Some, None, Ok, Err, Option, Result}
use Rattle.schemes.specs.AllOf.{all_of}
use Rattle.schemes.specs.Meaning.{Meaning}
use Rattle.schemes.specs.Refusals.{keyholders_from}
use Rattle.schemes.specs.TwoOf.{two_of}
use Rattle.schemes.specs.declared.refusals.SchemeRefusal.{SchemeRefusal}
use Rattle.cumulative.specs.Cumulative.{cumulative}
use Rattle.cumulative.specs.Making.{making_refusal}
use Rattle.cards.specs.Format.{Contents, IsCard}
use Rattle.cards.specs.Reading.{reading}
use Rattle.cards.specs.declared.card.CardKind.{CardKind}
use Rattle.cards.specs.declared.card.CardKind.TheVariants.{AllOf, TwoOf, Sets}
use Rattle.cards.specs.declared.faults.CardFault.{CardFault}
use Rattle.cards.specs.declared.faults.CardFault.TheVariants.{Scheme}

-- Why it is not made, if so.
abbrev pub refusal_of : (kind : CardKind) (n : ℕ) (sets : List ℕ) → Option SchemeRefusal
refusal_of AllOf n sets = keyholders_from 1 n
refusal_of TwoOf n sets = keyholders_from 2 n
refusal_of Sets n sets = making_refusal n sets

abbrev pub SchemeMade : Contents → Type 0
SchemeMade c = refusal_of c.kind c.n c.sets ≡ None

-- What it means.
abbrev pub meaning_of : (kind : CardKind) (n : ℕ) (sets : List ℕ) → Meaning
meaning_of AllOf n sets = all_of n
meaning_of TwoOf n sets = two_of n
meaning_of Sets n sets = cumulative n sets

-- Memory is needed for a list of sets, and to make their scheme.
abbrev pub made_in_memory : CardKind → Bool
made_in_memory AllOf = false
made_in_memory TwoOf = false
made_in_memory Sets = true

-- The card is read, and names a scheme of sets.
abbrev pub names_sets : Result Contents CardFault → Bool
names_sets (Ok c) = made_in_memory c.kind
names_sets (Err why) = false

-- A refusal of making the scheme is kept whole.
abbrev pub unless_refused : {A : Type 0} → Option SchemeRefusal → A → Result A CardFault
unless_refused None value = Ok value
unless_refused (Some why) value = Err (Scheme why)

abbrev pub making : Contents → Result Meaning CardFault
making c = unless_refused (refusal_of c.kind c.n c.sets) (meaning_of c.kind c.n c.sets)

-- A card is opened by reading it, and then making its scheme.
abbrev pub with_scheme : Result Contents CardFault → Result (Contents × Meaning) CardFault
with_scheme (Ok c) = unless_refused (refusal_of c.kind c.n c.sets) (c, meaning_of c.kind c.n c.sets)
with_scheme (Err why) = Err why

abbrev pub opening : (bytes : List ℕ) → Result (Contents × Meaning) CardFault
opening bytes = with_scheme (reading bytes)

-- These bytes are a card that says c, and its scheme can be made.
pub record Openable (bytes : List ℕ) (c : Contents) : Type 0 where
  pub card : IsCard bytes c
  pub scheme_made : SchemeMade c

abbrev pub NotOpenable : (bytes : List ℕ) → Type 0
NotOpenable bytes = (c : Contents) → Openable bytes c → ⊥

-- These bytes are opened as the card that says c.
abbrev pub OpensAs : (bytes : List ℕ) → Contents → Type 0
OpensAs bytes c = opening bytes ≡ Ok (c, meaning_of c.kind c.n c.sets)
