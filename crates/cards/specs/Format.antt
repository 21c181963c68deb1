-- The format of a card: a map byte, then only the fields whose bit is set in the map, in the order of their bits.
-- Bit 0 is n, in one byte, which is left out where it is 2. Bit 1 is the number of the kind, which is left out for all of n.
-- Bit 2 is a count and that many sets in rising order, for the kind of sets alone.
use Rattle.std.specs.Prelude.{◌≡◌, ℕ, suc, ◌+◌, ◌^◌, ◌<◌, cond, List, [], ◌∷◌, ◌++◌, length, Some, None, Option, ◌==◌, ◌≢◌}
use Rattle.cards.specs.Kinds.{kind_number}
use Rattle.cards.specs.declared.card.CardKind.{CardKind}
use Rattle.cards.specs.declared.card.CardKind.TheVariants.{AllOf, TwoOf, Sets}

-- What a card says. A set of keyholders is its number.
pub record Contents : Type 0 where
  pub kind : CardKind
  pub n : ℕ
  pub sets : List ℕ

abbrev pub says : (kind : CardKind) (n : ℕ) (sets : List ℕ) → Contents
says kind n sets = record { kind = kind; n = n; sets = sets }

-- ---- fields after a map

-- The bytes of a field, or nothing where the field is left out.
abbrev pub Field : Type 0
Field = Option (List ℕ)

-- The map of fields of which the first has bit k.
abbrev pub map_from : (k : ℕ) → List Field → ℕ
map_from k [] = 0
map_from k (None ∷ fields) = map_from (suc k) fields
map_from k (Some bytes ∷ fields) = 2 ^ k + map_from (suc k) fields

abbrev pub field_bytes : List Field → List ℕ
field_bytes [] = []
field_bytes (None ∷ fields) = field_bytes fields
field_bytes (Some bytes ∷ fields) = bytes ++ field_bytes fields

abbrev pub mapped_fields : List Field → List ℕ
mapped_fields fields = map_from 0 fields ∷ field_bytes fields

-- ---- the fields of a card

-- n where a card does not write it.
abbrev pub unwritten_n : ℕ
unwritten_n = 2

abbrev pub n_field : ℕ → Field
n_field n = cond (n == unwritten_n) None (Some (n ∷ []))

abbrev pub kind_field : CardKind → Field
kind_field AllOf = None
kind_field TwoOf = Some (kind_number TwoOf ∷ [])
kind_field Sets = Some (kind_number Sets ∷ [])

abbrev pub sets_field : CardKind → List ℕ → Field
sets_field AllOf sets = None
sets_field TwoOf sets = None
sets_field Sets sets = Some (length sets ∷ sets)

abbrev pub card_fields : Contents → List Field
card_fields c = n_field c.n ∷ kind_field c.kind ∷ sets_field c.kind c.sets ∷ []

-- The bytes of the card that says c.
abbrev pub card_bytes : Contents → List ℕ
card_bytes c = mapped_fields (card_fields c)

-- ---- the cards

abbrev pub Above : (x : ℕ) (sets : List ℕ) → Type 0
Above x [] = Unit {0}
Above x (y ∷ sets) = (x < y) × Above y sets

-- Each set is above the one before it.
abbrev pub Rising : (sets : List ℕ) → Type 0
Rising [] = Unit {0}
Rising (x ∷ sets) = Above x sets

-- Only the kind of sets has sets.
abbrev pub SetsByKind : Contents → Type 0
SetsByKind c = (c.kind ≢ Sets) → c.sets ≡ []

-- These bytes are a card, and say c.
pub record IsCard (bytes : List ℕ) (c : Contents) : Type 0 where
  pub sets_by_kind : SetsByKind c
  pub rising_order : Rising c.sets
  pub layout : bytes ≡ card_bytes c

-- These bytes are no card.
abbrev pub NoCard : (bytes : List ℕ) → Type 0
NoCard bytes = (c : Contents) → IsCard bytes c → ⊥

-- Two cards are equal as bytes exactly when they say the same.
abbrev pub Canonical : Type 0
Canonical =
    (a b : List ℕ) (c d : Contents) → IsCard a c → IsCard b d → (a ≡ b → c ≡ d) × (c ≡ d → a ≡ b)
