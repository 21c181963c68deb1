-- What reading a card answers, for every list of bytes. The map says where the fields lie; then the rules are checked one
-- after another, in the order of their numbers.
use Rattle.std.specs.Prelude.{ℕ, ◌+◌, ◌/◌, ◌%◌, ◌^◌, Bool, cond, not, ◌&&◌, ◌||◌, List, [], ◌∷◌, length, take, drop, Ok, Err, Result, ◌==◌, nat_le, nat_lt, slice_index}
use Rattle.schemes.specs.Bits.{differ}
use Rattle.cards.specs.Kinds.{kind_number, kind_numbered}
use Rattle.cards.specs.Format.{Contents, says, unwritten_n}
use Rattle.cards.specs.declared.card.CardKind.TheVariants.{AllOf, TwoOf, Sets}
use Rattle.cards.specs.declared.faults.CardRefusal.{CardRefusal}
use Rattle.cards.specs.declared.faults.CardRefusal.TheVariants.{WrongMap, EndsEarly, WrongValue, BytesLeftOver, WrongSets}
use Rattle.cards.specs.declared.faults.CardFault.{CardFault}
use Rattle.cards.specs.declared.faults.CardFault.TheVariants.{Format}

-- ---- where the fields lie

-- Three bits of the map stand for fields.
abbrev pub maps : ℕ
maps = 2 ^ 3

-- 1 where bit k of the map is set, else 0.
abbrev pub map_bit : (map k : ℕ) → ℕ
map_bit map k = map / 2 ^ k % 2

-- The places of n, of the kind, of the count and of the first set: a field that is left out takes no place.
abbrev pub n_at : ℕ
n_at = 1

abbrev pub kind_at : (map : ℕ) → ℕ
kind_at map = n_at + map_bit map 0

abbrev pub count_at : (map : ℕ) → ℕ
count_at map = kind_at map + map_bit map 1

abbrev pub sets_at : (map : ℕ) → ℕ
sets_at map = count_at map + map_bit map 2

-- ---- what they hold

-- The byte at a place; where the next field has the same place, what its absence says.
abbrev pub field_or : (bytes : List ℕ) (at next absent : ℕ) → ℕ
field_or bytes at next absent = cond (nat_lt at next) (slice_index bytes at) absent

abbrev pub n_in : (bytes : List ℕ) (map : ℕ) → ℕ
n_in bytes map = field_or bytes n_at (kind_at map) unwritten_n

abbrev pub kind_in : (bytes : List ℕ) (map : ℕ) → ℕ
kind_in bytes map = field_or bytes (kind_at map) (count_at map) (kind_number AllOf)

abbrev pub count_in : (bytes : List ℕ) (map : ℕ) → ℕ
count_in bytes map = field_or bytes (count_at map) (sets_at map) 0

abbrev pub sets_in : (bytes : List ℕ) (map : ℕ) → List ℕ
sets_in bytes map = take (count_in bytes map) (drop (sets_at map) bytes)

-- How long the card is by its fields.
abbrev pub fields_end : (bytes : List ℕ) (map : ℕ) → ℕ
fields_end bytes map = sets_at map + count_in bytes map

-- How many sets stand before the first that is not above the one before it, after a set x.
abbrev pub rising_after : (x : ℕ) (sets : List ℕ) → ℕ
rising_after x [] = 0
rising_after x (y ∷ sets) = cond (nat_lt x y) (1 + rising_after y sets) 0

abbrev pub rising_front : (sets : List ℕ) → ℕ
rising_front [] = 0
rising_front (x ∷ sets) = 1 + rising_after x sets

-- ---- the rules

abbrev pub refuse_if : (broken : Bool) → CardRefusal → (place : ℕ) → Result Contents CardFault → Result Contents CardFault
refuse_if broken why place go_on = cond broken (Err (Format why place)) go_on

abbrev pub reading_by : (bytes : List ℕ) (map : ℕ) → Result Contents CardFault
reading_by bytes map =
    refuse_if (nat_le maps map) WrongMap 0
    (refuse_if (nat_lt (length bytes) (fields_end bytes map)) EndsEarly (length bytes)
    (refuse_if (nat_lt n_at (kind_at map) && n_in bytes map == unwritten_n) WrongValue n_at
    (refuse_if (nat_lt (kind_at map) (count_at map) && not (kind_in bytes map == kind_number TwoOf || kind_in bytes map == kind_number Sets)) WrongValue (kind_at map)
    (refuse_if (nat_lt (fields_end bytes map) (length bytes)) BytesLeftOver (fields_end bytes map)
    (refuse_if (differ (nat_lt (count_at map) (sets_at map)) (kind_in bytes map == kind_number Sets)) WrongSets 0
    (refuse_if (nat_lt (rising_front (sets_in bytes map)) (count_in bytes map)) WrongSets (sets_at map + rising_front (sets_in bytes map))
    (Ok (says (kind_numbered (kind_in bytes map)) (n_in bytes map) (sets_in bytes map)))))))))

abbrev pub reading : (bytes : List ℕ) → Result Contents CardFault
reading [] = Err (Format WrongMap 0)
reading (map ∷ rest) = reading_by (map ∷ rest) map
