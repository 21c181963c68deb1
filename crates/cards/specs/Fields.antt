-- A card read field by field: which fields are written, and what they say. This is for the readers in src/reading.rt; nothing
-- public rests on it.
use Rattle.std.specs.Prelude.{ℕ, ◌+◌, Bool, true, false, cond, not, List, [], ◌∷◌, length, take, drop, is_some, Some, None, Ok, Err, Option, Result, option_map, option_and_then, ◌==◌, nat_le, nat_lt}
use Rattle.std.specs.Int.{from_bool}
use Rattle.std.specs.Int.Bits.{bit_and}
use Rattle.cards.specs.Format.{Contents, says, unwritten_n}
use Rattle.cards.specs.Kinds.{kind_number}
use Rattle.cards.specs.Reading.{n_at, rising_front}
use Rattle.cards.specs.declared.card.CardKind.{CardKind}
use Rattle.cards.specs.declared.card.CardKind.TheVariants.{AllOf, TwoOf, Sets}
use Rattle.cards.specs.declared.faults.CardRefusal.TheVariants.{WrongValue, BytesLeftOver, WrongSets}
use Rattle.cards.specs.declared.faults.CardFault.{CardFault}
use Rattle.cards.specs.declared.faults.CardFault.TheVariants.{Format}
use Rattle.cards.specs.declared.reading.Written.{Written}

-- ---- which fields are written

pub record Fields : Type 0 where
  pub n : Option ℕ
  pub kind : Option ℕ
  pub sets : Option (List ℕ)
  pub left_over : List ℕ

abbrev pub written : Written → Fields
written w = record { n = w.n; kind = w.kind; sets = option_map (λ sets. sets.now) w.sets; left_over = w.left_over.now }

-- A byte, if it is written, and the bytes after it.
abbrev pub split_byte : (written : Bool) (bytes : List ℕ) → Option (Option ℕ × List ℕ)
split_byte false bytes = Some (None, bytes)
split_byte true [] = None
split_byte true (byte ∷ rest) = Some (Some byte, rest)

-- A count and so many sets, if they are written, and the bytes after them.
abbrev pub split_sets : (written : Bool) (bytes : List ℕ) → Option (Option (List ℕ) × List ℕ)
split_sets false bytes = Some (None, bytes)
split_sets true [] = None
split_sets true (count ∷ rest) = cond (nat_le count (length rest)) (Some (Some (take count rest), drop count rest)) None

-- The fields of which the bit stands in the map: 1 is that of n, 2 of the kind, 4 of the sets.
abbrev pub split_written : (map : ℕ) (bytes : List ℕ) → Option Fields
split_written map bytes =
    option_and_then (λ n. option_and_then (λ kind. option_map (λ sets. record { n = n.0; kind = kind.0; sets = sets.0; left_over = sets.1 })
    (split_sets (not (bit_and map 4 == 0)) kind.1)) (split_byte (not (bit_and map 2 == 0)) n.1)) (split_byte (not (bit_and map 1 == 0)) bytes)

-- ---- where they stand

abbrev pub kind_place : (n : Option ℕ) → ℕ
kind_place n = n_at + from_bool (is_some n)

abbrev pub sets_place : Fields → ℕ
sets_place f = kind_place f.n + from_bool (is_some f.kind) + from_bool (is_some f.sets)

abbrev pub sets_long : Option (List ℕ) → ℕ
sets_long None = 0
sets_long (Some sets) = length sets

-- The place after the last field.
abbrev pub written_end : Fields → ℕ
written_end f = sets_place f + sets_long f.sets

-- ---- what they say

abbrev pub unless_fault : {A B : Type 0} → Result A CardFault → (A → Result B CardFault) → Result B CardFault
unless_fault (Ok value) go_on = go_on value
unless_fault (Err why) go_on = Err why

abbrev pub n_said : Option ℕ → Result ℕ CardFault
n_said None = Ok unwritten_n
n_said (Some n) = cond (n == unwritten_n) (Err (Format WrongValue n_at)) (Ok n)

abbrev pub kind_said : (place : ℕ) → Option ℕ → Result CardKind CardFault
kind_said place None = Ok AllOf
kind_said place (Some number) =
    cond (number == kind_number TwoOf) (Ok TwoOf) (cond (number == kind_number Sets) (Ok Sets) (Err (Format WrongValue place)))

abbrev pub none_left : (end : ℕ) (left_over : List ℕ) → Result (Unit {0}) CardFault
none_left end [] = Ok tt
none_left end (byte ∷ left_over) = Err (Format BytesLeftOver end)

abbrev pub listed : (place : ℕ) (kind : CardKind) → Option (List ℕ) → Result (List ℕ) CardFault
listed place AllOf None = Ok []
listed place AllOf (Some sets) = Err (Format WrongSets 0)
listed place TwoOf None = Ok []
listed place TwoOf (Some sets) = Err (Format WrongSets 0)
listed place Sets None = Err (Format WrongSets 0)
listed place Sets (Some sets) = cond (nat_lt (rising_front sets) (length sets)) (Err (Format WrongSets (place + rising_front sets))) (Ok sets)

abbrev pub sets_said : Fields → (kind : CardKind) → Result (List ℕ) CardFault
sets_said f kind = listed (sets_place f) kind f.sets

abbrev pub said : Fields → Result Contents CardFault
said f =
    unless_fault (n_said f.n) (λ n. unless_fault (kind_said (kind_place f.n) f.kind)
    (λ kind. unless_fault (none_left (written_end f) f.left_over)
    (λ _. unless_fault (sets_said f kind) (λ sets. Ok (says kind n sets)))))
