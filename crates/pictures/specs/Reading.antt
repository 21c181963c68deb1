-- What opening a picture file answers, for every list of bytes: the file is read from the front, part by part, up to the first
-- fault. Assumes nothing.
use Rattle.std.specs.Prelude.{◌≡◌, ℕ, ◌+◌, ◌-◌, ◌*◌, ◌≤◌, Bool, true, false, cond, ◌&&◌, ◌||◌, List, [], ◌∷◌, length, drop, ◌==◌, nat_le, nat_lt}
use Rattle.pictures.specs.Rows.{row_bytes}
use Rattle.pictures.specs.declared.refusals.PictureRefusal.{PictureRefusal}
use Rattle.pictures.specs.declared.refusals.PictureRefusal.TheVariants.{WrongMagic, WrongByte, NumberOutside, EndsEarly, BytesAfterRows}

infixr 5 ◌⟫◌
-- A part is read from the front of the bytes that are left: its value and the bytes after it, or a refusal and the bytes from its
-- place on.
pub data Read (A : Type 0) : Type 0 where
  got : A → List ℕ → Read A
  fault : PictureRefusal → List ℕ → Read A

-- and then the next part from the bytes after it
abbrev pub ◌⟫◌ : {A B : Type 0} → Read A → (A → List ℕ → Read B) → Read B
got x s ⟫ next = next x s
fault why s ⟫ next = fault why s

abbrev pub is_white_byte : ℕ → Bool
is_white_byte b = b == 9 || b == 10 || b == 13 || b == 32

abbrev pub is_digit_byte : ℕ → Bool
is_digit_byte b = nat_le 48 b && nat_le b 57

-- the bytes 80 and 52
abbrev pub magic : List ℕ → Read (Unit {0})
magic [] = fault EndsEarly []
magic (a ∷ []) = fault EndsEarly []
magic (a ∷ b ∷ s) = cond (a == 80 && b == 52) (got tt s) (fault WrongMagic (a ∷ b ∷ s))

-- past white bytes and comments, from within a comment (`true`), which goes on through the next byte 10, or from outside
abbrev pub blank : Bool → List ℕ → Read (Unit {0})
blank within [] = fault EndsEarly []
blank true (b ∷ s) = cond (b == 10) (blank false s) (blank true s)
blank false (b ∷ s) = cond (is_white_byte b) (blank false s) (cond (b == 35) (blank true s) (got tt (b ∷ s)))

-- white bytes and comments, at least one
abbrev pub gap : List ℕ → Read (Unit {0})
gap [] = fault EndsEarly []
gap (b ∷ s) = cond (is_white_byte b || b == 35) (blank false (b ∷ s)) (fault WrongByte (b ∷ s))

-- further digits of a number that is n so far; `whole` are the bytes from its first digit on
abbrev pub digits : List ℕ → ℕ → List ℕ → Read ℕ
digits whole n [] = fault EndsEarly []
digits whole n (b ∷ s) =
    cond (is_digit_byte b) (digits whole (n * 10 + (b - 48)) s)
    (cond (nat_le 1 n && nat_le n 4096) (got n (b ∷ s)) (fault NumberOutside whole))

-- a number from 1 to 4096
abbrev pub number : List ℕ → Read ℕ
number [] = fault EndsEarly []
number (b ∷ s) = cond (is_digit_byte b) (digits (b ∷ s) 0 (b ∷ s)) (fault WrongByte (b ∷ s))

-- one white byte
abbrev pub white : List ℕ → Read (Unit {0})
white [] = fault EndsEarly []
white (b ∷ s) = cond (is_white_byte b) (got tt s) (fault WrongByte (b ∷ s))

-- the rows, and nothing after them
abbrev pub all_rows : ℕ → ℕ → List ℕ → Read (ℕ × ℕ)
all_rows w h s =
    cond (nat_lt (length s) (h * row_bytes w)) (fault EndsEarly [])
    (cond (nat_lt (h * row_bytes w) (length s)) (fault BytesAfterRows (drop (h * row_bytes w) s)) (got (w, h) s))

-- the width and the height, followed by the rows
abbrev pub opened : List ℕ → Read (ℕ × ℕ)
opened file =
    magic file ⟫ λ _ s.
    gap s ⟫ λ _ s.
    number s ⟫ λ w s.
    gap s ⟫ λ _ s.
    number s ⟫ λ h s.
    white s ⟫ λ _ s.
    all_rows w h s

-- Opening the file is refused, and `place` bytes stand before the fault.
pub record FaultAt (file : List ℕ) (why : PictureRefusal) (place : ℕ) : Type 0 where
  pub within : place ≤ length file
  pub stops : opened file ≡ fault why (drop place file)
