-- The format of a picture file, as a grammar: which bytes are a picture file of w by h points, and which of them are its rows.
-- It is the raw PBM format of the Netpbm page, without the liberties that its programs take. Assumes nothing.
use Rattle.std.specs.Prelude.{◌≡◌, ℕ, ◌+◌, ◌-◌, ◌*◌, ◌<◌, ◌≤◌, ◌⊎◌, List, [], ◌∷◌, ◌++◌, length, ◌≢◌}
use Rattle.std.specs.List.{All}
use Rattle.pictures.specs.Rows.{RowsFit}

-- tab, line feed, carriage return and space
abbrev pub White : ℕ → Type 0
White b = b ≡ 9 ⊎ b ≡ 10 ⊎ b ≡ 13 ⊎ b ≡ 32

-- White bytes and comments. A comment runs from byte 35 through the next byte 10.
pub data Blank : List ℕ → Type 0 where
  nothing : Blank []
  white : {b : ℕ} {s : List ℕ} → White b → Blank s → Blank (b ∷ s)
  comment : (c : List ℕ) {s : List ℕ} → All (λ b. b ≢ 10) c → Blank s → Blank (35 ∷ (c ++ (10 ∷ s)))

-- at least one of them
abbrev pub Gap : List ℕ → Type 0
Gap s = Blank s × (0 < length s)

-- 0 to 9
abbrev pub Digit : ℕ → Type 0
Digit b = (48 ≤ b) × (b ≤ 57)

abbrev pub Digits : List ℕ → Type 0
Digits s = All Digit s

-- the number that the decimal digits s write, where those before them write n
abbrev pub value_after : ℕ → List ℕ → ℕ
value_after n [] = n
value_after n (b ∷ s) = value_after (n * 10 + (b - 48)) s

-- The digits s, of which there is at least one, write n, which is from 1 to 4096. Leading zeros are allowed.
pub record Number (s : List ℕ) (n : ℕ) : Type 0 where
  pub written : 0 < length s
  pub digits : Digits s
  pub value : value_after 0 s ≡ n
  pub least : 1 ≤ n
  pub most : n ≤ 4096

-- The bytes 80 and 52, a gap, the width, a gap, the height, one white byte and the rows.
pub record PictureFile (file : List ℕ) (w h : ℕ) (rows : List ℕ) : Type 0 where
  pub gap₁ : List ℕ
  pub width : List ℕ
  pub gap₂ : List ℕ
  pub height : List ℕ
  pub last : ℕ
  pub bytes : file ≡ 80 ∷ 52 ∷ (gap₁ ++ (width ++ (gap₂ ++ (height ++ (last ∷ rows)))))
  pub is_gap₁ : Gap gap₁
  pub is_width : Number width w
  pub is_gap₂ : Gap gap₂
  pub is_height : Number height h
  pub is_white : White last
  pub is_rows : RowsFit w h rows

-- The file is a picture of w by h points with these rows, and no other picture.
pub record Only (file : List ℕ) (w h : ℕ) (rows : List ℕ) : Type 0 where
  pub is : PictureFile file w h rows
  pub no_other : (w' h' : ℕ) (rows' : List ℕ) → PictureFile file w' h' rows' → (w' ≡ w) × (h' ≡ h) × (rows' ≡ rows)

-- The file is no picture.
abbrev pub NoPicture : List ℕ → Type 0
NoPicture file = (w h : ℕ) (rows : List ℕ) → PictureFile file w h rows → ⊥
