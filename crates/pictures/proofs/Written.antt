-- The parts of a head, written one after another over the front of a buffer, and the file that a head and its rows make. Serves the
-- contract of `head`. Assumes nothing.
use Rattle.std.proofs.Common.{◌≡◌, ℕ, ◌+◌, ◌≤◌, true, not, List, [], ◌∷◌, ◌++◌, length, take, drop, Ok, decimal, sym, refl, ap, ◌∙◌, inl, inr, append_assoc, arith, length-append, rules}
use Rattle.std.proofs.lemmas.List.{take_at}
use Rattle.std.proofs.lemmas.List.Elements.{All-nil, All-cons, All-head, All-tail}
use Rattle.std.proofs.lemmas.Slice.{drop-append-drop}
use Rattle.std.proofs.lemmas.Bool.{cond-false, le-ltb}
use Rattle.std.proofs.lemmas.Fmt.{decimal_nonempty, digits_decimal, digits_value-decimal}
use Rattle.std.proofs.lemmas.Str.Parse.{IsNumeralModel, numerals_by_fold}
use Rattle.pictures.specs.Rows.{RowsFit}
use Rattle.pictures.specs.Format.{Digit, Digits, value_after, Number, nothing, white, PictureFile}
use Rattle.pictures.specs.Reading.{got, opened}
use Rattle.pictures.specs.Head.{head_of, over_front, within_size, heading}
use Rattle.pictures.proofs.Grammar.{complete}

-- ---- the head
-- what is written behind a front is written behind it in the buffer as it was
over_over : (front more s : List ℕ) (at : ℕ) → at ≡ length front → over_front (take at (over_front front s) ++ more) (over_front front s) ≡ over_front (front ++ more) s
over_over front more s at e =
    ap (λ l. over_front (l ++ more) (over_front front s)) (take_at front (drop (length front) s) at (sym e))
    ∙ ap (λ l. (front ++ more) ++ l) (drop-append-drop (length front) s front (length (front ++ more)) (omega (arith, length-append front more)) refl)

over_next : (front more s before after : List ℕ) (at : ℕ) → before ≡ over_front front s → at ≡ length front → after ≡ over_front (take at before ++ more) before → after ≡ over_front (front ++ more) s
over_next front more s before after at is long e = e ∙ ap (λ l. over_front (take at l ++ more) l) is ∙ over_over front more s at long

-- the five parts in the order in which they are written
pub head_written : (s one two three four five width height : List ℕ) (w h a b c d : ℕ) → width ≡ decimal w → height ≡ decimal h → one ≡ over_front (80 ∷ 52 ∷ 10 ∷ []) s → a ≡ 3 → two ≡ over_front (take a one ++ width) one → b ≡ a + length width → three ≡ over_front (take b two ++ (32 ∷ [])) two → c ≡ b + 1 → four ≡ over_front (take c three ++ height) three → d ≡ c + length height → five ≡ over_front (take d four ++ (10 ∷ [])) four → five ≡ over_front (head_of w h) s
head_written s one two three four five width height w h a b c d is-width is-height e₁ la e₂ lb e₃ lc e₄ ld e₅ =
    let front₁ : List ℕ = 80 ∷ 52 ∷ 10 ∷ [] in
    let front₂ : List ℕ = front₁ ++ width in
    let front₃ : List ℕ = front₂ ++ (32 ∷ []) in
    let front₄ : List ℕ = front₃ ++ height in
    let is₂ = over_next front₁ width s one two a e₁ la e₂ in
    let is₃ = over_next front₂ (32 ∷ []) s two three b is₂ (omega (arith, length-append front₁ width)) e₃ in
    let is₄ = over_next front₃ height s three four c is₃ (omega (arith, length-append front₁ width, length-append front₂ (32 ∷ []))) e₄ in
    let is₅ = over_next front₄ (10 ∷ []) s four five d is₄ (omega (arith, length-append front₁ width, length-append front₂ (32 ∷ []), length-append front₃ height)) e₅ in
    let whole : front₄ ++ (10 ∷ []) ≡ 80 ∷ 52 ∷ 10 ∷ (width ++ (32 ∷ (height ++ (10 ∷ [])))) = simp append_assoc in
    is₅ ∙ ap (λ l. over_front l s) (whole ∙ (λ i. 80 ∷ 52 ∷ 10 ∷ (is-width i ++ (32 ∷ (is-height i ++ (10 ∷ []))))))

pub length_head : (w h : ℕ) → length (head_of w h) ≡ 3 + length (decimal w) + 1 + length (decimal h) + 1
length_head w h = simp length-append (omega arith)

pub heading_fits : (w h : ℕ) (buf : List ℕ) → within_size w h ≡ true → length (head_of w h) ≤ length buf → heading w h buf ≡ record { answer = Ok (length (head_of w h)); leaves = over_front (head_of w h) buf }
heading_fits w h buf e le = cond-false _ _ _ (ap not e) ∙ cond-false _ _ _ (le-ltb _ _ le)

-- ---- a head followed by its rows is opened
own : IsNumeralModel Digits (value_after 0)
own = numerals_by_fold Digits (record { empty = All-nil Digit; parts = λ c cs h. (All-head Digit c cs h, All-tail Digit c cs h); more = All-cons Digit }) value_after (search rules)

number_decimal : (n : ℕ) → 1 ≤ n → n ≤ 4096 → Number (decimal n) n
number_decimal n l m =
    record { written = decimal_nonempty n (omega arith); digits = digits_decimal own n (omega arith); value = digits_value-decimal own n (omega arith); least = l; most = m }

pub head_opens : (w h : ℕ) → 1 ≤ w → 1 ≤ h → h ≤ 4096 → w ≤ 4096 → (s : List ℕ) → RowsFit w h s → opened (head_of w h ++ s) ≡ got (w, h) s
head_opens w h lw lh mh mw s e = complete (head_of w h ++ s) w h s file
  where
    file : PictureFile (head_of w h ++ s) w h s
    file =
        record {
          gap₁ = 10 ∷ [];
          width = decimal w;
          gap₂ = 32 ∷ [];
          height = decimal h;
          last = 10;
          bytes = simp append_assoc;
          is_gap₁ = (white (inr (inl refl)) nothing, omega arith);
          is_width = number_decimal w lw mw;
          is_gap₂ = (white (inr (inr (inr refl))) nothing, omega arith);
          is_height = number_decimal h lh mh;
          is_white = inr (inl refl);
          is_rows = e;
        }
