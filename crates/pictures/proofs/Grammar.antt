-- A file is opened exactly where the grammar has it, with the w, h and rows of the grammar. Serves the clause `grammar` of `open`.
-- Assumes nothing.
use Rattle.std.proofs.Common.{◌≡◌, ℕ, ◌+◌, ◌-◌, ◌*◌, ◌<◌, ◌≤◌, Bool, true, false, ◌&&◌, ◌||◌, eqb, ltb, leb, List, [], ◌∷◌, ◌++◌, length, sym, refl, ap, ◌∙◌, subst, inl, inr, ⊎_elim, append_assoc, arith, length-append}
use Rattle.std.specs.List.{All}
use Rattle.std.proofs.lemmas.List.Elements.{All-nil, All-cons, All-head, All-tail}
use Rattle.std.proofs.lemmas.Bool.{cond-true, cond-false, cases_Bool, or_cases, or_left, or_right, and_parts, and_from, eqb-true, eqb-false, eq-eqb, ne_eqb, le-leb, leb-true, le-ltb, ltb-false}
use Rattle.std.proofs.lemmas.Bool.Decides.{nat_tests}
use Rattle.pictures.specs.Reading.{Read, got, fault, ◌⟫◌, is_white_byte, is_digit_byte, magic, blank, gap, digits, number, white, all_rows, opened}
use Rattle.pictures.proofs.Steps.{go}
use Rattle.pictures.specs.Rows.{row_bytes, RowsFit}
use Rattle.pictures.specs.declared.refusals.PictureRefusal.{PictureRefusal}
use Rattle.pictures.specs.Format.{White, Blank, nothing, white as whiteᵇ, comment, Gap, value_after, Digit, Digits, Number, PictureFile, Only, NoPicture}

-- tests and facts
white_from : (b : ℕ) → is_white_byte b ≡ true → White b
white_from b e = grind (arith, nat_tests)

white_to : (b : ℕ) → White b → is_white_byte b ≡ true
white_to b (inl e) = ap is_white_byte e
white_to b (inr (inl e)) = ap is_white_byte e
white_to b (inr (inr (inl e))) = ap is_white_byte e
white_to b (inr (inr (inr e))) = ap is_white_byte e

digit_from : (b : ℕ) → is_digit_byte b ≡ true → Digit b
digit_from b e = let p = and_parts _ _ e in (leb-true 48 b p.0, leb-true b 57 p.1)

digit_to : (b : ℕ) → Digit b → is_digit_byte b ≡ true
digit_to b p = and_from _ _ (le-leb 48 b p.0) (le-leb b 57 p.1)

not_got : {A : Type 0} {why : PictureRefusal} {s : List ℕ} {x : A} {t : List ℕ} → fault why s ≡ got x t → ⊥
not_got e = cc

-- ---- what was blank is blank
record Skips (s t : List ℕ) : Type 0 where
  front : List ℕ
  is : Blank front
  bytes : s ≡ front ++ t

-- no byte that ends a comment
abbrev NoEnd : ℕ → Type 0
NoEnd b = b ≡ 10 → ⊥

record Closes (s t : List ℕ) : Type 0 where
  inside : List ℕ
  front : List ℕ
  free : All NoEnd inside
  is : Blank front
  bytes : s ≡ inside ++ (10 ∷ (front ++ t))

mutual
  after_skip : (s : List ℕ) (n : Unit {0}) (t : List ℕ) → blank false s ≡ got n t → Skips s t
  after_skip [] n t e = absurd (not_got e)
  after_skip (b ∷ s) n t e =
      ⊎_elim
      (λ p. let r = after_skip s n t (sym (cond-true _ _ _ p) ∙ e) in record { front = b ∷ r.front; is = whiteᵇ (white_from b p) r.is; bytes = ap (λ l. b ∷ l) r.bytes })
      (λ p. ⊎_elim
      (λ q. let r = after_close s n t (sym (cond-false _ _ _ p ∙ cond-true _ _ _ q) ∙ e) in
      record { front = 35 ∷ (r.inside ++ (10 ∷ r.front)); is = comment r.inside r.free r.is; bytes = (λ i. eqb-true b 35 q i ∷ r.bytes i) ∙ ap (λ l. 35 ∷ l) (sym (append_assoc r.inside (10 ∷ r.front) t)) })
      (λ q. let same : b ∷ s ≡ t = (let f = sym (cond-false _ _ _ p ∙ cond-false _ _ _ q) ∙ e in cc) in record { front = []; is = nothing; bytes = same })
      (cases_Bool (eqb b 35)))
      (cases_Bool (is_white_byte b))

  after_close : (s : List ℕ) (n : Unit {0}) (t : List ℕ) → blank true s ≡ got n t → Closes s t
  after_close [] n t e = absurd (not_got e)
  after_close (b ∷ s) n t e =
      ⊎_elim
      (λ p. let r = after_skip s n t (sym (cond-true _ _ _ p) ∙ e) in
      record { inside = []; front = r.front; free = All-nil NoEnd; is = r.is; bytes = λ i. eqb-true b 10 p i ∷ r.bytes i })
      (λ p. let r = after_close s n t (sym (cond-false _ _ _ p) ∙ e) in
      record { inside = b ∷ r.inside; front = r.front; free = All-cons NoEnd b r.inside (eqb-false b 10 p) r.free; is = r.is; bytes = ap (λ l. b ∷ l) r.bytes })
      (cases_Bool (eqb b 10))

-- ---- a gap is not empty: skipping from a byte that begins one goes past that byte
mutual
  skip_shorter : (s : List ℕ) (n : Unit {0}) (t : List ℕ) → blank false s ≡ got n t → length t ≤ length s
  skip_shorter [] n t e = absurd (not_got e)
  skip_shorter (b ∷ s) n t e =
      ⊎_elim
      (λ p. let r = skip_shorter s n t (sym (cond-true _ _ _ p) ∙ e) in omega arith)
      (λ p. ⊎_elim
      (λ q. let r = close_shorter s n t (sym (cond-false _ _ _ p ∙ cond-true _ _ _ q) ∙ e) in omega arith)
      (λ q. let same : b ∷ s ≡ t = (let f = sym (cond-false _ _ _ p ∙ cond-false _ _ _ q) ∙ e in cc) in omega (arith, ap length same))
      (cases_Bool (eqb b 35)))
      (cases_Bool (is_white_byte b))

  close_shorter : (s : List ℕ) (n : Unit {0}) (t : List ℕ) → blank true s ≡ got n t → length t ≤ length s
  close_shorter [] n t e = absurd (not_got e)
  close_shorter (b ∷ s) n t e =
      ⊎_elim
      (λ p. let r = skip_shorter s n t (sym (cond-true _ _ _ p) ∙ e) in omega arith)
      (λ p. let r = close_shorter s n t (sym (cond-false _ _ _ p) ∙ e) in omega arith)
      (cases_Bool (eqb b 10))

begun_shorter : (b : ℕ) (s : List ℕ) (n : Unit {0}) (t : List ℕ) → (is_white_byte b || eqb b 35) ≡ true → blank false (b ∷ s) ≡ got n t → length t < length (b ∷ s)
begun_shorter b s n t p e =
    ⊎_elim
    (λ q. let r = skip_shorter s n t (sym (cond-true _ _ _ q) ∙ e) in omega arith)
    (λ q. ⊎_elim
    (λ x. absurd (let z : ◌≡◌ {A = Bool} true false = sym x ∙ q in let f : ◌≡◌ {A = ℕ} 0 1 = cc in omega arith))
    (λ x. let r = close_shorter s n t (sym (cond-false _ _ _ q ∙ cond-true _ _ _ x) ∙ e) in omega arith)
    (or_cases _ _ p))
    (cases_Bool (is_white_byte b))

after_gap : (s : List ℕ) (n : Unit {0}) (t : List ℕ) → gap s ≡ got n t → (g : List ℕ) × Gap g × (s ≡ g ++ t)
after_gap [] n t e = absurd (not_got e)
after_gap (b ∷ s) n t e =
    ⊎_elim
    (λ p.
    let f = sym (cond-true _ _ _ p) ∙ e in
    let r = after_skip (b ∷ s) n t f in
    let less = begun_shorter b s n t p f in
    (r.front, (r.is, omega (arith, simp length-append at (ap length r.bytes))), r.bytes))
    (λ p. absurd (not_got (sym (cond-false _ _ _ p) ∙ e)))
    (cases_Bool (is_white_byte b || eqb b 35))

-- ---- a number's digits
record Reads (n : ℕ) (s : List ℕ) (m : ℕ) (t : List ℕ) : Type 0 where
  front : List ℕ
  is : Digits front
  value : value_after n front ≡ m
  least : 1 ≤ m
  most : m ≤ 4096
  bytes : s ≡ front ++ t

after_digits : (whole : List ℕ) (n : ℕ) (s : List ℕ) (m : ℕ) (t : List ℕ) → digits whole n s ≡ got m t → Reads n s m t
after_digits whole n [] m t e = absurd (not_got e)
after_digits whole n (b ∷ s) m t e =
    ⊎_elim
    (λ p.
    let r = after_digits whole (n * 10 + (b - 48)) s m t (sym (cond-true _ _ _ p) ∙ e) in
    record { front = b ∷ r.front; is = All-cons Digit b r.front (digit_from b p) r.is; value = r.value; least = r.least; most = r.most; bytes = ap (λ l. b ∷ l) r.bytes })
    (λ p. ⊎_elim
    (λ q.
    let f = sym (cond-false _ _ _ p ∙ cond-true _ _ _ q) ∙ e in
    let both = and_parts (leb 1 n) (leb n 4096) q in
    let same : n ≡ m = cc in
    let rest : b ∷ s ≡ t = cc in
    record { front = []; is = All-nil Digit; value = same; least = omega (arith, leb-true 1 n both.0); most = omega (arith, leb-true n 4096 both.1); bytes = rest })
    (λ q. absurd (not_got (sym (cond-false _ _ _ p ∙ cond-false _ _ _ q) ∙ e)))
    (cases_Bool (leb 1 n && leb n 4096)))
    (cases_Bool (is_digit_byte b))

after_number : (s : List ℕ) (m : ℕ) (t : List ℕ) → number s ≡ got m t → (d : List ℕ) × Number d m × (s ≡ d ++ t)
after_number [] m t e = absurd (not_got e)
after_number (b ∷ s) m t e =
    ⊎_elim
    (λ p.
    let f = sym (cond-true _ _ _ p) ∙ e in
    let r = after_digits (b ∷ s) (0 * 10 + (b - 48)) s m t (sym (cond-true _ _ _ p) ∙ f) in
    (b ∷ r.front, record { written = omega arith; digits = All-cons Digit b r.front (digit_from b p) r.is; value = r.value; least = r.least; most = r.most }, ap (λ l. b ∷ l) r.bytes))
    (λ p. absurd (not_got (sym (cond-false _ _ _ p) ∙ e)))
    (cases_Bool (is_digit_byte b))

-- ---- the whole file, from its answer to the grammar
record Goes {A B : Type 0} (r : Read A) (next : A → List ℕ → Read B) (y : B) (s : List ℕ) : Type 0 where
  x : A
  t : List ℕ
  is : r ≡ got x t
  then : next x t ≡ got y s

goes : {A B : Type 0} (r : Read A) (next : A → List ℕ → Read B) (y : B) (s : List ℕ) → (r ⟫ next) ≡ got y s → Goes r next y s
goes (got x t) next y s e = record { x = x; t = t; is = refl; then = e }
goes (fault why t) next y s e = absurd (not_got e)

after_magic : (s : List ℕ) (n : Unit {0}) (t : List ℕ) → magic s ≡ got n t → s ≡ 80 ∷ 52 ∷ t
after_magic [] n t e = absurd (not_got e)
after_magic (a ∷ []) n t e = absurd (not_got e)
after_magic (a ∷ b ∷ s) n t e =
    ⊎_elim
    (λ p.
    let both = and_parts (eqb a 80) (eqb b 52) p in
    let f = sym (cond-true _ _ _ p) ∙ e in
    let rest : s ≡ t = cc in
    λ i. eqb-true a 80 both.0 i ∷ eqb-true b 52 both.1 i ∷ rest i)
    (λ p. absurd (not_got (sym (cond-false _ _ _ p) ∙ e)))
    (cases_Bool (eqb a 80 && eqb b 52))

after_white : (s : List ℕ) (n : Unit {0}) (t : List ℕ) → white s ≡ got n t → (b : ℕ) × White b × (s ≡ b ∷ t)
after_white [] n t e = absurd (not_got e)
after_white (b ∷ s) n t e =
    ⊎_elim
    (λ p. let f = sym (cond-true _ _ _ p) ∙ e in let rest : s ≡ t = cc in (b, white_from b p, ap (λ l. b ∷ l) rest))
    (λ p. absurd (not_got (sym (cond-false _ _ _ p) ∙ e)))
    (cases_Bool (is_white_byte b))

after_rows : (w h : ℕ) (s : List ℕ) (w' h' : ℕ) (s' : List ℕ) → all_rows w h s ≡ got (w', h') s' → (w ≡ w') × (h ≡ h') × (s ≡ s') × RowsFit w h s
after_rows w h s w' h' s' e =
    ⊎_elim
    (λ p. absurd (not_got (sym (cond-true _ _ _ p) ∙ e)))
    (λ p. ⊎_elim
    (λ q. absurd (not_got (sym (cond-false _ _ _ p ∙ cond-true _ _ _ q) ∙ e)))
    (λ q.
    let f = sym (cond-false _ _ _ p ∙ cond-false _ _ _ q) ∙ e in
    let le = ltb-false (length s) (h * row_bytes w) p in
    let ge = ltb-false (h * row_bytes w) (length s) q in
    let both : ◌≡◌ {A = ℕ × ℕ} (w, h) (w', h') = cc in
    (ap (λ z. z.0) both, ap (λ z. z.1) both, cc, omega arith))
    (cases_Bool (ltb (h * row_bytes w) (length s))))
    (cases_Bool (ltb (length s) (h * row_bytes w)))

sound : (file : List ℕ) (w h : ℕ) (s : List ℕ) → opened file ≡ got (w, h) s → PictureFile file w h s
sound file w h s e =
    let m = goes (magic file) _ (w, h) s e in
    let g₁ = goes (gap m.t) _ (w, h) s m.then in
    let nw = goes (number g₁.t) _ (w, h) s g₁.then in
    let g₂ = goes (gap nw.t) _ (w, h) s nw.then in
    let nh = goes (number g₂.t) _ (w, h) s g₂.then in
    let wh = goes (white nh.t) _ (w, h) s nh.then in
    let a = after_magic file _ _ m.is in
    let b = after_gap m.t _ _ g₁.is in
    let c = after_number g₁.t _ _ nw.is in
    let d = after_gap nw.t _ _ g₂.is in
    let f = after_number g₂.t _ _ nh.is in
    let x = after_white nh.t _ _ wh.is in
    let y = after_rows nw.x nh.x wh.t w h s wh.then in
    record {
      gap₁ = b.0;
      width = c.0;
      gap₂ = d.0;
      height = f.0;
      last = x.0;
      bytes = a ∙ ap (λ l. 80 ∷ 52 ∷ l) (b.2 ∙ ap (λ l. b.0 ++ l) (c.2 ∙ ap (λ l. c.0 ++ l) (d.2 ∙ ap (λ l. d.0 ++ l) (f.2 ∙ ap (λ l. f.0 ++ l) (x.2 ∙ ap (λ l. x.0 ∷ l) y.2)))));
      is_gap₁ = b.1;
      is_width = subst (Number c.0) y.0 c.1;
      is_gap₂ = d.1;
      is_height = subst (Number f.0) y.1 f.1;
      is_white = x.1;
      is_rows = ap length (sym y.2) ∙ y.3 ∙ (λ i. y.1 i * row_bytes (y.0 i));
    }

-- ---- from the grammar to the answer
-- t goes on with a byte that is not blank
abbrev Stops : List ℕ → Type 0
Stops [] = ⊥
Stops (b ∷ t) = (is_white_byte b ≡ false) × (eqb b 35 ≡ false)

abbrev Ends : List ℕ → Type 0
Ends [] = ⊥
Ends (b ∷ t) = is_digit_byte b ≡ false

stop_here : (t : List ℕ) → Stops t → blank false t ≡ got tt t
stop_here [] h = absurd h
stop_here (b ∷ t) h = cond-false _ _ _ h.0 ∙ cond-false _ _ _ h.1

through_comment : (c s : List ℕ) → All NoEnd c → blank true (c ++ (10 ∷ s)) ≡ blank false s
through_comment [] s h = refl
through_comment (b ∷ c) s h = cond-false _ _ _ (ne_eqb b 10 (All-head NoEnd b c h)) ∙ through_comment c s (All-tail NoEnd b c h)

through_blank : {g : List ℕ} → Blank g → (t : List ℕ) → Stops t → blank false (g ++ t) ≡ got tt t
through_blank nothing t h = stop_here t h
through_blank (whiteᵇ {b} w r) t h = cond-true _ _ _ (white_to b w) ∙ through_blank r t h
through_blank (comment c {s} n r) t h = ap (blank true) (append_assoc c (10 ∷ s) t) ∙ through_comment c (s ++ t) n ∙ through_blank r t h

begins : {g : List ℕ} → Blank g → 0 < length g → (b : ℕ) (s : List ℕ) → g ≡ b ∷ s → (is_white_byte b || eqb b 35) ≡ true
begins nothing h b s e = absurd (omega arith)
begins (whiteᵇ {b = a} w r) h b s e = let same : a ≡ b = cc in or_left _ _ (ap is_white_byte (sym same) ∙ white_to a w)
begins (comment c n r) h b s e = let same : 35 ≡ b = cc in or_right _ _ (eq-eqb b 35 (sym same))

through_gap : (g t : List ℕ) → Gap g → Stops t → gap (g ++ t) ≡ got tt t
through_gap [] t h st = absurd (omega (arith, h.1))
through_gap (b ∷ g) t h st = cond-true _ _ _ (begins h.0 h.1 b g refl) ∙ through_blank h.0 t st

through_digits : (whole : List ℕ) (n : ℕ) (d t : List ℕ) → Digits d → Ends t → 1 ≤ value_after n d → value_after n d ≤ 4096 → digits whole n (d ++ t) ≡ got (value_after n d) t
through_digits whole n [] [] ds e l m = absurd e
through_digits whole n [] (b ∷ t) ds e l m = cond-false _ _ _ e ∙ cond-true _ _ _ (and_from _ _ (le-leb 1 n l) (le-leb n 4096 m))
through_digits whole n (b ∷ d) t ds e l m = cond-true _ _ _ (digit_to b (All-head Digit b d ds)) ∙ through_digits whole (n * 10 + (b - 48)) d t (All-tail Digit b d ds) e l m

through_number : (d : List ℕ) (n : ℕ) (t : List ℕ) → Number d n → Ends t → number (d ++ t) ≡ got n t
through_number [] n t h e = absurd (omega (arith, h.written))
through_number (b ∷ d) n t h e =
    let v = h.value in
    cond-true _ _ _ (digit_to b (All-head Digit b d h.digits)) ∙ through_digits (b ∷ (d ++ t)) 0 (b ∷ d) t h.digits e (omega (arith, h.least)) (omega (arith, h.most)) ∙ ap (λ k. got k t) v

-- what follows a part does not continue it
digit_stops : (d t : List ℕ) (n : ℕ) → Number d n → Stops (d ++ t)
digit_stops [] t n h = absurd (omega (arith, h.written))
digit_stops (b ∷ d) t n h = let in-range : Digit b = All-head Digit b d h.digits in (grind (arith, nat_tests), grind (arith, nat_tests))

white_ends : (b : ℕ) → White b → is_digit_byte b ≡ false
white_ends b (inl e) = ap is_digit_byte e
white_ends b (inr (inl e)) = ap is_digit_byte e
white_ends b (inr (inr (inl e))) = ap is_digit_byte e
white_ends b (inr (inr (inr e))) = ap is_digit_byte e

gap_ends : {g : List ℕ} → Blank g → 0 < length g → (t : List ℕ) → Ends (g ++ t)
gap_ends nothing h t = absurd (omega arith)
gap_ends (whiteᵇ {b} w r) h t = white_ends b w
gap_ends (comment c n r) h t = refl

fits : (w h : ℕ) (s : List ℕ) → RowsFit w h s → all_rows w h s ≡ got (w, h) s
fits w h s e = cond-false _ _ _ (le-ltb (length s) (h * row_bytes w) (omega arith)) ∙ cond-false _ _ _ (le-ltb (h * row_bytes w) (length s) (omega arith))

pub complete : (file : List ℕ) (w h : ℕ) (s : List ℕ) → PictureFile file w h s → opened file ≡ got (w, h) s
complete file w h s p =
    ap opened p.bytes
    ∙ go _ (through_gap p.gap₁ _ p.is_gap₁ (digit_stops p.width _ w p.is_width))
    ∙ go _ (through_number p.width w _ p.is_width (gap_ends p.is_gap₂.0 p.is_gap₂.1 _))
    ∙ go _ (through_gap p.gap₂ _ p.is_gap₂ (digit_stops p.height _ h p.is_height))
    ∙ go _ (through_number p.height h _ p.is_height (white_ends p.last p.is_white))
    ∙ go _ (cond-true _ _ _ (white_to p.last p.is_white))
    ∙ fits w h s p.is_rows

pub refused : (file : List ℕ) (why : PictureRefusal) (t : List ℕ) → opened file ≡ fault why t → NoPicture file
refused file why t e w h s p = not_got (sym e ∙ complete file w h s p)

pub accepted : (file : List ℕ) (w h : ℕ) (s : List ℕ) → opened file ≡ got (w, h) s → Only file w h s
accepted file w h s e = record { is = sound file w h s e; no_other = λ w' h' s' p. same w' h' s' (sym (complete file w' h' s' p) ∙ e) }
  where
    same : (w' h' : ℕ) (s' : List ℕ) → ◌≡◌ {A = Read (ℕ × ℕ)} (got (w', h') s') (got (w, h) s) → (w' ≡ w) × (h' ≡ h) × (s' ≡ s)
    same w' h' s' f =
        let both : ◌≡◌ {A = ℕ × ℕ} (w', h') (w, h) = cc in
        (ap (λ z. z.0) both, ap (λ z. z.1) both, cc)
