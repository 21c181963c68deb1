-- The first fault, by what opening answers for longer and for shorter files. Serves the clause `first_fault` of `open`.
-- Assumes nothing.
use Rattle.std.proofs.Common.{◌≡◌, ℕ, ◌+◌, ◌-◌, ◌*◌, ◌<◌, ◌≤◌, Bool, true, false, cond, ◌&&◌, ◌||◌, eqb, ltb, leb, ◌⊎◌, List, [], ◌∷◌, ◌++◌, length, take, drop, sym, refl, ap, ◌∙◌, subst, inl, inr, ⊎_elim, append_assoc, append-nil, arith, length-append, length-drop, take-append-drop}
use lib.Seq.{drop-append_seam}
use Rattle.std.proofs.lemmas.List.{drop-append-le, drop_all, length-take-le}
use Rattle.std.proofs.lemmas.Bool.{cond-true, cond-false, cases_Bool, lt-ltb, le-ltb, ltb-true, ltb-false}
use Rattle.pictures.specs.Rows.{row_bytes}
use Rattle.pictures.specs.Reading.{Read, got, fault, ◌⟫◌, is_white_byte, is_digit_byte, magic, blank, gap, digits, number, white, all_rows, opened, FaultAt}
use Rattle.pictures.specs.FirstFault.{FirstFault, Whole}
use Rattle.pictures.specs.declared.refusals.PictureRefusal.{PictureRefusal}
use Rattle.pictures.specs.declared.refusals.PictureRefusal.TheVariants.{WrongMagic, WrongByte, NumberOutside, EndsEarly, BytesAfterRows, NoSuchRow}

-- ---- "too early" and the other refusals
too_early_or_not : (why : PictureRefusal) → (why ≡ EndsEarly) ⊎ (why ≡ EndsEarly → ⊥)
too_early_or_not WrongMagic = inr (λ e. cc)
too_early_or_not WrongByte = inr (λ e. cc)
too_early_or_not NumberOutside = inr (λ e. cc)
too_early_or_not EndsEarly = inl refl
too_early_or_not BytesAfterRows = inr (λ e. cc)
too_early_or_not NoSuchRow = inr (λ e. cc)

-- ---- more bytes after the file
-- A part that was read is read still, and a fault other than "too early" stays.
abbrev Longer : {A : Type 0} → List ℕ → Read A → Read A → Type 0
Longer more (got x t) r = r ≡ got x (t ++ more)
Longer more (fault why t) r = (why ≡ EndsEarly → ⊥) → r ≡ fault why (t ++ more)

longer_cond : {A : Type 0} (more : List ℕ) (t : Bool) (x y x' y' : Read A) → Longer more x x' → Longer more y y' → Longer more (cond t x y) (cond t x' y')
longer_cond more true x y x' y' p q = p
longer_cond more false x y x' y' p q = q

ends : {A : Type 0} (more : List ℕ) (r : Read A) → Longer more (fault EndsEarly []) r
ends more r ne = absurd (ne refl)

longer_then : {A B : Type 0} (more : List ℕ) (r r' : Read A) (next : A → List ℕ → Read B) → Longer more r r' → ((x : A) (t : List ℕ) → Longer more (next x t) (next x (t ++ more))) → Longer more (r ⟫ next) (r' ⟫ next)
longer_then more (got x t) r' next e n = subst (λ r. Longer more (next x t) (r ⟫ next)) (sym e) (n x t)
longer_then more (fault why t) r' next e n = λ ne. ap (λ r. r ⟫ next) (e ne)

module _ (more : List ℕ) where
  magic_longer : (s : List ℕ) → Longer more (magic s) (magic (s ++ more))
  magic_longer [] = ends more _
  magic_longer (a ∷ []) = ends more _
  magic_longer (a ∷ b ∷ s) = longer_cond more (eqb a 80 && eqb b 52) (got tt s) (fault WrongMagic (a ∷ b ∷ s)) _ _ refl (λ _. refl)

  blank_longer : (s : List ℕ) (inside : Bool) → Longer more (blank inside s) (blank inside (s ++ more))
  blank_longer [] inside = ends more _
  blank_longer (b ∷ s) true = longer_cond more (eqb b 10) _ _ _ _ (blank_longer s false) (blank_longer s true)
  blank_longer (b ∷ s) false = longer_cond more (is_white_byte b) _ _ _ _ (blank_longer s false) (longer_cond more (eqb b 35) _ _ _ _ (blank_longer s true) refl)

  gap_longer : (s : List ℕ) → Longer more (gap s) (gap (s ++ more))
  gap_longer [] = ends more _
  gap_longer (b ∷ s) = longer_cond more (is_white_byte b || eqb b 35) _ _ _ _ (blank_longer (b ∷ s) false) (λ _. refl)

  digits_longer : (whole : List ℕ) (n : ℕ) (s : List ℕ) → Longer more (digits whole n s) (digits (whole ++ more) n (s ++ more))
  digits_longer whole n [] = ends more _
  digits_longer whole n (b ∷ s) = longer_cond more (is_digit_byte b) _ _ _ _ (digits_longer whole (n * 10 + (b - 48)) s) (longer_cond more (leb 1 n && leb n 4096) _ _ _ _ refl (λ _. refl))

  number_longer : (s : List ℕ) → Longer more (number s) (number (s ++ more))
  number_longer [] = ends more _
  number_longer (b ∷ s) = longer_cond more (is_digit_byte b) _ _ _ _ (digits_longer (b ∷ s) 0 (b ∷ s)) (λ _. refl)

  white_longer : (s : List ℕ) → Longer more (white s) (white (s ++ more))
  white_longer [] = ends more _
  white_longer (b ∷ s) = longer_cond more (is_white_byte b) _ _ _ _ refl (λ _. refl)

-- and a picture that was whole has bytes after its rows
abbrev Past : {A : Type 0} → List ℕ → Read A → Read A → Type 0
Past more (got x t) r = 0 < length more → r ≡ fault BytesAfterRows more
Past more (fault why t) r = (why ≡ EndsEarly → ⊥) → r ≡ fault why (t ++ more)

past_then : {A B : Type 0} (more : List ℕ) (r r' : Read A) (next : A → List ℕ → Read B) → Longer more r r' → ((x : A) (t : List ℕ) → Past more (next x t) (next x (t ++ more))) → Past more (r ⟫ next) (r' ⟫ next)
past_then more (got x t) r' next e n = subst (λ r. Past more (next x t) (r ⟫ next)) (sym e) (n x t)
past_then more (fault why t) r' next e n = λ ne. ap (λ r. r ⟫ next) (e ne)

past_rows : (more : List ℕ) (w h : ℕ) (s : List ℕ) → Past more (all_rows w h s) (all_rows w h (s ++ more))
past_rows more w h s =
    let size = h * row_bytes w in
    let both = length-append s more in
    let then = all_rows w h (s ++ more) in
    ⊎_elim
    (λ p. subst (λ r. Past more r then) (sym (cond-true (ltb (length s) size) _ _ p)) (λ ne. absurd (ne refl)))
    (λ p.
    let le = ltb-false (length s) size p in
    let on : ltb (length (s ++ more)) size ≡ false = le-ltb (length (s ++ more)) size (omega arith) in
    let rest : drop size (s ++ more) ≡ drop size s ++ more = drop-append-le size s more le in
    ⊎_elim
    (λ q.
    let lt = ltb-true size (length s) q in
    let over : ltb size (length (s ++ more)) ≡ true = lt-ltb size (length (s ++ more)) (omega arith) in
    subst (λ r. Past more r then) (sym (cond-false (ltb (length s) size) _ _ p ∙ cond-true (ltb size (length s)) _ _ q))
    (λ ne. cond-false _ _ _ on ∙ cond-true _ _ _ over ∙ ap (fault BytesAfterRows) rest))
    (λ q.
    let ge = ltb-false size (length s) q in
    let gone : drop size s ≡ [] = drop_all size s ge in
    subst (λ r. Past more r then) (sym (cond-false (ltb (length s) size) _ _ p ∙ cond-false (ltb size (length s)) _ _ q))
    (λ further.
    let over : ltb size (length (s ++ more)) ≡ true = lt-ltb size (length (s ++ more)) (omega arith) in
    cond-false _ _ _ on ∙ cond-true _ _ _ over ∙ ap (fault BytesAfterRows) (rest ∙ ap (λ l. l ++ more) gone)))
    (cases_Bool (ltb size (length s))))
    (cases_Bool (ltb (length s) size))

past : (more file : List ℕ) → Past more (opened file) (opened (file ++ more))
past more file =
    past_then more _ _ _ (magic_longer more file) (λ _ s.
    past_then more _ _ _ (gap_longer more s) (λ _ s.
    past_then more _ _ _ (number_longer more s) (λ w s.
    past_then more _ _ _ (gap_longer more s) (λ _ s.
    past_then more _ _ _ (number_longer more s) (λ h s.
    past_then more _ _ _ (white_longer more s) (λ _ s.
    past_rows more w h s))))))

-- ---- places: what is left is an end of the file
record Suffix (t s : List ℕ) : Type 0 where
  front : List ℕ
  joins : s ≡ front ++ t

whole_suffix : (s : List ℕ) → Suffix s s
whole_suffix s = record { front = []; joins = refl }

nil_suffix : (s : List ℕ) → Suffix [] s
nil_suffix s = record { front = s; joins = sym (append-nil s) }

cons_suffix : (b : ℕ) {t s : List ℕ} → Suffix t s → Suffix t (b ∷ s)
cons_suffix b p = record { front = b ∷ p.front; joins = ap (λ l. b ∷ l) p.joins }

drop_suffix : (n : ℕ) (s : List ℕ) → Suffix (drop n s) s
drop_suffix n s = record { front = take n s; joins = sym (take-append-drop n s) }

suffix_trans : {t u s : List ℕ} → Suffix t u → Suffix u s → Suffix t s
suffix_trans {t} p q = record { front = q.front ++ p.front; joins = q.joins ∙ ap (λ l. q.front ++ l) p.joins ∙ sym (append_assoc q.front p.front t) }

suffix_length : {t s : List ℕ} → Suffix t s → length t ≤ length s
suffix_length {t} p = omega (arith, ap length p.joins, length-append p.front t)

-- "too early" stands at the end, and every other fault before a byte
record Placed (s : List ℕ) (why : PictureRefusal) (t : List ℕ) : Type 0 where
  suffix : Suffix t s
  at_end : why ≡ EndsEarly → t ≡ []
  at_byte : (why ≡ EndsEarly → ⊥) → 0 < length t

abbrev Within : {A : Type 0} → List ℕ → Read A → Type 0
Within s (got x t) = Suffix t s
Within s (fault why t) = Placed s why t

within_cond : {A : Type 0} (s : List ℕ) (t : Bool) (x y : Read A) → Within s x → Within s y → Within s (cond t x y)
within_cond s true x y p q = p
within_cond s false x y p q = q

within_more : {A : Type 0} (u s : List ℕ) (r : Read A) → Suffix u s → Within u r → Within s r
within_more u s (got x t) q p = suffix_trans p q
within_more u s (fault why t) q p = record { suffix = suffix_trans p.suffix q; at_end = p.at_end; at_byte = p.at_byte }

within_next : {A : Type 0} (b : ℕ) (s : List ℕ) (r : Read A) → Within s r → Within (b ∷ s) r
within_next b s r p = within_more s (b ∷ s) r (cons_suffix b (whole_suffix s)) p

within_then : {A B : Type 0} (s : List ℕ) (r : Read A) (next : A → List ℕ → Read B) → Within s r → ((x : A) (t : List ℕ) → Within t (next x t)) → Within s (r ⟫ next)
within_then s (got x t) next p n = within_more t s (next x t) p (n x t)
within_then s (fault why t) next p n = p

ended : (s : List ℕ) → Placed s EndsEarly []
ended s = record { suffix = nil_suffix s; at_end = λ _. refl; at_byte = λ never. absurd (never refl) }

here : (why : PictureRefusal) (s : List ℕ) (b : ℕ) (t : List ℕ) → (why ≡ EndsEarly → ⊥) → Suffix (b ∷ t) s → Placed s why (b ∷ t)
here why s b t never p = record { suffix = p; at_end = λ e. absurd (never e); at_byte = λ _. omega arith }

magic_within : (s : List ℕ) → Within s (magic s)
magic_within [] = ended _
magic_within (a ∷ []) = ended _
magic_within (a ∷ b ∷ s) =
    within_cond _ (eqb a 80 && eqb b 52) (got tt s) (fault WrongMagic (a ∷ b ∷ s)) (cons_suffix a (cons_suffix b (whole_suffix s)))
    (here WrongMagic _ a (b ∷ s) (λ e. cc) (whole_suffix _))

blank_within : (s : List ℕ) (inside : Bool) → Within s (blank inside s)
blank_within [] inside = ended _
blank_within (b ∷ s) true = within_cond _ (eqb b 10) (blank false s) (blank true s) (within_next b s _ (blank_within s false)) (within_next b s _ (blank_within s true))
blank_within (b ∷ s) false =
    within_cond _ (is_white_byte b) (blank false s) (cond (eqb b 35) (blank true s) (got tt (b ∷ s))) (within_next b s _ (blank_within s false))
    (within_cond _ (eqb b 35) (blank true s) (got tt (b ∷ s)) (within_next b s _ (blank_within s true)) (whole_suffix _))

gap_within : (s : List ℕ) → Within s (gap s)
gap_within [] = ended _
gap_within (b ∷ s) =
    within_cond _ (is_white_byte b || eqb b 35) (blank false (b ∷ s)) (fault WrongByte (b ∷ s)) (blank_within (b ∷ s) false)
    (here WrongByte _ b s (λ e. cc) (whole_suffix _))

digits_within : (a : ℕ) (whole : List ℕ) (n : ℕ) (s : List ℕ) → Suffix s (a ∷ whole) → Within (a ∷ whole) (digits (a ∷ whole) n s)
digits_within a whole n [] p = ended _
digits_within a whole n (b ∷ s) p =
    within_cond _ (is_digit_byte b) (digits (a ∷ whole) (n * 10 + (b - 48)) s) (cond (leb 1 n && leb n 4096) (got n (b ∷ s)) (fault NumberOutside (a ∷ whole)))
    (digits_within a whole (n * 10 + (b - 48)) s (suffix_trans (cons_suffix b (whole_suffix s)) p))
    (within_cond _ (leb 1 n && leb n 4096) (got n (b ∷ s)) (fault NumberOutside (a ∷ whole)) p (here NumberOutside _ a whole (λ e. cc) (whole_suffix _)))

number_within : (s : List ℕ) → Within s (number s)
number_within [] = ended _
number_within (b ∷ s) =
    within_cond _ (is_digit_byte b) (digits (b ∷ s) 0 (b ∷ s)) (fault WrongByte (b ∷ s)) (digits_within b s 0 (b ∷ s) (whole_suffix _))
    (here WrongByte _ b s (λ e. cc) (whole_suffix _))

white_within : (s : List ℕ) → Within s (white s)
white_within [] = ended _
white_within (b ∷ s) =
    within_cond _ (is_white_byte b) (got tt s) (fault WrongByte (b ∷ s)) (cons_suffix b (whole_suffix s)) (here WrongByte _ b s (λ e. cc) (whole_suffix _))

rows_within : (w h : ℕ) (s : List ℕ) → Within s (all_rows w h s)
rows_within w h s =
    let size = h * row_bytes w in
    within_cond _ (ltb (length s) size) (fault EndsEarly []) _ (ended _)
    (⊎_elim
    (λ q. subst (Within s) (sym (cond-true (ltb size (length s)) _ _ q))
    (record { suffix = drop_suffix size s; at_end = λ e. absurd (let f : ◌≡◌ BytesAfterRows EndsEarly = e in cc); at_byte = λ _. omega (arith, length-drop size s, ltb-true size (length s) q) }))
    (λ q. subst (Within s) (sym (cond-false (ltb size (length s)) _ _ q)) (whole_suffix s))
    (cases_Bool (ltb size (length s))))

within : (file : List ℕ) → Within file (opened file)
within file =
    within_then _ _ _ (magic_within file) (λ _ s.
    within_then _ _ _ (gap_within s) (λ _ s.
    within_then _ _ _ (number_within s) (λ w s.
    within_then _ _ _ (gap_within s) (λ _ s.
    within_then _ _ _ (number_within s) (λ h s.
    within_then _ _ _ (white_within s) (λ _ s.
    rows_within w h s))))))

-- the place of a fault is the number of bytes before those that are left
placed : (file : List ℕ) (why : PictureRefusal) (t : List ℕ) → opened file ≡ fault why t → Placed file why t
placed file why t e = subst (Within {A = ℕ × ℕ} file) e (within file)

pub left_within : (file : List ℕ) (why : PictureRefusal) (t : List ℕ) → opened file ≡ fault why t → length t ≤ length file
left_within file why t e = suffix_length (placed file why t e).suffix

pub fault_at : (file : List ℕ) (why : PictureRefusal) (t : List ℕ) → opened file ≡ fault why t → FaultAt file why (length file - length t)
fault_at file why t e =
    let p = (placed file why t e).suffix in
    let before : length file - length t ≡ length p.front = omega (arith, ap length p.joins, length-append p.front t) in
    record {
      within = omega arith;
      stops = e ∙ ap (fault why) (sym (drop-append_seam p.front t) ∙ (λ i. drop (sym before i) (sym p.joins i)));
    }

-- ---- the first fault
-- where a longer file is refused within what it has more, or is opened, its front ends too early
cut : {A : Type 0} (s back : List ℕ) (r r' : Read A) (why : PictureRefusal) (t : List ℕ) → Past back r r' → Within s r → r' ≡ fault why t → length t < length back → r ≡ fault EndsEarly []
cut s back (got x u) r' why t p w e lt =
    let f = sym (p (omega arith)) ∙ e in
    let same : back ≡ t = cc in
    absurd (omega (arith, ap length same))
cut s back (fault other-why u) r' why t p w e lt =
    ⊎_elim
    (λ is. (λ i. fault (is i) (w.at_end is i)))
    (λ never.
    let f = sym (p never) ∙ e in
    let same : u ++ back ≡ t = cc in
    absurd (omega (arith, simp length-append at (ap length same))))
    (too_early_or_not other-why)

cut_opened : {A : Type 0} (s back : List ℕ) (r r' : Read A) (x : A) (t : List ℕ) → Past back r r' → Within s r → r' ≡ got x t → 0 < length back → r ≡ fault EndsEarly []
cut_opened s back (got y u) r' x t p w e lt = let f = sym (p lt) ∙ e in cc
cut_opened s back (fault why u) r' x t p w e lt =
    ⊎_elim
    (λ is. (λ i. fault (is i) (w.at_end is i)))
    (λ never. let f = sym (p never) ∙ e in cc)
    (too_early_or_not why)

-- a front of n bytes that ends too early does so at n
front_ends : (file : List ℕ) (n : ℕ) → n < length file → opened (take n file) ≡ fault EndsEarly [] → FaultAt (take n file) EndsEarly n
front_ends file n lt e =
    let long : length (take n file) ≡ n = length-take-le n file (omega arith) in
    record { within = omega arith; stops = e ∙ ap (fault EndsEarly) (sym (drop_all n (take n file) (omega arith))) }

past_front : (file : List ℕ) (n : ℕ) → Past (drop n file) (opened (take n file)) (opened file)
past_front file n = subst (λ l. Past (drop n file) (opened (take n file)) (opened l)) (take-append-drop n file) (past (drop n file) (take n file))

pub first-fault : (file : List ℕ) (why : PictureRefusal) (place : ℕ) → FaultAt file why place → FirstFault file why place
first-fault file why place f =
    let p = placed file why (drop place file) f.stops in
    let left = length-drop place file in
    let inside = f.within in
    record {
      at_end = λ e. omega (arith, ap length (p.at_end e));
      at_byte = λ never. omega (arith, p.at_byte never);
      none_before = λ n lt. front_ends file n (omega arith) (cut (take n file) (drop n file) (opened (take n file)) (opened file) why (drop place file) (past_front file n) (within (take n file)) f.stops (omega (arith, length-drop n file)));
      stays = λ never more. record {
        within = omega (arith, length-append file more);
        stops = subst (λ r. Past more r (opened (file ++ more))) f.stops (past more file) never ∙ ap (fault why) (sym (drop-append-le place file more inside));
      };
    }

pub whole : (file : List ℕ) (w h : ℕ) (s : List ℕ) → opened file ≡ got (w, h) s → Whole file
whole file w h s e =
    record {
      shorter = λ n lt. front_ends file n lt (cut_opened (take n file) (drop n file) (opened (take n file)) (opened file) (w, h) s (past_front file n) (within (take n file)) e (omega (arith, length-drop n file)));
      longer = λ more further. record {
        within = omega (arith, length-append file more);
        stops = subst (λ r. Past more r (opened (file ++ more))) e (past more file) further ∙ ap (fault BytesAfterRows) (sym (drop-append_seam file more));
      };
    }
