-- Reading accepts exactly the cards: from an accepted reading to the layout of the bytes, and from the layout back to the
-- reading. Cards are then equal as bytes exactly when they say the same.
use Rattle.std.proofs.Common.{◌≡◌, ℕ, zero, suc, ◌+◌, ◌<◌, ◌≤◌, Bool, true, false, cond, not, ◌&&◌, ◌||◌, eqb, ltb, leb, List, [], ◌∷◌, length, take, Some, None, Ok, Err, Result, sym, refl, ap, ◌∙◌, subst, ⊎_elim, append-nil, arith}
use Rattle.std.proofs.lemmas.List.{take_all}
use Rattle.std.proofs.lemmas.Bool.{cond-false, cases_Bool, le-ltb, ltb-false, leb-false, eqb-true, true≢false}
use Rattle.std.proofs.lemmas.Bool.Decides.{nat_tests}
use Rattle.schemes.specs.Bits.{differ}
use Rattle.cards.specs.Kinds.{kind_numbered}
use Rattle.cards.specs.Format.{Contents, says, mapped_fields, kind_field, sets_field, card_bytes, Rising, IsCard, NoCard}
use Rattle.cards.specs.Reading.{kind_at, count_at, sets_at, n_in, kind_in, count_in, sets_in, fields_end, rising_front, refuse_if, reading_by, reading}
use Rattle.cards.specs.Writing.{first_set_at}
use Rattle.cards.specs.declared.card.CardKind.{CardKind}
use Rattle.cards.specs.declared.card.CardKind.TheVariants.{AllOf, TwoOf, Sets}
use Rattle.cards.specs.declared.faults.CardRefusal.TheVariants.{WrongSets}
use Rattle.cards.specs.declared.faults.CardFault.{CardFault}
use Rattle.cards.proofs.RisingFacts.{rises, all_rise}

-- ---- from an accepted reading to the layout

refused_or_read : {e : CardFault} {c : Contents} → Err e ≡ Ok c → ⊥
refused_or_read p = let z : ◌≡◌ {A = ℕ} 0 1 = cc in omega arith

-- a rule that was passed
passed : (broken : Bool) (e : CardFault) (go_on : Result Contents CardFault) (c : Contents)
    → cond broken (Err e) go_on ≡ Ok c → (broken ≡ false) × (go_on ≡ Ok c)
passed true e go_on c p = absurd (refused_or_read p)
passed false e go_on c p = (refl, p)

-- what the rules leave
record Passed (bytes : List ℕ) (map : ℕ) : Type 0 where
  long : length bytes ≡ fields_end bytes map
  n_needed : (ltb 1 (kind_at map) && eqb (n_in bytes map) 2) ≡ false
  kind_known : (ltb (kind_at map) (count_at map) && not (eqb (kind_in bytes map) 2 || eqb (kind_in bytes map) 3)) ≡ false
  sets_by_kind : differ (ltb (count_at map) (sets_at map)) (eqb (kind_in bytes map) 3) ≡ false
  rising : count_in bytes map ≤ rising_front (sets_in bytes map)

abbrev contents_in : (bytes : List ℕ) (map : ℕ) → Contents
contents_in bytes map = says (kind_numbered (kind_in bytes map)) (n_in bytes map) (sets_in bytes map)

-- the bytes of a card, by whether n is left out
abbrev laid : (kind : CardKind) (n : ℕ) (sets : List ℕ) (left_out : Bool) → List ℕ
laid kind n sets left_out = mapped_fields (cond left_out None (Some (n ∷ [])) ∷ kind_field kind ∷ sets_field kind sets ∷ [])

is_two : (k : ℕ) → not (eqb k 2 || eqb k 3) ≡ false → eqb k 3 ≡ false → k ≡ 2
is_two k p q = grind (arith, nat_tests)

is_three : (k : ℕ) → not (eqb k 3) ≡ false → k ≡ 3
is_three k q = grind (arith, nat_tests)

-- a card without sets
plain : (kind : CardKind) (n : ℕ) (bytes : List ℕ) → bytes ≡ card_bytes (says kind n []) → IsCard bytes (says kind n [])
plain kind n bytes e = record { sets_by_kind = λ _. refl; rising_order = tt; layout = e }

-- a card of sets, of which t are the bytes after the count
of_sets : (n : ℕ) (bytes t : List ℕ) → length t ≤ rising_front (take (length t) t) → bytes ≡ card_bytes (says Sets n t)
    → IsCard bytes (says Sets n (take (length t) t))
of_sets n bytes t up e =
    let whole : take (length t) t ≡ t = take_all (length t) t (omega arith) in
    subst (λ l. IsCard bytes (says Sets n l)) (sym whole)
    (record { sets_by_kind = λ never. absurd (never refl); rising_order = rises t (omega (arith, ap rising_front whole)); layout = e })

card_0 : (s : List ℕ) → Passed (0 ∷ s) 0 → IsCard (0 ∷ s) (contents_in (0 ∷ s) 0)
card_0 [] f = plain AllOf 2 _ refl
card_0 (a ∷ s) f = absurd (omega (arith, f.long))

card_1 : (s : List ℕ) → Passed (1 ∷ s) 1 → IsCard (1 ∷ s) (contents_in (1 ∷ s) 1)
card_1 [] f = absurd (omega (arith, f.long))
card_1 (a ∷ []) f = plain AllOf a _ (sym (ap (laid AllOf a []) f.n_needed))
card_1 (a ∷ b ∷ s) f = absurd (omega (arith, f.long))

card_2 : (s : List ℕ) → Passed (2 ∷ s) 2 → IsCard (2 ∷ s) (contents_in (2 ∷ s) 2)
card_2 [] f = absurd (omega (arith, f.long))
card_2 (k ∷ []) f =
    subst (λ k. IsCard (2 ∷ k ∷ []) (says (kind_numbered k) 2 [])) (sym (is_two k f.kind_known f.sets_by_kind))
    (plain TwoOf 2 _ refl)
card_2 (a ∷ b ∷ s) f = absurd (omega (arith, f.long))

card_3 : (s : List ℕ) → Passed (3 ∷ s) 3 → IsCard (3 ∷ s) (contents_in (3 ∷ s) 3)
card_3 [] f = absurd (omega (arith, f.long))
card_3 (a ∷ []) f = absurd (omega (arith, f.long))
card_3 (a ∷ k ∷ []) f =
    subst (λ k. IsCard (3 ∷ a ∷ k ∷ []) (says (kind_numbered k) a [])) (sym (is_two k f.kind_known f.sets_by_kind))
    (plain TwoOf a _ (sym (ap (laid TwoOf a []) f.n_needed)))
card_3 (a ∷ b ∷ c ∷ s) f = absurd (omega (arith, f.long))

card_6 : (s : List ℕ) → Passed (6 ∷ s) 6 → IsCard (6 ∷ s) (contents_in (6 ∷ s) 6)
card_6 [] f = absurd (omega (arith, f.long))
card_6 (k ∷ []) f = absurd (omega (arith, f.long))
card_6 (k ∷ count ∷ t) f =
    let fits : length t ≡ count = omega (arith, f.long) in
    subst (λ k. IsCard (6 ∷ k ∷ count ∷ t) (says (kind_numbered k) 2 (take count t))) (sym (is_three k f.sets_by_kind))
    (subst (λ count. count ≤ rising_front (take count t) → IsCard (6 ∷ 3 ∷ count ∷ t) (says Sets 2 (take count t))) fits
    (λ up. of_sets 2 _ t up (ap (λ l. 6 ∷ 3 ∷ length t ∷ l) (sym (append-nil t)))) f.rising)

card_7 : (s : List ℕ) → Passed (7 ∷ s) 7 → IsCard (7 ∷ s) (contents_in (7 ∷ s) 7)
card_7 [] f = absurd (omega (arith, f.long))
card_7 (a ∷ []) f = absurd (omega (arith, f.long))
card_7 (a ∷ k ∷ []) f = absurd (omega (arith, f.long))
card_7 (a ∷ k ∷ count ∷ t) f =
    let fits : length t ≡ count = omega (arith, f.long) in
    subst (λ k. IsCard (7 ∷ a ∷ k ∷ count ∷ t) (says (kind_numbered k) a (take count t))) (sym (is_three k f.sets_by_kind))
    (subst (λ count. count ≤ rising_front (take count t) → IsCard (7 ∷ a ∷ 3 ∷ count ∷ t) (says Sets a (take count t))) fits
    (λ up. of_sets a _ t up (ap (λ l. 7 ∷ a ∷ 3 ∷ length t ∷ l) (sym (append-nil t)) ∙ sym (ap (laid Sets a t) f.n_needed)))
    f.rising)

-- kind 1 with sets
no_sets : {P : Type 0} → true ≡ false → P
no_sets e = absurd (true≢false e)

card_at : (map : ℕ) (s : List ℕ) → map < 8 → Passed (map ∷ s) map → IsCard (map ∷ s) (contents_in (map ∷ s) map)
card_at zero s lt f = card_0 s f
card_at (suc zero) s lt f = card_1 s f
card_at (suc (suc zero)) s lt f = card_2 s f
card_at (suc (suc (suc zero))) s lt f = card_3 s f
card_at (suc (suc (suc (suc zero)))) s lt f = no_sets f.sets_by_kind
card_at (suc (suc (suc (suc (suc zero))))) s lt f = no_sets f.sets_by_kind
card_at (suc (suc (suc (suc (suc (suc zero)))))) s lt f = card_6 s f
card_at (suc (suc (suc (suc (suc (suc (suc zero))))))) s lt f = card_7 s f
card_at (suc (suc (suc (suc (suc (suc (suc (suc map)))))))) s lt f = absurd (omega arith)

read_is_card_by : (map : ℕ) (s : List ℕ) (c : Contents) → reading_by (map ∷ s) map ≡ Ok c → IsCard (map ∷ s) c
read_is_card_by map s c e =
    let bytes : List ℕ = map ∷ s in
    let p1 = passed (leb 8 map) _ _ c e in
    let p2 = passed (ltb (length bytes) (fields_end bytes map)) _ _ c p1.1 in
    let p3 = passed (ltb 1 (kind_at map) && eqb (n_in bytes map) 2) _ _ c p2.1 in
    let p4 = passed (ltb (kind_at map) (count_at map) && not (eqb (kind_in bytes map) 2 || eqb (kind_in bytes map) 3)) _ _ c p3.1 in
    let p5 = passed (ltb (fields_end bytes map) (length bytes)) _ _ c p4.1 in
    let p6 = passed (differ (ltb (count_at map) (sets_at map)) (eqb (kind_in bytes map) 3)) _ _ c p5.1 in
    let p7 = passed (ltb (rising_front (sets_in bytes map)) (count_in bytes map)) _ _ c p6.1 in
    let last = p7.1 in
    let same : contents_in bytes map ≡ c = cc in
    let enough = ltb-false (length bytes) (fields_end bytes map) p2.0 in
    let no_more = ltb-false (fields_end bytes map) (length bytes) p5.0 in
    let all = ltb-false (rising_front (sets_in bytes map)) (count_in bytes map) p7.0 in
    subst (IsCard bytes) same
    (card_at map s (leb-false 8 map p1.0)
    (record { long = omega arith; n_needed = p3.0; kind_known = p4.0; sets_by_kind = p6.0; rising = all }))

pub read_is_card : (bytes : List ℕ) (c : Contents) → reading bytes ≡ Ok c → IsCard bytes c
read_is_card [] c e = absurd (refused_or_read e)
read_is_card (map ∷ s) c e = read_is_card_by map s c e

-- ---- from the layout to the reading

by_n : (P : ℕ → Type 0) (n : ℕ) → P 2 → (eqb n 2 ≡ false → P n) → P n
by_n P n at-two other = ⊎_elim (λ p. subst P (sym (eqb-true n 2 p)) at-two) other (cases_Bool (eqb n 2))

read_plain : (kind : CardKind) → (kind ≡ Sets → ⊥) → (n : ℕ) → reading (card_bytes (says kind n [])) ≡ Ok (says kind n [])
read_plain AllOf never n =
    by_n (λ n. reading (card_bytes (says AllOf n [])) ≡ Ok (says AllOf n [])) n refl
    (λ p. ap reading (ap (laid AllOf n []) p) ∙ cond-false (eqb n 2) _ _ p)
read_plain TwoOf never n =
    by_n (λ n. reading (card_bytes (says TwoOf n [])) ≡ Ok (says TwoOf n [])) n refl
    (λ p. ap reading (ap (laid TwoOf n []) p) ∙ cond-false (eqb n 2) _ _ p)
read_plain Sets never n = absurd (never refl)

-- of any list of sets, whether it rises or not
abbrev read_of_sets : (n place : ℕ) (sets : List ℕ) → Result Contents CardFault
read_of_sets n place sets =
    refuse_if (ltb (rising_front sets) (length sets)) WrongSets (place + rising_front sets) (Ok (says Sets n sets))

-- the bytes after the count are all the sets
all_sets : (n place : ℕ) (t : List ℕ) → refuse_if (ltb (rising_front (take (length t) t)) (length t)) WrongSets (place + rising_front (take (length t) t)) (Ok (says Sets n (take (length t) t))) ≡ read_of_sets n place t
all_sets n place t = ap (λ l. refuse_if (ltb (rising_front l) (length t)) WrongSets (place + rising_front l) (Ok (says Sets n l))) (take_all (length t) t (omega arith))

read_sets_2 : (t : List ℕ) → reading (6 ∷ 3 ∷ length t ∷ t) ≡ read_of_sets 2 3 t
read_sets_2 t =
    cond-false (ltb (length (6 ∷ 3 ∷ length t ∷ t)) (3 + length t)) _ _ (le-ltb (length (6 ∷ 3 ∷ length t ∷ t)) (3 + length t) (omega arith))
    ∙ cond-false (ltb (3 + length t) (length (6 ∷ 3 ∷ length t ∷ t))) _ _ (le-ltb (3 + length t) (length (6 ∷ 3 ∷ length t ∷ t)) (omega arith))
    ∙ all_sets 2 3 t

read_sets_n : (n : ℕ) (t : List ℕ) → eqb n 2 ≡ false → reading (7 ∷ n ∷ 3 ∷ length t ∷ t) ≡ read_of_sets n 4 t
read_sets_n n t p =
    cond-false (ltb (length (7 ∷ n ∷ 3 ∷ length t ∷ t)) (4 + length t)) _ _ (le-ltb (length (7 ∷ n ∷ 3 ∷ length t ∷ t)) (4 + length t) (omega arith))
    ∙ cond-false (eqb n 2) _ _ p
    ∙ cond-false (ltb (4 + length t) (length (7 ∷ n ∷ 3 ∷ length t ∷ t))) _ _ (le-ltb (4 + length t) (length (7 ∷ n ∷ 3 ∷ length t ∷ t)) (omega arith))
    ∙ all_sets n 4 t

pub read_sets : (n : ℕ) (t : List ℕ) → reading (card_bytes (says Sets n t)) ≡ read_of_sets n (first_set_at n) t
read_sets n t =
    by_n (λ n. reading (card_bytes (says Sets n t)) ≡ read_of_sets n (first_set_at n) t) n
    (ap (λ l. reading (6 ∷ 3 ∷ length t ∷ l)) (append-nil t) ∙ read_sets_2 t)
    (λ p.
    ap reading (ap (laid Sets n t) p)
    ∙ ap (λ l. reading (7 ∷ n ∷ 3 ∷ length t ∷ l)) (append-nil t)
    ∙ read_sets_n n t p
    ∙ ap (λ place. read_of_sets n place t) (sym (cond-false (eqb n 2) 3 4 p)))

read_laid : (kind : CardKind) (n : ℕ) (sets : List ℕ) → ((kind ≡ Sets → ⊥) → sets ≡ []) → Rising sets
    → reading (card_bytes (says kind n sets)) ≡ Ok (says kind n sets)
read_laid AllOf n sets none up =
    let never : AllOf ≡ Sets → ⊥ = λ e. (let z : ◌≡◌ {A = ℕ} 0 1 = cc in omega arith) in
    subst (λ l. reading (card_bytes (says AllOf n l)) ≡ Ok (says AllOf n l)) (sym (none never)) (read_plain AllOf never n)
read_laid TwoOf n sets none up =
    let never : TwoOf ≡ Sets → ⊥ = λ e. (let z : ◌≡◌ {A = ℕ} 0 1 = cc in omega arith) in
    subst (λ l. reading (card_bytes (says TwoOf n l)) ≡ Ok (says TwoOf n l)) (sym (none never)) (read_plain TwoOf never n)
read_laid Sets n sets none up =
    let all = all_rise sets up in
    read_sets n sets ∙ cond-false (ltb (rising_front sets) (length sets)) _ _ (le-ltb (rising_front sets) (length sets) (omega arith))

pub card_is_read : (bytes : List ℕ) (c : Contents) → IsCard bytes c → reading bytes ≡ Ok c
card_is_read bytes c p = ap reading p.layout ∙ read_laid c.kind c.n c.sets p.sets_by_kind p.rising_order

pub refused_is_no_card : (bytes : List ℕ) (e : CardFault) → reading bytes ≡ Err e → NoCard bytes
refused_is_no_card bytes e r c p = refused_or_read (sym r ∙ card_is_read bytes c p)
