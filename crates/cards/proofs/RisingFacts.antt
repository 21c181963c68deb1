-- Where lists stop rising: by the pairs of neighbours, of sets as of their numbers, and that a list rises exactly where it does so
-- to its end.
use Rattle.std.proofs.Common.{◌≡◌, ℕ, ◌+◌, ◌<◌, ◌≤◌, Bool, true, false, cond, ltb, leb, List, [], ◌∷◌, map, length, drop, Some, None, Ok, Err, Option, IfSome, option_map, position, zip, subst, sym, refl, ap, ◌∙◌, ⊎_elim, arith}
use Rattle.std.specs.List.{position_from}
use Rattle.std.specs.Ordering.{nat_cmp, is_le}
use Rattle.std.proofs.lemmas.Bool.{cond-true, cond-false, cases_Bool, cases_lt, lt-ltb, le-ltb, ltb-true, lt-leb, le-leb}
use Rattle.std.proofs.lemmas.Bool.Decides.{nat_tests}
use Rattle.std.proofs.lemmas.List.{map-id}
use Rattle.std.proofs.lemmas.Iterator.Adapters.{position_from-zero}
use Rattle.schemes.specs.declared.keyholders.KeyholderSet.{KeyholderSet}
use Rattle.cumulative.specs.Access.{numbers}
use Rattle.cards.specs.Fields.{listed}
use Rattle.cards.specs.Format.{Above, Rising}
use Rattle.cards.specs.Reading.{rising_after, rising_front}
use Rattle.cards.specs.Rising.{fall_after, first_fall, wrong_at}
use Rattle.cards.specs.declared.card.CardKind.TheVariants.{Sets}
use Rattle.cards.specs.declared.faults.CardFault.{CardFault}

-- ---- the first pair of neighbours that falls

module _ {T : Type 0} (falls : T → T → Bool) where
  more : (i : ℕ) (fall : Option ℕ)
      → option_map (λ place. place + (i + 1)) fall ≡ option_map (λ place. place + i) (option_map (λ place. place + 1) fall)
  more i None = refl
  more i (Some place) = ap Some (omega arith)

  from_zero : (fall : Option ℕ) → option_map (λ place. place + 1) (option_map (λ place. place + 0) fall) ≡ option_map (λ place. place + 1) fall
  from_zero None = refl
  from_zero (Some place) = ap Some (omega arith)

  fall_from : (x : T) (list : List T) (i : ℕ)
      → position_from (λ (p : T × T). falls p.0 p.1) i (zip (x ∷ list) list) ≡ option_map (λ place. place + i) (fall_after falls x list)
  fall_from x [] i = refl
  fall_from x (y ∷ list) i = by_test (falls x y) _ (option_map (λ place. place + 1) (fall_after falls y list)) (fall_from y list (i + 1) ∙ more i (fall_after falls y list))
    where
      by_test : (b : Bool) (later after : Option ℕ) → later ≡ option_map (λ place. place + i) after
          → cond b (Some i) later ≡ option_map (λ place. place + i) (cond b (Some 0) after)
      by_test true later after e = ap Some (omega arith)
      by_test false later after e = e

  pub fall_position : (list : List T) → option_map (λ place. place + 1) (position (λ (p : T × T). falls p.0 p.1) (zip list (drop 1 list))) ≡ first_fall falls list
  fall_position [] = refl
  fall_position (x ∷ list) =
      ap (option_map (λ place. place + 1)) (position_from-zero (λ (p : T × T). falls p.0 p.1) (zip (x ∷ list) list) ∙ fall_from x list 0)
      ∙ from_zero (fall_after falls x list)

  within_after : (x : T) (list : List T) (fall : Option ℕ) → fall ≡ fall_after falls x list → IfSome fall (λ place. place < length list)
  within_after x [] fall e = subst (λ f. IfSome f (λ place. place < 0)) (sym e) tt
  within_after x (y ∷ list) fall e =
      subst (λ f. IfSome f (λ place. place < length (y ∷ list))) (sym e)
      (by_test (falls x y) (fall_after falls y list) (within_after y list (fall_after falls y list) refl))
    where
      by_test : (b : Bool) (after : Option ℕ) → IfSome after (λ place. place < length list)
          → IfSome (cond b (Some 0) (option_map (λ place. place + 1) after)) (λ place. place < length (y ∷ list))
      by_test true after h = omega arith
      by_test false None h = tt
      by_test false (Some place) h = omega arith

  pub fall_within : (list : List T) (fall : Option ℕ) → fall ≡ first_fall falls list → IfSome fall (λ place. place < length list)
  fall_within [] fall e = subst (λ f. IfSome f (λ place. place < 0)) (sym e) tt
  fall_within (x ∷ list) fall e =
      subst (λ f. IfSome f (λ place. place < length (x ∷ list))) (sym e)
      (further (fall_after falls x list) (within_after x list (fall_after falls x list) refl))
    where
      further : (after : Option ℕ) → IfSome after (λ place. place < length list)
          → IfSome (option_map (λ place. place + 1) after) (λ place. place < length (x ∷ list))
      further None h = tt
      further (Some place) h = omega arith

-- ---- falls of numbers, and how far they rise

abbrev pub fall_in : List ℕ → Option ℕ
fall_in sets = cond (ltb (rising_front sets) (length sets)) (Some (rising_front sets)) None

fall_further : (front long one_longer : ℕ) → one_longer ≡ 1 + long
    → option_map (λ place. place + 1) (cond (ltb front long) (Some front) None) ≡ cond (ltb (1 + front) one_longer) (Some (1 + front)) None
fall_further front long one_longer e =
    ⊎_elim
    (λ p. ap (option_map (λ place. place + 1)) (cond-true (ltb front long) (Some front) None (lt-ltb front long p))
    ∙ ap Some (omega arith) ∙ sym (cond-true (ltb (1 + front) one_longer) _ _ (lt-ltb (1 + front) one_longer (omega arith))))
    (λ p. ap (option_map (λ place. place + 1)) (cond-false (ltb front long) (Some front) None (le-ltb front long p))
    ∙ sym (cond-false (ltb (1 + front) one_longer) _ _ (le-ltb (1 + front) one_longer (omega arith))))
    (cases_lt front long)

fall_or_further : (x y front long one_longer : ℕ) (after : Option ℕ) (falls : Bool) → falls ≡ leb y x → one_longer ≡ 1 + long
    → after ≡ cond (ltb front long) (Some front) None
    → cond falls (Some 0) (option_map (λ place. place + 1) after)
    ≡ cond (ltb (cond (ltb x y) (1 + front) 0) one_longer) (Some (cond (ltb x y) (1 + front) 0)) None
fall_or_further x y front long one_longer after falls test e is =
    ⊎_elim
    (λ p. cond-false falls _ _ (test ∙ lt-leb y x p) ∙ ap (option_map (λ place. place + 1)) is ∙ fall_further front long one_longer e
    ∙ ap (λ f. cond (ltb f one_longer) (Some f) None) (sym (cond-true (ltb x y) (1 + front) 0 (lt-ltb x y p))))
    (λ p. cond-true falls _ _ (test ∙ le-leb y x p)
    ∙ sym (cond-true (ltb 0 one_longer) (Some 0) None (lt-ltb 0 one_longer (omega arith)))
    ∙ ap (λ f. cond (ltb f one_longer) (Some f) None) (sym (cond-false (ltb x y) (1 + front) 0 (le-ltb x y p))))
    (cases_lt x y)

module _ {T : Type 0} (falls : T → T → Bool) (number : T → ℕ) (test : (x y : T) → falls x y ≡ leb (number y) (number x)) where
  fall_after_numbers : (x : T) (list : List T)
      → fall_after falls x list ≡ cond (ltb (rising_after (number x) (map number list)) (length (map number list))) (Some (rising_after (number x) (map number list))) None
  fall_after_numbers x [] = refl
  fall_after_numbers x (y ∷ list) =
      fall_or_further (number x) (number y) (rising_after (number y) (map number list)) (length (map number list)) (length (number y ∷ map number list))
      (fall_after falls y list) (falls x y) (test x y) (omega arith) (fall_after_numbers y list)

  pub fall_of_numbers : (list : List T) → first_fall falls list ≡ fall_in (map number list)
  fall_of_numbers [] = refl
  fall_of_numbers (x ∷ list) =
      ap (option_map (λ place. place + 1)) (fall_after_numbers x list)
      ∙ fall_further (rising_after (number x) (map number list)) (length (map number list)) (length (number x ∷ map number list)) (omega arith)

pub le_of_cmp : (x y : ℕ) → is_le (nat_cmp x y) ≡ leb x y
le_of_cmp x y = grind (arith, nat_tests)

pub fall_of_bytes : (bytes : List ℕ) → first_fall (λ x y. is_le (nat_cmp y x)) bytes ≡ fall_in bytes
fall_of_bytes bytes = fall_of_numbers (λ x y. is_le (nat_cmp y x)) (λ x. x) (λ x y. le_of_cmp y x) bytes ∙ ap fall_in (map-id bytes)

-- what a test of the order answers, by the fall
pub refused_at_fall : (first_at : ℕ) (sets : List ℕ)
    → option_map (wrong_at first_at) (fall_in sets)
    ≡ cond (ltb (rising_front sets) (length sets)) (Some (wrong_at first_at (rising_front sets))) None
refused_at_fall first_at sets = by_test (ltb (rising_front sets) (length sets))
  where
    by_test : (b : Bool) → option_map (wrong_at first_at) (cond b (Some (rising_front sets)) None) ≡ cond b (Some (wrong_at first_at (rising_front sets))) None
    by_test true = refl
    by_test false = refl

pub in_order : (first_at : ℕ) (sets : List ℕ) → None ≡ option_map (wrong_at first_at) (fall_in sets) → listed first_at Sets (Some sets) ≡ Ok sets
in_order first_at sets e = by_test (ltb (rising_front sets) (length sets)) e
  where
    by_test : (b : Bool) → None ≡ option_map (wrong_at first_at) (cond b (Some (rising_front sets)) None)
        → cond b (Err (wrong_at first_at (rising_front sets))) (Ok sets) ≡ Ok sets
    by_test true e = let z : ◌≡◌ {A = ℕ} 0 1 = cc in absurd (omega arith)
    by_test false e = refl

pub out_of_order : (first_at : ℕ) (sets : List ℕ) (why : CardFault) → Some why ≡ option_map (wrong_at first_at) (fall_in sets)
    → listed first_at Sets (Some sets) ≡ Err why
out_of_order first_at sets why e = by_test (ltb (rising_front sets) (length sets)) e
  where
    by_test : (b : Bool) → Some why ≡ option_map (wrong_at first_at) (cond b (Some (rising_front sets)) None)
        → cond b (Err (wrong_at first_at (rising_front sets))) (Ok sets) ≡ Err why
    by_test true e = cc
    by_test false e = let z : ◌≡◌ {A = ℕ} 0 1 = cc in absurd (omega arith)

pub fall_of_sets : (sets : List KeyholderSet) → first_fall (λ x y. is_le (nat_cmp y.bits x.bits)) sets ≡ fall_in (numbers sets)
fall_of_sets sets = fall_of_numbers (λ x y. is_le (nat_cmp y.bits x.bits)) (λ set. set.bits) (λ x y. le_of_cmp y.bits x.bits) sets

-- ---- lists that rise to their end

rises_after : (x : ℕ) (s : List ℕ) → length s ≤ rising_after x s → Above x s
rises_after x [] h = tt
rises_after x (y ∷ s) h =
    ⊎_elim
    (λ p. let f = cond-true (ltb x y) (1 + rising_after y s) 0 p in (ltb-true x y p, rises_after y s (omega arith)))
    (λ p. let f = cond-false (ltb x y) (1 + rising_after y s) 0 p in absurd (omega arith))
    (cases_Bool (ltb x y))

pub rises : (s : List ℕ) → length s ≤ rising_front s → Rising s
rises [] h = tt
rises (x ∷ s) h = rises_after x s (omega arith)

above_all : (x : ℕ) (s : List ℕ) → Above x s → rising_after x s ≡ length s
above_all x [] h = refl
above_all x (y ∷ s) h =
    let r = above_all y s h.1 in
    cond-true _ _ _ (lt-ltb x y h.0) ∙ (let e : 1 + rising_after y s ≡ length (y ∷ s) = omega arith in e)

pub all_rise : (s : List ℕ) → Rising s → rising_front s ≡ length s
all_rise [] h = refl
all_rise (x ∷ s) h = let r = above_all x s h in omega arith
