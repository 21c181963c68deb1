-- What is written opens again, and whatever is acceptable is written.
use Rattle.std.proofs.Common.{◌≡◌, ℕ, ◌+◌, Bool, true, false, cond, ltb, List, [], ◌∷◌, length, IfOk, Some, None, Ok, Err, Option, Result, sym, refl, ap, ◌∙◌, subst, inl, inr, arith, MatchResult}
use Rattle.std.proofs.lemmas.Bool.{cond-false, le-ltb, ltb-false}
use Rattle.schemes.specs.Refusals.{refusal_in}
use Rattle.schemes.specs.declared.refusals.SchemeRefusal.{SchemeRefusal}
use Rattle.cards.specs.Answers.{NoMemory, Answers}
use Rattle.cards.specs.Format.{Contents, says, card_bytes, Rising, SetsByKind, IsCard}
use Rattle.cards.specs.Reading.{rising_front, reading}
use Rattle.cards.specs.Schemes.{refusal_of, meaning_of, unless_refused, with_scheme, OpensAs}
use Rattle.cards.specs.Writing.{stray_sets, unordered_sets, sets_fault, first_set_at, unless_faulty, writing, RefusesAsOpening, Acceptable}
use Rattle.cards.specs.declared.card.CardKind.{CardKind}
use Rattle.cards.specs.declared.card.CardKind.TheVariants.{AllOf, TwoOf, Sets}
use Rattle.cards.specs.declared.faults.CardRefusal.TheVariants.{WrongSets}
use Rattle.cards.specs.declared.faults.CardFault.{CardFault}
use Rattle.cards.specs.declared.faults.CardFault.TheVariants.{Format}
use Rattle.cards.proofs.FormatFacts.{card_is_read, read_sets}
use Rattle.cards.proofs.RisingFacts.{rises, all_rise}

-- ---- sets that can stand in a card

some_or_none : {A : Type 0} {x : A} → Some x ≡ None → ⊥
some_or_none e = let z : ◌≡◌ {A = ℕ} 0 1 = cc in omega arith

test_failed : {A : Type 0} (b : Bool) (x : A) → cond b (Some x) None ≡ None → b ≡ false
test_failed true x e = absurd (some_or_none e)
test_failed false x e = refl

none_stray : (sets : List ℕ) → stray_sets sets ≡ None → sets ≡ []
none_stray [] e = refl
none_stray (x ∷ sets) e = absurd (some_or_none e)

in_order : (n : ℕ) (sets : List ℕ) → unordered_sets n sets ≡ None → Rising sets
in_order n sets e = rises sets (ltb-false (rising_front sets) (length sets) (test_failed (ltb (rising_front sets) (length sets)) _ e))

fitting : (kind : CardKind) (n : ℕ) (sets : List ℕ) → sets_fault kind n sets ≡ None → IsCard (card_bytes (says kind n sets)) (says kind n sets)
fitting AllOf n sets e =
    let none = none_stray sets e in
    record { sets_by_kind = λ _. none; rising_order = subst Rising (sym none) tt; layout = refl }
fitting TwoOf n sets e =
    let none = none_stray sets e in
    record { sets_by_kind = λ _. none; rising_order = subst Rising (sym none) tt; layout = refl }
fitting Sets n sets e = record { sets_by_kind = λ never. absurd (never refl); rising_order = in_order n sets e; layout = refl }

none_faulty : (kind : CardKind) (n : ℕ) (sets : List ℕ) → ((kind ≡ Sets → ⊥) → sets ≡ []) → Rising sets → sets_fault kind n sets ≡ None
none_faulty AllOf n sets none up = ap stray_sets (none (λ e. (let z : ◌≡◌ {A = ℕ} 0 1 = cc in omega arith)))
none_faulty TwoOf n sets none up = ap stray_sets (none (λ e. (let z : ◌≡◌ {A = ℕ} 0 1 = cc in omega arith)))
none_faulty Sets n sets none up =
    let all = all_rise sets up in
    cond-false (ltb (rising_front sets) (length sets)) _ _ (le-ltb (rising_front sets) (length sets) (omega arith))

-- ---- what is written

-- what writing passed
writes : (fault : Option CardFault) (refusal : Option SchemeRefusal) (laid bytes : List ℕ)
    → unless_faulty fault (unless_refused refusal laid) ≡ Ok bytes → (fault ≡ None) × (refusal ≡ None) × (laid ≡ bytes)
writes None None laid bytes e = (refl, refl, cc)
writes None (Some why) laid bytes e = let z : ◌≡◌ {A = ℕ} 0 1 = cc in absurd (omega arith)
writes (Some why) refusal laid bytes e = let z : ◌≡◌ {A = ℕ} 0 1 = cc in absurd (omega arith)

written_opens : (c : Contents) (bytes : List ℕ) → writing c ≡ Ok bytes → OpensAs bytes c
written_opens c bytes e =
    let w = writes (sets_fault c.kind c.n c.sets) (refusal_of c.kind c.n c.sets) (card_bytes c) bytes e in
    ap (λ b. with_scheme (reading b)) (sym w.2)
    ∙ ap with_scheme (card_is_read (card_bytes c) c (fitting c.kind c.n c.sets w.0))
    ∙ ap (λ r. unless_refused r (c, meaning_of c.kind c.n c.sets)) w.1

acceptable_written : (c : Contents) → Acceptable c → writing c ≡ Ok (card_bytes c)
acceptable_written c a =
    ap (λ f. unless_faulty f (unless_refused (refusal_of c.kind c.n c.sets) (card_bytes c)))
    (none_faulty c.kind c.n c.sets a.sets_by_kind a.rising_order)
    ∙ ap (λ r. unless_refused r (card_bytes c)) a.scheme_made

-- ---- what opening the bytes answers

reading_or : Option CardFault → Contents → Result Contents CardFault
reading_or None c = Ok c
reading_or (Some why) c = Err why

by_test : (broken : Bool) (why : CardFault) (c : Contents) → cond broken (Err why) (Ok c) ≡ reading_or (cond broken (Some why) None) c
unfolding reading_or
by_test true why c = refl
by_test false why c = refl

laid_out_read : (kind : CardKind) (n : ℕ) (sets : List ℕ) → SetsByKind (says kind n sets)
    → reading (card_bytes (says kind n sets)) ≡ reading_or (sets_fault kind n sets) (says kind n sets)
unfolding reading_or
laid_out_read AllOf n sets none =
    let fits = none_faulty AllOf n sets none (subst Rising (sym (none (λ e. (let z : ◌≡◌ {A = ℕ} 0 1 = cc in omega arith)))) tt) in
    card_is_read _ (says AllOf n sets) (fitting AllOf n sets fits) ∙ ap (λ f. reading_or f (says AllOf n sets)) (sym fits)
laid_out_read TwoOf n sets none =
    let fits = none_faulty TwoOf n sets none (subst Rising (sym (none (λ e. (let z : ◌≡◌ {A = ℕ} 0 1 = cc in omega arith)))) tt) in
    card_is_read _ (says TwoOf n sets) (fitting TwoOf n sets fits) ∙ ap (λ f. reading_or f (says TwoOf n sets)) (sym fits)
laid_out_read Sets n sets none =
    read_sets n sets ∙ by_test (ltb (rising_front sets) (length sets)) (Format WrongSets (first_set_at n + rising_front sets)) (says Sets n sets)

same_refusal_in : {A B : Type 0} (refusal : Option SchemeRefusal) (a : A) (b : B) → refusal_in (unless_refused refusal a) ≡ refusal_in (unless_refused refusal b)
same_refusal_in None a b = refl
same_refusal_in (Some why) a b = refl

same_fault : (fault : Option CardFault) (c : Contents)
    → refusal_in (with_scheme (reading_or fault c)) ≡ refusal_in (unless_faulty fault (unless_refused (refusal_of c.kind c.n c.sets) (card_bytes c)))
unfolding reading_or
same_fault None c = same_refusal_in (refusal_of c.kind c.n c.sets) _ (card_bytes c)
same_fault (Some why) c = refl

pub as_opening : (c : Contents) → RefusesAsOpening c
as_opening c none =
    ap (λ r. refusal_in (with_scheme r)) (laid_out_read c.kind c.n c.sets none)
    ∙ same_fault (sets_fault c.kind c.n c.sets) c

-- ---- the promises of `write`, from its answer

pub opens_again : {A : Type 0} (meaning : A → List ℕ) (c : Contents) (needed : Bool) (r : Result A CardFault) → Answers meaning (writing c) needed r
    → IfOk r (λ v. OpensAs (meaning v) c)
opens_again meaning c needed (Ok v) e = written_opens c (meaning v) e
opens_again meaning c needed (Err why) e = tt

pub every_card : {A : Type 0} (meaning : A → List ℕ) (c : Contents) (needed : Bool) (r : Result A CardFault) → Answers meaning (writing c) needed r
    → Acceptable c → MatchResult r (λ v. meaning v ≡ card_bytes c) NoMemory
every_card meaning c needed (Ok v) e a = let f = sym e ∙ acceptable_written c a in cc
every_card meaning c needed (Err why) (inl e) a = let z : ◌≡◌ {A = ℕ} 0 1 = cc (acceptable_written c a) in absurd (omega arith)
every_card meaning c needed (Err why) (inr p) a = p.0
