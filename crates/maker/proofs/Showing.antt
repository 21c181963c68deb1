-- Over each pixel of an accepted row, the stack of any set has as many black squares as the stack of its cells has black
-- columns: the law's `Shows`.
use Rattle.std.proofs.Common.{◌≡◌, ℕ, zero, suc, ◌+◌, ◌<◌, Bool, true, false, cond, ◌&&◌, List, [], ◌∷◌, ◌++◌, length, get_or, drop, Some, None, count_by, Option, sym, refl, ap, ◌∙◌, ap₂, zero-add, arith}
use Rattle.std.specs.List.{range_with_len, All}
use Rattle.std.proofs.lemmas.List.Elements.{All-nil, All-cons}
use Rattle.schemes.specs.Bits.{count_below}
use Rattle.schemes.specs.Keyholders.{member}
use Rattle.schemes.specs.Laws.{Lawful}
use Rattle.schemes.specs.Meaning.{Meaning, stack, blacks, light, dark}
use Rattle.schemes.specs.PackedRows.{bit_at}
use Rattle.schemes.specs.Strips.{square_bit, strip_size, strip_in, stack_bit, blacks_over, pixel}
use Rattle.schemes.specs.TestFacts.{any_same}
use Rattle.tapes.specs.Drawing.{Drawn, short, drawn}
use Rattle.tapes.specs.Orders.{columns, orders}
use Rattle.tapes.proofs.Arrangements.{Arranged}
use Rattle.tapes.proofs.Counts.{count_by_counting_more}
use Rattle.tapes.proofs.Removals.{count_by_cons}
use Rattle.maker.specs.Films.{films_size, strips_of, film_square}
use Rattle.maker.specs.Runs.{State, Call, row, spoil, tally, refused, number, row_drawn, row_refusal, row_outcome, outcome, transcript, Event}
use Rattle.maker.specs.Law.{Readable, ShownIn}
use Rattle.maker.proofs.Shuffles.{unmoved}
use Rattle.maker.proofs.Couplings.{Together}
use Rattle.maker.proofs.Renumberings.{unchanged}
use Rattle.maker.proofs.OrderCouplings.{Blocks, orders_coupled}
use Rattle.maker.proofs.FilmFacts.{strip_of_strips, bit_of_strip}
use Rattle.maker.proofs.HiddenColours.{order_long}

more_or_not : (b : Bool) (n : ℕ) → cond b (suc n) n ≡ n + cond b 1 0
more_or_not true n = omega arith
more_or_not false n = omega arith

-- to count the numbers below n is to count them in a list
count_counting : (f : ℕ → Bool) (n : ℕ) → count_below n f ≡ count_by f (range_with_len 0 n)
count_counting f zero = refl
count_counting f (suc n) =
    let more : n + 1 ≡ suc n = omega arith in
    more_or_not (f n) (count_below n f) ∙ ap (λ k. k + cond (f n) 1 0) (count_counting f n)
    ∙ sym (count_by_counting_more f n) ∙ ap (λ k. count_by f (range_with_len 0 k)) more

-- to count over the places of a list is to count over the list
count_places : (test f : ℕ → Bool) (o : List ℕ) (a : ℕ) → ((p : ℕ) → p < length o → f (a + p) ≡ test (get_or o p 0)) → count_by f (range_with_len a (length o)) ≡ count_by test o
count_places test f [] a h = refl
count_places test f (x ∷ o) a h =
    let here : f a ≡ test x = ap f (omega arith) ∙ h 0 (omega arith) in
    let there = count_places test f o (a + 1) (λ p l. ap f (omega arith) ∙ h (suc p) (omega arith)) in
    count_by_cons f a (range_with_len (a + 1) (length o))
    ∙ ap₂ (λ b n. cond b 1 0 + n) here there
    ∙ sym (count_by_cons test x o)

refused_no_number : (k n : ℕ) → refused k ≡ number n → ⊥
refused_no_number k n e = let z : ◌≡◌ {A = ℕ} 0 1 = cc in omega arith

module _ (s : Meaning) (w h : ℕ) (lawful : Lawful s) where
  module _ (secret rest : List ℕ) (os : List (List ℕ)) (arranged : (c : ℕ) → c < w → Arranged (columns s.m) (get_or os c [])) where
    abbrev films : List ℕ
    films = strips_of s w (pixel secret) os ++ rest

    abbrev stacked : (set b : ℕ) → Bool
    stacked set b = stack_bit s.n (strip_size s.m w) set films b

    square_shown : (set c p : ℕ) → c < w → p < s.m → stacked set (square_bit s.m c p) ≡ stack s (pixel secret c) set (get_or (get_or os c []) p 0)
    square_shown set c p lc lp =
        any_same s.n (λ k. member set (suc k) && bit_at (strip_in (strip_size s.m w) films (suc k)) (square_bit s.m c p)) _ (λ k l.
        ap (λ b. member set (suc k) && b)
        (ap (λ bytes. bit_at bytes (square_bit s.m c p)) (strip_of_strips s w (pixel secret) os rest k l)
        ∙ bit_of_strip s.m w (film_square s (pixel secret) os (suc k)) c p lc lp))

    pixel_shown : (set c : ℕ) → c < w → blacks_over s.m (stacked set) c ≡ blacks s (pixel secret c) set
    pixel_shown set c lc =
        let long = order_long s.m (get_or os c []) (arranged c lc) in
        let squares : ℕ → Bool = λ p. stacked set (square_bit s.m c p) in
        let cells = stack s (pixel secret c) set in
        let places = count_places cells squares (get_or os c []) 0 (λ p l. ap squares (zero-add p) ∙ square_shown set c p lc (omega (arith, long))) in
        count_counting squares s.m
        ∙ ap (λ n. count_by squares (range_with_len 0 n)) (sym long)
        ∙ places ∙ (arranged c lc).counts cells ∙ sym (count_counting cells s.m)

    row_readable : (set : ℕ) → light s set < dark s set → Readable s w set secret films
    row_readable set contrast = record {
      contrast = contrast;
      over_white = λ c l e. pixel_shown set c l ∙ ap (λ colour. blacks s colour set) e;
      over_black = λ c l e. pixel_shown set c l ∙ ap (λ colour. blacks s colour set) e;
    }

  drawn_shown : (st : State) (secret out work : List ℕ) (d d' : Drawn (List (List ℕ))) →
      Together (Blocks w (λ _. unchanged s.m)) (λ _ _ _. unmoved) d d' → ShownIn s w (row secret out work) (row_drawn s w st secret out work d)
  drawn_shown st secret out work short d' _ = λ made e. absurd (refused_no_number _ made e)
  drawn_shown st secret out work (drawn os rest) short never = absurd never
  drawn_shown st secret out work (drawn os rest) (drawn os' rest') both = λ made e set among qualified.
      row_readable secret (drop (films_size s w) out) os (λ b lb. (both.0 b lb).arranged) set (lawful.shows set among qualified)

  row_shown : (refusal : Option ℕ) (st : State) (secret out work : List ℕ) → ShownIn s w (row secret out work) (row_outcome refusal s w st secret out work)
  row_shown (Some why) st secret out work = λ made e. absurd (refused_no_number why made e)
  row_shown None st secret out work =
      let rows = orders_coupled s.m w (λ _. unchanged s.m) in
      drawn_shown st secret out work (orders s.m w st.tape) (orders s.m w ((rows.paired (λ _ _ _. unmoved)).to st.tape)) (rows.together (λ _ _ _. unmoved) st.tape)

  call_shown : (st : State) (call : Call) → ShownIn s w call (outcome s w h st call)
  call_shown st (row secret out work) = row_shown (row_refusal s w h st.made (length secret) (length out) (length work)) st secret out work
  call_shown st spoil = tt
  call_shown st tally = tt

  abbrev IsShown : Event → Type 0
  IsShown e = ShownIn s w e.call e.outcome

  pub run_shown : (st : State) (calls : List Call) → All IsShown (transcript s w h st calls)
  run_shown st [] = All-nil IsShown
  run_shown st (call ∷ calls) =
      All-cons IsShown (record { call = call; outcome = outcome s w h st call }) (transcript s w h (outcome s w h st call).left calls)
      (call_shown st call) (run_shown (outcome s w h st call).left calls)
