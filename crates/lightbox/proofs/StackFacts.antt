-- The strips of a set's members on a clear glass: they give the set's stack (`StacksOfMembers`), and so what the stack shows.
use Rattle.std.proofs.Common.{◌≡◌, ℕ, suc, ◌*◌, ◌<◌, ◌≤◌, Bool, true, ◌&&◌, List, length, drop, sym, ap, ◌∙◌, inl, inr, mul-le-mul_right, suc-mul, arith}
use Rattle.std.specs.List.{All}
use Rattle.std.proofs.lemmas.List.Elements.{All-contains, All-weaker}
use Rattle.std.proofs.lemmas.List.{length-drop, length-take-le}
use Rattle.std.proofs.lemmas.Bool.{and_from, and_parts, cases_Bool, true≢false}
use Rattle.schemes.specs.Keyholders.{member}
use Rattle.schemes.specs.Meaning.{Meaning, blacks}
use Rattle.schemes.specs.PackedRows.{bit_at}
use Rattle.schemes.specs.Strips.{square_bit, strip_size, strip_in, stack_bit, blacks_over, pixel}
use Rattle.schemes.specs.TestFacts.{any_find, any_true, count_same}
use Rattle.lightbox.specs.Laying.{stacked, StripsOf, StacksOfMembers}
use Rattle.lightbox.specs.Reading.{Shows}
use Rattle.lightbox.proofs.LayFacts.{overlaid_none, overlaid_more, overlaid_all, stacks_add_up, any_black, any_black_has, any_black_find, stacked_bit}

-- the strip of one of n keyholders lies within the output
pub strip_in_length : (n size : ℕ) (out : List ℕ) → n * size ≤ length out → (k : ℕ) → k < n → length (strip_in size out (suc k)) ≡ size
strip_in_length n size out h k l =
    let a = mul-le-mul_right size l in
    let b = suc-mul k size in
    let d = length-drop (k * size) out in
    length-take-le size (drop (k * size) out) (omega arith)

module _ (n size set : ℕ) (out : List ℕ) (strips : List (List ℕ)) (of : StripsOf n size set out strips) where
  -- the strip of a member
  abbrev OfMember : List ℕ → Type 0
  OfMember strip = (k : ℕ) × (k < n) × (member set (suc k) ≡ true) × (strip ≡ strip_in size out (suc k))

  pub strips_of_size : n * size ≤ length out → All (λ strip. length strip ≡ size) strips
  strips_of_size h =
      All-weaker OfMember (λ strip. length strip ≡ size) (λ strip t. ap length t.3 ∙ strip_in_length n size out h t.0 t.1) strips of.only

  abbrev member_black : (b k : ℕ) → Bool
  member_black b k = member set (suc k) && bit_at (strip_in size out (suc k)) b

  stack_on_glass : (b : ℕ) → stack_bit n size set out b ≡ true → any_black strips b ≡ true
  stack_on_glass b e =
      let found = any_find n (member_black b) e in
      let parts = and_parts (member set (suc found.0)) (bit_at (strip_in size out (suc found.0)) b) found.2 in
      any_black_has b strips (strip_in size out (suc found.0)) (of.every found.0 found.1 parts.0) parts.1

  glass_on_stack : (b : ℕ) → any_black strips b ≡ true → stack_bit n size set out b ≡ true
  glass_on_stack b e =
      let found = any_black_find b strips e in
      let t = All-contains OfMember strips found.0 of.only found.1 in
      any_true n (member_black b) t.0 t.1
      (and_from (member set (suc t.0)) (bit_at (strip_in size out (suc t.0)) b) t.2 (ap (λ (strip : List ℕ). bit_at strip b) (sym t.3) ∙ found.2))

  any_black_stack : (b : ℕ) → any_black strips b ≡ stack_bit n size set out b
  any_black_stack b = elim (cases_Bool (any_black strips b)) [
    | inl t ↦ t ∙ sym (glass_on_stack b t)
    | inr f ↦ elim (cases_Bool (stack_bit n size set out b)) [
      | inl t ↦ absurd (true≢false (sym (stack_on_glass b t) ∙ f))
      | inr g ↦ f ∙ sym g
    ]
  ]

pub stacks_of_members : StacksOfMembers
stacks_of_members n size set out strips h of b =
    stacked_bit size strips (strips_of_size n size set out strips of h) b ∙ any_black_stack n size set out strips of b

-- a secret row that the stack of a set shows is shown by the glass on which the members' strips lie
pub stack_shows : (s : Meaning) (set w : ℕ) (out secret : List ℕ) (strips : List (List ℕ))
    → s.n * strip_size s.m w ≤ length out → StripsOf s.n (strip_size s.m w) set out strips
    → ((c : ℕ) → c < w → blacks_over s.m (stack_bit s.n (strip_size s.m w) set out) c ≡ blacks s (pixel secret c) set)
    → Shows s set w (stacked (strip_size s.m w) strips) secret
stack_shows s set w out secret strips h of shown c l =
    count_same s.m (λ p. bit_at (stacked (strip_size s.m w) strips) (square_bit s.m c p))
    (λ p. stack_bit s.n (strip_size s.m w) set out (square_bit s.m c p))
    (λ p _. stacks_of_members s.n (strip_size s.m w) set out strips h of (square_bit s.m c p))
    ∙ shown c l

-- what `lay` rests on
pub ruleset laying = (overlaid_none, overlaid_more, overlaid_all, stacks_add_up, stacks_of_members)
