-- The strips of a set's members, taken from the films in their order: every member's strip is among them, and no other. For
-- `lay_members` and `read_back`.
use Rattle.std.proofs.Common.{◌≡◌, ℕ, zero, suc, ◌+◌, ◌-◌, ◌*◌, ◌<◌, Bool, true, false, cond, List, [], ◌∷◌, ◌++◌, length, take, drop, replicate, sym, refl, ap, ap₂, ◌∙◌, subst, inl, inr, suc-mul, arith}
use Rattle.std.specs.List.{All, Contains}
use Rattle.std.proofs.lemmas.List.Elements.{All-nil, All-push, All-weaker, Contains-append_left, Contains-push}
use Rattle.std.specs.Range.{range_inclusive_len}
use Rattle.std.proofs.Math.Seq.{take-append_seam, drop-append_seam}
use Rattle.std.proofs.lemmas.List.{drop-drop}
use Rattle.std.proofs.lemmas.List.Sums.{fold_push}
use Rattle.std.proofs.lemmas.Bool.{cases_eq, cond-true, cond-false, true≢false}
use Rattle.schemes.specs.Keyholders.{member}
use Rattle.schemes.specs.Strips.{strip_in}
use Rattle.lightbox.specs.Laying.{laid, stacked, StripsOf}
use Rattle.readback.specs.ReadingBack.{member_strips}

-- ---- a list that grows by a strip, or does not

abbrev grown : (b : Bool) (strips : List (List ℕ)) (strip : List ℕ) → List (List ℕ)
grown b strips strip = cond b (strips ++ (strip ∷ [])) strips

has_grown : (b : Bool) (strips : List (List ℕ)) (strip x : List ℕ) → Contains strips x → Contains (grown b strips strip) x
has_grown true strips strip x h = Contains-append_left strips (strip ∷ []) x h
has_grown false strips strip x h = h

has_last : (b : Bool) (strips : List (List ℕ)) (strip : List ℕ) → b ≡ true → Contains (grown b strips strip) strip
has_last true strips strip e = Contains-push strips strip
has_last false strips strip e = absurd (true≢false (sym e))

all_grown : (P : List ℕ → Type 0) (b : Bool) (strips : List (List ℕ)) (strip : List ℕ) → All P strips → (b ≡ true → P strip) → All P (grown b strips strip)
all_grown P true strips strip h last = All-push P strips strip h (last refl)
all_grown P false strips strip h last = h

module _ (size set : ℕ) (films : List ℕ) where
  abbrev strips : (n : ℕ) → List (List ℕ)
  strips n = member_strips n size set films

  abbrev OfMember : (n : ℕ) → List ℕ → Type 0
  OfMember n strip = (k : ℕ) × (k < n) × (member set (suc k) ≡ true) × (strip ≡ strip_in size films (suc k))

  every_member : (n k : ℕ) → k < n → member set (suc k) ≡ true → Contains (strips n) (strip_in size films (suc k))
  every_member zero k l e = absurd (omega arith)
  every_member (suc n) k l e = elim (cases_eq k n) [
    | inl same ↦
        subst (λ (j : ℕ). Contains (strips (suc n)) (strip_in size films (suc j))) (sym same)
        (has_last (member set (suc n)) (strips n) (strip_in size films (suc n)) (subst (λ (j : ℕ). member set (suc j) ≡ true) same e))
    | inr ne ↦ has_grown (member set (suc n)) (strips n) (strip_in size films (suc n)) (strip_in size films (suc k)) (every_member n k (omega arith) e)
  ]

  only_members : (n : ℕ) → All (OfMember n) (strips n)
  only_members zero = All-nil (OfMember 0)
  only_members (suc n) =
      all_grown (OfMember (suc n)) (member set (suc n)) (strips n) (strip_in size films (suc n))
      (All-weaker (OfMember n) (OfMember (suc n)) (λ strip t. (t.0, omega (arith, t.1), t.2, t.3)) (strips n) (only_members n))
      (λ e. (n, omega arith, e, refl))

  pub strips_of_members : (n : ℕ) → StripsOf n size set films (strips n)
  strips_of_members n = record { every = every_member n; only = only_members n }

  -- ---- one keyholder more

  stack_member : (k : ℕ) → member set (suc k) ≡ true → stacked size (strips (suc k)) ≡ laid (stacked size (strips k)) (strip_in size films (suc k))
  stack_member k e =
      ap (stacked size) (cond-true (member set (suc k)) (strips k ++ (strip_in size films (suc k) ∷ [])) (strips k) e)
      ∙ fold_push laid (replicate size 0) (strips k) (strip_in size films (suc k))

  stack_other : (k : ℕ) → member set (suc k) ≡ false → stacked size (strips (suc k)) ≡ stacked size (strips k)
  stack_other k e = ap (stacked size) (cond-false (member set (suc k)) (strips k ++ (strip_in size films (suc k) ∷ [])) (strips k) e)

  -- the strips of the members among keyholders 1 to k lie on the glass, and the films from the next keyholder's on are left
  pub record LaidSoFar (k : ℕ) (glass left : List ℕ) : Type 0 where
    pub stack : glass ≡ stacked size (strips k)
    pub rest : left ≡ drop (k * size) films

  -- the next strip is that of keyholder k + 1
  next_strip : (k : ℕ) (strip left left' : List ℕ) → left ≡ drop (k * size) films → left ≡ strip ++ left' → length strip ≡ size
      → (strip ≡ strip_in size films (suc k)) × (left' ≡ drop (suc k * size) films)
  next_strip k strip left left' e f long = (
    sym (take-append_seam strip left') ∙ ap₂ take long (sym f ∙ e),
    sym (drop-append_seam strip left') ∙ ap₂ drop long (sym f ∙ e) ∙ drop-drop size (k * size) films ∙ ap (λ (n : ℕ). drop n films) (omega (arith, suc-mul k size)),
  )

  module _ (k : ℕ) (glass strip left left' : List ℕ) (so : LaidSoFar k glass left) (f : left ≡ strip ++ left') (long : length strip ≡ size) where
    pub laid_member : (keyholder k' : ℕ) (glass' : List ℕ) → keyholder ≡ suc k → k' ≡ suc k → member set keyholder ≡ true → glass' ≡ laid glass strip → LaidSoFar k' glass' left'
    laid_member keyholder k' glass' a b e g =
        let next = next_strip k strip left left' so.rest f long in
        subst (λ (n : ℕ). LaidSoFar n glass' left') (sym b) (record {
          stack = g ∙ ap₂ laid so.stack next.0 ∙ sym (stack_member k (ap (member set) (sym a) ∙ e));
          rest = next.1;
        })

    pub laid_other : (keyholder k' : ℕ) → keyholder ≡ suc k → k' ≡ suc k → member set keyholder ≡ false → LaidSoFar k' glass left'
    laid_other keyholder k' a b e =
        let next = next_strip k strip left left' so.rest f long in
        subst (λ (n : ℕ). LaidSoFar n glass left') (sym b) (record {
          stack = so.stack ∙ sym (stack_other k (ap (member set) (sym a) ∙ e));
          rest = next.1;
        })

-- the number that comes of `start..=end` where the next one is k + 1
pub next_number : (start end k n : ℕ) (spent : Bool) → n + 1 ≡ range_inclusive_len (λ a b. b - a) start end spent → (spent ≡ false → start ≡ k + 1) → start ≡ suc k
next_number start end k n true e h = absurd (omega arith)
next_number start end k n false e h = omega (arith, h refl)
