-- Chains over a range of numbers: what `any` answers, and `filter` with `count`, as tests of the numbers below a bound.
use Rattle.std.proofs.Common.{◌≡◌, ℕ, suc, ◌+◌, ◌-◌, ◌<◌, Bool, true, false, cond, List, [], ◌∷◌, length, get_or, Some, None, Option, sym, ap, ◌∙◌, arith, one-add, add-zero, zero-add}
use Rattle.std.specs.Prelude.{IsTrue, MatchBool, IfSome, IsSomeAnd}
use Rattle.std.specs.Option.{option_map}
use Rattle.std.specs.List.{fold}
use Rattle.std.specs.Fn.{Called, CalledAt}
use Rattle.std.specs.Range.{range_inclusive_start, range_inclusive_end, range_inclusive_exhausted}
use Rattle.std.specs.declared.ops.Range.{Range}
use Rattle.std.specs.declared.ops.RangeInclusive.{RangeInclusive}
use Rattle.std.specs.Iterator.Runs.{Run, SomeRun, WholeRun, EachRunFrom, CallKeepsClosure, AnyItemGives, AllItemsGive, ItemsCountUp, IsFilterRun}
use Rattle.std.proofs.iter.runs.Sources.{range_listed, inclusive_listed, nat_range_inclusive_steps}
use Rattle.std.proofs.iter.Yields.{nat_range_steps}
use denote.Param.Members.{Mut}
use denote.Ref.{Bor}
use Rattle.schemes.specs.Bits.{any_below, count_below}
use Rattle.schemes.specs.TestFacts.{any_true, any_false, any_same, count_same, count_add}

-- what is known of an item that is there
both : (o : Option ℕ) (P Q : ℕ → Type 0) → IsSomeAnd o P → IfSome o Q → (x : ℕ) × P x × Q x
both None P Q p q = absurd p
both (Some x) P Q p q = (x, p, q)

here : (o : Option ℕ) (v : ℕ) (Q : ℕ → Type 0) → option_map (λ y. y) o ≡ Some v → IfSome o Q → Q v
here None v Q e q = cc
here (Some x) v Q e q = let w : x ≡ v = cc in rw (← w) q

-- ---- any

module _ {F : Type 0} (g : Mut F (ℕ × Unit {0}) Bool) (f : F) (test : ℕ → Bool)
    (call : (x : ℕ) (b : Bool) (f' : F) → Called g f (x, tt) b f' → (f' ≡ f) × (b ≡ test x)) where
  keeps : CallKeepsClosure g f
  keeps a r f' c = (call a.0 r f' c).0

  any_counted : {S : Type 0} {steps : S → Option ℕ → S → Type 0} (p : Run steps) (a b : ℕ) (r : Bool) → ItemsCountUp p a b
      → MatchBool r (AnyItemGives p g f true) (IsTrue p.whole × AllItemsGive p g f false) → r ≡ any_below (b - a) (λ k. test (a + k))
  any_counted p a b true up m =
      let t = m keeps in
      let u = both (p.at t.0) (λ x. Called g f (x, tt) true f) (λ x. (x ≡ a + t.0) × (x < b)) t.2 (up.2 t.0) in
      sym (any_true (b - a) (λ k. test (a + k)) t.0 (omega (arith, t.1, up.0)) (ap test (sym u.2.0) ∙ sym (call u.0 true f u.1).1))
  any_counted p a b false up m =
      sym (any_false (b - a) (λ k. test (a + k))
      (λ k l. sym (call (a + k) false f
      (here (p.at k) (a + k) (λ x. Called g f (x, tt) false f) (up.3 k (omega (arith, up.1 m.0))) (m.1 keeps k))).1))

  -- over 1..=n
  pub any_from_one : (s : RangeInclusive ℕ) (n : ℕ) (r : Bool)
      → range_inclusive_start s ≡ 1 → range_inclusive_end s ≡ n → range_inclusive_exhausted s ≡ false
      → SomeRun nat_range_inclusive_steps s (λ p. MatchBool r (AnyItemGives p g f true) (IsTrue p.whole × AllItemsGive p g f false))
      → r ≡ any_below n (λ k. test (suc k))
  any_from_one s n r first last fresh (p, from, m) =
      let t = inclusive_listed p p.seen in
      let a : t.0 ≡ 1 = t.2 ∙ ap range_inclusive_start from ∙ first in
      let b : t.1 - t.0 ≡ n = omega (arith, a, t.3, ap range_inclusive_end from, last) in
      any_counted p t.0 t.1 r (t.4 (ap range_inclusive_exhausted from ∙ fresh)).0 m
      ∙ ap (λ (m : ℕ). any_below m (λ k. test (t.0 + k))) b
      ∙ any_same n (λ k. test (t.0 + k)) (λ k. test (suc k)) (λ k l. ap test (omega (arith, a)))

  -- over 0..n
  pub any_from_zero : (s : Range ℕ) (n : ℕ) (r : Bool) → s.start ≡ 0 → s.end ≡ n
      → SomeRun nat_range_steps s (λ p. MatchBool r (AnyItemGives p g f true) (IsTrue p.whole × AllItemsGive p g f false))
      → r ≡ any_below n test
  any_from_zero s n r first last (p, from, m) =
      let t = range_listed p p.seen in
      let a : t.0 ≡ 0 = t.2 ∙ ap (λ (s : Range ℕ). s.start) from ∙ first in
      let b : t.1 - t.0 ≡ n = omega (arith, a, t.3, ap (λ (s : Range ℕ). s.end) from, last) in
      any_counted p t.0 t.1 r t.4 m
      ∙ ap (λ (m : ℕ). any_below m (λ k. test (t.0 + k))) b
      ∙ any_same n (λ k. test (t.0 + k)) test (λ k l. ap test (omega (arith, a)))

-- ---- filter and count

pub fold_counted : (test : ℕ → Bool) (xs : List ℕ) (a t : ℕ) → ((k : ℕ) → k < length xs → get_or xs k 0 ≡ a + k)
    → fold (λ n x. n + cond (test x) 1 0) t xs ≡ t + count_below (length xs) (λ k. test (a + k))
fold_counted test [] a t h = sym (add-zero t)
fold_counted test (x ∷ xs) a t h =
    let first : test x ≡ test (a + 0) = ap test (h 0 (omega arith)) in
    let rest = fold_counted test xs (a + 1) (t + cond (test x) 1 0) (λ k l. h (suc k) (omega arith) ∙ omega arith) in
    let on = count_same (length xs) (λ k. test (a + 1 + k)) (λ k. test (a + (1 + k))) (λ k l. ap test (omega arith)) in
    let all : count_below (suc (length xs)) (λ k. test (a + k)) ≡ cond {A = ℕ} (test (a + 0)) 1 0 + count_below (length xs) (λ k. test (a + (1 + k)))
    = ap (λ (m : ℕ). count_below m (λ k. test (a + k))) (sym (one-add (length xs))) ∙ count_add 1 (length xs) (λ k. test (a + k)) in
    let low : cond {A = ℕ} (test x) 1 0 ≡ cond {A = ℕ} (test (a + 0)) 1 0 = ap (λ (b : Bool). cond b 1 0) first in
    omega (arith, rest, on, all, low)

module _ {F : Type 0} (g : Mut F (Bor ℕ × Unit {0}) Bool) (f : F) (test : ℕ → Bool)
    (call : (x : ℕ) (b : Bool) (f' : F) → CalledAt g f x b f' → (f' ≡ f) × (b ≡ test x)) where
  -- over 0..n
  pub count_from_zero : {S : Type 0} {steps : S → Option ℕ → S → Type 0} (u : S) (s : Range ℕ) (n r : ℕ) → s.start ≡ 0 → s.end ≡ n
      → WholeRun steps u (λ p. r ≡ p.len) → EachRunFrom steps u (λ p. SomeRun nat_range_steps s (λ q. IsFilterRun p q g f)) → r ≡ count_below n test
  count_from_zero u s n r first last (p, from, whole, e) filtered =
      let t = filtered p p.seen from in
      let q = t.0 in
      let w = range_listed q q.seen in
      let a : w.0 ≡ 0 = w.2 ∙ ap (λ (s : Range ℕ). s.start) t.1 ∙ first in
      let b : w.1 ≡ n = w.3 ∙ ap (λ (s : Range ℕ). s.end) t.1 ∙ last in
      let long : length q.items ≡ n = omega (arith, a, b, q.long, w.4.1 (t.2.0 ∙ whole)) in
      e
      ∙ t.2.5 (λ n x. n + cond (test x) 1 0) (λ x b f' n c. let k = call x b f' c in (k.0, ap (λ (v : Bool). n + cond v 1 0) (sym k.1)))
      ∙ fold_counted test q.items 0 0
      (λ k l.
      let read = q.reads k 0 (omega (arith, q.long)) in
      let counted = w.4.3 k (omega (arith, q.long)) in
      let same : get_or q.items k 0 ≡ w.0 + k = cc in
      omega (arith, same, a))
      ∙ zero-add (count_below (length q.items) (λ k. test (0 + k)))
      ∙ ap (λ (m : ℕ). count_below m (λ k. test (0 + k))) long
      ∙ count_same n (λ k. test (0 + k)) test (λ k l. ap test (zero-add k))
