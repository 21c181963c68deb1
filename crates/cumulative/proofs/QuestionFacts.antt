-- What is asked of a set: whether it has members, contains another, can be joined, and is maximal.
use Rattle.std.proofs.Common.{◌≡◌, ℕ, ◌+◌, ◌-◌, ◌^◌, ◌<◌, ◌≤◌, Bool, false, not, ◌&&◌, ◌||◌, eqb, inl, inr, List, Decides, sym, refl, ap, ◌∙◌, add-one, arith}
use Rattle.std.specs.Int.Bits.{bit_or}
use Rattle.std.specs.List.{list_any, range_with_len}
use Rattle.std.proofs.lemmas.Bool.{cases_Bool, and_parts, not-true, not-false}
use Rattle.std.proofs.lemmas.Bool.Decides.{same_from_decides}
use Rattle.schemes.specs.Bits.{bit, any_below}
use Rattle.schemes.specs.Keyholders.{Within, member, most_keyholders, Empty}
use Rattle.schemes.specs.TestFacts.{any_same, any_find, any_none}
use Rattle.schemes.proofs.KeyholderFacts.{member_with, empty_decided}
use Rattle.cumulative.specs.Access.{subset, qualifies, can_join, maximal}
use Rattle.cumulative.specs.AccessFacts.{subset_decided, qualifies_alike, is_maximal, maximal_by_one, maximal_not_by}
use Rattle.cumulative.proofs.ListFacts.{any_range}

pub empty_asked : (set : ℕ) (answer : Bool) → set < 2 ^ most_keyholders → Decides answer (Empty set) → eqb set 0 ≡ answer
empty_asked set answer l d = same_from_decides (eqb set 0) answer (empty_decided set l) d

pub within_asked : (a b : ℕ) (answer : Bool) → Decides answer (Within a b) → answer ≡ subset a b
within_asked a b answer d = sym (same_from_decides (subset a b) answer (subset_decided a b) d)

-- the question whether he can join, by the set that he makes larger
pub join_asked : (minimal : List ℕ) (set i larger : ℕ) (answer : Bool) → 1 ≤ i → ((j : ℕ) → member larger j ≡ (eqb j i || member set j))
    → answer ≡ not (qualifies minimal larger) → false ≡ member set i → answer ≡ can_join minimal set i
join_asked minimal set i larger answer l h e f =
    e ∙ ap not (qualifies_alike minimal larger (bit_or set (2 ^ (i - 1))) (λ j. h j ∙ sym (member_with set i j l)))
    ∙ ap (λ (x : Bool). not x && not (qualifies minimal (bit_or set (2 ^ (i - 1))))) f

-- ---- a maximal set, by one further keyholder at a time

module _ (n : ℕ) (minimal : List ℕ) (set : ℕ) (p : set < 2 ^ n) where
  abbrev joins : ℕ → Bool
  joins k = not (bit set k) && not (qualifies minimal (bit_or set (2 ^ k)))

  maximal_by_joining : qualifies minimal set ≡ false → not (any_below n joins) ≡ maximal n minimal set
  maximal_by_joining e = elim (cases_Bool (any_below n joins)) [
    | inl some ↦
        let t = any_find n joins some in
        let u = and_parts (not (bit set t.0)) (not (qualifies minimal (bit_or set (2 ^ t.0)))) t.2 in
        ap not some ∙ sym (maximal_not_by n minimal set p t.0 t.1 (not-true (bit set t.0) u.0) (not-true (qualifies minimal (bit_or set (2 ^ t.0))) u.1))
    | inr none ↦
        ap not none
        ∙ sym (is_maximal n minimal set p
        (maximal_by_one n minimal set p e
        (λ k l b. not-false (qualifies minimal (bit_or set (2 ^ k)))
        (sym (ap (λ (x : Bool). not x && not (qualifies minimal (bit_or set (2 ^ k)))) b) ∙ any_none n joins none k l))))
  ]

  -- as a chain over the keyholders asks it, where keyholder k + 1 comes at k
  pub maximal_asked : qualifies minimal set ≡ false
      → not (list_any (λ k. can_join minimal set (k + 1)) (range_with_len 0 n)) ≡ maximal n minimal set
  maximal_asked e =
      ap not (any_range n asked ∙ any_same n asked joins (λ k l. at k))
      ∙ maximal_by_joining e
    where
      asked : ℕ → Bool
      asked k = can_join minimal set (k + 1)

      at : (k : ℕ) → can_join minimal set (k + 1) ≡ joins k
      at k =
          let down : k + 1 - 1 ≡ k = omega arith in
          rw (down, add-one k) refl
