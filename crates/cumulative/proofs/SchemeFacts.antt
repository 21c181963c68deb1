-- What the fields of a scheme of sets say of one another: of the scheme of one keyholder, and of one that is made.
use Rattle.std.proofs.Common.{◌≡◌, ℕ, zero, suc, ◌^◌, ◌<◌, false, List, [], ◌∷◌, map, filter, length, sym, refl, ap, ◌∙◌, subst, arith}
use Rattle.std.specs.List.{range_with_len}
use Rattle.schemes.specs.declared.keyholders.KeyholderSet.{KeyholderSet}
use Rattle.cumulative.specs.Access.{numbers, set_of, subset, qualifies, maximal, those_below, forbidden_sets}
use Rattle.cumulative.specs.ListedFacts.{list_filtered}
use Rattle.cumulative.specs.Making.{improper, ProperSets}

pub record Parts (n : ℕ) (minimal forbidden : List ℕ) (t : ℕ) : Type 0 where
  pub proper : ProperSets n minimal
  pub found : forbidden ≡ forbidden_sets n minimal
  pub rows : length (forbidden_sets n minimal) ≡ t

-- ---- one keyholder, who opens alone

one_proper : (i : ℕ) → i < 1 → improper 1 (1 ∷ []) i ≡ false
unfolding improper
one_proper zero l = refl
one_proper (suc i) l = absurd (omega arith)

pub one_sets : ProperSets 1 (1 ∷ [])
one_sets = record { least = omega arith; most = omega arith; some_set = omega arith; proper = one_proper }

-- only the empty set is forbidden
one_forbidden : forbidden_sets 1 (1 ∷ []) ≡ 0 ∷ []
unfolding subset qualifies maximal those_below
one_forbidden = refl

-- the list of one set
pub one_listed : (items : List KeyholderSet) (one : KeyholderSet) (number : ℕ) → items ≡ one ∷ [] → one.bits ≡ number → numbers items ≡ number ∷ []
one_listed items one number e b = ap numbers e ∙ ap (λ (x : ℕ). x ∷ []) b

pub one_parts : (minimal forbidden : List ℕ) (t : ℕ) → minimal ≡ 1 ∷ [] → forbidden ≡ 0 ∷ [] → t ≡ 1 → Parts 1 minimal forbidden t
one_parts minimal forbidden t p q e =
    subst (λ (m : List ℕ). Parts 1 m forbidden t) (sym p)
    (record { proper = one_sets; found = q ∙ sym one_forbidden; rows = ap length one_forbidden ∙ sym e })

-- ---- one that is made

-- the sets that the search lists
pub sets_listed : (n : ℕ) (sets : List KeyholderSet) (n' : ℕ) (sets' items : List KeyholderSet) → n' ≡ n → sets' ≡ sets
    → items ≡ filter (λ set. maximal n' (numbers sets') set.bits) (map set_of (range_with_len 0 (2 ^ n'))) → numbers items ≡ forbidden_sets n (numbers sets)
sets_listed n sets n' sets' items p q e =
    ap numbers e ∙ list_filtered (maximal n' (numbers sets')) (2 ^ n')
    ∙ ap (λ (x : ℕ). forbidden_sets x (numbers sets')) p ∙ ap (λ (xs : List KeyholderSet). forbidden_sets n (numbers xs)) q

pub made_parts : (n : ℕ) (items sets : List KeyholderSet) (forbidden : List ℕ) (t : ℕ) → items ≡ sets → ProperSets n (numbers sets)
    → forbidden ≡ forbidden_sets n (numbers sets) → length forbidden ≡ t → Parts n (numbers items) forbidden t
made_parts n items sets forbidden t e proper found long =
    subst (λ (list : List KeyholderSet). Parts n (numbers list) forbidden t) (sym e)
    (record { proper = proper; found = found; rows = sym (ap length found) ∙ long })
