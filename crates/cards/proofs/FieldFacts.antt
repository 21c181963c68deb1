-- Reading field by field answers what reading by places does.
use Rattle.std.proofs.Common.{◌≡◌, ℕ, zero, suc, ◌+◌, ◌≤◌, Bool, true, false, cond, not, ◌||◌, eqb, ltb, leb, List, [], ◌∷◌, length, take, drop, Some, None, Ok, Err, Option, Result, option_map, sym, refl, ap, ◌∙◌, ⊎_elim, arith}
use Rattle.std.proofs.lemmas.List.{length-take-le, length-drop}
use Rattle.std.proofs.lemmas.Bool.{cond-true, cond-false, cases_Bool, lt-ltb, le-ltb, leb-true, leb-false, eqb-true}
use Rattle.std.proofs.lemmas.Bool.Decides.{nat_tests}
use Rattle.schemes.specs.Bits.{differ}
use Rattle.cards.specs.Kinds.{kind_numbered}
use Rattle.cards.specs.Fields.{Fields, split_written, unless_fault, n_said, kind_said, none_left, listed, said}
use Rattle.cards.specs.Format.{Contents, says}
use Rattle.cards.specs.Reading.{rising_front, refuse_if, reading}
use Rattle.cards.specs.declared.card.CardKind.{CardKind}
use Rattle.cards.specs.declared.card.CardKind.TheVariants.{AllOf, TwoOf, Sets}
use Rattle.cards.specs.declared.faults.CardRefusal.TheVariants.{EndsEarly, WrongValue, BytesLeftOver, WrongSets}
use Rattle.cards.specs.declared.faults.CardFault.{CardFault}
use Rattle.cards.specs.declared.faults.CardFault.TheVariants.{Format}

-- ---- rule by rule

n_by : (n : ℕ) (go_on : ℕ → Result Contents CardFault)
    → refuse_if (eqb n 2) WrongValue 1 (go_on n) ≡ unless_fault (n_said (Some n)) go_on
n_by n go_on = by_test (eqb n 2)
  where
    by_test : (b : Bool) → refuse_if b WrongValue 1 (go_on n) ≡ unless_fault (cond b (Err (Format WrongValue 1)) (Ok n)) go_on
    by_test true = refl
    by_test false = refl

kind_by : (place k : ℕ) (by_number : ℕ → Result Contents CardFault) (go_on : CardKind → Result Contents CardFault)
    → by_number 2 ≡ go_on TwoOf → by_number 3 ≡ go_on Sets
    → refuse_if (not (eqb k 2 || eqb k 3)) WrongValue place (by_number k) ≡ unless_fault (kind_said place (Some k)) go_on
kind_by place k by_number go_on two sets =
    by_tests (eqb k 2) (eqb k 3) (λ e. ap by_number (eqb-true k 2 e) ∙ two) (λ e. ap by_number (eqb-true k 3 e) ∙ sets)
  where
    by_tests : (a b : Bool) → (a ≡ true → by_number k ≡ go_on TwoOf) → (b ≡ true → by_number k ≡ go_on Sets)
        → refuse_if (not (a || b)) WrongValue place (by_number k)
        ≡ unless_fault (cond a (Ok TwoOf) (cond b (Ok Sets) (Err (Format WrongValue place)))) go_on
    by_tests true b p q = p refl
    by_tests false true p q = q refl
    by_tests false false p q = refl

left_by : (end : ℕ) (left : List ℕ) (over : Bool) (go_on : Result Contents CardFault) → over ≡ ltb 0 (length left)
    → refuse_if over BytesLeftOver end go_on ≡ unless_fault (none_left end left) (λ _. go_on)
left_by end [] over go_on e = cond-false over _ _ e
left_by end (b ∷ left) over go_on e = cond-true over _ _ (e ∙ lt-ltb 0 (length (b ∷ left)) (omega arith))

rising_by : (b : Bool) (why : CardFault) (n : ℕ) (sets : List ℕ)
    → cond b (Err why) (Ok (says Sets n sets)) ≡ unless_fault (cond b (Err why) (Ok sets)) (λ sets. Ok (says Sets n sets))
rising_by true why n sets = refl
rising_by false why n sets = refl

over_by : (end long left : ℕ) → long ≡ end + left → ltb end long ≡ ltb 0 left
over_by end long left e = grind (arith, nat_tests)

-- ---- after a kind

without_sets : (n k place first : ℕ) (left : List ℕ) (over : Bool) → over ≡ ltb 0 (length left)
    → refuse_if (not (eqb k 2 || eqb k 3)) WrongValue place (refuse_if over BytesLeftOver first (refuse_if (differ false (eqb k 3)) WrongSets 0 (Ok (says (kind_numbered k) n []))))
    ≡ unless_fault (kind_said place (Some k)) (λ kind. unless_fault (none_left first left) (λ _. unless_fault (listed first kind None) (λ sets. Ok (says kind n sets))))
without_sets n k place first left over e =
    kind_by place k (λ k. refuse_if over BytesLeftOver first (refuse_if (differ false (eqb k 3)) WrongSets 0 (Ok (says (kind_numbered k) n [])))) _
    (left_by first left over (Ok (says TwoOf n [])) e)
    (left_by first left over (Err (Format WrongSets 0)) e)

with_sets : (n k place first count : ℕ) (sets left : List ℕ) (over : Bool) → count ≡ length sets → over ≡ ltb 0 (length left)
    → refuse_if (not (eqb k 2 || eqb k 3)) WrongValue place (refuse_if over BytesLeftOver (first + count) (refuse_if (differ true (eqb k 3)) WrongSets 0 (refuse_if (ltb (rising_front sets) count) WrongSets (first + rising_front sets) (Ok (says (kind_numbered k) n sets)))))
    ≡ unless_fault (kind_said place (Some k)) (λ kind. unless_fault (none_left (first + length sets) left) (λ _. unless_fault (listed first kind (Some sets)) (λ sets. Ok (says kind n sets))))
with_sets n k place first count sets left over long e =
    (λ i. refuse_if (not (eqb k 2 || eqb k 3)) WrongValue place (refuse_if over BytesLeftOver (first + long i) (refuse_if (differ true (eqb k 3)) WrongSets 0 (refuse_if (ltb (rising_front sets) (long i)) WrongSets (first + rising_front sets) (Ok (says (kind_numbered k) n sets))))))
    ∙ kind_by place k (λ k. refuse_if over BytesLeftOver (first + length sets) (refuse_if (differ true (eqb k 3)) WrongSets 0 (refuse_if (ltb (rising_front sets) (length sets)) WrongSets (first + rising_front sets) (Ok (says (kind_numbered k) n sets))))) _
    (left_by (first + length sets) left over (Err (Format WrongSets 0)) e)
    (left_by (first + length sets) left over _ e
    ∙ (λ i. unless_fault (none_left (first + length sets) left) (λ _. rising_by (ltb (rising_front sets) (length sets)) (Format WrongSets (first + rising_front sets)) n sets i)))

-- sets without a kind
of_no_kind : (first count : ℕ) (sets left : List ℕ) (over : Bool) → count ≡ length sets → over ≡ ltb 0 (length left)
    → refuse_if over BytesLeftOver (first + count) (Err (Format WrongSets 0)) ≡ unless_fault {B = Contents} (none_left (first + length sets) left) (λ _. Err (Format WrongSets 0))
of_no_kind first count sets left over long e =
    left_by (first + count) left over (Err (Format WrongSets 0)) e
    ∙ (λ i. unless_fault (none_left (first + long i) left) (λ _. Err (Format WrongSets 0)))

-- ---- map by map

abbrev pub said_or_ends : (long : ℕ) → Option Fields → Result Contents CardFault
said_or_ends long None = Err (Format EndsEarly long)
said_or_ends long (Some fields) = said fields

-- a count and the bytes after it
counted : (bytes : List ℕ) (count : ℕ) (t : List ℕ) (end : ℕ) (go_on : Result Contents CardFault) (fields : (Option (List ℕ) × List ℕ) → Fields)
    → length bytes + count ≡ end + length t → (count ≤ length t → go_on ≡ said (fields (Some (take count t), drop count t)))
    → refuse_if (ltb (length bytes) end) EndsEarly (length bytes) go_on
    ≡ said_or_ends (length bytes) (option_map fields (cond (leb count (length t)) (Some (Some (take count t), drop count t)) None))
counted bytes count t end go_on fields long there =
    ⊎_elim
    (λ p. let fits = leb-true count (length t) p in
    cond-false (ltb (length bytes) end) _ _ (le-ltb (length bytes) end (omega arith)) ∙ there fits
    ∙ ap (λ b. said_or_ends (length bytes) (option_map fields (cond b (Some (Some (take count t), drop count t)) None))) (sym p))
    (λ p. let short = leb-false count (length t) p in
    cond-true (ltb (length bytes) end) _ _ (lt-ltb (length bytes) end (omega arith))
    ∙ ap (λ b. said_or_ends (length bytes) (option_map fields (cond b (Some (Some (take count t), drop count t)) None))) (sym p))
    (cases_Bool (leb count (length t)))

taken : (count : ℕ) (t : List ℕ) → count ≤ length t → count ≡ length (take count t)
taken count t le = sym (length-take-le count t le)

left_after : (end count : ℕ) (t : List ℕ) (long : ℕ) → count ≤ length t → long ≡ end + length t → ltb (end + count) long ≡ ltb 0 (length (drop count t))
left_after end count t long le e = over_by (end + count) long (length (drop count t)) (omega (arith, length-drop count t))

read_0 : (s : List ℕ) → reading (0 ∷ s) ≡ said_or_ends (length (0 ∷ s)) (split_written 0 s)
read_0 s =
    cond-false _ _ _ (le-ltb (length (0 ∷ s)) 1 (omega arith))
    ∙ left_by 1 s (ltb 1 (length (0 ∷ s))) (Ok (says AllOf 2 [])) (over_by 1 (length (0 ∷ s)) (length s) (omega arith))

read_1 : (s : List ℕ) → reading (1 ∷ s) ≡ said_or_ends (length (1 ∷ s)) (split_written 1 s)
read_1 [] = refl
read_1 (n ∷ s) =
    cond-false _ _ _ (le-ltb (length (1 ∷ n ∷ s)) 2 (omega arith))
    ∙ n_by n (λ n'. refuse_if (ltb 2 (length (1 ∷ n ∷ s))) BytesLeftOver 2 (Ok (says AllOf n' [])))
    ∙ (λ i. unless_fault (n_said (Some n)) (λ n'. left_by 2 s (ltb 2 (length (1 ∷ n ∷ s))) (Ok (says AllOf n' [])) (over_by 2 (length (1 ∷ n ∷ s)) (length s) (omega arith)) i))

read_2 : (s : List ℕ) → reading (2 ∷ s) ≡ said_or_ends (length (2 ∷ s)) (split_written 2 s)
read_2 [] = refl
read_2 (k ∷ s) =
    cond-false _ _ _ (le-ltb (length (2 ∷ k ∷ s)) 2 (omega arith))
    ∙ without_sets 2 k 1 2 s (ltb 2 (length (2 ∷ k ∷ s))) (over_by 2 (length (2 ∷ k ∷ s)) (length s) (omega arith))

read_3 : (s : List ℕ) → reading (3 ∷ s) ≡ said_or_ends (length (3 ∷ s)) (split_written 3 s)
read_3 [] = refl
read_3 (n ∷ []) = refl
read_3 (n ∷ k ∷ s) =
    cond-false _ _ _ (le-ltb (length (3 ∷ n ∷ k ∷ s)) 3 (omega arith))
    ∙ n_by n (λ n'. refuse_if (not (eqb k 2 || eqb k 3)) WrongValue 2 (refuse_if (ltb 3 (length (3 ∷ n ∷ k ∷ s))) BytesLeftOver 3 (refuse_if (differ false (eqb k 3)) WrongSets 0 (Ok (says (kind_numbered k) n' [])))))
    ∙ (λ i. unless_fault (n_said (Some n)) (λ n'. without_sets n' k 2 3 s (ltb 3 (length (3 ∷ n ∷ k ∷ s))) (over_by 3 (length (3 ∷ n ∷ k ∷ s)) (length s) (omega arith)) i))

read_4 : (s : List ℕ) → reading (4 ∷ s) ≡ said_or_ends (length (4 ∷ s)) (split_written 4 s)
read_4 [] = refl
read_4 (count ∷ t) =
    counted (4 ∷ count ∷ t) count t (2 + count) _ (λ sets. record { n = None; kind = None; sets = sets.0; left_over = sets.1 }) (omega arith)
    (λ le. of_no_kind 2 count (take count t) (drop count t) (ltb (2 + count) (length (4 ∷ count ∷ t))) (taken count t le) (left_after 2 count t (length (4 ∷ count ∷ t)) le (omega arith)))

read_5 : (s : List ℕ) → reading (5 ∷ s) ≡ said_or_ends (length (5 ∷ s)) (split_written 5 s)
read_5 [] = refl
read_5 (n ∷ []) = refl
read_5 (n ∷ count ∷ t) =
    counted (5 ∷ n ∷ count ∷ t) count t (3 + count) _ (λ sets. record { n = Some n; kind = None; sets = sets.0; left_over = sets.1 }) (omega arith)
    (λ le. n_by n (λ n'. refuse_if (ltb (3 + count) (length (5 ∷ n ∷ count ∷ t))) BytesLeftOver (3 + count) (Err (Format WrongSets 0)))
    ∙ (λ i. unless_fault (n_said (Some n)) (λ n'. of_no_kind 3 count (take count t) (drop count t) (ltb (3 + count) (length (5 ∷ n ∷ count ∷ t))) (taken count t le) (left_after 3 count t (length (5 ∷ n ∷ count ∷ t)) le (omega arith)) i)))

read_6 : (s : List ℕ) → reading (6 ∷ s) ≡ said_or_ends (length (6 ∷ s)) (split_written 6 s)
read_6 [] = refl
read_6 (k ∷ []) = refl
read_6 (k ∷ count ∷ t) =
    counted (6 ∷ k ∷ count ∷ t) count t (3 + count) _ (λ sets. record { n = None; kind = Some k; sets = sets.0; left_over = sets.1 }) (omega arith)
    (λ le. with_sets 2 k 1 3 count (take count t) (drop count t) (ltb (3 + count) (length (6 ∷ k ∷ count ∷ t))) (taken count t le) (left_after 3 count t (length (6 ∷ k ∷ count ∷ t)) le (omega arith)))

read_7 : (s : List ℕ) → reading (7 ∷ s) ≡ said_or_ends (length (7 ∷ s)) (split_written 7 s)
read_7 [] = refl
read_7 (n ∷ []) = refl
read_7 (n ∷ k ∷ []) = refl
read_7 (n ∷ k ∷ count ∷ t) =
    let long : ℕ = length (7 ∷ n ∷ k ∷ count ∷ t) in
    let sets : List ℕ = take count t in
    counted (7 ∷ n ∷ k ∷ count ∷ t) count t (4 + count) _ (λ sets. record { n = Some n; kind = Some k; sets = sets.0; left_over = sets.1 }) (omega arith)
    (λ le. n_by n (λ n'. refuse_if (not (eqb k 2 || eqb k 3)) WrongValue 2 (refuse_if (ltb (4 + count) long) BytesLeftOver (4 + count) (refuse_if (differ true (eqb k 3)) WrongSets 0 (refuse_if (ltb (rising_front sets) count) WrongSets (4 + rising_front sets) (Ok (says (kind_numbered k) n' sets))))))
    ∙ (λ i. unless_fault (n_said (Some n)) (λ n'. with_sets n' k 2 4 count sets (drop count t) (ltb (4 + count) long) (taken count t le) (left_after 4 count t long le (omega arith)) i)))

pub read_by_fields : (map : ℕ) (s : List ℕ) → map ≤ 7 → reading (map ∷ s) ≡ said_or_ends (length (map ∷ s)) (split_written map s)
read_by_fields zero s lt = read_0 s
read_by_fields (suc zero) s lt = read_1 s
read_by_fields (suc (suc zero)) s lt = read_2 s
read_by_fields (suc (suc (suc zero))) s lt = read_3 s
read_by_fields (suc (suc (suc (suc zero)))) s lt = read_4 s
read_by_fields (suc (suc (suc (suc (suc zero))))) s lt = read_5 s
read_by_fields (suc (suc (suc (suc (suc (suc zero)))))) s lt = read_6 s
read_by_fields (suc (suc (suc (suc (suc (suc (suc zero))))))) s lt = read_7 s
read_by_fields (suc (suc (suc (suc (suc (suc (suc (suc map)))))))) s lt = absurd (omega arith)
