-- The order of a block, step by step: draw a digit, take its column away, go on with the rest. For `arrange`.
use Rattle.std.proofs.Common.{◌≡◌, ℕ, zero, suc, ◌-◌, ◌≤◌, List, [], ◌∷◌, ◌++◌, get_or, refl, ap, ◌∙◌, arith}
use Rattle.std.specs.List.{remove}
use Rattle.tapes.specs.Drawing.{Drawn, short, drawn, Draw, onward}
use Rattle.tapes.specs.Digits.{digit}
use Rattle.tapes.specs.Orders.{digits, columns, arranged, arranging, order}

-- What is drawn is put after a list.
abbrev pub after_list : List ℕ → Drawn (List ℕ) → Drawn (List ℕ)
after_list front drawing = onward drawing (λ o left. drawn (front ++ o) left)

-- One step of the recursive form.
pub arranging_more : (k : ℕ) (remaining tape : List ℕ) →
    arranging (suc (suc k)) remaining tape ≡
    onward (digit (suc (suc k)) tape) (λ d rest. after_list (get_or remaining d 0 ∷ []) (arranging (suc k) (remove remaining d) rest))
arranging_more k remaining tape = go (digit (suc (suc k)) tape)
  where
    next : (d : ℕ) (ds : Drawn (List ℕ)) →
        onward (onward ds (λ es left. drawn (d ∷ es) left)) (λ es left. drawn (arranged remaining es) left) ≡
        after_list (get_or remaining d 0 ∷ []) (onward ds (λ es left. drawn (arranged (remove remaining d) es) left))
    next d short = refl
    next d (drawn es left) = refl

    go : (first : Drawn ℕ) →
        onward (onward first (λ d rest. onward (digits (suc k) rest) (λ es left. drawn (d ∷ es) left))) (λ es left. drawn (arranged remaining es) left) ≡
        onward first (λ d rest. after_list (get_or remaining d 0 ∷ []) (arranging (suc k) (remove remaining d) rest))
    go short = refl
    go (drawn d rest) = next d (digits (suc k) rest)

-- The same for n columns, at least 2.
pub arranging_step : (n : ℕ) (remaining tape : List ℕ) → 2 ≤ n →
    arranging n remaining tape ≡ onward (digit n tape) (λ d rest. after_list (get_or remaining d 0 ∷ []) (arranging (n - 1) (remove remaining d) rest))
arranging_step zero remaining tape two = absurd (omega arith)
arranging_step (suc zero) remaining tape two = absurd (omega arith)
arranging_step (suc (suc k)) remaining tape two = let less : suc (suc k) - 1 ≡ suc k = omega arith in rw less (arranging_more k remaining tape)

-- Where the first of the digits runs short.
pub arranging_short : (n : ℕ) (remaining tape : List ℕ) → 2 ≤ n → digit n tape ≡ short → arranging n remaining tape ≡ short
arranging_short n remaining tape two e =
    arranging_step n remaining tape two ∙ ap (λ f. onward f (λ d rest. after_list (get_or remaining d 0 ∷ []) (arranging (n - 1) (remove remaining d) rest))) e

-- The recursive form of an order of k + 1 columns.
abbrev pub order_of : ℕ → List ℕ → Draw (List ℕ)
order_of zero remaining tape = drawn remaining tape
order_of (suc k) remaining tape =
    onward (digit (suc (suc k)) tape) (λ d rest.
    onward (order_of k (remove remaining d) rest) (λ o left. drawn (get_or remaining d 0 ∷ o) left))

pub arranging_recursive : (k : ℕ) (remaining tape : List ℕ) → arranging (suc k) remaining tape ≡ order_of k remaining tape
arranging_recursive zero remaining tape = refl
arranging_recursive (suc k) remaining tape =
    arranging_more k remaining tape ∙ go (λ d rest. arranging_recursive k (remove remaining d) rest) (digit (suc (suc k)) tape)
  where
    go : ((d : ℕ) (rest : List ℕ) → arranging (suc k) (remove remaining d) rest ≡ order_of k (remove remaining d) rest) → (first : Drawn ℕ) →
        onward first (λ d rest. after_list (get_or remaining d 0 ∷ []) (arranging (suc k) (remove remaining d) rest)) ≡
        onward first (λ d rest. after_list (get_or remaining d 0 ∷ []) (order_of k (remove remaining d) rest))
    go later short = refl
    go later (drawn d rest) = ap (after_list (get_or remaining d 0 ∷ [])) (later d rest)

pub order_recursive : (k : ℕ) (tape : List ℕ) → order (suc k) tape ≡ order_of k (columns (suc k)) tape
order_recursive k = arranging_recursive k (columns (suc k))
