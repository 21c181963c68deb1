-- The rows of one film: where each strip lies, and what a row more adds.
use Rattle.std.proofs.Common.{◌≡◌, ℕ, zero, suc, ◌+◌, ◌-◌, ◌*◌, ◌<◌, ◌≤◌, List, ◌++◌, take, drop, sym, ap, ◌∙◌, mul-le-mul_right, suc-mul, add-one, arith}
use Rattle.std.proofs.lemmas.List.{drop-drop}
use Rattle.films.specs.FilmRows.{film_of}

-- the strip of keyholder i in row y ends within the strips
pub strip_within : (n size h y i all : ℕ) → y < h → 1 ≤ i → i ≤ n → h * (n * size) ≤ all → y * (n * size) + (i - 1) * size + size ≤ all
strip_within n size h y zero all l p q e = elim p [ ]
strip_within n size h y (suc k) all l p q e =
    let down : suc k - 1 ≡ k = omega arith in
    let own : suc k * size ≤ n * size = mul-le-mul_right size q in
    let up : suc y * (n * size) ≤ h * (n * size) = mul-le-mul_right (n * size) l in
    rw down (omega (arith, own, up, suc-mul k size, suc-mul y (n * size)))

-- a row more
pub row_more : (n size : ℕ) (strips : List ℕ) (i y start : ℕ) (old new : List ℕ) → 1 ≤ i → start ≡ y * (n * size) + (i - 1) * size
    → old ≡ film_of n size strips i y → new ≡ old ++ take (start + size - start) (drop start strips) → new ≡ film_of n size strips i (y + 1)
row_more n size strips zero y start old new p at e f = elim p [ ]
row_more n size strips (suc k) y start old new p at e f =
    let down : suc k - 1 ≡ k = omega arith in
    let long : start + size - start ≡ size = omega arith in
    let place : start ≡ y * (n * size) + k * size = at ∙ ap (λ (x : ℕ). y * (n * size) + x * size) down in
    f
    ∙ ap (λ (x : List ℕ). x ++ take (start + size - start) (drop start strips)) e
    ∙ ap (λ (x : ℕ). film_of n size strips (suc k) y ++ take x (drop start strips)) long
    ∙ ap (λ (x : ℕ). film_of n size strips (suc k) y ++ take size (drop x strips)) place
    ∙ ap (λ (x : List ℕ). film_of n size strips (suc k) y ++ take size x) (sym (drop-drop (k * size) (y * (n * size)) strips))
    ∙ ap (λ (x : ℕ). film_of n size strips (suc k) x) (sym (add-one y))
