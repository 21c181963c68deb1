-- The bytes that wait on the two tapes, as `next` and `waiting` find them.
use Rattle.std.specs.Prelude.{◌≡◌, ℕ, zero, suc, ◌+◌, ◌-◌, ◌*◌, ◌%◌, ◌<◌, List, ◌∷◌, ◌++◌, length, slice_index, Option, Some, None}
use Rattle.std.proofs.Common.{sym, ◌∙◌, ap, arith, suc-mul, mod-eq_of_lt}
use Rattle.std.proofs.Math.Nat.{mod-add-mod}
use Rattle.std.specs.List.{All}
use Rattle.std.specs.Option.{option_to_list}
use Rattle.std.proofs.lemmas.List.{ext_get_or}
use Rattle.std.proofs.lemmas.List.Elements.{All-same, All-rest}
use Rattle.std.proofs.lemmas.List.FromFn.{length-map-range_with_len, get_or-map-range_with_len}
use Rattle.tapes.specs.Tapes.{arithmetic_run}

-- What is left of bytes where the first is taken, if there is one.
pub below_rest : (r : Option ℕ) (xs ys : List ℕ) → xs ≡ option_to_list r ++ ys → All (λ b. b < 256) xs → All (λ b. b < 256) ys
below_rest None xs ys e h = All-same (λ b. b < 256) ys xs (sym e) h
below_rest (Some b) xs ys e h = All-rest (λ b. b < 256) b ys xs e h

abbrev at : (b s k : ℕ) → ℕ
at b s k = (b + k * s) % 256

pub run_length : (b s c : ℕ) → length (arithmetic_run b s c) ≡ c
run_length b s c = length-map-range_with_len (at b s) 0 c

pub run_at : (b s c k : ℕ) → k < c → slice_index (arithmetic_run b s c) k ≡ at b s k
run_at b s c k h = get_or-map-range_with_len (at b s) 0 c k k 0 h (omega arith)

-- A run is its first byte, and the run from the next byte on.
pub run_next : (b s c : ℕ) → b < 256 → 0 < c → arithmetic_run b s c ≡ b ∷ arithmetic_run ((b + s) % 256) s (c - 1)
run_next b s c byte more =
    ext_get_or 0 (arithmetic_run b s c) (b ∷ arithmetic_run ((b + s) % 256) s (c - 1)) (omega (arith, run_length b s c, run_length ((b + s) % 256) s (c - 1))) (λ k l.
    let h : k < c = omega (arith, run_length b s c) in
    run_at b s c k h ∙ place k h)
  where
    place : (k : ℕ) → k < c → at b s k ≡ slice_index (b ∷ arithmetic_run ((b + s) % 256) s (c - 1)) k
    place zero h = let first : b + 0 * s ≡ b = omega arith in rw first (mod-eq_of_lt byte)
    place (suc k) h =
        let on : b + suc k * s ≡ b + s + k * s = omega (arith, suc-mul k s) in
        ap (λ n. n % 256) on ∙ sym (mod-add-mod (b + s) 256 (k * s)) ∙ sym (run_at ((b + s) % 256) s (c - 1) k (omega arith))
