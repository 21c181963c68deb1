-- The ways that a call of `read_back` ends: what it leaves (`LaidAndRead`), that readable films come back (`Restores`), and the
-- law of whole runs.
use Rattle.std.proofs.Common.{◌≡◌, ℕ, ◌*◌, ◌<◌, ◌≤◌, Bool, true, false, cond, ltb, List, [], ◌∷◌, length, Some, None, Err, Option, Result, sym, refl, ap, ◌∙◌, subst, ap₂, arith}
use Rattle.std.proofs.lemmas.Bool.{le-ltb, lt-ltb}
use Rattle.std.proofs.lemmas.Bool.Decides.{nat_tests}
use Rattle.std.proofs.Math.Nat.{mul-le-mul}
use Rattle.schemes.specs.Laws.{InRange, Lawful}
use Rattle.schemes.specs.Meaning.{Meaning}
use Rattle.schemes.specs.Strips.{strip_size}
use Rattle.schemes.proofs.StripFacts.{strip_squares_are}
use Rattle.maker.specs.Films.{films_size}
use Rattle.lightbox.specs.Laying.{stacked}
use Rattle.lightbox.specs.Reading.{early_checks, early_refusal, Reading}
use Rattle.lightbox.specs.declared.refusals.LayRefusal.{LayRefusal}
use Rattle.lightbox.specs.declared.refusals.LayRefusal.TheVariants.{Lengths}
use Rattle.lightbox.specs.declared.refusals.ReadRefusal.{ReadRefusal}
use Rattle.readback.specs.declared.refusals.ReadBackRefusal.{ReadBackRefusal}
use Rattle.readback.specs.declared.refusals.ReadBackRefusal.TheVariants.{Lay, Read}
use Rattle.readback.specs.Law.{ReadsBack}
use Rattle.readback.specs.ReadingBack.{back_refusal, member_strips, members_stack, passed_on, LaidAndRead, Restores, MembersLaid, FilmsShort}
use Rattle.readback.proofs.Checks.{first_some, first_none}
use Rattle.readback.proofs.MemberStrips.{strips_of_members}
use Rattle.readback.proofs.Runs.{glass_length, readable_read, reads_back}

early_glass : (s : Meaning) (set w glass_bytes out_bytes : ℕ) → early_refusal s set w glass_bytes out_bytes ≡ None → glass_bytes ≡ strip_size s.m w
early_glass s set w glass_bytes out_bytes e = grind (arith, nat_tests)

-- a glass that is not refused then has a byte
pub early_some : (s : Meaning) → InRange s → (set w glass_bytes out_bytes : ℕ) → None ≡ early_refusal s set w glass_bytes out_bytes → 0 < glass_bytes
early_some s range set w glass_bytes out_bytes e =
    let size = early_glass s set w glass_bytes out_bytes (sym e) in
    let wide : 1 ≤ w = grind (arith, nat_tests) in
    let squares : 1 * 1 ≤ w * s.m = mul-le-mul wide range.some_column in
    omega (arith, strip_squares_are s.m w)

module _ (s : Meaning) (range : InRange s) (lawful : Lawful s) (set w : ℕ) (films glass out : List ℕ) where
  -- all that is promised of a call
  abbrev pub Done : Result Unit ReadBackRefusal → (glass' row : List ℕ) → Type 0
  Done r glass' row = record {
    reads : LaidAndRead s set w films glass out r glass' row;
    restores : Restores s set w films glass out r row;
    whole_runs : ReadsBack s w;
  }

  abbrev early : Option ReadRefusal
  early = early_refusal s set w (length glass) (length out)

  abbrev refusal : Option ReadBackRefusal
  refusal = back_refusal s set w (length films) (length glass) (length out)

  abbrev checks_after : List (Bool × ReadBackRefusal)
  checks_after = (ltb (length films) (films_size s w), Lay Lengths) ∷ []

  refused : (why : ReadBackRefusal) (r : Result Unit ReadBackRefusal) (glass' : List ℕ) → refusal ≡ Some why → r ≡ Err why → glass' ≡ glass → Done r glass' out
  refused why r glass' e f same = record {
    reads = rw e (f, same, refl);
    restores = λ secret readable none. let z : ◌≡◌ {A = ℕ} 0 1 = cc in absurd (omega arith);
    whole_runs = reads_back s range lawful w;
  }

  -- a reading is refused before it counts a square
  pub when_early : (why : ReadRefusal) (r : Result Unit ReadBackRefusal) → Some why ≡ early → r ≡ Err (Read why) → Done r glass out
  when_early why r e f = refused (Read why) r glass (first_some Read (early_checks s set w (length glass) (length out)) checks_after why (sym e)) f refl

  module _ (none : None ≡ early) (n : ℕ) (all : n ≡ s.n) where
    glass_size : length glass ≡ strip_size s.m w
    glass_size = early_glass s set w (length glass) (length out) (sym none)

    sizes : n * length glass ≡ films_size s w
    sizes = ap₂ (λ (x y : ℕ). x * y) all glass_size

    after : (b : Bool) → ltb (length films) (films_size s w) ≡ b → refusal ≡ cond b (Some (Lay Lengths)) None
    after b e =
        first_none Read (early_checks s set w (length glass) (length out)) checks_after (sym none)
        ∙ ap (λ (x : Bool). cond x (Some (Lay Lengths)) None) e

    -- the films are too short
    pub when_short : (why : LayRefusal) (r : Result Unit ReadBackRefusal) (glass' : List ℕ) → FilmsShort n films glass why glass' → r ≡ Err (Lay why) → Done r glass' out
    when_short why r glass' few f =
        let e = sizes in
        refused (Lay Lengths) r glass' (after true (lt-ltb (length films) (films_size s w) (omega (arith, few.short))))
        (f ∙ ap (λ (x : LayRefusal). Err (Lay x)) few.lengths) few.unchanged

    -- the strips are laid and read
    pub when_read : (glass' row : List ℕ) (answer : Result Unit ReadRefusal) (r : Result Unit ReadBackRefusal) → MembersLaid n (length glass) set films glass'
        → Reading s set w glass' out answer row → r ≡ passed_on answer → Done r glass' row
    when_read glass' row answer r laid reading f =
        let e = sizes in
        let long : films_size s w ≤ length films = omega (arith, laid.room) in
        let on : glass' ≡ members_stack s set w films = laid.stack ∙ ap₂ (λ (x y : ℕ). stacked x (member_strips y x set films)) glass_size all in
        let of = strips_of_members (strip_size s.m w) set films s.n in
        let never = after false (le-ltb (length films) (films_size s w) long) in
        record {
          reads = rw never (on, (answer, reading, f));
          restores = λ secret readable _.
              let stack = member_strips s.n (strip_size s.m w) set films in
              let glass-long = glass_length s w set films secret readable long stack of in
              let same =
              readable_read s w set films secret readable long stack of out answer row
              (ap (λ (bytes : ℕ). early_refusal s set w bytes (length out)) (glass-long ∙ sym glass_size) ∙ sym none)
              (subst (λ (x : List ℕ). Reading s set w x out answer row) on reading) in
              (f ∙ ap passed_on same.0, same.1);
          whole_runs = reads_back s range lawful w;
        }
