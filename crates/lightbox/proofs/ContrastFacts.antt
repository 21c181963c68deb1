-- The contrast of a qualified set: dark is above light (`Distinct`).
use Rattle.std.proofs.Common.{◌≡◌, ℕ, ◌^◌, true, sym, ◌∙◌, inl, inr, arith}
use Rattle.std.proofs.lemmas.Bool.{cases_lt, true≢false}
use Rattle.schemes.specs.Keyholders.{Among}
use Rattle.schemes.specs.Laws.{InRange, Lawful}
use Rattle.schemes.specs.Meaning.{Meaning, light, dark, stack}
use Rattle.schemes.specs.declared.colour.Colour.TheVariants.{Black}
use Rattle.schemes.specs.TestFacts.{count_le}
use Rattle.lightbox.specs.Contrasts.{Distinct}

module _ (s : Meaning) (range : InRange s) (lawful : Lawful s) (set : ℕ) (qualified : s.qualified set ≡ true) where
  pub qualified_among : Among s.n set
  qualified_among = elim (cases_lt set (2 ^ s.n)) [
    | inl l ↦ l
    | inr l ↦ absurd (true≢false (sym qualified ∙ range.set_above set (λ h. omega arith)))
  ]

  pub levels_distinct : Distinct (light s set, dark s set, s.m)
  levels_distinct = record {
    darker = lawful.shows set qualified_among qualified;
    at_most = count_le s.m (stack s Black set);
  }
