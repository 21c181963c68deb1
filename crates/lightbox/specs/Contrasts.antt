-- What a qualified set sees of a pixel: light black squares over a white one, dark over a black one, out of m.
use Rattle.std.specs.Prelude.{ℕ, ◌<◌, ◌≤◌, cond, ◌==◌, Some, None, Ok, Err, Option, Result}
use Rattle.schemes.specs.Meaning.{Meaning, light, dark}
use Rattle.schemes.specs.declared.colour.Colour.{Colour}
use Rattle.schemes.specs.declared.colour.Colour.TheVariants.{White, Black}
use Rattle.lightbox.specs.declared.refusals.ContrastRefusal.{ContrastRefusal}
use Rattle.lightbox.specs.declared.refusals.ContrastRefusal.TheVariants.{NotQualified}

-- Light, dark and m of a qualified set.
abbrev pub contrast_of : Meaning → (set : ℕ) → Result (ℕ × ℕ × ℕ) ContrastRefusal
contrast_of s set = cond (s.qualified set) (Ok (light s set, dark s set, s.m)) (Err NotQualified)

-- A black pixel is darker than a white one, and has no more black squares than squares.
pub record Distinct (seen : ℕ × ℕ × ℕ) : Type 0 where
  pub darker : seen.0 < seen.1
  pub at_most : seen.1 ≤ seen.2

-- The colour of a pixel with so many black squares, where it has one: light gives white, dark gives black.
abbrev pub colour_seen : (light_level dark_level blacks : ℕ) → Option Colour
colour_seen light_level dark_level blacks =
    cond (blacks == light_level) (Some White) (cond (blacks == dark_level) (Some Black) None)
