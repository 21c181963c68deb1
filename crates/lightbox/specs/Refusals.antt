-- Why the light box refuses: the number of each refusal, and its place where it has one.
use Rattle.std.specs.Prelude.{ℕ, Some, None, Option}
use Rattle.lightbox.specs.declared.refusals.LayRefusal.{LayRefusal}
use Rattle.lightbox.specs.declared.refusals.LayRefusal.TheVariants.{Lengths}
use Rattle.lightbox.specs.declared.refusals.ContrastRefusal.{ContrastRefusal}
use Rattle.lightbox.specs.declared.refusals.ContrastRefusal.TheVariants.{NotQualified}
use Rattle.lightbox.specs.declared.refusals.ReadRefusal.{ReadRefusal}
use Rattle.lightbox.specs.declared.refusals.ReadRefusal.TheVariants.{Width, Squares, Contrast, GlassLength, OutputLength, NeitherLevel}

abbrev pub lay_number : LayRefusal → ℕ
lay_number Lengths = 28

abbrev pub contrast_number : ContrastRefusal → ℕ
contrast_number NotQualified = 29

abbrev pub read_number : ReadRefusal → ℕ
read_number Width = 17
read_number Squares = 18
read_number (Contrast why) = contrast_number why
read_number GlassLength = 30
read_number OutputLength = 31
read_number (NeitherLevel pixel) = 32

-- The pixel that a refusal to read is about, where it is about one.
abbrev pub read_place : ReadRefusal → Option ℕ
read_place Width = None
read_place Squares = None
read_place (Contrast why) = None
read_place GlassLength = None
read_place OutputLength = None
read_place (NeitherLevel pixel) = Some pixel
