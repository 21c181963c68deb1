-- Why films are not read back: the number of each refusal, and its place where it has one. They are those of the light box.
use Rattle.std.specs.Prelude.{ℕ, None, Option}
use Rattle.lightbox.specs.Refusals.{lay_number, read_number, read_place}
use Rattle.readback.specs.declared.refusals.ReadBackRefusal.{ReadBackRefusal}
use Rattle.readback.specs.declared.refusals.ReadBackRefusal.TheVariants.{Lay, Read}

abbrev pub read_back_number : ReadBackRefusal → ℕ
read_back_number (Lay why) = lay_number why
read_back_number (Read why) = read_number why

-- The pixel that a refusal is about, where it is about one.
abbrev pub read_back_place : ReadBackRefusal → Option ℕ
read_back_place (Lay why) = None
read_back_place (Read why) = read_place why
