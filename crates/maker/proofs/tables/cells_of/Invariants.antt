use Rattle.std.proofs.Common.{◌≡◌, ℕ, ◌<◌, slice_index}
use Rattle.maker.specs.Filling.{cells_of}
use Rattle.maker.proofs.tables.cells_of.Given as goal

abbrev pub invariant-loop-column : goal.invariant-loop-column
invariant-loop-column g l = (k : ℕ) → k < l.column → slice_index l.cells-items k ≡ cells_of (g.S.Scheme.means l.scheme) l.colour k
