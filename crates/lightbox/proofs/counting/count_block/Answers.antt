use Rattle.std.proofs.Common.{ℕ, Bool, ◌∙◌, arith}
use Rattle.schemes.specs.PackedRows.{bit_at}
use Rattle.schemes.specs.Strips.{square_bit}
use Rattle.lightbox.proofs.CountFacts.{squares_added}
use Rattle.lightbox.proofs.counting.count_block.Goals as goal

pub returns : goal.returns
returns c = c.add_squares.ensures ∙ squares_added (λ p. bit_at c.args.glass.now (square_bit c.args.columns c.args.pixel p)) c.args.columns (omega arith)
