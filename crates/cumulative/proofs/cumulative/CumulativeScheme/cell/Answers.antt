use Rattle.std.proofs.Common.{◌∙◌}
use Rattle.cumulative.specs.Access.{numbers}
use Rattle.cumulative.proofs.RecordFacts.{cell_asked}
use Rattle.cumulative.proofs.cumulative.CumulativeScheme.cell.Goals as goal

pub returns : goal.returns
returns c =
    let s = c.args.self.now in
    c.has_black_row.ensures ∙ cell_asked s.n (numbers s.minimal.items) s.table.n c.args.colour c.args.keyholder c.args.column s.rows
