use Rattle.std.proofs.Common.{sym, ◌∙◌}
use Rattle.schemes.specs.AllOfFacts.{row_bit, row_last}
use Rattle.schemes.specs.declared.colour.Colour.TheVariants.{White, Black}
use Rattle.schemes.proofs.all_of.row_cell.Goals as goal

pub returns-then-k-width : goal.returns-then-k-width
returns-then-k-width c = c.has_bit.ensures ∙ sym (row_bit c.args.width c.args.colour c.args.k c.args.column c.if-k-width.true)

pub returns-in-White : goal.returns-in-White
returns-in-White c = rw c.in-White.is (c.is_odd.ensures ∙ sym (row_last c.args.width White c.args.k c.args.column c.if-k-width.false))

pub returns-in-Black : goal.returns-in-Black
returns-in-Black c =
    rw (c.in-Black.is, c.is_odd-in-Black.ensures) (sym (row_last c.args.width Black c.args.k c.args.column c.if-k-width.false))
