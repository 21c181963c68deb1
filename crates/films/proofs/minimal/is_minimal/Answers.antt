use Rattle.std.proofs.Common.{not, sym, ap, ◌∙◌}
use Rattle.films.proofs.MinimalFacts.{minimal_unqualified, minimal_asked}
use Rattle.films.proofs.minimal.is_minimal.Goals as goal

pub returns-then-qualified : goal.returns-then-qualified
returns-then-qualified g c = ap not c.has_qualified_part.ensures ∙ minimal_asked (g.S.Scheme.means c.args.scheme.now) c.args.set.bits (sym c.if-qualified.ensures)

pub returns-else-qualified : goal.returns-else-qualified
returns-else-qualified g c = c.if-qualified.false ∙ minimal_unqualified (g.S.Scheme.means c.args.scheme.now) c.args.set.bits (sym c.if-qualified.ensures)
