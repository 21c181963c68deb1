use Rattle.std.proofs.Common.{not, sym, ap, ◌∙◌}
use Rattle.cumulative.specs.Access.{numbers}
use Rattle.cumulative.specs.AccessFacts.{maximal_not_qualified}
use Rattle.cumulative.proofs.QuestionFacts.{maximal_asked}
use Rattle.cumulative.proofs.ListFacts.{any_within}
use Rattle.cumulative.proofs.access.Access.is_maximal.Goals as goal

pub returns-then-not-is_qualified : goal.returns-then-not-is_qualified
returns-then-not-is_qualified c =
    let minimal = c.args.self.now.minimal.now in
    ap not c.can_grow.ensures
    ∙ maximal_asked c.args.self.now.n (numbers minimal) c.args.set.bits c.requires (sym (any_within minimal c.args.set.bits) ∙ sym c.if-not-is_qualified.ensures)

pub returns-else-not-is_qualified : goal.returns-else-not-is_qualified
returns-else-not-is_qualified c =
    let minimal = c.args.self.now.minimal.now in
    ap not (c.is_qualified.ensures ∙ sym c.if-not-is_qualified.ensures)
    ∙ sym (maximal_not_qualified c.args.self.now.n (numbers minimal) c.args.set.bits c.requires (sym (any_within minimal c.args.set.bits) ∙ sym c.if-not-is_qualified.ensures))
