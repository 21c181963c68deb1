use Rattle.std.proofs.Common.{not, ap, ◌∙◌}
use Rattle.cumulative.specs.Access.{numbers}
use Rattle.cumulative.proofs.QuestionFacts.{join_asked}
use Rattle.cumulative.proofs.ListFacts.{any_within}
use Rattle.cumulative.proofs.access.Access.can_join.Goals as goal

pub returns-then-not-has : goal.returns-then-not-has
returns-then-not-has c =
    let minimal = c.args.self.now.minimal.now in
    join_asked (numbers minimal) c.args.set.bits c.args.keyholder c.in-Some.larger.bits _ c.requires.least c.in-Some.ensures.members
    (ap not (c.is_qualified.ensures ∙ any_within minimal c.in-Some.larger.bits)) c.if-not-has.ensures
