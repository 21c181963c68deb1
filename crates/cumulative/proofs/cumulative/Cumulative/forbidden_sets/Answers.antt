use Rattle.std.proofs.Common.{sym, ap, ◌∙◌, subst}
use Rattle.cumulative.specs.Access.{numbers, IsForbiddenList}
use Rattle.cumulative.specs.AccessFacts.{forbidden_list}
use Rattle.cumulative.proofs.cumulative.Cumulative.forbidden_sets.Goals as goal

pub returns-clause-exactly : goal.returns-clause-exactly
returns-clause-exactly c =
    let s = c.args.self.now in
    let minimal = numbers s.minimal.items in
    subst (IsForbiddenList s.n minimal) (sym (ap numbers c.deref.ensures.value ∙ s.found)) (forbidden_list s.n minimal)
