use Rattle.std.proofs.Common.{◌^◌, Bool, not, ◌||◌, ltb, sym, ap, ◌∙◌, arith}
use Rattle.std.proofs.lemmas.Bool.{or_left}
use Rattle.cumulative.proofs.QuestionFacts.{empty_asked}
use Rattle.cumulative.proofs.lists.is_improper.Goals as goal

pub returns-then-is_empty : goal.returns-then-is_empty
returns-then-is_empty c =
    let e = empty_asked c.args.set.bits c.is_empty.result (omega arith) c.is_empty.ensures in
    c.if-is_empty.true ∙ sym (or_left _ _ (e ∙ c.if-is_empty.true))

pub returns-else-is_empty : goal.returns-else-is_empty
returns-else-is_empty c =
    let e = empty_asked c.args.set.bits c.is_empty.result (omega arith) c.is_empty.ensures in
    ap not c.is_among.ensures
    ∙ sym (ap (λ (x : Bool). x || not (ltb c.args.set.bits (2 ^ c.args.n))) (e ∙ c.if-is_empty.false))
