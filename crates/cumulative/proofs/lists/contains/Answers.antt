use Rattle.cumulative.proofs.QuestionFacts.{within_asked}
use Rattle.cumulative.proofs.lists.contains.Goals as goal

pub returns : goal.returns
returns c = within_asked c.args.other.bits c.args.set.bits c.contains.result c.contains.ensures
