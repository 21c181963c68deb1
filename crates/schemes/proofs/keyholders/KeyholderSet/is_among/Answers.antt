use Rattle.std.proofs.Common.{◌∙◌, arith}
use Rattle.schemes.proofs.KeyholderFacts.{among_decided}
use Rattle.schemes.proofs.keyholders.KeyholderSet.is_among.Goals as goal

pub returns : goal.returns
returns c = c.le.ensures ∙ rw c.everyone.ensures (among_decided c.args.n c.args.self.bits (omega arith))
