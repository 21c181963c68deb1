use Rattle.std.proofs.Common.{rules}
use Rattle.tapes.proofs.Runs.{below_rest}
use Rattle.tapes.proofs.noise.NoiseTapeTape.next.Goals as goal

pub invariant_of-self : goal.invariant_of-self
invariant_of-self c = record { below = search (rules, below_rest) }
