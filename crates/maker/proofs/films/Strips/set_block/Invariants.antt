use Rattle.maker.specs.Filling.{Blackened, block}
use Rattle.maker.proofs.films.Strips.set_block.Given as goal

abbrev pub invariant-loop-p : goal.invariant-loop-p
invariant-loop-p l = Blackened l.self.keyholders l.self.size l.initial.out l.out (block l.table l.order l.start l.p)
