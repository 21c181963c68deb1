use Rattle.std.proofs.Common.{◌&&◌, nat_lt}
use Rattle.maker.specs.Filling.{Blackened, one_square}
use Rattle.maker.proofs.films.Strips.set_square.Given as goal

abbrev pub invariant-loop-k : goal.invariant-loop-k
invariant-loop-k l = Blackened l.self.keyholders l.self.size l.initial.out l.out (λ k b. nat_lt k l.k && one_square l.place l.cells k b)
