use Rattle.std.proofs.Common.{arith}
use Rattle.maker.proofs.Squares.{strip_more}
use Rattle.maker.proofs.films.Strips.set_square.Goals as goal

pub loop-k-preserved : goal.loop-k-preserved
loop-k-preserved c = strip_more c.args.self.keyholders c.args.self.size c.args.place c.args.cells c.args.out.now c.requires.place c.loop-k.k c.loop-k.out c.loop-k.invariant (omega arith) (omega arith)
