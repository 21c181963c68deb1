use Rattle.maker.proofs.Fillings.{Filling}
use Rattle.maker.proofs.films.fill_pixels.Given as goal

abbrev pub invariant-loop-x : goal.invariant-loop-x
invariant-loop-x g l = Filling (g.S.Scheme.means l.scheme) l.row.width l.strips.size l.row.pixels.now (g.T.Tape.bytes l.initial.tape) l.x (g.T.Tape.bytes l.tape) l.out
