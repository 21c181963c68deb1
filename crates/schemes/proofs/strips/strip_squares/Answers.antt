use Rattle.std.proofs.Common.{sym}
use Rattle.schemes.proofs.StripFacts.{strip_squares_are}
use Rattle.schemes.proofs.strips.strip_squares.Goals as goal

pub returns : goal.returns
returns c = rw (c.from.ensures, c.from-2.ensures) (sym (strip_squares_are c.args.columns c.args.pixels))
