use Rattle.std.proofs.Common.{arith}
use Rattle.std.proofs.lemmas.Bool.Decides.{nat_tests}
use Rattle.schemes.proofs.KeyholderFacts.{size_among}
use Rattle.schemes.proofs.two_of.TwoOfScheme.qualified.Goals as goal

pub returns-then-is_among : goal.returns-then-is_among
returns-then-is_among c = grind (arith, nat_tests, size_among)
