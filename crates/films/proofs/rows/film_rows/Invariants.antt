use Rattle.std.proofs.Common.{◌≡◌, vec_items}
use Rattle.films.specs.FilmRows.{film_of}
use Rattle.films.proofs.rows.film_rows.Given as goal

abbrev pub invariant-loop-y : goal.invariant-loop-y
invariant-loop-y l = vec_items l.rows ≡ film_of l.n l.size l.strips l.fn.keyholder l.y
