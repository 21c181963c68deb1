use Rattle.tapes.proofs.Permutations.{arranged_permutation}
use Rattle.tapes.proofs.orders.draw_order.Goals as goal

pub returns-else-is_none-clause-permutation : goal.returns-else-is_none-clause-permutation
returns-else-is_none-clause-permutation g c = arranged_permutation _ _ _ _ _ _ c.number_columns.ensures c.arrange-drawn.ensures
