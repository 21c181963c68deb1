use Rattle.std.proofs.Common.{◌≡◌, take}
use Rattle.tapes.specs.Orders.{columns}
use Rattle.tapes.proofs.orders.number_columns.Given as goal

abbrev pub invariant-loop-column : goal.invariant-loop-column
invariant-loop-column l = take l.column l.order ≡ columns l.column
