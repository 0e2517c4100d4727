-- `order::parts::part_row` meets its contract. Assumes nothing.
use Rattle.order.proofs.PartReturns.{Passing}
use Rattle.order.proofs.parts.part_row.Given as goal

abbrev pub invariant-loop : goal.invariant-loop
invariant-loop l = Passing l.table l.c l.i l.j l.counter
