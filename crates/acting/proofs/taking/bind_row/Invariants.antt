-- `acting::taking::bind_row` meets its contract. Assumes nothing.
use Rattle.acting.proofs.TakeReturns.{Taking}
use Rattle.acting.proofs.taking.bind_row.Given as goal

abbrev pub invariant-loop-i : goal.invariant-loop-i
invariant-loop-i l = Taking l.table l.k l.values l.fn.order l.i l.o
