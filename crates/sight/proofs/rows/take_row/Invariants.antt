-- `sight::rows::take_row` meets its contract. Assumes nothing.
use Rattle.sight.proofs.Rowed.{Taking}
use Rattle.sight.proofs.rows.take_row.Given as goal

abbrev pub invariant-loop-j : goal.invariant-loop-j
invariant-loop-j l = Taking l.table l.slot l.k l.asked l.unchecked l.letters l.waiting l.least l.initial.c l.j l.c
