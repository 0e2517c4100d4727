-- `acting::judging::settled` meets its contract. Assumes nothing.
use Rattle.settling.specs.Answering.{weight_in}
use Rattle.acting.proofs.JudgingReturns.{Settling}
use Rattle.acting.proofs.judging.settled.Given as goal

abbrev pub invariant-loop-o : goal.invariant-loop-o
invariant-loop-o l = Settling l.table l.activities l.initial.m l.m

abbrev pub decreases-loop-o : goal.decreases-loop-o
decreases-loop-o l = weight_in l.table l.activities l.m.order.root l.m.order.marks
