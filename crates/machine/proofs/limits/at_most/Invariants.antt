-- `machine::limits::at_most` meets its contract. The loop's invariant: all are at most that if the largest so far is, and all that are left are. Assumes nothing.
use Rattle.machine.proofs.Ruled.{Most}
use Rattle.machine.proofs.limits.at_most.Given as goal

abbrev pub invariant-loop-x : goal.invariant-loop-x
invariant-loop-x l = Most l.most l.s l.x-index l.largest
