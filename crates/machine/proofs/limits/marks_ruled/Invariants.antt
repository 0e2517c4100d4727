-- `machine::limits::marks_ruled` meets its contract. The loop's invariant: all are within their limits if the largest so far is, and all that are left are. Assumes nothing.
use Rattle.machine.proofs.Ruled.{Ruling}
use Rattle.machine.proofs.limits.marks_ruled.Given as goal

abbrev pub invariant-loop-x : goal.invariant-loop-x
invariant-loop-x l = Ruling l.marks l.x-index l.largest
