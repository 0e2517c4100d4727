-- `machine::limits::marks_ruled` meets its contract. The loop's invariant: all are within their limits if the largest so far is, and all that are left are. Assumes nothing.
use Rattle.machine.proofs.Ruled.{ruling-starts, ruling-more, ruling-done}
use Rattle.machine.proofs.limits.marks_ruled.Goals as goal

ruleset cases = (ruling-starts, ruling-more, ruling-done)

pub loop-x-init : goal.loop-x-init
loop-x-init c = search cases

pub loop-x-preserved : goal.loop-x-preserved
loop-x-preserved c = search cases

pub returns : goal.returns
returns c = search cases
