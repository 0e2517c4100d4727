-- `machine::limits::at_most` meets its contract. The loop's invariant: all are at most that if the largest so far is, and all that are left are. Assumes nothing.
use Rattle.machine.proofs.Ruled.{most-starts, most-more, most-done}
use Rattle.machine.proofs.limits.at_most.Goals as goal

ruleset cases = (most-starts, most-more, most-done)

pub loop-x-init : goal.loop-x-init
loop-x-init c = search cases

pub loop-x-preserved : goal.loop-x-preserved
loop-x-preserved c = search cases

pub returns : goal.returns
returns c = search cases
