-- `plan::root::correlation_at` meets its contract. Assumes nothing.
use Rattle.plan.proofs.HeadReads.{correlating-starts, correlating-done, correlating-refused, correlating-again, correlated-below, correlated-fits, correlated-next}
use Rattle.plan.proofs.OneNumber.{returned}
use Rattle.plan.proofs.root.correlation_at.Goals as goal

ruleset cases = (correlating-starts, correlating-done, correlating-refused, correlating-again)

ruleset room = (correlated-below, correlated-fits, correlated-next)

pub loop-init : goal.loop-init
loop-init c = search cases

pub returns-in_err-f : goal.returns-in_err-f
returns-in_err-f c = rw (returned c.from_residual.ensures.1) (search (cases, c.in_err-f.was))

pub overflow_cast-flags : goal.overflow_cast-flags
overflow_cast-flags c = search (room, c.in_ok-f.was)

pub bounds-flags-f : goal.bounds-flags-f
bounds-flags-f c = search (room, c.in_ok-f.was)

pub overflow_add-least : goal.overflow_add-least
overflow_add-least c = search (room, c.in_ok-f.was)

pub loop-preserved : goal.loop-preserved
loop-preserved c = search (cases, c.in_ok-f.was)

pub returns : goal.returns
returns c = search cases
