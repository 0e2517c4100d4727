-- `plan::owns::set_own` meets its contract. Assumes nothing.
use Rattle.plan.specs.Nodes.{sets}
use Rattle.plan.proofs.OwnReads.{set-no-variable, set-flagged, set-plain, variable-below, room-on}
use Rattle.plan.proofs.OneNumber.{returned}
use Rattle.plan.proofs.owns.set_own.Goals as goal

ruleset cases = (set-no-variable, set-flagged, set-plain, variable-below, room-on, sets)

pub returns-in_err-variable : goal.returns-in_err-variable
returns-in_err-variable c = rw (returned c.from_residual.ensures.1) (search (cases, c.in_err-variable.was))

pub bounds-correlation-variable : goal.bounds-correlation-variable
bounds-correlation-variable c = search (cases, c.in_ok-variable.was)

pub returns-then-correlation-variable-eq1 : goal.returns-then-correlation-variable-eq1
returns-then-correlation-variable-eq1 c = search (cases, c.in_ok-variable.was)

pub expression_own-requires : goal.expression_own-requires
expression_own-requires c = search (cases, c.in_ok-variable.was)

pub returns : goal.returns
returns c = search (cases, c.in_ok-variable.was)
