-- `plan::owns::activity_own` meets its contract. Assumes nothing.
use Rattle.plan.proofs.OwnReads.{activity-no-code, activity-parts, room-code}
use Rattle.plan.proofs.OneNumber.{returned}
use Rattle.plan.proofs.owns.activity_own.Goals as goal

ruleset cases = (activity-no-code, activity-parts, room-code)

pub parts_own-requires : goal.parts_own-requires
parts_own-requires c = search (cases, c.in_ok-code.was)

pub returns-in_err-code : goal.returns-in_err-code
returns-in_err-code c = rw (returned c.from_residual.ensures.1) (search (cases, c.in_err-code.was))

pub returns : goal.returns
returns c = search (cases, c.in_ok-code.was)
