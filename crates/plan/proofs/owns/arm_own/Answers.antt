-- `plan::owns::arm_own` meets its contract. Assumes nothing.
use Rattle.plan.specs.Nodes.{is_arm}
use Rattle.plan.proofs.OwnReads.{arm-no-partner, arm-257, arm-partner, room-arm, value-below}
use Rattle.plan.proofs.OneNumber.{returned}
use Rattle.plan.proofs.owns.arm_own.Goals as goal

ruleset cases = (arm-no-partner, arm-257, arm-partner, room-arm, value-below, is_arm)

pub returns-then-n-ge256 : goal.returns-then-n-ge256
returns-then-n-ge256 c = search (cases, c.in_ok-partner.was)

pub exchange_own-requires : goal.exchange_own-requires
exchange_own-requires c = search (cases, c.in_ok-partner.was)

pub returns-in_err-partner : goal.returns-in_err-partner
returns-in_err-partner c = rw (returned c.from_residual.ensures.1) (search (cases, c.in_err-partner.was))

pub returns : goal.returns
returns c = search (cases, c.in_ok-partner.was)
