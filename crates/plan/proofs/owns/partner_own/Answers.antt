-- `plan::owns::partner_own` meets its contract. Assumes nothing.
use Rattle.plan.proofs.OwnReads.{message-no-partner, message-partner, room-on, value-below}
use Rattle.plan.proofs.OneNumber.{returned}
use Rattle.plan.proofs.owns.partner_own.Goals as goal

ruleset cases = (message-no-partner, message-partner, room-on, value-below)

pub exchange_own-requires : goal.exchange_own-requires
exchange_own-requires c = search (cases, c.in_ok-partner.was)

pub returns-in_err-partner : goal.returns-in_err-partner
returns-in_err-partner c = rw (returned c.from_residual.ensures.1) (search (cases, c.in_err-partner.was))

pub returns : goal.returns
returns c = search (cases, c.in_ok-partner.was)
