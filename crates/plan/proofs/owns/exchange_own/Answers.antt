-- `plan::owns::exchange_own` meets its contract. Assumes nothing.
use Rattle.plan.proofs.OwnReads.{exchange-no-operation, exchange-no-tuple, exchange-read}
use Rattle.plan.proofs.OneNumber.{returned}
use Rattle.plan.proofs.owns.exchange_own.Goals as goal

ruleset cases = (exchange-no-operation, exchange-no-tuple, exchange-read)

pub returns-in_err-operation : goal.returns-in_err-operation
returns-in_err-operation c = rw (returned c.from_residual.ensures.1) (search (cases, c.in_err-operation.was))

pub returns-in_err-t : goal.returns-in_err-t
returns-in_err-t c = rw (returned c.from_residual-in_err-t.ensures.1) (search (cases, c.in_err-t.was, c.in_ok-operation.was))

pub returns : goal.returns
returns c = search (cases, c.in_ok-operation.was, c.in_ok-t.was)
