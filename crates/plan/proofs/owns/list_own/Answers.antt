-- `plan::owns::list_own` meets its contract. Assumes nothing.
use Rattle.plan.proofs.OwnReads.{list-no-count, list_counted}
use Rattle.plan.proofs.OneNumber.{returned}
use Rattle.plan.proofs.owns.list_own.Goals as goal

ruleset cases = (list-no-count, list_counted)

pub returns-in_err-count : goal.returns-in_err-count
returns-in_err-count c = rw (returned c.from_residual.ensures.1) (search (cases, c.in_err-count.was))

pub returns : goal.returns
returns c = search (cases, c.in_ok-count.was)
