-- `plan::owns::raise_own` meets its contract. Assumes nothing.
use borrow.Author.Rules.{rules}
use Rattle.plan.specs.Store.{store, padded}
use Rattle.plan.proofs.OwnReads.{raise-no-number, raise-number, value-below}
use Rattle.plan.proofs.OneNumber.{returned}
use Rattle.plan.proofs.owns.raise_own.Goals as goal

ruleset cases = (raise-no-number, raise-number, value-below)

pub write_row-requires : goal.write_row-requires
unfolding store padded
write_row-requires c = (search (cases, c.in_ok-fault.was), search rules)

pub returns-in_err-fault : goal.returns-in_err-fault
unfolding store padded
returns-in_err-fault c = rw (returned c.from_residual.ensures.1) (search (cases, c.in_err-fault.was))

pub returns : goal.returns
unfolding store padded
returns c = search (cases, c.in_ok-fault.was)
