-- `plan::owns::expression_own` meets its contract. Assumes nothing.
use Rattle.plan.specs.Store.{store, padded}
use Rattle.plan.proofs.OwnReads.{own-no-expression, own-expression}
use Rattle.plan.proofs.OneNumber.{returned}
use Rattle.plan.proofs.owns.expression_own.Goals as goal

ruleset cases = (own-no-expression, own-expression)

pub returns-in_err-e : goal.returns-in_err-e
unfolding store padded
returns-in_err-e c = rw (returned c.from_residual.ensures.1) (search (cases, c.in_err-e.was))

pub returns : goal.returns
unfolding store padded
returns c = search (cases, c.in_ok-e.was)
