-- `acting::outcomes::body_raised` meets its contract. Assumes nothing.
use Rattle.acting.proofs.OutcomeReturns.{raised-faults, raised-absorbed}
use Rattle.acting.proofs.outcomes.body_raised.Goals as goal

ruleset cases = (raised-faults, raised-absorbed)

pub returns-then-is_open : goal.returns-then-is_open
returns-then-is_open c = search cases

pub returns-else-is_open : goal.returns-else-is_open
returns-else-is_open c = search cases
