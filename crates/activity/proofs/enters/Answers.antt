-- `activity::enters` meets its contract. Assumes nothing.
use Rattle.activity.proofs.StepReturns.{enters-over, enters-runs}
use Rattle.activity.proofs.enters.Goals as goal

ruleset cases = (enters-over, enters-runs)

pub returns-then-is_over : goal.returns-then-is_over
returns-then-is_over c = search cases

pub returns-else-is_over : goal.returns-else-is_over
returns-else-is_over c = search cases
