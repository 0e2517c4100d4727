-- `activity::repeats` meets its contract. Assumes nothing.
use Rattle.activity.proofs.StepReturns.{repeat-over, repeat_runs}
use Rattle.activity.proofs.repeats.Goals as goal

ruleset cases = (repeat-over, repeat_runs)

pub returns-then-is_over : goal.returns-then-is_over
returns-then-is_over c = search cases

pub returns-else-is_over : goal.returns-else-is_over
returns-else-is_over c = search cases
