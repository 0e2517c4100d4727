-- `plan::agree::hear_row` meets its contract. Assumes nothing.
use Rattle.plan.proofs.HearReturns.{row-silent, row-heard}
use Rattle.plan.proofs.agree.hear_row.Goals as goal

ruleset cases = (row-silent, row-heard)

pub returns-then-skip-gt0 : goal.returns-then-skip-gt0
returns-then-skip-gt0 c = search cases

pub returns-else-skip-gt0 : goal.returns-else-skip-gt0
returns-else-skip-gt0 c = search cases
