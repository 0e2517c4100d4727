-- `plan::owns::code_at` meets its contract. Assumes nothing.
use Rattle.plan.proofs.OwnReads.{activity-code-handed, code-unknown, code-misplaced, code-overrun, code-good}
use Rattle.plan.proofs.OneNumber.{returned, number-none, number_fits}
use Rattle.plan.proofs.owns.code_at.Goals as goal

ruleset cases = (activity-code-handed, code-unknown, code-misplaced, code-overrun, code-good, number-none, number_fits)

pub returns-in_err-read : goal.returns-in_err-read
returns-in_err-read c = rw (returned c.from_residual.ensures.1) (search (cases, c.in_err-read.was))

pub returns-then-unknown : goal.returns-then-unknown
returns-then-unknown c = search (cases, c.in_ok-read.was)

pub returns-then-misplaced : goal.returns-then-misplaced
returns-then-misplaced c = search (cases, c.in_ok-read.was)

pub returns-then-overrun : goal.returns-then-overrun
returns-then-overrun c = search (cases, c.in_ok-read.was)

pub returns : goal.returns
returns c = search (cases, c.in_ok-read.was)
