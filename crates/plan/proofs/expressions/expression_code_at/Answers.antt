-- `plan::expressions::expression_code_at` meets its contract. Assumes nothing.
use Rattle.plan.proofs.ExpressionReads.{code-handed, code-unknown, code-known}
use Rattle.plan.proofs.OneNumber.{returned, number-none, number_fits}
use Rattle.plan.proofs.expressions.expression_code_at.Goals as goal

ruleset cases = (code-handed, code-unknown, code-known, number-none, number_fits)

pub returns-in_err-read : goal.returns-in_err-read
returns-in_err-read c = rw (returned c.from_residual.ensures.1) (search (cases, c.in_err-read.was))

pub returns-then-read-gt5 : goal.returns-then-read-gt5
returns-then-read-gt5 c = search (cases, c.in_ok-read.was)

pub returns : goal.returns
returns c = search (cases, c.in_ok-read.was)
