-- `order::evaluation::operation_worth` meets its contract. Assumes nothing.
use Rattle.order.proofs.EvaluationReturns.{sum-made, difference-made, equal-made, less-made}
use Rattle.order.proofs.evaluation.operation_worth.Goals as goal

ruleset cases = (sum-made, difference-made, equal-made, less-made)

pub returns-in-2 : goal.returns-in-2
returns-in-2 c = search cases

pub returns-in-3 : goal.returns-in-3
returns-in-3 c = search cases

pub returns-in-4 : goal.returns-in-4
returns-in-4 c = search cases

pub returns-in_default : goal.returns-in_default
returns-in_default c = search cases
