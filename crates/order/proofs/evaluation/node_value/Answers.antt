-- `order::evaluation::node_value` meets its contract. Assumes nothing.
use Rattle.order.proofs.EvaluationReturns.{value-here, value-beyond}
use Rattle.order.proofs.evaluation.node_value.Goals as goal

ruleset cases = (value-here, value-beyond)

pub returns-then-m-lt4096 : goal.returns-then-m-lt4096
returns-then-m-lt4096 c = search cases

pub returns-else-m-lt4096 : goal.returns-else-m-lt4096
returns-else-m-lt4096 c = search cases
