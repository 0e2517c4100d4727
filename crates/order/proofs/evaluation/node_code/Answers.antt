-- `order::evaluation::node_code` meets its contract. Assumes nothing.
use Rattle.order.proofs.EvaluationReturns.{code_here, code-beyond}
use Rattle.order.proofs.evaluation.node_code.Goals as goal

ruleset cases = (code_here, code-beyond)

pub returns-then-m-lt4096 : goal.returns-then-m-lt4096
returns-then-m-lt4096 c = search cases

pub returns-else-m-lt4096 : goal.returns-else-m-lt4096
returns-else-m-lt4096 c = search cases
