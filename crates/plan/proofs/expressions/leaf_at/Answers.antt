-- `plan::expressions::leaf_at` meets its contract. Assumes nothing.
use Rattle.plan.proofs.ExpressionReads.{leaf-constant, leaf-variable}
use Rattle.plan.proofs.OneNumber.{number-of-field}
use Rattle.plan.proofs.expressions.leaf_at.Goals as goal

ruleset cases = (leaf-constant, leaf-variable, number-of-field)

pub returns-then-code-eq0 : goal.returns-then-code-eq0
returns-then-code-eq0 c = search cases

pub returns-else-code-eq0 : goal.returns-else-code-eq0
returns-else-code-eq0 c = search cases
