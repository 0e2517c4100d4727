-- `plan::expressions::expression_at` meets its contract. Each call within has a level less. Assumes nothing.

use Rattle.plan.proofs.expressions.+expression_at.Given as goal

abbrev pub decreases-expression_at : goal.decreases-expression_at
decreases-expression_at l = l.depth
