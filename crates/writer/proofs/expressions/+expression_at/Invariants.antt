-- Checking the rows of an expression meets its contract: the levels left fall. Assumes nothing.

use Rattle.writer.proofs.expressions.+expression_at.Given as goal

abbrev pub decreases-expression_at : goal.decreases-expression_at
decreases-expression_at l = l.depth
