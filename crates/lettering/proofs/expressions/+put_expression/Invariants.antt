-- `put_expression`, which calls itself, ends: the measure is the levels that are left. Assumes nothing.
use Rattle.lettering.proofs.expressions.+put_expression.Given as goal

abbrev pub decreases-put_expression : goal.decreases-put_expression
decreases-put_expression g l = l.depth
