-- `order::evaluation::evaluate_at` meets its contract. Assumes nothing.

use Rattle.order.proofs.evaluation.+evaluate_at.Given as goal

abbrev pub decreases-evaluate_at : goal.decreases-evaluate_at
decreases-evaluate_at l = l.depth
