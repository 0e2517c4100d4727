-- `acting::acting::follows` meets its contract. Assumes nothing.
use Rattle.acting.proofs.ChildReturns.{follows-over, follows-runs}
use Rattle.acting.proofs.acting.follows.Goals as goal

ruleset cases = (follows-over, follows-runs)

pub returns-then-is_over : goal.returns-then-is_over
returns-then-is_over c = search cases

pub returns-else-is_over : goal.returns-else-is_over
returns-else-is_over c = search cases
