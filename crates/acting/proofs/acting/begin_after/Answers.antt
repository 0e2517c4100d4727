-- `acting::acting::begin_after` meets its contract. Assumes nothing.
use Rattle.acting.proofs.ChildReturns.{after-begins, after_none}
use Rattle.acting.proofs.acting.begin_after.Goals as goal

ruleset cases = (after-begins, after_none)

pub returns-then-child-e : goal.returns-then-child-e
returns-then-child-e c = search cases
