-- `acting::acting::in_scope` meets its contract. Assumes nothing.
use Rattle.acting.proofs.CombineReturns.{in-through, in-body, in-fault, in-undo}
use Rattle.acting.proofs.acting.in_scope.Goals as goal

ruleset cases = (in-through, in-body, in-fault, in-undo)

pub returns-then-goes_through : goal.returns-then-goes_through
returns-then-goes_through c = search cases

pub returns-else-goes_through : goal.returns-else-goes_through
returns-else-goes_through c = search cases

pub returns-then-t-undo_row : goal.returns-then-t-undo_row
returns-then-t-undo_row c = search cases

pub returns-else-t-undo_row : goal.returns-else-t-undo_row
returns-else-t-undo_row c = search cases
