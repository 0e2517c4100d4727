-- `acting::outcomes::undo_over` meets its contract. Assumes nothing.
use Rattle.acting.proofs.OutcomeReturns.{undone-next, undone-ends, undone-not}
use Rattle.acting.proofs.outcomes.undo_over.Goals as goal

ruleset cases = (undone-next, undone-ends, undone-not)

pub returns-then-state_of-eq-UNDOING : goal.returns-then-state_of-eq-UNDOING
returns-then-state_of-eq-UNDOING c = search cases

pub returns-then-mark_of-eq-WITHDRAWING : goal.returns-then-mark_of-eq-WITHDRAWING
returns-then-mark_of-eq-WITHDRAWING c = search cases

pub returns-else-mark_of-eq-WITHDRAWING : goal.returns-else-mark_of-eq-WITHDRAWING
returns-else-mark_of-eq-WITHDRAWING c = search cases
