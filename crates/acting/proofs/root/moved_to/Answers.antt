-- `acting::root::moved_to` meets its contract. Assumes nothing.
use Rattle.acting.proofs.RootReturns.{moved-well, moved-handled, moved-failed, moved-left, moved_on, moved-still}
use Rattle.acting.proofs.root.moved_to.Goals as goal

ruleset cases = (moved-well, moved-handled, moved-failed, moved-left, moved_on, moved-still)

pub returns-then-order-eq-DONE : goal.returns-then-order-eq-DONE
returns-then-order-eq-DONE c = search cases

pub returns-else-order-eq-DONE : goal.returns-else-order-eq-DONE
returns-else-order-eq-DONE c = search cases

pub returns-in-Over : goal.returns-in-Over
returns-in-Over c = search cases

pub returns-in-Raising : goal.returns-in-Raising
returns-in-Raising c = search cases

pub returns-in-Leaving : goal.returns-in-Leaving
returns-in-Leaving c = search cases

pub returns-in-Undone : goal.returns-in-Undone
returns-in-Undone c = search cases
