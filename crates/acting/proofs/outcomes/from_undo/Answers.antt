-- `acting::outcomes::from_undo` meets its contract. Assumes nothing.
use Rattle.acting.proofs.OutcomeReturns.{up-over, up-raising, up-still}
use Rattle.acting.proofs.outcomes.from_undo.Goals as goal

ruleset cases = (up-over, up-raising, up-still)

pub returns-in-Over : goal.returns-in-Over
returns-in-Over c = search cases

pub returns-in-Raising : goal.returns-in-Raising
returns-in-Raising c = search cases

pub returns-in-Running : goal.returns-in-Running
returns-in-Running c = search cases
