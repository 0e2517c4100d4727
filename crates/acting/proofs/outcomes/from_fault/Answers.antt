-- `acting::outcomes::from_fault` meets its contract. Assumes nothing.
use Rattle.acting.proofs.OutcomeReturns.{fault-over, fault-raising, fault-leaving, fault-still}
use Rattle.acting.proofs.outcomes.from_fault.Goals as goal

ruleset cases = (fault-over, fault-raising, fault-leaving, fault-still)

pub returns-in-Over : goal.returns-in-Over
returns-in-Over c = search cases

pub returns-in-Raising : goal.returns-in-Raising
returns-in-Raising c = search cases

pub returns-in-Leaving : goal.returns-in-Leaving
returns-in-Leaving c = search cases

pub returns-in-Running : goal.returns-in-Running
returns-in-Running c = search cases
