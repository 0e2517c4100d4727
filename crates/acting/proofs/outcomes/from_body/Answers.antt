-- `acting::outcomes::from_body` meets its contract. Assumes nothing.
use Rattle.acting.proofs.OutcomeReturns.{from-running, from-over, from-raising, from-leaving, from-undone, from-undo_raising}
use Rattle.acting.proofs.outcomes.from_body.Goals as goal

ruleset cases = (from-running, from-over, from-raising, from-leaving, from-undone, from-undo_raising)

pub returns-in-Running : goal.returns-in-Running
returns-in-Running c = search cases

pub returns-in-Over : goal.returns-in-Over
returns-in-Over c = search cases

pub returns-in-Raising : goal.returns-in-Raising
returns-in-Raising c = search cases

pub returns-in-Leaving : goal.returns-in-Leaving
returns-in-Leaving c = search cases

pub returns-in-Undone : goal.returns-in-Undone
returns-in-Undone c = search cases

pub returns-in-UndoRaising : goal.returns-in-UndoRaising
returns-in-UndoRaising c = search cases
