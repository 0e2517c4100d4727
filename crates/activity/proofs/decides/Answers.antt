-- `activity::decides` meets its contract. Assumes nothing.
use Rattle.activity.proofs.StepReturns.{decide-raises, decide-over, decide-again}
use Rattle.activity.proofs.decides.Goals as goal

ruleset cases = (decide-raises, decide-over, decide-again)

pub returns-in-Err : goal.returns-in-Err
returns-in-Err c = search cases

pub returns-in-Ok-eq0 : goal.returns-in-Ok-eq0
returns-in-Ok-eq0 c = search cases

pub returns-in-Ok : goal.returns-in-Ok
returns-in-Ok c = search cases
