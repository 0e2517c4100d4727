-- `activity::chooses` meets its contract. Assumes nothing.
use Rattle.activity.proofs.StepReturns.{choose-raises, choose-first, choose-second}
use Rattle.activity.proofs.chooses.Goals as goal

ruleset cases = (choose-raises, choose-first, choose-second)

pub returns-in-Err : goal.returns-in-Err
returns-in-Err c = search cases

pub returns-in-Ok-eq0 : goal.returns-in-Ok-eq0
returns-in-Ok-eq0 c = search cases

pub returns-in-Ok : goal.returns-in-Ok
returns-in-Ok c = search cases
