-- `activity::sets` meets its contract. Assumes nothing.
use Rattle.activity.proofs.StepReturns.{set-raises, set-binds}
use Rattle.activity.proofs.sets.Goals as goal

ruleset cases = (set-raises, set-binds)

pub returns-in-Err : goal.returns-in-Err
returns-in-Err c = search cases

pub returns-in-Ok : goal.returns-in-Ok
returns-in-Ok c = search cases
