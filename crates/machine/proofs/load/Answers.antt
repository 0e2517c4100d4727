-- `machine::load` meets its contract. Assumes nothing.
use Rattle.machine.proofs.Called.{load-no, load-yes, load-short}
use Rattle.machine.proofs.load.Goals as goal

ruleset cases = (load-no, load-yes, load-short)

pub fresh_state-requires-in-Ok : goal.fresh_state-requires-in-Ok
fresh_state-requires-in-Ok c = search cases

pub returns-in-Err : goal.returns-in-Err
returns-in-Err c = search cases

pub returns-in-Ok : goal.returns-in-Ok
returns-in-Ok c = search cases
