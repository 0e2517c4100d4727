-- `acting::root::acted` meets its contract. Assumes nothing.
use Rattle.acting.proofs.RootReturns.{step-body, step-fault}
use Rattle.acting.proofs.root.acted.Goals as goal

ruleset cases = (step-body, step-fault)

pub returns-then-t-fault : goal.returns-then-t-fault
returns-then-t-fault c = search cases

pub returns-else-t-fault : goal.returns-else-t-fault
returns-else-t-fault c = search cases
