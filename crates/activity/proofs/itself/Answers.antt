-- `activity::itself` meets its contract. Assumes nothing.
use Rattle.activity.proofs.StepReturns.{itself-far, itself-of, itself-close, itself-hands, itself-send, itself-receive, itself-raises, itself-leaves, itself-runs}
use Rattle.activity.proofs.itself.Goals as goal

ruleset cases = (itself-far, itself-of, itself-close, itself-hands, itself-send, itself-receive, itself-raises, itself-leaves, itself-runs)

pub returns-then-k-ge256 : goal.returns-then-k-ge256
returns-then-k-ge256 c = search cases

pub returns-in-1 : goal.returns-in-1
returns-in-1 c = search cases

pub returns-in-2 : goal.returns-in-2
returns-in-2 c = search cases

pub returns-in-3 : goal.returns-in-3
returns-in-3 c = search cases

pub returns-in-4 : goal.returns-in-4
returns-in-4 c = search cases

pub returns-in-13 : goal.returns-in-13
returns-in-13 c = search cases

pub returns-in-5 : goal.returns-in-5
returns-in-5 c = search cases

pub returns-in-6 : goal.returns-in-6
returns-in-6 c = search cases

pub returns-in-7 : goal.returns-in-7
returns-in-7 c = search cases

pub returns-in-11 : goal.returns-in-11
returns-in-11 c = search cases

pub returns-in-12 : goal.returns-in-12
returns-in-12 c = search cases

pub returns-in-255 : goal.returns-in-255
returns-in-255 c = search cases

pub returns-in_default : goal.returns-in_default
returns-in_default c = search cases
