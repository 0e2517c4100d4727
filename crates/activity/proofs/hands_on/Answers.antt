-- `activity::hands_on` meets its contract. Assumes nothing.
use Rattle.activity.proofs.StepReturns.{hands-is}
use Rattle.activity.proofs.hands_on.Goals as goal

ruleset cases = (hands-is)

pub returns : goal.returns
returns c = search cases
