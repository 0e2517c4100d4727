-- `activity::takes` meets its contract. Assumes nothing.
use Rattle.activity.proofs.StepReturns.{takes-is}
use Rattle.activity.proofs.takes.Goals as goal

ruleset cases = (takes-is)

pub returns : goal.returns
returns c = search cases
