-- `acting::step_order` meets its contract. Assumes nothing.
use Rattle.acting.proofs.JudgingReturns.{step-settles}
use Rattle.acting.proofs.step_order.Goals as goal

ruleset cases = (step-settles)

pub returns : goal.returns
returns c = search cases
