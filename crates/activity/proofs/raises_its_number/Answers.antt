-- `activity::raises_its_number` meets its contract. Assumes nothing.
use Rattle.activity.proofs.StepReturns.{numbered-is}
use Rattle.activity.proofs.raises_its_number.Goals as goal

pub returns : goal.returns
returns c = numbered-is _ _ _ c.try_from.result c.try_from.ensures c.unwrap_or-number.ensures c.raises.ensures
