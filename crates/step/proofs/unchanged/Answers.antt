-- `step::unchanged` meets its contract. Assumes nothing.
use Rattle.step.proofs.unchanged.Goals as goal

pub returns : goal.returns
returns c = rw c.no_order.ensures
