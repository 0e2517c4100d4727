-- `step::stepping::moved` meets its contract. Assumes nothing.
use Rattle.step.proofs.Sets.{moved}
use Rattle.step.proofs.stepping.moved.Goals as goal

pub returns-then-order-eq0 : goal.returns-then-order-eq0
returns-then-order-eq0 c = search moved

pub returns-else-order-eq0 : goal.returns-else-order-eq0
returns-else-order-eq0 c = search moved
