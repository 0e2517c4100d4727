-- `step::stepping::moved_from` meets its contract. Assumes nothing.
use Rattle.step.proofs.Sets.{moved_from}
use Rattle.step.proofs.stepping.moved_from.Goals as goal

pub returns : goal.returns
returns c = search moved_from
