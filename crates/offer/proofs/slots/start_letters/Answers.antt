-- `offer::slots::start_letters` meets its contract. Assumes nothing.
use Rattle.offer.proofs.Sets.{start_letters}
use Rattle.offer.proofs.slots.start_letters.Goals as goal

pub loop-j-preserved : goal.loop-j-preserved
loop-j-preserved c = search start_letters
