-- `offer::slots::start_rows` meets its contract. Assumes nothing.
use Rattle.offer.proofs.Sets.{start_rows}
use Rattle.offer.proofs.slots.start_rows.Goals as goal

pub loop-k-preserved : goal.loop-k-preserved
loop-k-preserved c = search start_rows
