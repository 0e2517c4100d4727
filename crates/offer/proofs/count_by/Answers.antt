-- `offer::count_by` meets its contract. Assumes nothing.
use Rattle.offer.proofs.Sets.{count_by}
use Rattle.offer.proofs.count_by.Goals as goal

pub offered_by-a-requires : goal.offered_by-a-requires
offered_by-a-requires c = (search count_by, search count_by)
