-- `store::reading::order_at` meets its contract. Assumes nothing.
use Rattle.store.proofs.Records.{order_is}
use Rattle.store.proofs.reading.order_at.Goals as goal

pub returns : goal.returns
returns c = order_is c.args.s.now c.args.at c.take_bytes.ensures c.take_fours.ensures c.take_bytes-2.ensures c.closings_at-remembered.ensures c.eight_at-kept.ensures
