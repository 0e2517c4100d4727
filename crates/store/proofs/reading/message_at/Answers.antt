-- `store::reading::message_at` meets its contract. Assumes nothing.
use Rattle.store.proofs.Records.{message-is}
use Rattle.store.proofs.reading.message_at.Goals as goal

pub returns : goal.returns
returns c = message-is c.args.s.now c.args.at c.four_at.ensures c.four_at-2.ensures c.four_at-3.ensures c.take_fours.ensures c.four_at-4.ensures
