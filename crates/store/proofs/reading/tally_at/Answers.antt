-- `store::reading::tally_at` meets its contract. Assumes nothing.
use Rattle.store.proofs.Records.{tally-is}
use Rattle.store.proofs.reading.tally_at.Goals as goal

pub returns : goal.returns
returns c = tally-is c.args.s.now c.args.at c.four_at.ensures c.four_at-2.ensures c.four_at-3.ensures c.four_at-4.ensures c.four_at-5.ensures
