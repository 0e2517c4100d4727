-- `store::reading::closing_at` meets its contract. Assumes nothing.
use Rattle.store.proofs.Records.{closing-is}
use Rattle.store.proofs.reading.closing_at.Goals as goal

pub returns : goal.returns
returns c = closing-is c.args.s.now c.args.at
