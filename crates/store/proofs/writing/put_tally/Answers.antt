-- `store::writing::put_tally` meets its contract. Assumes nothing.
use Rattle.store.proofs.Parts.{tally-put}
use Rattle.store.proofs.writing.put_tally.Goals as goal

pub returns : goal.returns
returns c = tally-put _ c.put_four.ensures c.put_four-2.ensures c.put_four-3.ensures c.put_four-4.ensures c.put_four-5.ensures
