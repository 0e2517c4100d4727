-- `store::writing::put_closing` meets its contract. Assumes nothing.
use Rattle.store.proofs.Parts.{closing-put}
use Rattle.store.proofs.writing.put_closing.Goals as goal

pub returns : goal.returns
returns c = closing-put _ c.put_byte.ensures c.put_byte-2.ensures
