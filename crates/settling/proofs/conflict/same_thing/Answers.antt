-- `settling::conflict::same_thing` meets its contract. Assumes nothing.
use Rattle.settling.proofs.ConflictReturns.{thing-is}
use Rattle.settling.proofs.conflict.same_thing.Goals as goal

pub returns : goal.returns
returns c = thing-is c.args.table.now c.args.j c.args.k c.told-table c.requires.0 c.requires.1 c.eq.result c.eq.ensures
