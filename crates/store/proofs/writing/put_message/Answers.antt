-- `store::writing::put_message` meets its contract. Assumes nothing.
use Rattle.store.proofs.Parts.{room-fours, message-put}
use native.Mathlib.Omega.{arith}
use Rattle.machine.proofs.Whole.{message-whole}
use Rattle.store.proofs.writing.put_message.Goals as goal

pub put_fours-requires : goal.put_fours-requires
put_fours-requires c = room-fours 4 _ c.args.m.values (message-whole c.args.m _ c.well_formed.1.1.0).values-long (omega arith)

pub returns : goal.returns
returns c = message-put c.args.m (message-whole c.args.m _ c.well_formed.1.1.0) c.put_four.ensures c.put_four-2.ensures c.put_four-3.ensures c.put_fours.ensures c.put_four-4.ensures
