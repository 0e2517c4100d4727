-- `store::writing::put_state` meets its contract. Assumes nothing.
use Rattle.store.proofs.Parts.{room-bytes, state-put}
use native.Mathlib.Omega.{arith}
use Rattle.machine.proofs.Whole.{state-whole}
use Rattle.store.proofs.writing.put_state.Goals as goal

pub put_bytes-requires : goal.put_bytes-requires
put_bytes-requires c = room-bytes 4096 _ c.args.state.plan (state-whole c.args.state _ c.well_formed.1.1.0).plan-long (omega arith)

pub returns : goal.returns
returns c = state-put c.args.state (state-whole c.args.state _ c.well_formed.1.1.0) c.put_eight.ensures c.put_bytes.ensures c.put_eight-2.ensures c.put_messages.ensures c.put_orders.ensures
