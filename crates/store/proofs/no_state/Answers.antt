-- `store::no_state` meets its contract. Assumes nothing.
use Rattle.std.proofs.Common.{[], refl}
use Rattle.machine.proofs.Copied.{fresh-is}
use Rattle.store.proofs.no_state.Goals as goal

pub returns : goal.returns
returns c = fresh-is [] refl c.no_order.ensures c.no_message.ensures
