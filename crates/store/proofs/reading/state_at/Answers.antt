-- `store::reading::state_at` meets its contract. Assumes nothing.
use Rattle.store.proofs.Records.{state-is}
use Rattle.store.proofs.reading.state_at.Goals as goal

pub returns : goal.returns
returns c = state-is c.args.s.now c.args.at c.take_bytes.ensures c.eight_at-length.ensures c.eight_at-waiting.ensures c.messages_at-messages.ensures c.orders_at-orders.ensures
