-- `order::sending::reaches` meets its contract. Assumes nothing.
use Rattle.order.proofs.SendReturns.{reaches-held}
use Rattle.order.proofs.sending.reaches.Goals as goal

ruleset cases = (reaches-held)

pub returns-else-table-k-ne-HELD_SEND : goal.returns-else-table-k-ne-HELD_SEND
returns-else-table-k-ne-HELD_SEND c = search cases
