-- `machine::made::no_order` meets its contract. Assumes nothing.
use Rattle.machine.proofs.Copied.{no-order-is}
use Rattle.machine.proofs.made.no_order.Goals as goal

ruleset cases = (no-order-is)

pub returns : goal.returns
returns c = search cases
