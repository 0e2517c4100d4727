-- `beginning::started_order` meets its contract. Assumes nothing.
use Rattle.beginning.proofs.BeginReturns.{started-is}
use Rattle.beginning.proofs.started_order.Goals as goal

ruleset cases = (started-is)

pub returns : goal.returns
returns c = search cases
