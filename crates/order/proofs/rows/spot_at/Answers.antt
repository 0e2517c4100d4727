-- `order::rows::spot_at` meets its contract. Assumes nothing.
use Rattle.order.proofs.RowReturns.{spot-far, spot_is}
use Rattle.order.proofs.rows.spot_at.Goals as goal

ruleset cases = (spot-far, spot_is)

pub returns-then-k-ge256 : goal.returns-then-k-ge256
returns-then-k-ge256 c = search cases

pub returns : goal.returns
returns c = search cases
