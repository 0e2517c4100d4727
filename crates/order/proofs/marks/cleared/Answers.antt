-- `order::marks::cleared` meets its contract. Assumes nothing.
use Rattle.order.proofs.MarkReturns.{cleared-done, cleared-next}
use Rattle.order.proofs.marks.cleared.Goals as goal

ruleset cases = (cleared-done, cleared-next)

pub loop-i-preserved : goal.loop-i-preserved
loop-i-preserved c = search cases

pub returns : goal.returns
returns c = search cases
