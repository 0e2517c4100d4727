-- `order::parts::part_row` meets its contract. Assumes nothing.
use Rattle.order.proofs.PartReturns.{passing-done, passing-again}
use Rattle.order.proofs.parts.part_row.Goals as goal

ruleset cases = (passing-done, passing-again)

pub loop-preserved : goal.loop-preserved
loop-preserved c = search cases

pub returns : goal.returns
returns c = search cases
