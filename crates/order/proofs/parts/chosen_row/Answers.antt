-- `order::parts::chosen_row` meets its contract. Assumes nothing.
use Rattle.order.proofs.PartReturns.{chosen-row-is}
use Rattle.order.proofs.parts.chosen_row.Goals as goal

ruleset cases = (chosen-row-is)

pub returns : goal.returns
returns c = search cases
