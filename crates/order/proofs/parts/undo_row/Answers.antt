-- `order::parts::undo_row` meets its contract. Assumes nothing.
use Rattle.order.proofs.PartReturns.{undo-row-is}
use Rattle.order.proofs.parts.undo_row.Goals as goal

ruleset cases = (undo-row-is)

pub returns : goal.returns
returns c = search cases
