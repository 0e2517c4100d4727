-- `sight::rows::take_row` meets its contract. Assumes nothing.
use Rattle.sight.proofs.Sets.{take_row}
use Rattle.sight.proofs.rows.take_row.Goals as goal

pub loop-j-preserved : goal.loop-j-preserved
loop-j-preserved c = search take_row

pub returns : goal.returns
returns c = search take_row
