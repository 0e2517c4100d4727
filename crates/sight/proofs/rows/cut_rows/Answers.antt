-- `sight::rows::cut_rows` meets its contract. Assumes nothing.
use Rattle.sight.proofs.Sets.{cut_rows}
use Rattle.sight.proofs.rows.cut_rows.Goals as goal

pub loop-k-preserved : goal.loop-k-preserved
loop-k-preserved c = search cut_rows
