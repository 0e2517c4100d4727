-- `sight::rows::offer_rows` meets its contract. Assumes nothing.
use Rattle.sight.proofs.Sets.{offer_rows}
use Rattle.sight.proofs.rows.offer_rows.Goals as goal

pub loop-k-preserved : goal.loop-k-preserved
loop-k-preserved c = search offer_rows
