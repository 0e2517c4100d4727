-- `fit::least::least_rows` meets its contract. The loop's invariant: the rows passed are accounted for. Assumes nothing.
use Rattle.fit.proofs.Sets.{least_rows}
use Rattle.fit.proofs.least.least_rows.Goals as goal

pub loop-k-preserved : goal.loop-k-preserved
loop-k-preserved c = search least_rows

pub returns : goal.returns
returns c = search least_rows
