-- `fit::least::least_row` meets its contract. Assumes nothing.
use Rattle.fit.proofs.Sets.{least_row}
use Rattle.fit.proofs.least.least_row.Goals as goal

pub returns-then-open_at : goal.returns-then-open_at
returns-then-open_at c = search least_row

pub returns-else-open_at : goal.returns-else-open_at
returns-else-open_at c = search least_row
