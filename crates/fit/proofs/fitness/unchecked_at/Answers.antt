-- `fit::fitness::unchecked_at` meets its contract. Assumes nothing.
use Rattle.fit.proofs.Sets.{unchecked_at}
use Rattle.fit.proofs.fitness.unchecked_at.Goals as goal

pub loop-i-preserved : goal.loop-i-preserved
loop-i-preserved c = search unchecked_at
