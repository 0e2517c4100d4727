-- `fit::fitness::agrees_at` meets its contract. The loop's invariant: the places passed hold what is asked. Assumes nothing.
use Rattle.fit.proofs.Sets.{agrees_at}
use Rattle.fit.proofs.fitness.agrees_at.Goals as goal

pub loop-i-preserved : goal.loop-i-preserved
loop-i-preserved c = search agrees_at
