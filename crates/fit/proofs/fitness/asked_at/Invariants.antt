-- `fit::fitness::asked_at` meets its contract. Assumes nothing.
use Rattle.fit.proofs.Filled.{Filling}
use Rattle.fit.proofs.FitReturns.{Asked}
use Rattle.fit.proofs.fitness.asked_at.Given as goal

abbrev pub invariant-loop-i : goal.invariant-loop-i
invariant-loop-i l = Filling (Asked l.table l.known l.k) 4 l.out l.i
