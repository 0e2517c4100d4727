-- `fit::fitness::known_of` meets its contract. Assumes nothing.
use Rattle.fit.proofs.Filled.{Filling}
use Rattle.fit.proofs.FitReturns.{Known}
use Rattle.fit.proofs.fitness.known_of.Given as goal

abbrev pub invariant-loop-i : goal.invariant-loop-i
invariant-loop-i l = Filling (Known l.flags l.order) 16 l.out l.i
