-- `fit::fitness::agrees_at` meets its contract. Assumes nothing.
use Rattle.fit.proofs.FitReturns.{Agreeing}
use Rattle.fit.proofs.fitness.agrees_at.Given as goal

abbrev pub invariant-loop-i : goal.invariant-loop-i
invariant-loop-i l = Agreeing l.asked l.letters l.j l.count l.i
