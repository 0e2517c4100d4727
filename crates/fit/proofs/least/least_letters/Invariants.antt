-- `fit::least::least_letters` meets its contract. Assumes nothing.
use Rattle.fit.proofs.Fewest.{Lessening}
use Rattle.fit.proofs.least.least_letters.Given as goal

abbrev pub invariant-loop-j : goal.invariant-loop-j
invariant-loop-j l = Lessening l.table l.k l.asked l.unchecked l.letters l.waiting l.initial.least l.j l.least
