-- `fit::least::least_rows` meets its contract. Assumes nothing.
use Rattle.fit.proofs.Fewest.{Leasting}
use Rattle.fit.proofs.least.least_rows.Given as goal

abbrev pub invariant-loop-k : goal.invariant-loop-k
invariant-loop-k l = Leasting l.table l.picks l.marks l.known l.activities l.letters l.waiting l.initial.least l.k l.least
