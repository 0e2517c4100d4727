-- `fit::search::row_around` meets its contract. Assumes nothing.
use Rattle.fit.proofs.SearchReturns.{Climbing}
use Rattle.fit.proofs.search.row_around.Given as goal

abbrev pub invariant-loop-j : goal.invariant-loop-j
invariant-loop-j l = Climbing l.table l.k l.j
