-- `fit::search::picks_of` meets its contract. Assumes nothing.
use Rattle.fit.specs.Answering.{PicksRow}
use Rattle.fit.proofs.Filled.{Filling}
use Rattle.fit.proofs.search.picks_of.Given as goal

abbrev pub invariant-loop-k : goal.invariant-loop-k
invariant-loop-k l = Filling (PicksRow l.table) 256 l.out l.k
