-- `rows::cut::between` meets its contract. Assumes nothing.
use Rattle.rows.proofs.CutReturns.{Summing}
use Rattle.rows.proofs.cut.between.Given as goal

abbrev pub invariant-loop-k : goal.invariant-loop-k
invariant-loop-k l = Summing l.table l.left l.sum l.k
