-- `settling::conflict::first_conflict` meets its contract. Assumes nothing.
use Rattle.settling.proofs.ConflictReturns.{Looking}
use Rattle.settling.proofs.conflict.first_conflict.Given as goal

abbrev pub invariant-loop-k : goal.invariant-loop-k
invariant-loop-k l = Looking l.table l.rows l.marks l.opened l.n l.reach l.k
