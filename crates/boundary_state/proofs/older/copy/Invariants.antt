-- `boundary_state::older::copy` meets its contract. Assumes nothing.
use Rattle.boundary_state.proofs.Renewing.{Same}
use Rattle.boundary_state.proofs.older.copy.Given as goal

abbrev pub invariant-loop-i : goal.invariant-loop-i
invariant-loop-i l = Same l.old l.state l.i
