-- `boundary_state::older::part_around` meets its contract. Assumes nothing.
use Rattle.boundary_state.proofs.Renewing.{Around}
use Rattle.boundary_state.proofs.older.part_around.Given as goal

abbrev pub invariant-loop-i : goal.invariant-loop-i
invariant-loop-i l = Around l.table l.scope l.i
