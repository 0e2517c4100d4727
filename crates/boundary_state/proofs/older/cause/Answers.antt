-- `boundary_state::older::cause` meets its contract. Assumes nothing.
use Rattle.boundary_state.proofs.Sets.{cause}
use Rattle.boundary_state.proofs.older.cause.Goals as goal

pub loop-i-init : goal.loop-i-init
loop-i-init c = search cause

pub loop-i-preserved : goal.loop-i-preserved
loop-i-preserved c = search cause
