-- `boundary_state::older::fill` meets its contract. Assumes nothing.
use Rattle.boundary_state.proofs.Sets.{fill}
use Rattle.boundary_state.proofs.older.fill.Goals as goal

pub loop-i-init : goal.loop-i-init
loop-i-init c = search fill

pub loop-i-preserved : goal.loop-i-preserved
loop-i-preserved c = search fill
