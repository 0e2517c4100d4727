-- `boundary_state::older::copy` meets its contract. Assumes nothing.
use Rattle.boundary_state.proofs.Sets.{copy}
use Rattle.boundary_state.proofs.older.copy.Goals as goal

pub loop-i-init : goal.loop-i-init
loop-i-init c = search copy

pub loop-i-preserved : goal.loop-i-preserved
loop-i-preserved c = search copy

pub returns : goal.returns
returns c = search copy
