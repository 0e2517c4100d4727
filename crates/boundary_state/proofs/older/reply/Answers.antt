-- `boundary_state::older::reply` meets its contract. Assumes nothing.
use Rattle.boundary_state.proofs.Sets.{reply}
use Rattle.boundary_state.proofs.older.reply.Goals as goal

pub loop-i-init : goal.loop-i-init
loop-i-init c = search reply

pub loop-i-preserved : goal.loop-i-preserved
loop-i-preserved c = search reply
