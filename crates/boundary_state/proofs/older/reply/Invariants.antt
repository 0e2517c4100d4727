-- `boundary_state::older::reply` meets its contract. Assumes nothing.
use Rattle.boundary_state.proofs.Renewing.{Placing}
use Prim.Native.Nat.{◌-◌}
use Rattle.boundary_state.specs.Older.{byte_now}
use Rattle.boundary_state.proofs.older.reply.Given as goal

abbrev pub invariant-loop-i : goal.invariant-loop-i
invariant-loop-i l = Placing (byte_now l.old) 12748 l.state l.i
