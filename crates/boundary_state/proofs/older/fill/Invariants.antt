-- `boundary_state::older::fill` meets its contract. Assumes nothing.
use Rattle.boundary_state.proofs.Renewing.{Placing}
use Prim.Native.Nat.{◌-◌}
use Rattle.boundary_state.specs.Older.{byte_of}
use Rattle.boundary_state.proofs.older.fill.Given as goal

abbrev pub invariant-loop-i : goal.invariant-loop-i
invariant-loop-i l = Placing (byte_of l.old l.table) 12476 l.state l.i
