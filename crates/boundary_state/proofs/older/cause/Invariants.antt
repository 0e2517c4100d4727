-- `boundary_state::older::cause` meets its contract. Assumes nothing.
use Rattle.boundary_state.proofs.Renewing.{Placing}
use Prim.Native.Nat.{◌-◌}
use Rattle.boundary_state.specs.Older.{byte_with}
use Rattle.boundary_state.proofs.older.cause.Given as goal

abbrev pub invariant-loop-i : goal.invariant-loop-i
invariant-loop-i l = Placing (byte_with l.old) 12492 l.state l.i
