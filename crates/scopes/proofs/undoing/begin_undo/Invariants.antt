-- `scopes::undoing::begin_undo` meets its contract. Assumes nothing.
use Prim.Native.Nat.{◌-◌}
use Rattle.scopes.proofs.UndoReturns.{Looking}
use Rattle.scopes.proofs.undoing.begin_undo.Given as goal

abbrev pub invariant-loop-j : goal.invariant-loop-j
invariant-loop-j l = Looking l.table l.from l.to l.e l.marks l.j l.end

abbrev pub decreases-loop-j : goal.decreases-loop-j
decreases-loop-j l = 256 - l.j
