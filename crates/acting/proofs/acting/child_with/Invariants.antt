-- `acting::acting::child_with` meets its contract. Assumes nothing.
use Rattle.acting.proofs.ChildReturns.{Seeing}
use Prim.Native.Nat.{◌-◌}
use Rattle.acting.proofs.acting.child_with.Given as goal

abbrev pub invariant-loop-j : goal.invariant-loop-j
invariant-loop-j l = Seeing l.table l.c l.e l.t l.j

abbrev pub decreases-loop-j : goal.decreases-loop-j
decreases-loop-j l = l.e - l.j
