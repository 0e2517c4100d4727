-- `beginning::begin`, `begin_all` and `begin_in_turn` meet their contracts. Assumes nothing.
use Rattle.beginning.proofs.BeginReturns.{Turning, Joining}
use Prim.Native.Nat.{◌+◌, ◌*◌, ◌-◌, ◌≤◌}
use Rattle.beginning.proofs.+begin_begin_all_begin_in_turn.Given as goal

abbrev pub decreases-begin : goal.decreases-begin
decreases-begin l = (256 - l.k) * 2

abbrev pub invariant-begin_all-loop-i : goal.invariant-begin_all-loop-i
invariant-begin_all-loop-i l = (l.c ≤ l.i) × Joining l.table l.e l.c l.fn.marks l.i l.m l.over

abbrev pub decreases-begin_all-loop-i : goal.decreases-begin_all-loop-i
decreases-begin_all-loop-i l = l.e - l.i

abbrev pub decreases-begin_all : goal.decreases-begin_all
decreases-begin_all l = (256 - l.c) * 2 + 1

abbrev pub invariant-begin_in_turn-loop-j : goal.invariant-begin_in_turn-loop-j
invariant-begin_in_turn-loop-j l = (l.c ≤ l.j) × Turning l.table l.e l.c l.fn.marks l.j l.m

abbrev pub decreases-begin_in_turn-loop-j : goal.decreases-begin_in_turn-loop-j
decreases-begin_in_turn-loop-j l = l.e - l.j

abbrev pub decreases-begin_in_turn : goal.decreases-begin_in_turn
decreases-begin_in_turn l = (256 - l.c) * 2 + 1
