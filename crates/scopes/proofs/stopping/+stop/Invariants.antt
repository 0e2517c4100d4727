-- `scopes::stopping::stop` meet their contracts. Assumes nothing.
use Rattle.scopes.proofs.StopReturns.{Stopping}
use Prim.Native.Nat.{◌-◌}
use Rattle.scopes.proofs.stopping.+stop.Given as goal

abbrev pub invariant-loop-c : goal.invariant-loop-c
invariant-loop-c l = Stopping l.table l.e l.initial.c l.initial.o l.c l.o

abbrev pub decreases-loop-c : goal.decreases-loop-c
decreases-loop-c l = l.e - l.c

abbrev pub decreases-stop : goal.decreases-stop
decreases-stop l = 256 - l.k
