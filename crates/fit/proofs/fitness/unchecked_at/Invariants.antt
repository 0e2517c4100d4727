-- `fit::fitness::unchecked_at` meets its contract. Assumes nothing.
use Prim.Native.Nat.{◌+◌, ◌*◌}
use lib.ListN.{get_or}
use Rattle.fit.proofs.FitReturns.{Counting}
use Rattle.fit.proofs.fitness.unchecked_at.Given as goal

abbrev pub invariant-loop-i : goal.invariant-loop-i
invariant-loop-i l = Counting l.table l.k l.asked (get_or l.table (l.k * 13 + 3) 0) l.n l.i
