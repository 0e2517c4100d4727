-- `run::run_by` meets its contract. Assumes nothing.
use Rattle.run.proofs.RunReturns.{Going}
use Prim.Native.Nat.{◌-◌}
use lib.ListN.{length}
use Rattle.run.proofs.run_by.Given as goal

abbrev pub invariant-loop-i : goal.invariant-loop-i
invariant-loop-i l = Going l.table l.flags l.activities l.choices l.initial.budget l.initial.state l.initial.y l.initial.told l.i l.budget l.state l.y l.told
