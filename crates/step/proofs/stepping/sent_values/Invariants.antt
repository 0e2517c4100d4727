-- `step::stepping::sent_values` meets its contract. Assumes nothing.
use Rattle.step.proofs.Taken.{Sending}
use Prim.Native.Nat.{◌-◌}
use Rattle.step.proofs.stepping.sent_values.Given as goal

abbrev pub invariant-loop-i : goal.invariant-loop-i
invariant-loop-i l = Sending l.table l.k l.order l.out l.i
