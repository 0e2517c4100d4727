-- `order::sending::tuple_bound` meets its contract. Assumes nothing.
use Rattle.order.proofs.SendReturns.{Checking}
use Rattle.order.proofs.sending.tuple_bound.Given as goal

abbrev pub invariant-loop-i : goal.invariant-loop-i
invariant-loop-i l = Checking l.table l.k l.bound l.i
