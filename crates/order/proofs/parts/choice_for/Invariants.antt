-- `order::parts::choice_for` meets its contract. Assumes nothing.
use Rattle.order.proofs.PartReturns.{Choosing}
use Rattle.order.proofs.parts.choice_for.Given as goal

abbrev pub invariant-loop-i : goal.invariant-loop-i
invariant-loop-i l = Choosing l.table l.spot l.number l.i
