-- `order::memory::handed_on` meets its contract. Assumes nothing.
use Rattle.order.proofs.MemoryReturns.{Handing}
use Rattle.order.proofs.memory.handed_on.Given as goal

abbrev pub invariant-loop-j : goal.invariant-loop-j
invariant-loop-j l = Handing l.q l.p l.order l.j l.o
