-- `order::memory::forgetting` meets its contract. Assumes nothing.
use Rattle.order.proofs.MemoryReturns.{Forgetting}
use Rattle.order.proofs.memory.forgetting.Given as goal

abbrev pub invariant-loop-j : goal.invariant-loop-j
invariant-loop-j l = Forgetting l.q l.order l.j l.o
