-- `order::memory::copied` meets its contract. Assumes nothing.
use Rattle.order.proofs.MemoryReturns.{Copying}
use Rattle.order.proofs.memory.copied.Given as goal

abbrev pub invariant-loop-j : goal.invariant-loop-j
invariant-loop-j l = Copying l.order l.i l.n l.fn.out l.j l.o
