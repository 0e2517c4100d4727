-- `order::memory::pushed` meets its contract. Assumes nothing.
use Rattle.order.proofs.MemoryReturns.{push-full, push-is}
use Rattle.order.proofs.memory.pushed.Goals as goal

ruleset cases = (push-full, push-is)

pub returns-then-n-lt32 : goal.returns-then-n-lt32
returns-then-n-lt32 c = search cases
