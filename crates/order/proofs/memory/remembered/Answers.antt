-- `order::memory::remembered` meets its contract. Assumes nothing.
use Rattle.order.proofs.MemoryReturns.{remember-is}
use Rattle.order.proofs.memory.remembered.Goals as goal

ruleset cases = (remember-is)

pub returns-then-q-lt256 : goal.returns-then-q-lt256
returns-then-q-lt256 c = search cases
