-- `order::memory::without` meets its contract. Assumes nothing.
use Rattle.order.proofs.MemoryReturns.{without-none, without_is}
use Rattle.order.proofs.memory.without.Goals as goal

ruleset cases = (without-none, without_is)

pub returns-then-n-i : goal.returns-then-n-i
returns-then-n-i c = search cases

pub returns : goal.returns
returns c = search cases
