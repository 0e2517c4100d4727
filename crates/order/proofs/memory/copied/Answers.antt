-- `order::memory::copied` meets its contract. Assumes nothing.
use Rattle.order.proofs.MemoryReturns.{copying-starts, copying-done, copying-again}
use Rattle.order.proofs.memory.copied.Goals as goal

ruleset cases = (copying-starts, copying-done, copying-again)

pub loop-j-init : goal.loop-j-init
loop-j-init c = search cases

pub loop-j-preserved : goal.loop-j-preserved
loop-j-preserved c = search cases

pub returns : goal.returns
returns c = search cases
