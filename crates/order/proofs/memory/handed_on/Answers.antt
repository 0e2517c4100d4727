-- `order::memory::handed_on` meets its contract. Assumes nothing.
use Rattle.order.proofs.MemoryReturns.{handing-starts, handing-skips, handing-pushes}
use Rattle.order.proofs.memory.handed_on.Goals as goal
use Rattle.order.proofs.memory.handed_on.Goals.{then-is_for, else-is_for}

ruleset cases = (handing-starts, handing-skips, handing-pushes)

pub loop-j-init : goal.loop-j-init
loop-j-init c = search cases

pub loop-j-preserved : goal.loop-j-preserved
loop-j-preserved c =
    elim c.if-is_for.branch [
      | then-is_for w ↦ rw w.o-is (search cases)
      | else-is_for w ↦ rw w.o-is (search cases)
    ]
