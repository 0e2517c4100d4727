-- `order::memory::forgetting` meets its contract. Assumes nothing.
use Rattle.order.proofs.MemoryReturns.{forgetting-starts, forgetting-skips, forgetting-pushes}
use Rattle.order.proofs.memory.forgetting.Goals as goal
use Rattle.order.proofs.memory.forgetting.Goals.{then-not-is_for, else-not-is_for}

ruleset cases = (forgetting-starts, forgetting-skips, forgetting-pushes)

pub loop-j-init : goal.loop-j-init
loop-j-init c = search cases

pub loop-j-preserved : goal.loop-j-preserved
loop-j-preserved c =
    elim c.if-not-is_for.branch [
      | then-not-is_for w ↦ rw w.o-is (search cases)
      | else-not-is_for w ↦ rw w.o-is (search cases)
    ]
