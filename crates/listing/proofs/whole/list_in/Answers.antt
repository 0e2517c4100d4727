-- `listing::whole::list_in` meets its contract. Assumes nothing.
use borrow.Author.Rules.{rules}
use Rattle.fit.proofs.Crossed.{crossing-starts, crossing-passes, crossing-done, crossing-again}
use Rattle.fit.proofs.Fewest.{lowering-starts, lowering-passes, lowering-done, lowering-again}
use Rattle.listing.proofs.Asked.{lists-by}
use Rattle.listing.proofs.whole.list_in.Goals as goal

pub loop-o-init : goal.loop-o-init
loop-o-init c = lowering-starts _ _ _ _ _ _ _ (search rules) (search rules)

pub loop-o-preserved-then-o-eq0 : goal.loop-o-preserved-then-o-eq0
loop-o-preserved-then-o-eq0 c = lowering-passes c.loop-o.invariant _ c.loop-o-test.true c.if-o-eq0.true

pub loop-slot-init : goal.loop-slot-init
loop-slot-init c = (crossing-starts _ _ _ _ _ _ (search rules), search rules)

pub loop-slot-preserved-then-o-eq0-2 : goal.loop-slot-preserved-then-o-eq0-2
loop-slot-preserved-then-o-eq0-2 c = (crossing-passes c.loop-slot.invariant.0 _ c.loop-slot-test.true c.if-o-eq0-2.true, search rules)

pub returns : goal.returns
returns c = lists-by (lowering-done c.loop-o.invariant c.loop-o-test.false) (crossing-done c.loop-slot.invariant.0 c.loop-slot-test.false)
    c.started_order-order.ensures c.list_starts.ensures

pub loop-o-preserved : goal.loop-o-preserved
loop-o-preserved c = lowering-again c.loop-o.invariant _ c.loop-o-test.true c.least_slot.ensures

pub loop-slot-preserved : goal.loop-slot-preserved
loop-slot-preserved c = (crossing-again c.loop-slot.invariant.0 _ c.loop-slot-test.true c.list_slot-part.ensures, search rules)
