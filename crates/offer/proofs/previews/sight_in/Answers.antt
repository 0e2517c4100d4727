-- `offer::previews::sight_in` meets its contract. Assumes nothing.
use borrow.Author.Rules.{rules}
use Rattle.offer.proofs.Answered.{sees-none, sees-started}
use Rattle.fit.proofs.Crossed.{crossing-starts, crossing-passes, crossing-done, crossing-again}
use Rattle.fit.proofs.Fewest.{lowering-starts, lowering-passes, lowering-done, lowering-again}
use Rattle.offer.proofs.previews.sight_in.Goals as goal

pub loop-o-init : goal.loop-o-init
loop-o-init c = lowering-starts _ _ _ _ _ _ _ (search rules) (search rules)

pub loop-o-preserved-then-o-eq0 : goal.loop-o-preserved-then-o-eq0
loop-o-preserved-then-o-eq0 c = lowering-passes c.loop-o.invariant _ c.loop-o-test.true c.if-o-eq0.true

pub loop-o-preserved : goal.loop-o-preserved
loop-o-preserved c = lowering-again c.loop-o.invariant _ c.loop-o-test.true c.least_slot.ensures

pub loop-slot-init : goal.loop-slot-init
loop-slot-init c = crossing-starts _ _ _ _ _ _ (search rules)

pub loop-slot-preserved-then-o-eq0-2 : goal.loop-slot-preserved-then-o-eq0-2
loop-slot-preserved-then-o-eq0-2 c = crossing-passes c.loop-slot.invariant _ c.loop-slot-test.true c.if-o-eq0-2.true

pub loop-slot-preserved : goal.loop-slot-preserved
loop-slot-preserved c = crossing-again c.loop-slot.invariant _ c.loop-slot-test.true c.offer_slot-part.ensures

pub returns-then-waiting-eq0 : goal.returns-then-waiting-eq0
returns-then-waiting-eq0 c = sees-none (lowering-done c.loop-o.invariant c.loop-o-test.false) c.nothing_seen-part.ensures
    (crossing-done c.loop-slot.invariant c.loop-slot-test.false) c.if-waiting-eq0.true

pub returns : goal.returns
returns c = sees-started (lowering-done c.loop-o.invariant c.loop-o-test.false) c.nothing_seen-part.ensures
    (crossing-done c.loop-slot.invariant c.loop-slot-test.false) c.started_order-order.ensures c.starts.ensures
