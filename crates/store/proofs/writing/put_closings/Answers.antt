-- `store::writing::put_closings` meets its contract. Assumes nothing.
use Rattle.store.proofs.Puts.{writing-starts, writing_more, writing-ends}
use Prim.Native.Nat.{◌-◌}
use Rattle.store.proofs.writing.put_closings.Goals as goal

ruleset cases = (writing-starts, writing_more, writing-ends)

pub loop-i-init : goal.loop-i-init
loop-i-init c = search cases

pub loop-i-preserved : goal.loop-i-preserved
loop-i-preserved c = writing_more _ c.loop-i.invariant (rw c.well_formed.1.1.0.1.0.1 c.loop-i-test.true) c.put_closing.ensures

pub returns : goal.returns
returns c = writing-ends c.loop-i.invariant (rw c.well_formed.1.1.0.1.0.1 c.loop-i-test.false) (rw c.well_formed.1.1.0.1.0.1)
