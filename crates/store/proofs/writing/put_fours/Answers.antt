-- `store::writing::put_fours` meets its contract. Assumes nothing.
use Rattle.store.proofs.Puts.{writing-starts, writing_more, writing-ends}
use mathlib.Core.Path.{refl}
use Prim.Native.Nat.{◌-◌}
use Rattle.store.proofs.writing.put_fours.Goals as goal

ruleset cases = (writing-starts, writing_more, writing-ends)

pub loop-i-init : goal.loop-i-init
loop-i-init c = search cases

pub loop-i-preserved : goal.loop-i-preserved
loop-i-preserved c = writing_more 0 c.loop-i.invariant c.loop-i-test.true c.put_four.ensures

pub returns : goal.returns
returns c = writing-ends c.loop-i.invariant c.loop-i-test.false refl
