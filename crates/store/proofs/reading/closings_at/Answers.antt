-- `store::reading::closings_at` meets its contract. Assumes nothing.
use Rattle.store.proofs.Fills.{reading-starts, reading-more, reading-ends}
use Prim.Native.Nat.{◌-◌}
use mathlib.Core.Path.{refl}
use Rattle.store.proofs.reading.closings_at.Goals as goal

pub loop-i-init : goal.loop-i-init
loop-i-init c = reading-starts _ _ _ _ _ _ refl

pub loop-i-preserved : goal.loop-i-preserved
loop-i-preserved c = reading-more c.loop-i.invariant c.loop-i-test.true c.closing_at.ensures

pub returns : goal.returns
returns c = reading-ends c.loop-i.invariant c.loop-i-test.false
