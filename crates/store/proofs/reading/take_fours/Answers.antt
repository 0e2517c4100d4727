-- `store::reading::take_fours` meets its contract. Assumes nothing.
use Rattle.store.proofs.Fills.{reading-starts, reading-more, reading-ends}
use native.Mathlib.Omega.{arith}
use Prim.Native.Nat.{◌-◌}
use mathlib.Core.Path.{refl}
use Rattle.store.proofs.reading.take_fours.Goals as goal

pub loop-i-init : goal.loop-i-init
loop-i-init c = reading-starts _ _ _ _ _ _ refl

pub loop-i-preserved : goal.loop-i-preserved
loop-i-preserved c = reading-more c.loop-i.invariant (omega (arith, c.loop-i.invariant.filling.long)) c.four_at.ensures

pub returns : goal.returns
returns c = reading-ends c.loop-i.invariant (omega (arith, c.loop-i.invariant.filling.long))
