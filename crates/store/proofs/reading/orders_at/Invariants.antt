-- `store::reading::orders_at` meets its contract. Assumes nothing.
use Rattle.store.proofs.Fills.{Reading}
use Prim.Native.Nat.{◌-◌}
use Rattle.store.specs.Packed.{order_in}
use Rattle.store.proofs.reading.orders_at.Given as goal

abbrev pub invariant-loop-i : goal.invariant-loop-i
invariant-loop-i l = Reading order_in 410 16 l.s l.at l.out l.i
