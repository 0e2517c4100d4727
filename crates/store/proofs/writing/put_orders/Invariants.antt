-- `store::writing::put_orders` meets its contract. Assumes nothing.
use Rattle.store.proofs.Puts.{Writing}
use Prim.Native.Nat.{◌-◌}
use Rattle.store.specs.Packed.{order_bytes}
use Rattle.store.proofs.writing.put_orders.Given as goal

abbrev pub invariant-loop-i : goal.invariant-loop-i
invariant-loop-i l = Writing order_bytes 410 l.initial.out l.out l.at l.fn.orders l.i
