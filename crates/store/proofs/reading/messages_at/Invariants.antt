-- `store::reading::messages_at` meets its contract. Assumes nothing.
use Rattle.store.proofs.Fills.{Reading}
use Prim.Native.Nat.{◌-◌}
use Rattle.store.specs.Packed.{message_in}
use Rattle.store.proofs.reading.messages_at.Given as goal

abbrev pub invariant-loop-i : goal.invariant-loop-i
invariant-loop-i l = Reading message_in 32 64 l.s l.at l.out l.i
