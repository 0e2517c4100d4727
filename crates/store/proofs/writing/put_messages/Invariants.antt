-- `store::writing::put_messages` meets its contract. Assumes nothing.
use Rattle.store.proofs.Puts.{Writing}
use Prim.Native.Nat.{◌-◌}
use Rattle.store.specs.Packed.{message_bytes}
use Rattle.store.proofs.writing.put_messages.Given as goal

abbrev pub invariant-loop-i : goal.invariant-loop-i
invariant-loop-i l = Writing message_bytes 32 l.initial.out l.out l.at l.fn.messages l.i
