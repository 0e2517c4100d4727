-- `store::writing::put_closings` meets its contract. Assumes nothing.
use Rattle.store.proofs.Puts.{Writing}
use Prim.Native.Nat.{◌-◌}
use Rattle.store.specs.Packed.{closing_bytes}
use Rattle.store.proofs.writing.put_closings.Given as goal

abbrev pub invariant-loop-i : goal.invariant-loop-i
invariant-loop-i l = Writing closing_bytes 2 l.initial.out l.out l.at l.fn.closings l.i
