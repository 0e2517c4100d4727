-- `store::writing::put_number` meets its contract. Assumes nothing.
use Rattle.store.proofs.Puts.{Spelling}
use Prim.Native.Nat.{◌-◌}
use Rattle.store.proofs.writing.put_number.Given as goal

abbrev pub invariant-loop-i : goal.invariant-loop-i
invariant-loop-i l = Spelling l.initial.out l.out l.at l.width l.value l.i l.rest
