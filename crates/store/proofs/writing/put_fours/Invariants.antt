-- `store::writing::put_fours` meets its contract. Assumes nothing.
use Rattle.store.proofs.Puts.{Writing}
use Prim.Native.Nat.{◌-◌}
use lib.ListN.{length}
use Rattle.store.specs.Bytes.{spelled}
use Rattle.store.proofs.writing.put_fours.Given as goal

abbrev pub invariant-loop-i : goal.invariant-loop-i
invariant-loop-i l = Writing (spelled 4) 4 l.initial.out l.out l.at l.s l.i
