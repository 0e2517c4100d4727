-- `store::reading::take_fours` meets its contract. Assumes nothing.
use Rattle.store.proofs.Fills.{Reading}
use Prim.Native.Nat.{◌-◌}
use lib.ListN.{length}
use Rattle.store.specs.Bytes.{number_in}
use Rattle.store.proofs.reading.take_fours.Given as goal

abbrev pub invariant-loop-i : goal.invariant-loop-i
invariant-loop-i l = Reading (number_in 4) 4 (length l.initial.out) l.s l.at l.out l.i
