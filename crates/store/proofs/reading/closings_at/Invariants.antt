-- `store::reading::closings_at` meets its contract. Assumes nothing.
use Rattle.store.proofs.Fills.{Reading}
use Prim.Native.Nat.{◌-◌}
use Rattle.store.specs.Packed.{closing_in}
use Rattle.store.proofs.reading.closings_at.Given as goal

abbrev pub invariant-loop-i : goal.invariant-loop-i
invariant-loop-i l = Reading closing_in 2 32 l.s l.at l.out l.i
