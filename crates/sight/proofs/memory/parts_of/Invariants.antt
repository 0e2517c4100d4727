-- `sight::memory::parts_of` meets its contract. Assumes nothing.
use Rattle.sight.proofs.Remembered.{Parting}
use Rattle.sight.proofs.memory.parts_of.Given as goal

abbrev pub invariant-loop-i : goal.invariant-loop-i
invariant-loop-i l = Parting l.closings l.out l.i
