-- `offer::slots::could_start` meets its contract. Assumes nothing.
use Rattle.offer.proofs.Starting.{Passing}
use Rattle.offer.proofs.slots.could_start.Given as goal

abbrev pub invariant-loop-k : goal.invariant-loop-k
invariant-loop-k l = Passing l.table l.picks l.marks l.known l.activities l.letters l.j l.k
