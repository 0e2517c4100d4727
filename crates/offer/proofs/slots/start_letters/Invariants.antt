-- `offer::slots::start_letters` meets its contract. Assumes nothing.
use Rattle.sight.specs.Sights.{seen}
use Rattle.offer.proofs.Starting.{Starting}
use Rattle.offer.proofs.slots.start_letters.Given as goal

abbrev pub invariant-loop-j : goal.invariant-loop-j
invariant-loop-j l = Starting seen l.table l.flags l.picks l.orders l.marks l.known l.free l.activities l.letters l.waiting l.initial.c l.j l.c
