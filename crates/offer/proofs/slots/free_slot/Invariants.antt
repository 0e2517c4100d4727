-- `offer::slots::free_slot` meets its contract. Assumes nothing.
use Rattle.offer.proofs.Starting.{Freeing}
use Rattle.offer.proofs.slots.free_slot.Given as goal

abbrev pub invariant-loop-i : goal.invariant-loop-i
invariant-loop-i l = Freeing l.fn.orders l.i
