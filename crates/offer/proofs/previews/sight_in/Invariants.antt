-- `offer::previews::sight_in` meets its contract. Assumes nothing.
use Rattle.offer.specs.Seeing.{Informed, offer_live}
use Rattle.fit.proofs.Crossed.{Crossing}
use Rattle.fit.proofs.Fewest.{Lowering}
use Rattle.offer.proofs.previews.sight_in.Given as goal

abbrev pub invariant-loop-o : goal.invariant-loop-o
invariant-loop-o l = Lowering l.table l.flags l.picks l.fn.orders l.activities l.letters l.waiting l.o-index l.least

abbrev pub invariant-loop-slot : goal.invariant-loop-slot
invariant-loop-slot l = Crossing l.table l.activities (Informed l.table l.picks l.flags l.letters l.waiting l.least) (offer_live l.waiting) l.fn.orders l.initial.part l.slot l.part
