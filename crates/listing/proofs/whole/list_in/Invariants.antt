-- `listing::whole::list_in` meets its contract. Assumes nothing.
use mathlib.Core.Path.{◌≡◌}
use lib.ListN.{length}
use Rattle.fit.proofs.Crossed.{Crossing}
use Rattle.fit.proofs.Fewest.{Lowering}
use Rattle.offer.specs.Acts.{act_live}
use Rattle.offer.specs.Seeing.{Informed}
use Rattle.listing.specs.Listing.{holding, listing}
use Rattle.listing.proofs.whole.list_in.Given as goal

abbrev pub invariant-loop-o : goal.invariant-loop-o
invariant-loop-o l = Lowering l.table l.flags l.picks l.fn.orders l.activities l.letters l.waiting l.o-index l.least

abbrev pub invariant-loop-slot : goal.invariant-loop-slot
invariant-loop-slot l = Crossing l.table l.activities (Informed l.table l.picks l.flags l.letters l.waiting l.least) (act_live listing l.waiting) l.fn.orders
    (holding l.initial.part.skip l.initial.part.at l.initial.out) l.slot (holding l.part.skip l.part.at l.out) × (length l.out ≡ length l.initial.out)
