-- `listing::letters::list_letters` meets its contract. Assumes nothing.
use mathlib.Core.Path.{◌≡◌}
use lib.ListN.{length}
use Rattle.offer.proofs.Starting.{Starting}
use Rattle.listing.specs.Listing.{holding, listing}
use Rattle.listing.proofs.letters.list_letters.Given as goal

abbrev pub invariant-loop-j : goal.invariant-loop-j
invariant-loop-j l = Starting listing l.table l.flags l.picks l.orders l.marks l.known l.free l.activities l.letters l.waiting (holding l.initial.c.skip l.initial.c.at l.initial.out) l.j (holding l.c.skip l.c.at l.out) × (length l.out ≡ length l.initial.out)
