-- `listing::letters::list_letter` meets its contract. Assumes nothing.
use Prim.Native.Nat.{◌≤◌, max}
use lib.ListN.{length}
use Rattle.listing.specs.Listing.{holding, LetterOf}
use Rattle.listing.proofs.Asked.{Listens}
use Rattle.listing.proofs.letters.list_letter.Given as goal

abbrev pub invariant-loop-at : goal.invariant-loop-at
invariant-loop-at l = Listens (LetterOf l.table l.flags l.picks l.orders l.marks l.known l.free l.activities l.letters l.j) (holding l.first l.from l.initial.out) l.c l.skip l.at l.out × (l.at ≤ max l.from (length l.initial.out))
