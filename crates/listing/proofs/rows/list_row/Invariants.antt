-- `listing::rows::list_row` meets its contract. Assumes nothing.
use Prim.Native.Nat.{◌≤◌, max}
use lib.ListN.{length}
use Rattle.listing.specs.Listing.{holding, RowOf}
use Rattle.listing.proofs.Asked.{Listens}
use Rattle.listing.proofs.rows.list_row.Given as goal

abbrev pub invariant-loop-at : goal.invariant-loop-at
invariant-loop-at l = Listens (RowOf l.table l.picks l.marks l.known l.bound l.values l.parts l.kept l.slot l.k l.cutting l.letters l.waiting l.least) (holding l.first l.from l.initial.out) l.c l.skip l.at l.out × (l.at ≤ max l.from (length l.initial.out))
