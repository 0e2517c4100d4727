-- `listing::rows::list_rows` meets its contract. Assumes nothing.
use mathlib.Core.Path.{◌≡◌}
use lib.ListN.{length}
use Rattle.fit.proofs.Lines.{Rowing}
use Rattle.sight.specs.Sights.{Opening}
use Rattle.offer.specs.Acts.{act_line}
use Rattle.listing.specs.Listing.{holding, listing}
use Rattle.listing.proofs.rows.list_rows.Given as goal

abbrev pub invariant-loop-k : goal.invariant-loop-k
invariant-loop-k l = Rowing l.table l.activities (Opening l.table l.picks l.marks l.known l.bound l.values l.parts l.kept l.letters l.waiting l.least) (act_line listing l.cutting l.waiting l.slot)
    (holding l.initial.c.skip l.initial.c.at l.initial.out) l.k (holding l.c.skip l.c.at l.out) × (length l.out ≡ length l.initial.out)
