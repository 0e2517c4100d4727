-- `sight::rows::offer_rows` meets its contract. Assumes nothing.
use Rattle.sight.specs.Sights.{Opening, offer_line}
use Rattle.fit.proofs.Lines.{Rowing}
use Rattle.sight.proofs.rows.offer_rows.Given as goal

abbrev pub invariant-loop-k : goal.invariant-loop-k
invariant-loop-k l = Rowing l.table l.activities (Opening l.table l.picks l.marks l.known l.bound l.values l.parts l.kept l.letters l.waiting l.least) (offer_line l.cutting l.waiting l.slot) l.initial.c l.k l.c
