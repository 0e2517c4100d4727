-- `offer::slots::start_rows` meets its contract. Assumes nothing.
use Rattle.fit.specs.Answering.{message_at}
use Rattle.fit.specs.Receiving.{Lent}
use Rattle.offer.specs.Seeing.{start_line}
use Rattle.fit.proofs.Lines.{Rowing}
use Rattle.offer.proofs.slots.start_rows.Given as goal

abbrev pub invariant-loop-k : goal.invariant-loop-k
invariant-loop-k l = Rowing l.table l.activities (Lent l.table l.picks l.marks l.known) (start_line l.free l.j (message_at l.letters l.j)) l.initial.c l.k l.c
