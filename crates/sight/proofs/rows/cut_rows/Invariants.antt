-- `sight::rows::cut_rows` meets its contract. Assumes nothing.
use mathlib.Core.Bool.{false}
use Rattle.sight.specs.Sights.{Marked, cut_line}
use Rattle.fit.proofs.Lines.{Rowing}
use Rattle.sight.proofs.rows.cut_rows.Given as goal

abbrev pub invariant-loop-k : goal.invariant-loop-k
invariant-loop-k l = Rowing l.table l.activities (Marked l.marks) cut_line false l.k l.c
