-- `rows::cut::put_parts` meets its contract. Assumes nothing.
use Rattle.rows.proofs.CutReturns.{Cutting}
use Rattle.rows.proofs.cut.put_parts.Given as goal

abbrev pub invariant-loop-i : goal.invariant-loop-i
invariant-loop-i l = Cutting l.s l.table l.left l.from l.initial.out l.out l.k l.due l.at l.i
