-- `rows::cut::put_numbers` meets its contract. Assumes nothing.
use Rattle.rows.proofs.CutReturns.{Putting}
use Rattle.rows.proofs.cut.put_numbers.Given as goal

abbrev pub invariant-loop-i : goal.invariant-loop-i
invariant-loop-i l = Putting l.s l.at l.left l.initial.out l.base l.out l.p l.i
