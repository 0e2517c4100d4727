-- `rows::cut::put_numbers` meets its contract. Assumes nothing.
use Rattle.rows.proofs.CutReturns.{putting-again}
use Rattle.rows.proofs.cut.put_numbers.Goals as goal

pub loop-i-preserved : goal.loop-i-preserved
loop-i-preserved c = putting-again c.loop-i.invariant c.loop-i-test.true c.taken_at-n.ensures.value c.taken_at-n.ensures.next
