-- `rows::cut::put_parts` meets its contract. Assumes nothing.
use Rattle.rows.proofs.CutReturns.{cutting-again}
use Rattle.rows.proofs.cut.put_parts.Goals as goal

pub loop-i-preserved : goal.loop-i-preserved
loop-i-preserved c =
    cutting-again c.loop-i.invariant c.loop-i-test.true c.width_at-width.ensures.is c.width_at-width.ensures.few c.due_after-after.ensures.is
    c.due_after-after.ensures.few c.k_after-k.ensures.is c.k_after-k.ensures.few c.put_row-at.ensures.next c.put_row-at.ensures.row
