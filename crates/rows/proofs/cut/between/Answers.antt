-- `rows::cut::between` meets its contract. Assumes nothing.
use Rattle.rows.proofs.CutReturns.{summing-again, summing-done}
use Rattle.rows.proofs.cut.between.Goals as goal

pub loop-k-preserved : goal.loop-k-preserved
loop-k-preserved c = summing-again c.loop-k.invariant c.loop-k-test.true c.between_of-sum.ensures.is c.between_of-sum.ensures.few

pub returns : goal.returns
returns c = summing-done c.loop-k.invariant c.loop-k-test.false
