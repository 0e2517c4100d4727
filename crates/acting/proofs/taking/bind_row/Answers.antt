-- `acting::taking::bind_row` meets its contract. Assumes nothing.
use Rattle.acting.proofs.TakeReturns.{taking-done, taking-again}
use Rattle.acting.proofs.taking.bind_row.Goals as goal

ruleset cases = (taking-done, taking-again)

pub loop-i-preserved : goal.loop-i-preserved
loop-i-preserved c = search cases

pub returns : goal.returns
returns c = search cases
