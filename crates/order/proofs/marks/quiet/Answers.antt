-- `order::marks::quiet` meets its contract. Assumes nothing.
use Rattle.order.proofs.MarkReturns.{quiet-done, quiet-stop, quiet_next}
use Rattle.order.proofs.marks.quiet.Goals as goal

ruleset cases = (quiet-done, quiet-stop, quiet_next)

pub returns-then-marks-i-ne-IDLE : goal.returns-then-marks-i-ne-IDLE
returns-then-marks-i-ne-IDLE c = search cases

pub loop-i-preserved : goal.loop-i-preserved
loop-i-preserved c = search cases

pub returns : goal.returns
returns c = search cases
