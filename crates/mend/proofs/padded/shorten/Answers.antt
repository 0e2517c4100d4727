-- `mend::padded::shorten` meets its contract. Assumes nothing.
use Rattle.mend.proofs.RunReturns.{shorten-end, shorten-end-bytes, run-less}
use Rattle.mend.proofs.padded.shorten.Goals as goal

pub loop-value-smaller : goal.loop-value-smaller
loop-value-smaller c = run-less _ _ c.in-Ok.ensures

pub returns-clause-long : goal.returns-clause-long
returns-clause-long c = shorten-end c.loop-value.invariant c.in_default.ensures

pub returns-clause-bytes : goal.returns-clause-bytes
returns-clause-bytes c = shorten-end-bytes c.loop-value.invariant c.in_default.ensures
