-- `plan::root::version_at` meets its contract. Assumes nothing.
use Rattle.plan.proofs.HeadReads.{version-handed, version-one, version-unknown}
use Rattle.plan.proofs.OneNumber.{returned, number-none, number_fits}
use Rattle.plan.proofs.root.version_at.Goals as goal

ruleset cases = (version-handed, version-one, version-unknown, number-none, number_fits)

pub returns-in_err-read : goal.returns-in_err-read
returns-in_err-read c = rw (returned c.from_residual.ensures.1) (search (cases, c.in_err-read.was))

pub returns-then-read-eq1 : goal.returns-then-read-eq1
returns-then-read-eq1 c = search (cases, c.in_ok-read.was)

pub returns : goal.returns
returns c = search (cases, c.in_ok-read.was)
