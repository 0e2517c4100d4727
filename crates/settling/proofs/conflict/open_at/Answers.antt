-- `settling::conflict::open_at` meets its contract. Assumes nothing.
use borrow.Author.Tests.{le-ltb}
use Rattle.settling.proofs.ConflictReturns.{open-receive, open-arm, open-beyond, open-other}
use Rattle.settling.proofs.conflict.open_at.Goals as goal

ruleset cases = (open-receive, open-arm, open-other)

pub returns-in-2 : goal.returns-in-2
returns-in-2 c = search cases

pub returns-then-k-reach : goal.returns-then-k-reach
returns-then-k-reach c = search cases

pub returns-else-k-reach : goal.returns-else-k-reach
returns-else-k-reach c = rw (le-ltb _ _ c.if-k-reach.false) (open-beyond _ _ _ _ c.in-255.is c.if-k-reach.false)

pub returns-in_default : goal.returns-in_default
returns-in_default c = search cases
