-- `plan::root::flagged_at` meets its contract. Assumes nothing.
use Rattle.plan.proofs.RootReads.{flagged-no-count, flagged-no-list, flagged-body, flagged-root}
use Rattle.plan.proofs.OneNumber.{returned}
use Rattle.plan.proofs.root.flagged_at.Goals as goal

ruleset cases = (flagged-no-count, flagged-no-list, flagged-body, flagged-root)

pub root_at-requires : goal.root_at-requires
root_at-requires c = search (cases, c.in_ok-count.was, c.in_ok-body.was)

pub returns-in_err-count : goal.returns-in_err-count
returns-in_err-count c = rw (returned c.from_residual.ensures.1) (search (cases, c.in_err-count.was))

pub returns-in_err-body : goal.returns-in_err-body
returns-in_err-body c = rw (returned c.from_residual-in_err-body.ensures.1) (search (cases, c.in_err-body.was, c.in_ok-count.was))

pub returns : goal.returns
returns c = search (cases, c.in_ok-count.was, c.in_ok-body.was)
