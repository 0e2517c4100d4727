-- `plan::root::plan_at` meets its contract. Assumes nothing.
use Rattle.plan.proofs.RootReads.{plan-long, plan-no-version, plan-no-variables, plan-read, plan-base}
use Rattle.plan.proofs.OneNumber.{returned}
use Rattle.plan.proofs.root.plan_at.Goals as goal

ruleset cases = (plan-long, plan-no-version, plan-no-variables, plan-read, plan-base)

pub returns-then-s-gt4096 : goal.returns-then-s-gt4096
returns-then-s-gt4096 c = search cases

pub flagged_at-requires : goal.flagged_at-requires
flagged_at-requires c = search (cases, c.in_ok-vars.was)

pub returns-in_err-version : goal.returns-in_err-version
returns-in_err-version c = rw (returned c.from_residual.ensures.1) (search (cases, c.in_err-version.was))

pub returns-in_err-vars : goal.returns-in_err-vars
returns-in_err-vars c = rw (returned c.from_residual-in_err-vars.ensures.1) (search (cases, c.in_err-vars.was, c.in_ok-version.was))

pub returns : goal.returns
returns c = search (cases, c.in_ok-version.was, c.in_ok-vars.was)
