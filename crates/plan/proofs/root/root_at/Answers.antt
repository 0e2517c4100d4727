-- `plan::root::root_at` meets its contract. Assumes nothing.
use Rattle.plan.proofs.RootReads.{root-no-parts, root-after, root-no-start, root-accepted}
use Rattle.plan.proofs.OneNumber.{returned}
use Rattle.plan.proofs.root.root_at.Goals as goal

ruleset cases = (root-no-parts, root-after, root-no-start, root-accepted)

pub returns-then-parts-s : goal.returns-then-parts-s
returns-then-parts-s c = search (cases, c.in_ok-parts.was)

pub returns-then-parts : goal.returns-then-parts
returns-then-parts c = search (cases, c.in_ok-parts.was)

pub returns-in_err-parts : goal.returns-in_err-parts
returns-in_err-parts c = rw (returned c.from_residual.ensures.1) (search (cases, c.in_err-parts.was))

pub returns : goal.returns
returns c = search (cases, c.in_ok-parts.was)
