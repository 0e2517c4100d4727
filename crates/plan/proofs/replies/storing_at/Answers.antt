-- `plan::replies::storing_at` meets its contract. Assumes nothing.
use Rattle.plan.proofs.ReplyReads.{storing-handed, storing-spoken-for, storing-good, storing-below}
use Rattle.plan.proofs.OneNumber.{returned}
use Rattle.plan.proofs.replies.storing_at.Goals as goal

ruleset cases = (storing-handed, storing-spoken-for, storing-good, storing-below)

pub spoken_for-requires : goal.spoken_for-requires
spoken_for-requires c = search (cases, c.in_ok-variable.was)

pub returns-in_err-variable : goal.returns-in_err-variable
returns-in_err-variable c = rw (returned c.from_residual.ensures.1) (search (cases, c.in_err-variable.was))

pub returns-then-spoken_for : goal.returns-then-spoken_for
returns-then-spoken_for c = search (cases, c.in_ok-variable.was)

pub returns : goal.returns
returns c = search (cases, c.in_ok-variable.was)
