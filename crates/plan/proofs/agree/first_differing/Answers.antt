-- `plan::agree::first_differing` meets its contract. The loop's invariant: what the rows left make of what was heard is what all rows make.
-- Assumes nothing.
use Rattle.plan.proofs.HearReturns.{hearing-starts, hearing-again, hearing-done}
use Rattle.plan.proofs.agree.first_differing.Goals as goal

ruleset cases = (hearing-starts, hearing-again, hearing-done)

pub loop-k-init : goal.loop-k-init
loop-k-init c = search cases

pub loop-k-preserved : goal.loop-k-preserved
loop-k-preserved c = search cases

pub returns : goal.returns
returns c = search cases
