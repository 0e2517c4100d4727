-- `order::parts::choice_for` meets its contract. Assumes nothing.
use Rattle.order.proofs.PartReturns.{choosing-done, choosing-found, choosing-again}
use Rattle.order.proofs.parts.choice_for.Goals as goal

ruleset cases = (choosing-done, choosing-found, choosing-again)

pub returns-then-number_at-from : goal.returns-then-number_at-from
returns-then-number_at-from c = search cases

pub loop-i-preserved : goal.loop-i-preserved
loop-i-preserved c = search cases

pub returns : goal.returns
returns c = search cases
