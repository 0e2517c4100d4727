-- `order::sending::tuple_bound` meets its contract. Assumes nothing.
use Rattle.order.proofs.SendReturns.{checking-done, checking-again, checking-fails}
use Rattle.order.proofs.sending.tuple_bound.Goals as goal

ruleset cases = (checking-done, checking-again, checking-fails)

pub returns-then-not-bound_at : goal.returns-then-not-bound_at
returns-then-not-bound_at c = search cases

pub loop-i-preserved : goal.loop-i-preserved
loop-i-preserved c = search cases

pub returns : goal.returns
returns c = search cases
