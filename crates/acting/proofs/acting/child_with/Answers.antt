-- `acting::acting::child_with` meets its contract. Assumes nothing.
use Rattle.acting.proofs.ChildReturns.{seeing-starts, seeing-done, seeing-found, seeing-again}
use Rattle.acting.proofs.acting.child_with.Goals as goal

ruleset cases = (seeing-starts, seeing-done, seeing-found, seeing-again)

pub returns-then-t-n : goal.returns-then-t-n
returns-then-t-n c = search cases

pub loop-j-preserved : goal.loop-j-preserved
loop-j-preserved c = search cases

pub returns : goal.returns
returns c = search cases
