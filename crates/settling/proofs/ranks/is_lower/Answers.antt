-- `settling::ranks::is_lower` meets its contract. Assumes nothing.
use Rattle.settling.proofs.RankReturns.{lower-root, comparing-starts, comparing-again, comparing-tells, comparing-done}
use Rattle.settling.proofs.ranks.is_lower.Goals as goal

ruleset cases = (lower-root, comparing-starts, comparing-again, comparing-tells, comparing-done)

pub returns-then-x-y : goal.returns-then-x-y
returns-then-x-y c = search cases

pub loop-k-init : goal.loop-k-init
loop-k-init c = search cases

pub returns-then-v-w : goal.returns-then-v-w
returns-then-v-w c = search cases

pub loop-k-preserved : goal.loop-k-preserved
loop-k-preserved c = search cases

pub returns : goal.returns
returns c = search cases
