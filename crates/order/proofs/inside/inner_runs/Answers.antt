-- `order::inside::inner_runs` meets its contract. Assumes nothing.
use Rattle.order.proofs.InsideReturns.{scanning-starts, scanning-done, scanning-found, scanning-again, runs-far, scanned-runs}
use Rattle.order.proofs.inside.inner_runs.Goals as goal

ruleset cases = (scanning-starts, scanning-done, scanning-found, scanning-again, runs-far, scanned-runs)

pub returns-then-to-gt256 : goal.returns-then-to-gt256
returns-then-to-gt256 c = search cases

pub loop-j-init : goal.loop-j-init
loop-j-init c = search cases

pub returns-then-runs_at : goal.returns-then-runs_at
returns-then-runs_at c = search cases

pub loop-j-preserved : goal.loop-j-preserved
loop-j-preserved c = search cases

pub returns : goal.returns
returns c = search cases
