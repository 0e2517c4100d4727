-- `scopes::stopping::stop` meet their contracts. Assumes nothing.
use Rattle.scopes.proofs.StopReturns.{stop-far, stop-opened, stop-closed, stop-bare, stop-all, stopping-starts, stopping-done, stopping-again}
use Rattle.scopes.proofs.stopping.+stop.Goals as goal
use Rattle.scopes.proofs.stopping.+stop.Goals.{else-is_open-via-then-is_open+else-k-e, else-is_open-via-else-is_open}

ruleset cases = (stop-far, stop-opened, stop-closed, stop-bare, stop-all, stopping-starts, stopping-done, stopping-again)

pub returns-then-k-ge256 : goal.returns-then-k-ge256
returns-then-k-ge256 t c = search cases

pub loop-c-init : goal.loop-c-init
loop-c-init t c = search cases

pub loop-c-preserved : goal.loop-c-preserved
loop-c-preserved t c = search cases

pub returns : goal.returns
returns t c = search cases

pub returns-then-k-e : goal.returns-then-k-e
returns-then-k-e t c = search cases

pub returns-then-is_scope : goal.returns-then-is_scope
returns-then-is_scope t c =
    elim c.else-is_open.branch [
      | else-is_open-via-then-is_open+else-k-e w ↦ search cases
      | else-is_open-via-else-is_open w ↦ search cases
    ]
