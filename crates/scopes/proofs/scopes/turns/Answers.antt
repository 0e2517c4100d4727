-- `scopes::scopes::turns` meets its contract. Assumes nothing.
use Rattle.scopes.proofs.ScopeReturns.{turns-not, turns-undoes}
use Rattle.scopes.proofs.scopes.turns.Goals as goal

ruleset cases = (turns-not, turns-undoes)

pub returns-then-inner_runs : goal.returns-then-inner_runs
returns-then-inner_runs c = search cases

pub returns-else-inner_runs : goal.returns-else-inner_runs
returns-else-inner_runs c = search cases
