-- `scopes::scopes::handle` meets its contract. Assumes nothing.
use Rattle.scopes.proofs.ScopeReturns.{handle-over, handle-runs}
use Rattle.scopes.proofs.scopes.handle.Goals as goal

ruleset cases = (handle-over, handle-runs)

pub returns-then-is_over : goal.returns-then-is_over
returns-then-is_over c = search cases

pub returns-else-is_over : goal.returns-else-is_over
returns-else-is_over c = search cases
