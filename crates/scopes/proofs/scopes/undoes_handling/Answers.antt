-- `scopes::scopes::undoes_handling` meets its contract. Assumes nothing.
use Rattle.scopes.proofs.ScopeReturns.{undoes-handles, undoes-waits}
use Rattle.scopes.proofs.scopes.undoes_handling.Goals as goal

ruleset cases = (undoes-handles, undoes-waits)

pub returns-then-is_over : goal.returns-then-is_over
returns-then-is_over c = search cases

pub returns-else-is_over : goal.returns-else-is_over
returns-else-is_over c = search cases
