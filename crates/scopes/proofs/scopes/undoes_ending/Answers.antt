-- `scopes::scopes::undoes_ending` meets its contract. Assumes nothing.
use Rattle.scopes.proofs.ScopeReturns.{undoes-ends, undoes-stays}
use Rattle.scopes.proofs.scopes.undoes_ending.Goals as goal

ruleset cases = (undoes-ends, undoes-stays)

pub returns-then-is_over : goal.returns-then-is_over
returns-then-is_over c = search cases

pub returns-else-is_over : goal.returns-else-is_over
returns-else-is_over c = search cases
