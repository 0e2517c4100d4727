-- `scopes::undoing::begin_part` meets its contract. Assumes nothing.
use Rattle.scopes.proofs.UndoReturns.{part-is}
use Rattle.scopes.proofs.undoing.begin_part.Goals as goal

ruleset cases = (part-is)

pub returns : goal.returns
returns c = search cases
