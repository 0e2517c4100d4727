-- `scopes::undoing::start_undo` meets its contract. Assumes nothing.
use Rattle.scopes.proofs.UndoReturns.{start_is}
use Rattle.scopes.proofs.undoing.start_undo.Goals as goal

ruleset cases = (start_is)

pub returns : goal.returns
returns c = search cases
