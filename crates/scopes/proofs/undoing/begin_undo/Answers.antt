-- `scopes::undoing::begin_undo` meets its contract. Assumes nothing.
use Rattle.scopes.proofs.UndoReturns.{looking-far, looking-starts, looking-done, looking-skips, looking-found, looking-other, looking-deeper}
use Rattle.scopes.proofs.undoing.begin_undo.Goals as goal

ruleset cases = (looking-far, looking-starts, looking-done, looking-skips, looking-found, looking-other)

ruleset deeper = (looking-deeper)

pub returns-then-to-gt256 : goal.returns-then-to-gt256
returns-then-to-gt256 c = search cases

pub loop-j-init : goal.loop-j-init
loop-j-init c = search cases

pub loop-j-preserved-then-n-e : goal.loop-j-preserved-then-n-e
loop-j-preserved-then-n-e c = search cases

pub returns-then-j-e : goal.returns-then-j-e
returns-then-j-e c = search cases

pub returns-then-has_undo : goal.returns-then-has_undo
returns-then-has_undo c = search cases

pub returns : goal.returns
returns c = search cases

pub loop-j-preserved : goal.loop-j-preserved
loop-j-preserved c = search deeper
