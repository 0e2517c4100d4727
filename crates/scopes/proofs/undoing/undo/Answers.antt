-- `scopes::undoing::undo` meets its contract. Assumes nothing.
use Rattle.scopes.proofs.UndoReturns.{undoing-starts, undoing-done, undoing-stops, undoing-again, found_inside}
use Rattle.scopes.proofs.undoing.undo.Goals as goal

ruleset cases = (undoing-starts, undoing-done, undoing-stops, undoing-again)

ruleset room = (found_inside)

pub loop-i-init : goal.loop-i-init
loop-i-init c = search cases

pub returns : goal.returns
returns c = search cases

pub start_undo-r-requires : goal.start_undo-r-requires
start_undo-r-requires c = search room

pub loop-i-preserved : goal.loop-i-preserved
loop-i-preserved c = search cases

pub returns-then-not-is_over : goal.returns-then-not-is_over
returns-then-not-is_over c = search cases
