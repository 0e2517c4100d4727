-- `scopes::undoing::undo` meets its contract. Assumes nothing.
use Rattle.scopes.proofs.UndoReturns.{Undoing}
use Rattle.scopes.proofs.undoing.undo.Given as goal

abbrev pub invariant-loop-i : goal.invariant-loop-i
invariant-loop-i l = Undoing l.table l.spot l.initial.o l.o

abbrev pub decreases-loop-i : goal.decreases-loop-i
decreases-loop-i l = l.o.kept
