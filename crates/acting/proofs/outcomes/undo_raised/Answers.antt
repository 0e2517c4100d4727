-- `acting::outcomes::undo_raised` meets its contract. Assumes nothing.
use Rattle.std.proofs.Common.{sym, ◌∙◌}
use borrow.Author.Tests.{eqb-true, eqb-false}
use Rattle.acting.proofs.OutcomeReturns.{undo-breaks, undo-breaks-too, undo-absorbed}
use Rattle.acting.proofs.outcomes.undo_raised.Goals as goal
use Rattle.acting.proofs.outcomes.undo_raised.Goals.{then-state_of-eq-UNDOING, else-state_of-eq-UNDOING}

ruleset cases = (undo-breaks, undo-breaks-too, undo-absorbed)

pub returns-then-mark_of-eq-WITHDRAWING : goal.returns-then-mark_of-eq-WITHDRAWING
returns-then-mark_of-eq-WITHDRAWING c =
    elim c.if-state_of-eq-UNDOING.branch [
      | then-state_of-eq-UNDOING w ↦ search cases
      | else-state_of-eq-UNDOING w ↦ let m = eqb-true _ _ (sym w.value-is ∙ c.if-mark_of-eq-WITHDRAWING.true) in search cases
    ]

pub returns-else-mark_of-eq-WITHDRAWING : goal.returns-else-mark_of-eq-WITHDRAWING
returns-else-mark_of-eq-WITHDRAWING c =
    elim c.if-state_of-eq-UNDOING.branch [
      | then-state_of-eq-UNDOING w ↦ absurd (eqb-false _ _ (sym w.value-is ∙ c.if-mark_of-eq-WITHDRAWING.false) w.if-state_of-eq-UNDOING.true)
      | else-state_of-eq-UNDOING w ↦ let m = eqb-false _ _ (sym w.value-is ∙ c.if-mark_of-eq-WITHDRAWING.false) in search cases
    ]
