-- `acting::acting::goes_through` meets its contract. Assumes nothing.
use Rattle.std.proofs.Common.{sym, ◌∙◌}
use borrow.Author.Tests.{eqb-true, eqb-false}
use Rattle.acting.proofs.CombineReturns.{through-never, through_not, through-so}
use Rattle.acting.proofs.acting.goes_through.Goals as goal
use Rattle.acting.proofs.acting.goes_through.Goals.{then-kind_of-eq-OPEN_SCOPE, else-kind_of-eq-OPEN_SCOPE}

ruleset cases = (through-never, through_not, through-so)

pub returns-then-mark_at-eq-IDLE : goal.returns-then-mark_at-eq-IDLE
returns-then-mark_at-eq-IDLE c =
    elim c.if-kind_of-eq-OPEN_SCOPE.branch [
      | then-kind_of-eq-OPEN_SCOPE w ↦ let m = eqb-true _ _ (sym w.value-is ∙ c.if-mark_at-eq-IDLE.true) in search cases
      | else-kind_of-eq-OPEN_SCOPE w ↦ absurd (w.if-kind_of-eq-OPEN_SCOPE.false (eqb-true _ _ (sym w.value-is ∙ c.if-mark_at-eq-IDLE.true)))
    ]

pub returns-else-mark_at-eq-IDLE : goal.returns-else-mark_at-eq-IDLE
returns-else-mark_at-eq-IDLE c =
    elim c.if-kind_of-eq-OPEN_SCOPE.branch [
      | then-kind_of-eq-OPEN_SCOPE w ↦ let m = eqb-false _ _ (sym w.value-is ∙ c.if-mark_at-eq-IDLE.false) in rw c.if-mark_at-eq-IDLE.false (search cases)
      | else-kind_of-eq-OPEN_SCOPE w ↦ rw c.if-mark_at-eq-IDLE.false (search cases)
    ]
