-- `acting::acting::step_in` meet their contracts. Assumes nothing.
use Rattle.std.proofs.Common.{◌∙◌}
use Rattle.acting.proofs.CombineReturns.{step-itself, step-within, step-nowhere}
use Rattle.acting.proofs.acting.+step_in.Goals as goal
use Rattle.acting.proofs.acting.+step_in.Goals.{then-child-e, else-child-e}

ruleset cases = (step-itself, step-within, step-nowhere)

pub returns-then-k-t : goal.returns-then-k-t
returns-then-k-t t c = search cases

pub returns : goal.returns
returns t c =
    elim c.if-child-e.branch [
      | then-child-e w ↦ let s = rw (← w.r-is) at w.step_in-r.ensures in search cases
      | else-child-e w ↦ let s = w.r-is ∙ w.runs-r.ensures in search cases
    ]
