-- `acting::acting::combines` meets its contract. Assumes nothing.
use Rattle.acting.proofs.CombineReturns.{combines-scope, combines-goes, combines-runs, combines-none}
use Rattle.acting.proofs.acting.combines.Goals as goal
use Rattle.acting.proofs.acting.combines.Goals.{else-has_parts-via-then-has_parts+else-is_over, else-has_parts-via-else-has_parts}

ruleset cases = (combines-scope, combines-goes, combines-runs, combines-none)

pub returns-then-is_scope : goal.returns-then-is_scope
returns-then-is_scope c = search cases

pub returns-then-is_over : goal.returns-then-is_over
returns-then-is_over c = search cases

pub returns-else-has_parts : goal.returns-else-has_parts
returns-else-has_parts c =
    elim c.else-has_parts.branch [
      | else-has_parts-via-then-has_parts+else-is_over w ↦ search cases
      | else-has_parts-via-else-has_parts w ↦ search cases
    ]
