-- `acting::outcomes::body_over` meets its contract. Assumes nothing.
use Rattle.acting.proofs.OutcomeReturns.{body-done, body-looks}
use Rattle.acting.proofs.outcomes.body_over.Goals as goal

ruleset cases = (body-done, body-looks)

pub returns-then-mark_of-eq-ACTIVE : goal.returns-then-mark_of-eq-ACTIVE
returns-then-mark_of-eq-ACTIVE c = search cases

pub returns-else-mark_of-eq-ACTIVE : goal.returns-else-mark_of-eq-ACTIVE
returns-else-mark_of-eq-ACTIVE c = search cases
