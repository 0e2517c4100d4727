-- `plan::agree::hear` meets its contract. Assumes nothing.
use Rattle.plan.proofs.HearReturns.{hear-first, hear-same, hear-differs, hear-later}
use Rattle.plan.proofs.agree.hear.Goals.{else-before-many-via-then-before-many+else-differs-eq0, else-before-many-via-else-before-many}
use Rattle.plan.proofs.agree.hear.Goals as goal

ruleset cases = (hear-first, hear-same, hear-differs, hear-later)

pub returns-then-before-eq0 : goal.returns-then-before-eq0
returns-then-before-eq0 c = search cases

pub returns-then-differs-eq0 : goal.returns-then-differs-eq0
returns-then-differs-eq0 c = search cases

pub returns-else-before-many : goal.returns-else-before-many
returns-else-before-many c =
    let x = c.from-before.ensures in
    elim c.else-before-many.branch [
      | else-before-many-via-then-before-many+else-differs-eq0 w ↦ hear-later _ _ _ _ _ _ x c.if-before-eq0.false w.if-before-many.true w.if-differs-eq0.false
      | else-before-many-via-else-before-many w ↦ hear-same _ _ _ _ _ _ x c.if-before-eq0.false w.if-before-many.false
    ]
