-- `acting::acting::goes_on` meets its contract. Assumes nothing.
use Rattle.acting.proofs.CombineReturns.{sequence-follows, sequence-stays, flow-joins, flow-stays, repeat-decides, repeat-stays, inside-finishes, inside-stays}
use Rattle.acting.proofs.acting.goes_on.Goals as goal

ruleset cases = (sequence-follows, sequence-stays, flow-joins, flow-stays, repeat-decides, repeat-stays, inside-finishes, inside-stays)

pub returns-then-mark-eq-ACTIVE : goal.returns-then-mark-eq-ACTIVE
returns-then-mark-eq-ACTIVE c = search cases

pub returns-else-mark-eq-ACTIVE : goal.returns-else-mark-eq-ACTIVE
returns-else-mark-eq-ACTIVE c = search cases

pub returns-then-mark-eq-ACTIVE-2 : goal.returns-then-mark-eq-ACTIVE-2
returns-then-mark-eq-ACTIVE-2 c = search cases

pub returns-else-mark-eq-ACTIVE-2 : goal.returns-else-mark-eq-ACTIVE-2
returns-else-mark-eq-ACTIVE-2 c = search cases

pub returns-then-mark-eq-INSIDE : goal.returns-then-mark-eq-INSIDE
returns-then-mark-eq-INSIDE c = search cases

pub returns-else-mark-eq-INSIDE : goal.returns-else-mark-eq-INSIDE
returns-else-mark-eq-INSIDE c = search cases

pub returns-then-mark-eq-INSIDE-2 : goal.returns-then-mark-eq-INSIDE-2
returns-then-mark-eq-INSIDE-2 c = search cases

pub returns-else-mark-eq-INSIDE-2 : goal.returns-else-mark-eq-INSIDE-2
returns-else-mark-eq-INSIDE-2 c = search cases
