-- `writer::owns::parts_at` meets its contract. Assumes nothing.
use Rattle.writer.proofs.OwnReturns.{own-set, own-choose, own-repeat}
use Rattle.writer.proofs.owns.parts_at.Goals as goal

ruleset cases = (own-set, own-choose, own-repeat)

pub returns-in-3 : goal.returns-in-3
returns-in-3 c = search cases

pub returns-in-6 : goal.returns-in-6
returns-in-6 c = search cases

pub returns-in-7 : goal.returns-in-7
returns-in-7 c = search cases
