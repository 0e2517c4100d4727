-- `plan::agree::first_differing` meets its contract. The loop's invariant: what the rows left make of what was heard is what all rows make.
-- Assumes nothing.
use Rattle.plan.specs.Heard.{noted}
use Rattle.plan.proofs.HearReturns.{Hearing}
use Rattle.plan.proofs.agree.first_differing.Given as goal

abbrev pub invariant-loop-k : goal.invariant-loop-k
invariant-loop-k l = Hearing l.table l.n (noted l.counts l.differs) l.k
