-- `plan::root::correlation_at` meets its contract. The loop's invariant: what is to be read is what the variables left make of those that were
-- read, which are those flagged. Assumes nothing.
use Rattle.plan.proofs.HeadReads.{Correlating}
use Rattle.plan.proofs.root.correlation_at.Given as goal

abbrev pub invariant-loop : goal.invariant-loop
invariant-loop l = Correlating l.s l.at l.count l.vars l.flags l.counter l.least l.next
