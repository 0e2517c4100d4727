-- `plan::fields::variables_at` meets its contract. The loop's invariant: what is to be read is what the variables left make of those that were
-- read, which are stored and flagged. Assumes nothing.
use Rattle.plan.proofs.TupleReads.{Reading}
use Rattle.plan.proofs.fields.variables_at.Given as goal

abbrev pub invariant-loop-i : goal.invariant-loop-i
invariant-loop-i l = Reading l.s l.at l.count l.vars l.once l.variables l.seen l.i l.next
