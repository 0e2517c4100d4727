-- `mend::padded::padded_at` meets its contract. Assumes nothing.
use Rattle.mend.proofs.PaddedReads.{Reads}
use Rattle.mend.proofs.padded.padded_at.Given as goal

abbrev pub invariant-loop : goal.invariant-loop
invariant-loop l = Reads l.s l.at l.counter l.next l.scale l.sum
