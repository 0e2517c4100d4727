-- `mend::padded::shorten` meets its contract. Assumes nothing.
use Prim.Native.Nat.{◌-◌}
use lib.ListN.{length}
use Rattle.mend.proofs.RunReturns.{Shortening}
use Rattle.mend.proofs.padded.shorten.Given as goal

abbrev pub invariant-loop-value : goal.invariant-loop-value
invariant-loop-value l = Shortening l.s l.initial.out l.out l.at l.q

abbrev pub decreases-loop-value : goal.decreases-loop-value
decreases-loop-value l = length l.s - l.at
