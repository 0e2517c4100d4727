-- `numbers::put` meets its contract. Assumes nothing.
use Rattle.numbers.proofs.Writes.{Writing}
use Rattle.numbers.proofs.put.Given as goal

abbrev pub invariant-loop-v : goal.invariant-loop-v
invariant-loop-v l = Writing l.value l.at l.initial.out l.v l.q l.out

abbrev pub decreases-loop-v : goal.decreases-loop-v
decreases-loop-v l = l.v
