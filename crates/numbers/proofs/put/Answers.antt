-- `numbers::put` meets its contract. Assumes nothing.
use Rattle.numbers.proofs.Writes.{writing-inside, writing-next}
use Rattle.numbers.proofs.put.Goals as goal

pub bounds-out-q : goal.bounds-out-q
bounds-out-q c = writing-inside c.loop-v.invariant

pub bounds-out-q-2 : goal.bounds-out-q-2
bounds-out-q-2 c = writing-inside c.loop-v.invariant

pub returns-clause-next : goal.returns-clause-next
returns-clause-next c = writing-next c.loop-v.invariant c.loop-v-test.false
