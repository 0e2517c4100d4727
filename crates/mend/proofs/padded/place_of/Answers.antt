-- `mend::padded::place_of` meets its contract. Assumes nothing.
use Rattle.std.proofs.Common.{arith}
use Rattle.mend.proofs.RunReturns.{place-done, place_end, place-behind, run-less}
use Rattle.mend.proofs.padded.place_of.Goals as goal

pub overflow_add-p : goal.overflow_add-p
overflow_add-p c = omega (arith, place-behind c.loop-p.invariant c.in-Ok.ensures c.size-p.ensures)

pub loop-p-smaller : goal.loop-p-smaller
loop-p-smaller c = run-less _ _ c.in-Ok.ensures

pub returns-after-loop-p : goal.returns-after-loop-p
returns-after-loop-p c = place-done c.loop-p.invariant c.loop-p-test.false

pub returns-in_default : goal.returns-in_default
returns-in_default c = place_end c.loop-p.invariant c.in_default.ensures
