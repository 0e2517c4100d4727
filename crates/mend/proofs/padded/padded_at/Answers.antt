-- `mend::padded::padded_at` meets its contract. Assumes nothing.
use Rattle.std.proofs.Common.{arith, ◌∙◌}
use Rattle.mend.proofs.PaddedReads.{reads_none, reads_short, reads-large, reads-last}
use Rattle.mend.proofs.padded.padded_at.Goals as goal

pub returns-in_default : goal.returns-in_default
returns-in_default c = reads_short c.loop.invariant c.loop-test.true (omega (arith, c.in_default.ensures.lookup))

pub returns-then-sum-gt4294967295 : goal.returns-then-sum-gt4294967295
returns-then-sum-gt4294967295 c =
    let h = c.in-Some.ensures.lookup in
    reads-large c.loop.invariant c.loop-test.true (c.from-b.ensures ∙ h.3.1 0) h.3.0 c.if-sum-gt4294967295.true

pub returns-then-b-lt128 : goal.returns-then-b-lt128
returns-then-b-lt128 c =
    let h = c.in-Some.ensures.lookup in
    reads-last c.loop.invariant c.loop-test.true (c.from-b.ensures ∙ h.3.1 0) h.3.0 c.if-sum-gt4294967295.false c.if-b-lt128.true

pub returns : goal.returns
returns c = reads_none c.loop.invariant c.loop-test.false
