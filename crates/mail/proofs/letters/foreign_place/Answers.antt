-- `mail::letters::foreign_place` meets its contract. The loop's invariant: the messages passed are for partners of the plan. Assumes nothing.
use native.Mathlib.Omega.{arith}
use Rattle.machine.proofs.Moved.{partner-below, seeking-none, seeking-found, seeking-on}
use Rattle.mail.proofs.letters.foreign_place.Goals as goal

pub heard-requires : goal.heard-requires
heard-requires c = partner-below c.loop-i.invariant _ c.requires.1 (omega (arith, c.loop-i-test.true, c.loop-i.invariant.long))

pub returns-then-not-heard : goal.returns-then-not-heard
returns-then-not-heard c =
    seeking-found c.loop-i.invariant _ c.requires.1 (omega (arith, c.loop-i-test.true, c.loop-i.invariant.long)) c.heard.ensures c.if-not-heard.true

pub loop-i-preserved : goal.loop-i-preserved
loop-i-preserved c =
    seeking-on c.loop-i.invariant _ c.requires.1 (omega (arith, c.loop-i-test.true, c.loop-i.invariant.long)) c.heard.ensures c.if-not-heard.false

pub returns : goal.returns
returns c = seeking-none c.loop-i.invariant (omega (arith, c.loop-i-test.false, c.loop-i.invariant.long))
