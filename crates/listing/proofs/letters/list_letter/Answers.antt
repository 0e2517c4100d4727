-- `listing::letters::list_letter` meets its contract. Assumes nothing.
use borrow.Author.Rules.{rules}
use mathlib.Core.Path.{◌≡◌}
use borrow.Author.Tests.{not-true, not-false}
use native.Mathlib.Omega.{arith}
use Rattle.listing.proofs.Asked.{letter-asks, listens-starts, listens-again, listens-ends, listens-full}
use Rattle.listing.proofs.letters.list_letter.Goals as goal

pub loop-at-init : goal.loop-at-init
loop-at-init c = (listens-starts _ _ _ _ (search rules), omega arith)

pub overflow_add-c : goal.overflow_add-c
overflow_add-c c = omega (arith, c.loop-at-test.true, c.loop-at.invariant.0.near, c.loop-at.invariant.0.long, c.well_formed.1.1.1.1.1.1.1.1.1.1.1.1.0)

pub loop-at-preserved : goal.loop-at-preserved
loop-at-preserved c = (
  listens-again c.loop-at.invariant.0 (omega (arith, c.loop-at-test.true, c.loop-at.invariant.0.long)) (letter-asks c.requires c.nothing_seen.ensures c.letter_sight.ensures) (not-false _ c.if-not-p.false) c.pointer_number.ensures c.put.ensures,
  omega (arith, c.loop-at-test.true),
)

pub returns-then-not-p : goal.returns-then-not-p
returns-then-not-p c = listens-ends c.loop-at.invariant.0 (omega (arith, c.loop-at-test.true, c.loop-at.invariant.0.long)) (letter-asks c.requires c.nothing_seen.ensures c.letter_sight.ensures) (not-true _ c.if-not-p.true) c.lesser_of.ensures

pub returns : goal.returns
returns c =
    let e : c.max.result ≡ c.loop-at.at = omega (arith, c.max.ensures, c.loop-at.auto.out, c.loop-at.invariant.1, c.loop-at-test.false) in
    rw e (listens-full c.loop-at.invariant.0 (omega (arith, c.loop-at-test.false, c.loop-at.auto.out)))
