-- `writer::root::root_at` meets its contract. Assumes nothing.
use borrow.Author.Tests.{not-true, not-false}
use Rattle.writer.proofs.RootReturns.{root-no-parts, root-after, root-no-start, root-yes}
use Rattle.writer.proofs.HearReturns.{plan-silent, plan-refused, root-hears}
use Rattle.writer.proofs.root.root_at.Goals as goal

pub returns-in_err-parts-clause-is : goal.returns-in_err-parts-clause-is
returns-in_err-parts-clause-is c = root-no-parts _ _ _ _ c.in_err-parts.ensures.is c.from_residual.ensures.1

pub returns-in_err-parts-clause-hears : goal.returns-in_err-parts-clause-hears
returns-in_err-parts-clause-hears c = plan-silent _ _ _ _ (returns-in_err-parts-clause-is c) c.from_residual.ensures.0

pub returns-then-is_left-clause-is : goal.returns-then-is_left-clause-is
returns-then-is_left-clause-is c = root-after _ _ _ _ c.in_ok-parts.ensures.is c.is_left.ensures c.if-is_left.true

pub returns-then-is_left-clause-hears : goal.returns-then-is_left-clause-hears
returns-then-is_left-clause-hears c = plan-refused _ _ _ _ (returns-then-is_left-clause-is c)

pub returns-then-not-parts-clause-is : goal.returns-then-not-parts-clause-is
returns-then-not-parts-clause-is c = root-no-start _ _ _ _ c.in_ok-parts.ensures.is c.is_left.ensures c.if-is_left.false (not-true _ c.if-not-parts.true)

pub returns-then-not-parts-clause-hears : goal.returns-then-not-parts-clause-hears
returns-then-not-parts-clause-hears c = plan-refused _ _ _ _ (returns-then-not-parts-clause-is c)

pub returns-clause-is : goal.returns-clause-is
returns-clause-is c = root-yes _ _ _ _ c.in_ok-parts.ensures.is c.is_left.ensures c.if-is_left.false (not-false _ c.if-not-parts.false)

pub returns-clause-hears : goal.returns-clause-hears
returns-clause-hears c = root-hears _ _ _ _ c.in_ok-parts.ensures.is _ _ c.is_left.ensures c.if-is_left.false (not-false _ c.if-not-parts.false) c.in_ok-parts.ensures.hear
