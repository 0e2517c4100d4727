-- `writer::root::plan_at` meets its contract. Assumes nothing.
use native.Mathlib.Omega.{arith}
use Rattle.writer.specs.Reading.{plan_at}
use Rattle.writer.specs.Written.{result_for}
use Rattle.writer.proofs.HearReturns.{plan-silent, plan-refused, plan-hears}
use Rattle.writer.proofs.Told.{cases, passed-on}
use Rattle.writer.proofs.root.plan_at.Goals as goal

pub returns-in_err-version-clause-is : goal.returns-in_err-version-clause-is
unfolding plan_at
returns-in_err-version-clause-is c = passed-on _ _ _ _ c.in_err-version.ensures.is c.from_residual.ensures.1

pub returns-in_err-version-clause-hears : goal.returns-in_err-version-clause-hears
returns-in_err-version-clause-hears c = plan-silent _ _ _ _ (returns-in_err-version-clause-is c) c.from_residual.ensures.0

pub returns-then-version-ne1-clause-is : goal.returns-then-version-ne1-clause-is
unfolding plan_at result_for
returns-then-version-ne1-clause-is c = grind (arith, cases)

pub returns-then-version-ne1-clause-hears : goal.returns-then-version-ne1-clause-hears
returns-then-version-ne1-clause-hears c = plan-refused _ _ _ _ (returns-then-version-ne1-clause-is c)

pub returns-then-not-head_fits-clause-is : goal.returns-then-not-head_fits-clause-is
unfolding plan_at result_for
returns-then-not-head_fits-clause-is c = grind (arith, cases)

pub returns-then-not-head_fits-clause-hears : goal.returns-then-not-head_fits-clause-hears
returns-then-not-head_fits-clause-hears c = plan-refused _ _ _ _ (returns-then-not-head_fits-clause-is c)

pub returns-clause-hears : goal.returns-clause-hears
returns-clause-hears c =
    plan-hears _ c.in_ok-version.ensures.is c.if-version-ne1.false c.head_fits.ensures.is c.if-not-head_fits.false c.cell_at.ensures c.tuple_at.ensures c.root_at.ensures.hears
