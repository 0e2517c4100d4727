-- `writer::root::agreed_at` meets its contract. Assumes nothing.
use Rattle.writer.specs.Reading.{agreed_at}
use Rattle.writer.proofs.HearReturns.{agreed-yes, agreed-differs}
use Rattle.writer.proofs.Told.{passed-on}
use Rattle.writer.proofs.root.agreed_at.Goals as goal

pub returns-in_err-next : goal.returns-in_err-next
unfolding agreed_at
returns-in_err-next c = passed-on _ _ _ _ c.in_err-next.ensures.is c.from_residual.ensures.1

pub returns-then-heard-ne0 : goal.returns-then-heard-ne0
returns-then-heard-ne0 c = agreed-differs _ c.in_ok-next.ensures.is c.in_ok-next.ensures.hears c.if-heard-ne0.true

pub returns : goal.returns
returns c = agreed-yes _ c.in_ok-next.ensures.is c.in_ok-next.ensures.hears c.if-heard-ne0.false
