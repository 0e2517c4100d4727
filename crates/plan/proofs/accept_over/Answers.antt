-- `plan::accept_over` meets its contract. Assumes nothing.
use Rattle.plan.proofs.RootReads.{accept-refused, accept-accepted}
use Rattle.plan.proofs.accept_over.Goals as goal

pub returns-then-is_err : goal.returns-then-is_err
returns-then-is_err c = let w = accept-refused _ _ _ _ c.agreed_at-a.ensures cc in record { is = w.0; rows = w.1.0; flags = w.1.1 }

pub returns-else-is_err : goal.returns-else-is_err
returns-else-is_err c = let w = accept-accepted _ _ _ _ c.agreed_at-a.ensures cc in record { is = w.0; rows = w.1.0; flags = w.1.1 }
