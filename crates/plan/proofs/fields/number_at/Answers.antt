-- `plan::fields::number_at` meets its contract. Assumes nothing.
use Rattle.plan.proofs.OneNumber.{number_short, number-bad, number-value, number-ahead}
use Rattle.plan.proofs.fields.number_at.Goals as goal

pub returns-in-Ok-clause-is : goal.returns-in-Ok-clause-is
returns-in-Ok-clause-is c = number-value _ _ c.in-Ok.ensures

pub returns-in-Ok-clause-fits : goal.returns-in-Ok-clause-fits
returns-in-Ok-clause-fits c = number-ahead _ _ c.in-Ok.ensures

pub returns-in-Err-Short-clause-is : goal.returns-in-Err-Short-clause-is
returns-in-Err-Short-clause-is c = number_short _ _ (rw c.in-Err-Short.field-0-is at c.in-Err-Short.ensures)

pub returns-in-Err-Bad-clause-is : goal.returns-in-Err-Bad-clause-is
returns-in-Err-Bad-clause-is c = number-bad _ _ (rw c.in-Err-Bad.field-0-is at c.in-Err-Bad.ensures)
