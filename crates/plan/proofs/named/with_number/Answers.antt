-- `plan::named::with_number` meets its contract. Assumes nothing.
use mathlib.Core.Path.{refl}
use native.Mathlib.Omega.{arith}
use Rattle.plan.proofs.NumberedReads.{number_behind}
use Rattle.plan.proofs.named.with_number.Goals as goal

pub returns-clause-is : goal.returns-clause-is
returns-clause-is c = refl

pub returns-clause-read : goal.returns-clause-read
returns-clause-read c = number_behind _ _ _ (omega (arith, c.well_formed.0))
