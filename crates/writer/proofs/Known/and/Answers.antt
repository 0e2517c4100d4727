-- `writer::Known::and` meets its contract. Assumes nothing.
use native.Mathlib.Omega.{arith}
use Rattle.writer.proofs.NamedReturns.{with-one}
use Rattle.writer.proofs.Known.and.Goals as goal

pub returns-clause-last : goal.returns-clause-last
returns-clause-last c = with-one _ _ _ (omega (arith, c.well_formed.0.1.1.0.1.0.1))
