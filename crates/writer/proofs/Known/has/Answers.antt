-- `writer::Known::has` meets its contract. Assumes nothing.
use native.Mathlib.Omega.{arith}
use mathlib.Core.Path.{sym, ◌∙◌}
use Rattle.writer.proofs.NamedReturns.{backwards_any}
use Rattle.writer.proofs.Known.has.Goals as goal

pub returns : goal.returns
returns c = c.contains.ensures.value ∙ sym (backwards_any _ _ _ (omega (arith, c.well_formed.0.1.1.0.1.0.1)))
