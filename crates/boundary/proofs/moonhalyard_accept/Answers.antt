-- `boundary::moonhalyard_accept` meets its contract. Assumes nothing.
use mathlib.Core.Path.{ap, ◌∙◌}
use Rattle.boundary.specs.Packed.{accept_number}
use Rattle.boundary.proofs.moonhalyard_accept.Goals as goal

pub returns : goal.returns
returns c = c.number_of.ensures ∙ ap accept_number c.accept_over.ensures.is
