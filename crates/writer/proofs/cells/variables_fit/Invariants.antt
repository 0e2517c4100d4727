-- `writer::cells::variables_fit` meets its contract. Assumes nothing.
use mathlib.Core.Path.{◌≡◌}
use lib.ListN.{drop}
use Rattle.plan.specs.Within.{variables_within}
use Rattle.writer.proofs.cells.variables_fit.Given as goal

abbrev pub invariant-loop-i : goal.invariant-loop-i
invariant-loop-i l = variables_within l.vars l.once l.variables ≡ variables_within l.vars l.once (drop l.i l.variables)
