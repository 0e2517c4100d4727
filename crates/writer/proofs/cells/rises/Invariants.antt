-- `writer::cells::rises` meets its contract. Assumes nothing.
use mathlib.Core.Path.{◌≡◌}
use lib.ListN.{drop}
use Rattle.plan.specs.Within.{ascending}
use Rattle.writer.proofs.cells.rises.Given as goal

abbrev pub invariant-loop-v : goal.invariant-loop-v
invariant-loop-v l = ascending l.vars 0 l.variables ≡ ascending l.vars l.least (drop l.v-index l.variables)
