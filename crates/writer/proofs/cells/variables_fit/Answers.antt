-- `writer::cells::variables_fit` meets its contract. Assumes nothing.
use native.Mathlib.Omega.{arith}
use Rattle.writer.proofs.CellReturns.{fitting}
use Rattle.writer.proofs.cells.variables_fit.Goals as goal
use Rattle.writer.proofs.cells.variables_fit.Goals.{then-vars-v-via-then-vars-v, then-vars-v-via-else-vars-v+then-is_among, then-once, else-once}

pub returns-then-vars-v : goal.returns-then-vars-v
returns-then-vars-v c =
    elim c.then-vars-v.branch [
      | then-vars-v-via-then-vars-v w ↦ grind (arith, fitting)
      | then-vars-v-via-else-vars-v+then-is_among w ↦ elim w.if-once.branch [ then-once v ↦ grind (arith, fitting) | else-once v ↦ grind (arith, fitting) ]
    ]

pub loop-i-preserved : goal.loop-i-preserved
loop-i-preserved c = elim c.if-once.branch [ then-once w ↦ grind (arith, fitting) | else-once w ↦ grind (arith, fitting) ]
