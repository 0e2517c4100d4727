-- `sight::rows::close_held` meets its contract. Assumes nothing.
use Rattle.sight.proofs.Closes.{Forgets}
use Rattle.sight.proofs.rows.close_held.Given as goal

abbrev pub invariant-loop-part : goal.invariant-loop-part
invariant-loop-part l = Forgets l.kind l.parts l.kept l.k l.part-index
