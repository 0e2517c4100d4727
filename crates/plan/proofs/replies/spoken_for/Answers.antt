-- `plan::replies::spoken_for` meets its contract. Assumes nothing.
use Rattle.plan.proofs.ReplyReads.{for-correlation, for-no-correlation}
use native.Mathlib.Omega.{arith}
use Prim.Native.Nat.{◌+◌, ◌*◌}
use mathlib.Core.Path.{◌∙◌}
use lib.ListN.{get_or}
use Rattle.plan.proofs.Listed.{among-listed}
use Rattle.plan.proofs.replies.spoken_for.Goals as goal

ruleset cases = (for-correlation, for-no-correlation)

pub returns-then-correlation-variable-eq1 : goal.returns-then-correlation-variable-eq1
returns-then-correlation-variable-eq1 c = search cases

pub returns : goal.returns
returns c =
    let j = c.contains.ensures.value ∙ among-listed c.args.variable _ (get_or c.args.table.now (c.args.n * 13 + 3) 0) (omega (arith, c.requires.1.1)) in
    search (cases, j)
