-- `settling::conflict::first_conflict` meets its contract. Assumes nothing.
use Rattle.std.proofs.Common.{refl, arith}
use Rattle.settling.proofs.ConflictReturns.{looking-starts, looking-passes, looking-opens, looking-finds, looking-done}
use Rattle.settling.proofs.conflict.first_conflict.Goals as goal
use Rattle.settling.proofs.conflict.first_conflict.Goals.{then-open_at+else-is_second, else-open_at}

ruleset cases = (looking-starts, looking-passes, looking-opens, looking-finds, looking-done)

pub loop-k-init : goal.loop-k-init
loop-k-init c = search cases

pub returns-then-is_second : goal.returns-then-is_second
returns-then-is_second c = search cases

pub loop-k-preserved : goal.loop-k-preserved
loop-k-preserved c =
    elim c.if-open_at.branch [
      | then-open_at+else-is_second w ↦
          rw (w.opened-is, w.n-is)
          (looking-opens c.loop-k.invariant c.loop-k-test.true (omega arith) refl c.open_at.ensures w.if-open_at.true w.is_second.ensures w.if-is_second.false c.reach_at-reach.ensures)
      | else-open_at w ↦ rw (w.opened-is, w.n-is) (looking-passes c.loop-k.invariant c.loop-k-test.true c.open_at.ensures w.if-open_at.false c.reach_at-reach.ensures)
    ]

pub returns : goal.returns
returns c = search cases
