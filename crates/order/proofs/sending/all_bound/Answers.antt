-- `order::sending::all_bound` meets its contract. Assumes nothing.
use Rattle.std.proofs.Common.{sym, ◌∙◌, arith}
use borrow.Author.Tests.{ltb-true, ne_eqb}
use Rattle.std.proofs.lemmas.Bool.{false≢true}
use Rattle.order.proofs.SendReturns.{all-beyond, held-bound, held-unbound, tuple-all}
use Rattle.order.proofs.sending.all_bound.Goals as goal
use Rattle.order.proofs.sending.all_bound.Goals.{then-k-lt256+then-table-k-ne-HELD_SEND, then-k-lt256+else-table-k-ne-HELD_SEND, else-k-lt256}

pub returns-then-bound_at : goal.returns-then-bound_at
returns-then-bound_at c =
    elim c.if-k-lt256.branch [
      | then-k-lt256+then-table-k-ne-HELD_SEND w ↦ tuple-all w.if-k-lt256.true w.if-table-k-ne-HELD_SEND.true c.tuple_bound.ensures
      | then-k-lt256+else-table-k-ne-HELD_SEND w ↦
          held-bound w.if-k-lt256.true w.if-table-k-ne-HELD_SEND.false w.bound_at.ensures (sym w.value-is ∙ c.if-bound_at.true) c.tuple_bound.ensures
      | else-k-lt256 w ↦ absurd (omega (arith, w.if-k-lt256.false, ltb-true c.args.k 256 (sym w.value-is ∙ c.if-bound_at.true)))
    ]

pub returns-else-bound_at : goal.returns-else-bound_at
returns-else-bound_at c =
    elim c.if-k-lt256.branch [
      | then-k-lt256+then-table-k-ne-HELD_SEND w ↦ absurd (false≢true (sym c.if-bound_at.false ∙ (w.value-is ∙ rw (ne_eqb _ _ w.if-table-k-ne-HELD_SEND.true))))
      | then-k-lt256+else-table-k-ne-HELD_SEND w ↦
          rw c.if-bound_at.false (held-unbound w.if-k-lt256.true w.if-table-k-ne-HELD_SEND.false w.bound_at.ensures (sym w.value-is ∙ c.if-bound_at.false))
      | else-k-lt256 w ↦ rw c.if-bound_at.false (all-beyond _ _ _ w.if-k-lt256.false)
    ]
