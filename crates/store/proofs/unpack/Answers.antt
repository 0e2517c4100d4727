-- `store::unpack` meets its contract. Assumes nothing.
use mathlib.Core.Path.{sym, ◌∙◌}
use Rattle.store.proofs.Records.{unpack-is, unpack-mark, unpack-size}
use Rattle.store.proofs.unpack.Goals as goal
use Rattle.store.proofs.unpack.Goals.{then-s-ne12748-via-then-s-ne12748, then-s-ne12748-via-else-s-ne12748+then-eight_at-ne3768458767009533773}

pub returns-then-s-ne12748 : goal.returns-then-s-ne12748
returns-then-s-ne12748 c =
    elim c.then-s-ne12748.branch [
      | then-s-ne12748-via-then-s-ne12748 w ↦ unpack-size c.args.s.now w.if-s-ne12748.true c.nothing.ensures
      | then-s-ne12748-via-else-s-ne12748+then-eight_at-ne3768458767009533773 w ↦
          unpack-mark c.args.s.now w.if-s-ne12748.false (λ e. w.if-eight_at-ne3768458767009533773.true (w.eight_at.ensures ∙ e)) c.nothing.ensures
    ]

pub returns : goal.returns
returns c = unpack-is c.args.s.now c.if-s-ne12748.false (sym c.eight_at.ensures ∙ c.if-eight_at-ne3768458767009533773.false) c.tally_at.ensures c.state_at.ensures
