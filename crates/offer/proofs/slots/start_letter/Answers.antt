-- `offer::slots::start_letter` meets its contract. Assumes nothing.
use Rattle.std.proofs.Common.{◌≡◌, ◌∙◌, ap, not, true}
use Rattle.std.specs.Option.{is_some}
use Rattle.offer.proofs.Sets.{start_letter}
use Rattle.offer.proofs.slots.start_letter.Goals as goal
use Rattle.offer.proofs.slots.start_letter.Goals.{else-could_start-via-then-could_start+else-is_none, else-could_start-via-else-could_start}

pub returns-else-could_start : goal.returns-else-could_start
returns-else-could_start c =
    elim c.else-could_start.branch [
      | else-could_start-via-then-could_start+else-is_none w ↦
          let e : is_some w.first_receiver.result ≡ true = w.is_none.ensures ∙ ap not w.if-is_none.false in
          search start_letter
      | else-could_start-via-else-could_start w ↦ search start_letter
    ]
