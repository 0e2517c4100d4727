-- `store::number_at` meets its contract. Assumes nothing.
use Rattle.store.proofs.Records.{eight-short, eight-far, eight-there}
use Rattle.store.proofs.number_at.Goals as goal
use Rattle.store.proofs.number_at.Goals.{then-s-lt8-via-then-s-lt8, then-s-lt8-via-else-s-lt8+then-s-at}

ruleset cases = (eight-short, eight-far, eight-there)

pub returns-then-s-lt8 : goal.returns-then-s-lt8
returns-then-s-lt8 c =
    elim c.then-s-lt8.branch [
      | then-s-lt8-via-then-s-lt8 w ↦ search cases
      | then-s-lt8-via-else-s-lt8+then-s-at w ↦ search cases
    ]

pub returns : goal.returns
returns c = search cases
