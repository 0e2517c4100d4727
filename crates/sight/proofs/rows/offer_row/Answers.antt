-- `sight::rows::offer_row` meets its contract. Assumes nothing.
use Rattle.std.proofs.Common.{◌≡◌, true, false}
use Rattle.sight.proofs.Sets.{offer_row}
use Rattle.sight.proofs.rows.offer_row.Goals as goal
use Rattle.sight.proofs.rows.offer_row.Goals.{else-awaits_at-via-then-awaits_at+else-is_cut, then-not-cutting, else-not-cutting, else-awaits_at-via-else-awaits_at}

pub returns-else-awaits_at : goal.returns-else-awaits_at
returns-else-awaits_at c =
    elim c.else-awaits_at.branch [
      | else-awaits_at-via-then-awaits_at+else-is_cut w ↦
          elim w.if-not-cutting.branch [
            | then-not-cutting v ↦ cc
            | else-not-cutting v ↦
                let z : c.args.cutting ≡ true = v.if-not-cutting.false in
                let q : v.is_cut.result ≡ false = cc in
                search offer_row
          ]
      | else-awaits_at-via-else-awaits_at w ↦ search offer_row
    ]
