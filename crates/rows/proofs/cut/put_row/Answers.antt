-- `rows::cut::put_row` meets its contract. Assumes nothing.
use Rattle.rows.proofs.CutReturns.{row_filled}
use Rattle.rows.proofs.cut.put_row.Goals as goal

pub returns-clause-row : goal.returns-clause-row
returns-clause-row c = row_filled _ _ _ _ _ c.requires.0 c.requires.1 c.put_numbers-next.ensures.numbers (c.fill.ensures.after (λ y e. e))
