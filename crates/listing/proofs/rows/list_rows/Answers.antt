-- `listing::rows::list_rows` meets its contract. Assumes nothing.
use borrow.Author.Rules.{rules}
use Rattle.fit.proofs.Lines.{rowing-starts, rowing-again, rowing-done}
use Rattle.listing.proofs.Asked.{row-lists}
use Rattle.listing.proofs.rows.list_rows.Goals as goal

ruleset cases = (row-lists, rowing-starts, rowing-again, rowing-done)

pub loop-k-init : goal.loop-k-init
loop-k-init c = (search cases, search rules)

pub loop-k-preserved : goal.loop-k-preserved
loop-k-preserved c = (search cases, search rules)

pub returns : goal.returns
returns c = search cases
