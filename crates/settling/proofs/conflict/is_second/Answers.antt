-- `settling::conflict::is_second` meets its contract. Assumes nothing.
use Rattle.std.proofs.Common.{rules}
use Rattle.settling.proofs.ConflictReturns.{Seen, seen-row}
use Rattle.settling.proofs.conflict.is_second.Goals as goal

pub returns : goal.returns
returns c =
    let h : Seen c.args.table.now c.args.opened.now c.args.k c.any.result = search rules in
    seen-row c.args.table.now c.args.opened.now c.args.k c.any.result h
