-- `boundary_state::moonhalyard_upgrade` meets its contract. Assumes nothing.
use Rattle.boundary_state.proofs.Upgrading.{marked-length, short, first, second, third, today, none}
use Rattle.boundary_state.proofs.moonhalyard_upgrade.Goals as goal

pub returns-then-state-ne12748 : goal.returns-then-state-ne12748
returns-then-state-ne12748 c = let w = short c.args.old.now c.args.state.now c.if-state-ne12748.true in record { is = w.0; bytes = w.1 }

pub from_first-requires : goal.from_first-requires
from_first-requires c = (marked-length _ _ _ c.is_marked.ensures c.if-is_marked.true, c.if-state-ne12748.false)

pub returns-then-is_marked : goal.returns-then-is_marked
returns-then-is_marked c = let w = first c.args.old.now c.args.state.now c.if-state-ne12748.false c.is_marked.ensures c.if-is_marked.true c.from_first.ensures in record { is = w.0; bytes = w.1 }

pub from_second-requires : goal.from_second-requires
from_second-requires c = (marked-length _ _ _ c.is_marked-2.ensures c.if-is_marked-2.true, c.if-state-ne12748.false)

pub returns-then-is_marked-2 : goal.returns-then-is_marked-2
returns-then-is_marked-2 c = let w = second c.args.old.now c.args.state.now c.if-state-ne12748.false c.is_marked.ensures c.if-is_marked.false c.is_marked-2.ensures c.if-is_marked-2.true c.from_second.ensures in record { is = w.0; bytes = w.1 }

pub reply-requires : goal.reply-requires
reply-requires c = (marked-length _ _ _ c.is_marked-3.ensures c.if-is_marked-3.true, c.if-state-ne12748.false)

pub returns-then-is_marked-3 : goal.returns-then-is_marked-3
returns-then-is_marked-3 c = let w = third c.args.old.now c.args.state.now c.if-state-ne12748.false c.is_marked.ensures c.if-is_marked.false c.is_marked-2.ensures c.if-is_marked-2.false c.is_marked-3.ensures c.if-is_marked-3.true c.reply.ensures in record { is = w.0; bytes = w.1 }

pub copy-requires : goal.copy-requires
copy-requires c = (marked-length _ _ _ c.is_marked-4.ensures c.if-is_marked-4.true, c.if-state-ne12748.false)

pub returns-then-is_marked-4 : goal.returns-then-is_marked-4
returns-then-is_marked-4 c = let w = today c.args.old.now c.args.state.now c.if-state-ne12748.false c.is_marked.ensures c.if-is_marked.false c.is_marked-2.ensures c.if-is_marked-2.false c.is_marked-3.ensures c.if-is_marked-3.false c.is_marked-4.ensures c.if-is_marked-4.true c.copy.ensures in record { is = w.0; bytes = w.1 }

pub returns : goal.returns
returns c = let w = none c.args.old.now c.args.state.now c.if-state-ne12748.false c.is_marked.ensures c.if-is_marked.false c.is_marked-2.ensures c.if-is_marked-2.false c.is_marked-3.ensures c.if-is_marked-3.false c.is_marked-4.ensures c.if-is_marked-4.false in record { is = w.0; bytes = w.1 }
