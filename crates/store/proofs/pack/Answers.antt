-- `store::pack` meets its contract. Assumes nothing.
use Rattle.store.proofs.Parts.{pack-is, pack-no}
use borrow.Author.Tests.{eq-eqb, ne_eqb}
use mathlib.Core.Path.{sym}
use Rattle.store.proofs.Back.{unpacked-packed}
use Rattle.machine.proofs.Whole.{state-whole, tally-whole}
use Rattle.store.proofs.pack.Goals as goal

pub returns : goal.returns
returns c = record { fits = sym (eq-eqb _ _ c.if-out-ne12748.false); is = pack-is c.args.state c.args.tally c.if-out-ne12748.false c.put_number.ensures c.put_tally.ensures c.put_state.ensures; back = unpacked-packed c.args.state c.args.tally (state-whole c.args.state _ c.well_formed.0) (tally-whole c.args.tally _ c.well_formed.1.0) }

pub returns-then-out-ne12748 : goal.returns-then-out-ne12748
returns-then-out-ne12748 c = record { fits = sym (ne_eqb _ _ c.if-out-ne12748.true); is = pack-no c.args.state c.args.tally c.args.out.now c.if-out-ne12748.true; back = unpacked-packed c.args.state c.args.tally (state-whole c.args.state _ c.well_formed.0) (tally-whole c.args.tally _ c.well_formed.1.0) }
