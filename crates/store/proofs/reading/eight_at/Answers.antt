-- `store::reading::eight_at` meets its contract. Assumes nothing.
use Rattle.store.proofs.Numbers.{eight_is}
use native.Mathlib.Omega.{arith}
use Rattle.store.proofs.reading.eight_at.Goals as goal

pub returns : goal.returns
returns c = eight_is c.args.s.now c.args.at (omega arith) c.four_at-low.ensures c.four_at-high.ensures
