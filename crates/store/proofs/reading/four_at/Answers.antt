-- `store::reading::four_at` meets its contract. Assumes nothing.
use Rattle.store.proofs.Numbers.{four_is}
use native.Mathlib.Omega.{arith}
use Rattle.store.proofs.reading.four_at.Goals as goal

pub returns : goal.returns
returns c = four_is c.args.s.now c.args.at (omega arith) c.byte_at-a.ensures.0 c.byte_at-b.ensures.0 c.byte_at-c.ensures.0 c.byte_at-d.ensures.0
