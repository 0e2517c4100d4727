-- `acting::root::root_spot` meets its contract. Assumes nothing.
use Rattle.std.proofs.Common.{refl, arith}
use Rattle.acting.proofs.RootReturns.{root_is}
use Rattle.acting.proofs.root.root_spot.Goals as goal

pub returns-then-end-lt256 : goal.returns-then-end-lt256
returns-then-end-lt256 c = root_is _ _ c.min.ensures c.end_of-end.ensures (omega arith) (λ h. refl)

pub returns-else-end-lt256 : goal.returns-else-end-lt256
returns-else-end-lt256 c = root_is _ _ c.min.ensures c.end_of-end.ensures (omega arith) (λ h. absurd (omega arith))
