-- `store::writing::put_number` meets its contract. Assumes nothing.
use Rattle.store.proofs.Puts.{spelling-starts, spelling-more, spelling-ends}
use Prim.Native.Nat.{◌-◌}
use Rattle.store.proofs.writing.put_number.Goals as goal

ruleset cases = (spelling-starts, spelling-more, spelling-ends)

pub loop-i-init : goal.loop-i-init
loop-i-init c = search cases

pub loop-i-preserved : goal.loop-i-preserved
loop-i-preserved c = search cases

pub returns : goal.returns
returns c = search cases
