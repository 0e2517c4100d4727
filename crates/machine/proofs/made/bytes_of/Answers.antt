-- `machine::made::bytes_of` meets its contract. Assumes nothing.
use mathlib.Core.Path.{refl}
use Rattle.machine.proofs.Copied.{copied_front}
use Rattle.machine.proofs.made.bytes_of.Goals as goal

pub returns : goal.returns
returns c = copied_front 4096 c.args.s.now c.copy_from_slice.ensures.after refl
