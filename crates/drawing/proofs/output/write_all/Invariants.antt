-- `drawing::output::write_all` is safe and ends: the measure is what is left of the bytes. Assumes nothing.
use Rattle.std.proofs.Common.{length}
use Rattle.drawing.proofs.output.write_all.Given as goal

abbrev pub decreases-loop-left : goal.decreases-loop-left
decreases-loop-left g l = length l.left
