-- `spelling::expressions::Reading::reduce` is safe and ends. Assumes nothing.
use Rattle.spelling.proofs.expressions.Reading.reduce.Given as goal

abbrev pub decreases-loop-top : goal.decreases-loop-top
decreases-loop-top l = l.self.stack.many
