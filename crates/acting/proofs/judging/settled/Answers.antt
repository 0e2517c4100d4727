-- `acting::judging::settled` meets its contract. Assumes nothing.
use Rattle.acting.proofs.JudgingReturns.{settling-starts, settling-ended, settling-clear, settling-again, settling-less, settling-last}
use Rattle.acting.proofs.judging.settled.Goals as goal

ruleset cases = (settling-starts, settling-ended, settling-clear, settling-again, settling-less, settling-last)

pub returns-in_default : goal.returns-in_default
returns-in_default c = search cases

pub returns-then-not-is_lower : goal.returns-then-not-is_lower
returns-then-not-is_lower c = search cases

pub loop-o-preserved : goal.loop-o-preserved
loop-o-preserved c = search cases

pub returns : goal.returns
returns c = search cases
