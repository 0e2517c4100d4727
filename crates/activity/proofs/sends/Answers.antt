-- `activity::sends` meets its contract. Assumes nothing.
use borrow.Author.Rules.{rules}
use Rattle.activity.proofs.StepReturns.{send-sends, send-misses, send-raises}
use Rattle.activity.proofs.sends.Goals as goal

ruleset cases = (send-sends, send-misses, send-raises)

pub returns-then-not-all_bound : goal.returns-then-not-all_bound
returns-then-not-all_bound c = search (cases, rules)

pub returns-then-not-reaches : goal.returns-then-not-reaches
returns-then-not-reaches c = search (cases, rules)

pub returns-else-not-reaches : goal.returns-else-not-reaches
returns-else-not-reaches c = search (cases, rules)
