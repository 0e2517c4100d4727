-- `machine::limits::planned` meets its contract. Assumes nothing.
use borrow.Author.Rules.{rules}
use Rattle.machine.proofs.Called.{ruled-length, planned-none, planned-blank, planned-bare, planned-read, planned-rows, planned-flags}
use Rattle.machine.proofs.limits.planned.Goals as goal

ruleset cases = (ruled-length, planned-none, planned-blank, planned-bare, planned-read, planned-rows, planned-flags)

pub returns-then-not-state_ruled : goal.returns-then-not-state_ruled
returns-then-not-state_ruled c = search cases

pub accepted-requires : goal.accepted-requires
accepted-requires c = search (cases, rules)

pub returns : goal.returns
returns c = search cases
