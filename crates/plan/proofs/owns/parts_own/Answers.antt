-- `plan::owns::parts_own` meets its contract. Assumes nothing.
use borrow.Author.Rules.{rules}
use native.Mathlib.Omega.{arith}
use Rattle.plan.specs.Nodes.{sets, chooses, repeats, is_sequence, is_flow, is_pick}
use Rattle.plan.proofs.OwnReads.{message-kind, parts-empty, parts-message, parts-set, parts-raise, parts-leave, parts-choose, parts-repeat, parts-sequence, parts-flow, parts-pick, parts-scope, parts-open, parts-number, parts-numbered, parts_held, parts-asking}
use Rattle.plan.proofs.owns.parts_own.Goals as goal

ruleset cases = (sets, chooses, repeats, is_sequence, is_flow, is_pick, parts-empty, parts-set, parts-raise, parts-leave, parts-choose, parts-repeat, parts-sequence, parts-flow, parts-pick, parts-scope, parts-open, parts-number, parts-numbered, parts_held)

pub expression_own-requires : goal.expression_own-requires
expression_own-requires c = search cases

pub expression_own-requires-in-7 : goal.expression_own-requires-in-7
expression_own-requires-in-7 c = search cases

pub list_own-requires : goal.list_own-requires
list_own-requires c = search cases

pub list_own-requires-in-9 : goal.list_own-requires-in-9
list_own-requires-in-9 c = search cases

pub list_own-requires-in-10 : goal.list_own-requires-in-10
list_own-requires-in-10 c = search cases

pub partner_own-requires : goal.partner_own-requires
partner_own-requires c = (search rules, message-kind _ (omega arith) (omega arith))

pub returns-in-0 : goal.returns-in-0
returns-in-0 c = search cases

pub returns-in-3 : goal.returns-in-3
returns-in-3 c = search cases

pub returns-in-4 : goal.returns-in-4
returns-in-4 c = search cases

pub returns-in-5 : goal.returns-in-5
returns-in-5 c = search cases

pub returns-in-6 : goal.returns-in-6
returns-in-6 c = search cases

pub returns-in-7 : goal.returns-in-7
returns-in-7 c = search cases

pub returns-in-8 : goal.returns-in-8
returns-in-8 c = search cases

pub returns-in-9 : goal.returns-in-9
returns-in-9 c = search cases

pub returns-in-10 : goal.returns-in-10
returns-in-10 c = search cases

pub returns-in-11 : goal.returns-in-11
returns-in-11 c = search cases

pub returns-in-12 : goal.returns-in-12
returns-in-12 c = search cases

pub returns-in-13 : goal.returns-in-13
returns-in-13 c = search cases

pub returns-in-14 : goal.returns-in-14
returns-in-14 c = search cases

pub returns-in-17 : goal.returns-in-17
returns-in-17 c = search cases

pub returns-in-1 : goal.returns-in-1
returns-in-1 c = parts-message _ _ _ _ _ _ _ _ _ _ (omega arith) (omega arith) c.partner_own.ensures

pub returns-in_default : goal.returns-in_default
returns-in_default c = parts-asking _ _ _ _ _ _ _ _ _ _ (omega arith) (omega arith) (omega arith) (omega arith) (omega arith) (omega arith) (omega arith) (omega arith) (omega arith) (omega arith) (omega arith) (omega arith) (omega arith) (omega arith) (omega arith) c.asking_receive_own.ensures
