-- `plan::expressions::+expression_at` meets its contract. Assumes nothing.
use borrow.Author.Rules.{rules}
use native.Mathlib.Omega.{arith}
use Rattle.plan.proofs.ExpressionReads.{expression-no-code, expression-deep, expression-no-leaf, expression-leaf, expression-no-left, expression-binary, node-below, node-behind, node-fits, after-behind, after-fits}
use Rattle.plan.proofs.OneNumber.{returned}
use Rattle.plan.proofs.expressions.+expression_at.Goals as goal

ruleset cases = (expression-no-code, expression-deep, expression-no-leaf, expression-leaf, expression-no-left, expression-binary)

ruleset room = (node-below, node-behind, node-fits, after-behind, after-fits)

pub returns-then-depth-eq0 : goal.returns-then-depth-eq0
returns-then-depth-eq0 t c = search (cases, c.in_ok-code.was)

pub write_node-requires : goal.write_node-requires
write_node-requires t c = search (room, c.in_ok-code.was)

pub overflow_add-m : goal.overflow_add-m
overflow_add-m t c = search (room, c.in_ok-code.was)

pub expression_at-requires : goal.expression_at-requires
expression_at-requires t c = (omega arith, (search rules, search (room, c.in_ok-code.was)))

pub returns-in_err-code : goal.returns-in_err-code
returns-in_err-code t c = rw (returned c.from_residual.ensures.1) (search (cases, c.in_err-code.was))

pub returns-in_err-leaf : goal.returns-in_err-leaf
returns-in_err-leaf t c = rw (returned c.from_residual-in_err-leaf.ensures.1) (search (cases, c.in_ok-code.was, c.in_err-leaf.was))

pub returns-then-code-lt2 : goal.returns-then-code-lt2
returns-then-code-lt2 t c = search (cases, c.in_ok-code.was, c.in_ok-leaf.was)

pub returns-in_err-left : goal.returns-in_err-left
returns-in_err-left t c = rw (returned c.from_residual-in_err-left.ensures.1) (search (cases, c.in_ok-code.was, c.in_err-left.was))

pub overflow_cast-left : goal.overflow_cast-left
overflow_cast-left t c = search (room, c.in_ok-code.was, c.in_ok-left.was)

pub expression_at-requires-2 : goal.expression_at-requires-2
expression_at-requires-2 t c = (omega arith, (search rules, search (room, c.in_ok-code.was, c.in_ok-left.was)))

pub returns : goal.returns
returns t c = search (cases, c.in_ok-code.was, c.in_ok-left.was)
