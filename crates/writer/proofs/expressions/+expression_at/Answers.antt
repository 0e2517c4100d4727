-- Checking the rows of an expression meets its contract. Assumes nothing.
use Rattle.writer.proofs.ExpressionReturns.{at-no, at_leaf, at_left, at_right}
use Rattle.writer.proofs.expressions.+expression_at.Goals as goal

pub returns-in_err-code : goal.returns-in_err-code
returns-in_err-code t c = at-no _ _ _ _ c.in_err-code.ensures.is c.from_residual.ensures.1

pub returns-then-code-lt2 : goal.returns-then-code-lt2
returns-then-code-lt2 t c = at_leaf _ _ _ _ c.in_ok-code.ensures.is c.if-code-lt2.true

pub returns-in_err-right : goal.returns-in_err-right
returns-in_err-right t c = at_left _ _ _ _ c.in_ok-code.ensures.is c.if-code-lt2.false c.in_err-right.ensures c.from_residual-in_err-right.ensures.1

pub returns : goal.returns
returns t c = at_right _ _ _ _ c.in_ok-code.ensures.is c.if-code-lt2.false c.in_ok-right.ensures c.expression_at-2.ensures
