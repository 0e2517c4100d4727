-- `order::evaluation::evaluate_at` meets its contract. Assumes nothing.
use Rattle.std.proofs.lemmas.Result.{err_from_is_err_and}
use Rattle.order.proofs.EvaluationReturns.{too-deep, constant-made, variable-made, left-fault, right-fault, both-made}
use Rattle.order.proofs.evaluation.+evaluate_at.Goals as goal

ruleset cases = (too-deep, constant-made, variable-made, left-fault, right-fault, both-made)

pub returns-then-depth-eq0 : goal.returns-then-depth-eq0
returns-then-depth-eq0 t c = search cases

pub returns-in_err-x-in_default : goal.returns-in_err-x-in_default
returns-in_err-x-in_default t c = let p = err_from_is_err_and c.from_residual.result c.from_residual.ensures.1 in rw (p.1, p.2) (let q = c.in_err-x-in_default.was in search cases)

pub returns-in_err-y-in_default : goal.returns-in_err-y-in_default
returns-in_err-y-in_default t c =
    let p = err_from_is_err_and c.from_residual-in_err-y-in_default.result c.from_residual-in_err-y-in_default.ensures.1 in
    rw (p.1, p.2) (let q = c.in_err-y-in_default.was in let r = c.in_ok-x-in_default.was in search cases)

pub returns-in-0 : goal.returns-in-0
returns-in-0 t c = search cases

pub returns-in-1 : goal.returns-in-1
returns-in-1 t c = search cases

pub returns-in_ok-y-in_default : goal.returns-in_ok-y-in_default
returns-in_ok-y-in_default t c = let q = c.in_ok-x-in_default.was in let r = c.in_ok-y-in_default.was in search cases
