-- `plan::root::agreed_at` meets its contract. Assumes nothing.
use borrow.Author.Rules.{rules}
use Rattle.plan.proofs.AgreedReads.{agreed-no, agreed-few, agreed-yes, agreed-differs}
use Rattle.std.proofs.lemmas.Result.{err_from_is_err_and}
use Rattle.plan.proofs.root.agreed_at.Goals as goal

ruleset cases = (rules, agreed-no, agreed-few, agreed-yes, agreed-differs)

pub first_differing-place-requires : goal.first_differing-place-requires
first_differing-place-requires c = search cases

pub returns-then-place-eq0 : goal.returns-then-place-eq0
returns-then-place-eq0 c = search (cases, c.in_ok-a.was)

pub returns-in_err-a : goal.returns-in_err-a
returns-in_err-a c = let p = err_from_is_err_and c.from_residual.result c.from_residual.ensures.1 in rw (p.1, p.2) (agreed-no _ _ _ _ c.plan_at.ensures c.in_err-a.was)

pub returns : goal.returns
returns c = search (cases, c.in_ok-a.was)
