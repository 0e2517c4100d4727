-- Checking an activity, a list of activities and a scope with fault parts by number meet their contracts. Assumes nothing.
use native.Mathlib.Omega.{arith}
use Rattle.writer.proofs.TreeReturns.{acts-none, acts-no-first, acts-no-rest, acts-more, act-no-own, act-no-within, act-whole, act-scope, scope-no-body, scope-no-count, scope-no-parts, scope-whole, parts-no-last, parts_last, parts-no-number, parts-no-part, parts_more, own-next-fits, own-few, own-falls, scope-few, scope-falls, count-falls}
use Rattle.writer.proofs.HearReturns.{act-silent, acts-silent, parts-silent, all_none, all_more, one-whole, one-scope, whole-scope, some-last, some_more, own-there}
use Rattle.writer.proofs.tree.+activities_at_activity_at_numbered_at_numbered_scope_at.Goals as goal

pub activities_at-returns-then-left-eq0-clause-is : goal.activities_at-returns-then-left-eq0-clause-is
activities_at-returns-then-left-eq0-clause-is t c = acts-none _ _ _ _ _ _ _ _ _ _ c.if-left-eq0.true

pub activities_at-returns-then-left-eq0-clause-hear : goal.activities_at-returns-then-left-eq0-clause-hear
activities_at-returns-then-left-eq0-clause-hear t c = all_none _ _ _ _ _ _ _ _ _ _ _ c.if-left-eq0.true

pub activities_at-returns-in_err-one-clause-is : goal.activities_at-returns-in_err-one-clause-is
activities_at-returns-in_err-one-clause-is t c = acts-no-first _ _ _ _ _ _ _ _ _ _ c.if-left-eq0.false c.in_err-one.ensures.is c.from_residual.ensures.1

pub activities_at-returns-in_err-one-clause-hear : goal.activities_at-returns-in_err-one-clause-hear
activities_at-returns-in_err-one-clause-hear t c = acts-silent _ _ _ _ _ (activities_at-returns-in_err-one-clause-is t c) c.from_residual.ensures.0

pub activities_at-returns-in_err-rest-clause-is : goal.activities_at-returns-in_err-rest-clause-is
activities_at-returns-in_err-rest-clause-is t c = acts-no-rest _ _ _ _ _ _ _ _ _ _ c.if-left-eq0.false c.in_ok-one.ensures.is c.in_err-rest.ensures.is c.from_residual-in_err-rest.ensures.1

pub activities_at-returns-in_err-rest-clause-hear : goal.activities_at-returns-in_err-rest-clause-hear
activities_at-returns-in_err-rest-clause-hear t c = acts-silent _ _ _ _ _ (activities_at-returns-in_err-rest-clause-is t c) c.from_residual-in_err-rest.ensures.0

pub activities_at-returns-then-one-clause-is : goal.activities_at-returns-then-one-clause-is
activities_at-returns-then-one-clause-is t c = acts-more _ _ _ _ _ _ _ _ _ _ c.if-left-eq0.false c.in_ok-one.ensures.is c.in_ok-rest.ensures.is (rw c.if-one.true)

pub activities_at-returns-then-one-clause-hear : goal.activities_at-returns-then-one-clause-hear
activities_at-returns-then-one-clause-hear t c = all_more _ _ _ _ _ _ _ _ _ _ c.if-left-eq0.false c.in_ok-one.ensures.is c.in_ok-rest.ensures.is _ _ c.in_ok-one.ensures.hears c.in_ok-rest.ensures.hear

pub activities_at-returns-else-one-clause-is : goal.activities_at-returns-else-one-clause-is
activities_at-returns-else-one-clause-is t c = acts-more _ _ _ _ _ _ _ _ _ _ c.if-left-eq0.false c.in_ok-one.ensures.is c.in_ok-rest.ensures.is (rw c.if-one.false)

pub activities_at-returns-else-one-clause-hear : goal.activities_at-returns-else-one-clause-hear
activities_at-returns-else-one-clause-hear t c = all_more _ _ _ _ _ _ _ _ _ _ c.if-left-eq0.false c.in_ok-one.ensures.is c.in_ok-rest.ensures.is _ _ c.in_ok-one.ensures.hears c.in_ok-rest.ensures.hear

pub activity_at-returns-in_err-own-clause-is : goal.activity_at-returns-in_err-own-clause-is
activity_at-returns-in_err-own-clause-is t c = act-no-own _ _ _ _ _ _ _ _ c.in_err-own.ensures c.from_residual.ensures.1

pub activity_at-returns-in_err-own-clause-hears : goal.activity_at-returns-in_err-own-clause-hears
activity_at-returns-in_err-own-clause-hears t c = act-silent _ _ _ _ _ (activity_at-returns-in_err-own-clause-is t c) c.from_residual.ensures.0

pub activity_at-numbered_scope_at-requires : goal.activity_at-numbered_scope_at-requires
activity_at-numbered_scope_at-requires t c = (search (scope-falls, c.in_ok-own.ensures), (scope-few _ _ _ _ _ _ _ _ c.in_ok-own.ensures c.in-Numbered.is, own-there _ _ _ _ _ _ _ _ c.in_ok-own.ensures))

pub activity_at-hear_row-requires : goal.activity_at-hear_row-requires
activity_at-hear_row-requires t c = own-there _ _ _ _ _ _ _ _ c.in_ok-own.ensures

pub activity_at-overflow_add-n : goal.activity_at-overflow_add-n
activity_at-overflow_add-n t c = own-next-fits _ _ _ _ _ _ _ _ c.in_ok-own.ensures c.in-Read.is

pub activity_at-activities_at-requires : goal.activity_at-activities_at-requires
activity_at-activities_at-requires t c = (search (own-falls, c.in_ok-own.ensures), own-few _ _ _ _ _ _ _ _ c.in_ok-own.ensures c.in-Read.is)

pub activity_at-returns-in_err-all-in-Read-clause-is : goal.activity_at-returns-in_err-all-in-Read-clause-is
activity_at-returns-in_err-all-in-Read-clause-is t c = act-no-within _ _ _ _ _ _ _ _ c.in_ok-own.ensures c.in-Read.is c.later_of.ensures c.levels_below-below.ensures c.in_err-all-in-Read.ensures.is c.from_residual-in_err-all-in-Read.ensures.1

pub activity_at-returns-in_err-all-in-Read-clause-hears : goal.activity_at-returns-in_err-all-in-Read-clause-hears
activity_at-returns-in_err-all-in-Read-clause-hears t c = act-silent _ _ _ _ _ (activity_at-returns-in_err-all-in-Read-clause-is t c) c.from_residual-in_err-all-in-Read.ensures.0

pub activity_at-returns-in-Numbered-clause-is : goal.activity_at-returns-in-Numbered-clause-is
activity_at-returns-in-Numbered-clause-is t c = act-scope _ _ _ _ _ _ _ _ c.in_ok-own.ensures c.in-Numbered.is c.levels_below-below.ensures c.numbered_scope_at.ensures.is

pub activity_at-returns-in-Numbered-clause-hears : goal.activity_at-returns-in-Numbered-clause-hears
activity_at-returns-in-Numbered-clause-hears t c = one-scope _ _ _ _ _ _ _ _ c.in_ok-own.ensures c.in-Numbered.is c.levels_below-below.ensures c.numbered_scope_at.ensures.hears

pub activity_at-returns-in_ok-all-in-Read-clause-is : goal.activity_at-returns-in_ok-all-in-Read-clause-is
activity_at-returns-in_ok-all-in-Read-clause-is t c = act-whole _ _ _ _ _ _ _ _ c.in_ok-own.ensures c.in-Read.is c.later_of.ensures c.levels_below-below.ensures c.in_ok-all-in-Read.ensures.is c.starts_of-start.ensures

pub activity_at-returns-in_ok-all-in-Read-clause-hears : goal.activity_at-returns-in_ok-all-in-Read-clause-hears
activity_at-returns-in_ok-all-in-Read-clause-hears t c = one-whole _ _ _ _ _ _ _ _ c.in_ok-own.ensures c.in-Read.is c.later_of.ensures c.levels_below-below.ensures c.in_ok-all-in-Read.ensures.is _ _ c.hear_row.ensures c.in_ok-all-in-Read.ensures.hear

pub numbered_at-returns-in_err-last-clause-is : goal.numbered_at-returns-in_err-last-clause-is
numbered_at-returns-in_err-last-clause-is t c = parts-no-last _ _ _ _ _ _ _ _ c.if-left-eq0.true c.in_err-last.ensures.is c.from_residual.ensures.1

pub numbered_at-returns-in_err-last-clause-hear : goal.numbered_at-returns-in_err-last-clause-hear
numbered_at-returns-in_err-last-clause-hear t c = parts-silent _ _ _ _ _ (numbered_at-returns-in_err-last-clause-is t c) c.from_residual.ensures.0

pub numbered_at-returns-then-left-eq0-clause-is : goal.numbered_at-returns-then-left-eq0-clause-is
numbered_at-returns-then-left-eq0-clause-is t c = parts_last _ _ _ _ _ _ _ _ c.if-left-eq0.true c.in_ok-last.ensures.is

pub numbered_at-returns-then-left-eq0-clause-hear : goal.numbered_at-returns-then-left-eq0-clause-hear
numbered_at-returns-then-left-eq0-clause-hear t c = some-last _ _ _ _ _ _ _ _ _ _ c.if-left-eq0.true c.in_ok-last.ensures.is c.in_ok-last.ensures.hear

pub numbered_at-returns-in_err-number-clause-is : goal.numbered_at-returns-in_err-number-clause-is
numbered_at-returns-in_err-number-clause-is t c = parts-no-number _ _ _ _ _ _ _ _ c.if-left-eq0.false c.in_err-number.ensures c.from_residual-in_err-number.ensures.1

pub numbered_at-returns-in_err-number-clause-hear : goal.numbered_at-returns-in_err-number-clause-hear
numbered_at-returns-in_err-number-clause-hear t c = parts-silent _ _ _ _ _ (numbered_at-returns-in_err-number-clause-is t c) c.from_residual-in_err-number.ensures.0

pub numbered_at-returns-in_err-part-clause-is : goal.numbered_at-returns-in_err-part-clause-is
numbered_at-returns-in_err-part-clause-is t c = parts-no-part _ _ _ _ _ _ _ _ c.if-left-eq0.false c.in_ok-number.ensures c.in_err-part.ensures.is c.from_residual-in_err-part.ensures.1

pub numbered_at-returns-in_err-part-clause-hear : goal.numbered_at-returns-in_err-part-clause-hear
numbered_at-returns-in_err-part-clause-hear t c = parts-silent _ _ _ _ _ (numbered_at-returns-in_err-part-clause-is t c) c.from_residual-in_err-part.ensures.0

pub numbered_at-returns-clause-is : goal.numbered_at-returns-clause-is
numbered_at-returns-clause-is t c = parts_more _ _ _ _ _ _ _ _ c.if-left-eq0.false c.in_ok-number.ensures c.in_ok-part.ensures.is c.and.ensures.last c.numbered_at.ensures.is

pub numbered_at-returns-clause-hear : goal.numbered_at-returns-clause-hear
numbered_at-returns-clause-hear t c = some_more _ _ _ _ _ _ _ _ _ _ c.if-left-eq0.false c.in_ok-number.ensures c.in_ok-part.ensures.is c.and.ensures.last c.in_ok-part.ensures.hears c.numbered_at.ensures.hear

pub numbered_scope_at-numbered_at-requires : goal.numbered_scope_at-numbered_at-requires
numbered_scope_at-numbered_at-requires t c = let f = c.in_ok-parts.ensures.fits in let e = c.none.ensures.empty in (search count-falls, omega (arith, f))

pub numbered_scope_at-returns-in_err-body-clause-is : goal.numbered_scope_at-returns-in_err-body-clause-is
numbered_scope_at-returns-in_err-body-clause-is t c = scope-no-body _ _ _ _ _ _ _ c.in_err-body.ensures.is c.from_residual.ensures.1

pub numbered_scope_at-returns-in_err-body-clause-hears : goal.numbered_scope_at-returns-in_err-body-clause-hears
numbered_scope_at-returns-in_err-body-clause-hears t c = act-silent _ _ _ _ _ (numbered_scope_at-returns-in_err-body-clause-is t c) c.from_residual.ensures.0

pub numbered_scope_at-returns-in_err-parts-clause-is : goal.numbered_scope_at-returns-in_err-parts-clause-is
numbered_scope_at-returns-in_err-parts-clause-is t c = scope-no-count _ _ _ _ _ _ _ c.in_ok-body.ensures.is c.in_err-parts.ensures.is c.from_residual-in_err-parts.ensures.1

pub numbered_scope_at-returns-in_err-parts-clause-hears : goal.numbered_scope_at-returns-in_err-parts-clause-hears
numbered_scope_at-returns-in_err-parts-clause-hears t c = act-silent _ _ _ _ _ (numbered_scope_at-returns-in_err-parts-clause-is t c) c.from_residual-in_err-parts.ensures.0

pub numbered_scope_at-returns-in_err-rest-clause-is : goal.numbered_scope_at-returns-in_err-rest-clause-is
numbered_scope_at-returns-in_err-rest-clause-is t c = scope-no-parts _ _ _ _ _ _ _ c.in_ok-body.ensures.is c.in_ok-parts.ensures.is c.none.ensures.none c.in_err-rest.ensures.is c.from_residual-in_err-rest.ensures.1

pub numbered_scope_at-returns-in_err-rest-clause-hears : goal.numbered_scope_at-returns-in_err-rest-clause-hears
numbered_scope_at-returns-in_err-rest-clause-hears t c = act-silent _ _ _ _ _ (numbered_scope_at-returns-in_err-rest-clause-is t c) c.from_residual-in_err-rest.ensures.0

pub numbered_scope_at-returns-clause-is : goal.numbered_scope_at-returns-clause-is
numbered_scope_at-returns-clause-is t c = scope-whole _ _ _ _ _ _ _ c.in_ok-body.ensures.is c.in_ok-parts.ensures.is c.none.ensures.none c.in_ok-rest.ensures.is

pub numbered_scope_at-returns-clause-hears : goal.numbered_scope_at-returns-clause-hears
numbered_scope_at-returns-clause-hears t c = whole-scope _ _ _ _ _ _ _ c.in_ok-body.ensures.is c.in_ok-parts.ensures.is c.none.ensures.none c.in_ok-rest.ensures.is c.in_ok-body.ensures.hears c.in_ok-rest.ensures.hear
