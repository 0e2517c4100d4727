-- Reading an activity, a list of activities, and a scope with fault parts by number meet their contracts. From an activity to those within it the levels left fall, and along a list the count. Assumes nothing.
use borrow.Author.Rules.{rules}
use mathlib.Core.Bool.{◌&&◌}
use mathlib.Core.Path.{◌≡◌, ap, ◌∙◌}
use Rattle.std.specs.Prelude.{Ok}
use native.Mathlib.Omega.{arith}
use Rattle.plan.specs.Nodes.{Base}
use Rattle.plan.specs.Store.{chosen}
use Rattle.plan.proofs.NumberedReads.{numbers-none, numbers-no-number, numbers-no-part, numbers_more, scope-no-body, scope-no-count, scope-no-parts, scope-whole, scope-end, scope-stop, scope-next-fits, scope-numbers-room, scope-numbers-few, scope-numbers-fall, number-base, number-room, act-scope, scope-room, scope-numbered, scope-falls}
use Rattle.plan.proofs.TreeReads.{acts-none, acts-no-first, acts-no-rest, acts-more, act-no-own, act-no-within, act-whole, own-numbered, own-next, own-next-fits, own-few, own-base, own-falls, one-numbered, one-base, all-numbered, whole-stop}
use lib.Dec.{eqb}
use Rattle.plan.proofs.OneNumber.{returned}
use Rattle.plan.proofs.tree.+activities_at_activity_at_numbered_at_numbered_scope_at.Goals as goal

ruleset cases = (acts-none, acts-no-first, acts-no-rest, acts-more, act-no-own, act-no-within, act-whole, act-scope)

ruleset part-cases = (numbers-none, numbers-no-number, numbers-no-part)

ruleset scope-cases = (scope-no-body, scope-no-count, scope-no-parts)

ruleset room = (own-numbered, own-next, own-next-fits, own-few, own-base, own-falls, one-numbered, one-base, all-numbered, whole-stop)

ruleset scope-place = (scope-falls)

ruleset scope-room-of = (scope-end, scope-stop, scope-next-fits, scope-numbers-room, scope-numbers-few, scope-numbers-fall)

ruleset part_room = (number-base, number-room)

pub activities_at-returns-then-left-eq0 : goal.activities_at-returns-then-left-eq0
activities_at-returns-then-left-eq0 t c = search cases

pub activities_at-activity_at-requires : goal.activities_at-activity_at-requires
activities_at-activity_at-requires t c = (omega arith, c.requires.0)

pub activities_at-activities_at-requires : goal.activities_at-activities_at-requires
activities_at-activities_at-requires t c = (omega arith, (search (room, c.in_ok-one.was), (search (room, c.in_ok-one.was), omega arith)))

pub activities_at-returns-in_err-one : goal.activities_at-returns-in_err-one
activities_at-returns-in_err-one t c = rw (returned c.from_residual.ensures.1) (search (cases, c.in_err-one.was))

pub activities_at-returns-in_err-rest : goal.activities_at-returns-in_err-rest
activities_at-returns-in_err-rest t c = rw (returned c.from_residual-in_err-rest.ensures.1) (search (cases, c.in_ok-one.was, c.in_err-rest.was))

pub activities_at-returns-then-one : goal.activities_at-returns-then-one
activities_at-returns-then-one t c = let w : c.in_ok-rest.rest.every ≡ (c.in_ok-one.one.first && c.in_ok-rest.rest.every) = rw c.if-one.true in search (cases, c.in_ok-one.was, c.in_ok-rest.was, w)

pub activities_at-returns-else-one : goal.activities_at-returns-else-one
activities_at-returns-else-one t c = let w : c.in_ok-one.one.first ≡ (c.in_ok-one.one.first && c.in_ok-rest.rest.every) = rw c.if-one.false in search (cases, c.in_ok-one.was, c.in_ok-rest.was, w)

pub activity_at-numbered_scope_at-requires : goal.activity_at-numbered_scope_at-requires
activity_at-numbered_scope_at-requires t c = let o = c.in_ok-body.was ∙ ap Ok c.in-Numbered.is in let b : Base c.args.s.now c.args.vars c.args.m c.args.at = search rules in (
  search (scope-place, o),
  (
    scope-room c.args.arm c.args.depth c.args.vars (chosen 0 c.args.correlation.now) c.args.s.now c.args.handler c.args.n c.args.at c.args.m _ _ c.own_at.ensures o b,
    scope-numbered c.args.arm c.args.depth c.args.vars (chosen 0 c.args.correlation.now) c.args.s.now c.args.handler c.args.n c.args.at c.args.m _ _ c.own_at.ensures o,
  ),
)

pub activity_at-overflow_add-n : goal.activity_at-overflow_add-n
activity_at-overflow_add-n t c = let o = c.in_ok-body.was ∙ ap Ok c.in-Read.is in search (room, o)

pub activity_at-activities_at-requires : goal.activity_at-activities_at-requires
activity_at-activities_at-requires t c = let o = c.in_ok-body.was ∙ ap Ok c.in-Read.is in (search (room, o), (search (room, o), (search (room, o), search (room, o))))

pub activity_at-close_row-requires : goal.activity_at-close_row-requires
activity_at-close_row-requires t c = let o = c.in_ok-body.was ∙ ap Ok c.in-Read.is in let b : Base c.args.s.now c.args.vars c.args.m c.args.at = search rules in (
  own-numbered c.args.arm c.args.depth c.args.vars (chosen 0 c.args.correlation.now) c.args.s.now c.args.handler c.args.n c.args.at c.args.m c.own_at.ensures o,
  (
    search (room, o, c.in_ok-all-in-Read.was),
    whole-stop c.args.arm c.args.depth c.args.vars (chosen 0 c.args.correlation.now) c.args.s.now c.args.handler c.args.n c.args.at c.args.m c.own_at.ensures o (eqb c.in-Read.kind 10)
        c.levels_below-below.result c.later_of.result c.activities_at.ensures c.in_ok-all-in-Read.was b,
  ),
)

pub activity_at-returns-in_err-body : goal.activity_at-returns-in_err-body
activity_at-returns-in_err-body t c = rw (returned c.from_residual.ensures.1) (search (cases, c.in_err-body.was))

pub activity_at-returns-in-Numbered : goal.activity_at-returns-in-Numbered
activity_at-returns-in-Numbered t c = let o = c.in_ok-body.was ∙ ap Ok c.in-Numbered.is in search (cases, o)

pub activity_at-returns-in_err-all-in-Read : goal.activity_at-returns-in_err-all-in-Read
activity_at-returns-in_err-all-in-Read t c = let o = c.in_ok-body.was ∙ ap Ok c.in-Read.is in rw (returned c.from_residual-in_err-all-in-Read.ensures.1) (search (cases, o, c.in_err-all-in-Read.was))

pub activity_at-returns-in_ok-all-in-Read : goal.activity_at-returns-in_ok-all-in-Read
activity_at-returns-in_ok-all-in-Read t c = let o = c.in_ok-body.was ∙ ap Ok c.in-Read.is in search (cases, o, c.in_ok-all-in-Read.was)

pub numbered_at-returns-then-left-eq0 : goal.numbered_at-returns-then-left-eq0
numbered_at-returns-then-left-eq0 t c = search part-cases

pub numbered_at-activity_at-requires : goal.numbered_at-activity_at-requires
numbered_at-activity_at-requires t c = (omega arith, search (part_room, c.in_ok-number.was))

pub numbered_at-numbered_at-requires : goal.numbered_at-numbered_at-requires
numbered_at-numbered_at-requires t c = (omega arith, (search (part_room, c.in_ok-number.was, c.in_ok-part.was), omega arith))

pub numbered_at-returns-in_err-number : goal.numbered_at-returns-in_err-number
numbered_at-returns-in_err-number t c = rw (returned c.from_residual.ensures.1) (search (part-cases, c.in_err-number.was))

pub numbered_at-returns-in_err-part : goal.numbered_at-returns-in_err-part
numbered_at-returns-in_err-part t c = rw (returned c.from_residual-in_err-part.ensures.1) (search (part-cases, c.in_ok-number.was, c.in_err-part.was))

pub numbered_at-returns : goal.numbered_at-returns
numbered_at-returns t c = numbers_more c.args.depth c.args.vars (chosen 0 c.args.correlation.now) c.args.s.now c.args.numbers c.args.k c.args.left c.args.row c.args.place c.args.n c.args.at c.args.m _
    c.if-left-eq0.false c.fault_number_at.ensures.is c.in_ok-number.was _ c.activity_at.ensures c.in_ok-part.was _ _ c.with_number.ensures.is c.with_number.ensures.read c.requires.0 c.numbered_at.ensures

pub numbered_scope_at-overflow_add-n : goal.numbered_scope_at-overflow_add-n
numbered_scope_at-overflow_add-n t c = search scope-room-of

pub numbered_scope_at-numbered_at-requires : goal.numbered_scope_at-numbered_at-requires
numbered_scope_at-numbered_at-requires t c = (search (scope-room-of, c.in_ok-many.was), (search (scope-room-of, c.in_ok-body.was, c.in_ok-many.was), search (scope-room-of, c.in_ok-many.was)))

pub numbered_scope_at-close_row-requires : goal.numbered_scope_at-close_row-requires
numbered_scope_at-close_row-requires t c = (c.requires.1, (search (scope-room-of, c.in_ok-body.was, c.in_ok-many.was, c.in_ok-rest.was), scope-stop c.args.depth c.args.vars (chosen 0 c.args.correlation.now) c.args.s.now c.args.handler c.args.n c.args.at c.args.place c.args.m _ _ c.activity_at.ensures c.in_ok-body.was c.field_at.ensures.is c.in_ok-many.was _ c.numbered_at.ensures c.field_at.ensures.fits c.in_ok-rest.was c.requires.0))

pub numbered_scope_at-returns-in_err-body : goal.numbered_scope_at-returns-in_err-body
numbered_scope_at-returns-in_err-body t c = rw (returned c.from_residual.ensures.1) (search (scope-cases, c.in_err-body.was))

pub numbered_scope_at-returns-in_err-many : goal.numbered_scope_at-returns-in_err-many
numbered_scope_at-returns-in_err-many t c = rw (returned c.from_residual-in_err-many.ensures.1) (search (scope-cases, c.in_ok-body.was, c.in_err-many.was))

pub numbered_scope_at-returns-in_err-rest : goal.numbered_scope_at-returns-in_err-rest
numbered_scope_at-returns-in_err-rest t c = rw (returned c.from_residual-in_err-rest.ensures.1) (search (scope-cases, c.in_ok-body.was, c.in_ok-many.was, c.in_err-rest.was))

pub numbered_scope_at-returns : goal.numbered_scope_at-returns
numbered_scope_at-returns t c = scope-whole c.args.depth c.args.vars (chosen 0 c.args.correlation.now) c.args.s.now c.args.handler c.args.n c.args.at c.args.place c.args.m _ _ c.activity_at.ensures c.in_ok-body.was c.field_at.ensures.is c.in_ok-many.was _ c.numbered_at.ensures c.field_at.ensures.fits c.in_ok-rest.was _ c.requires.0 c.requires.1 c.close_row.ensures
