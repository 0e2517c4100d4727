-- `step::take_step` meets its contract. Assumes nothing.
use borrow.Author.Rules.{rules}
use Rattle.machine.proofs.Whole.{state-whole}
use Rattle.step.proofs.StepReturns.{step-unplanned, step_left, step-put}
use Rattle.step.proofs.take_step.Goals as goal

ruleset cases = (step-unplanned)

pub returns-in_default : goal.returns-in_default
returns-in_default c = search cases

pub returns-then-answer-ne0 : goal.returns-then-answer-ne0
returns-then-answer-ne0 c = step_left _ c.planned.ensures.is c.in-Ok.is c.planned.ensures.rows c.planned.ensures.flags
    (state-whole c.args.state _ c.well_formed.0).messages-long c.step_by-c.ensures c.if-answer-ne0.true

pub offset_bounds-orders-answer : goal.offset_bounds-orders-answer
offset_bounds-orders-answer c = let within = c.step_by-c.ensures.within c.if-answer-ne0.false in
    search rules

pub bounds-orders-answer : goal.bounds-orders-answer
bounds-orders-answer c = c.step_by-c.ensures.within c.if-answer-ne0.false

pub returns : goal.returns
returns c = step-put _ c.planned.ensures.is c.in-Ok.is c.planned.ensures.rows c.planned.ensures.flags
    (state-whole c.args.state _ c.well_formed.0).messages-long c.step_by-c.ensures c.if-answer-ne0.false
