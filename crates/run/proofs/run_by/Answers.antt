-- `run::run_by` meets its contract. Assumes nothing.
use borrow.Author.Rules.{rules}
use Rattle.run.proofs.RunReturns.{going-starts, going-empty, going-spent, going-refused, going_on, told-empty, told-spent, told-refused}
use Prim.Native.Nat.{◌-◌}
use Rattle.run.proofs.run_by.Goals as goal

ruleset cases = (going-starts, going_on)

ruleset ends = (going-empty, going-spent, going-refused)

ruleset tells = (told-empty, told-spent, told-refused)

pub loop-i-init : goal.loop-i-init
loop-i-init c = search cases

pub returns-then-budget-eq0-clause-is : goal.returns-then-budget-eq0-clause-is
returns-then-budget-eq0-clause-is c = search ends

pub returns-then-budget-eq0-clause-told : goal.returns-then-budget-eq0-clause-told
returns-then-budget-eq0-clause-told c = search tells

pub returns-then-a-ne0-clause-is : goal.returns-then-a-ne0-clause-is
returns-then-a-ne0-clause-is c = search ends

pub returns-then-a-ne0-clause-told : goal.returns-then-a-ne0-clause-told
returns-then-a-ne0-clause-told c = search tells

pub offset_bounds-state-a : goal.offset_bounds-state-a
offset_bounds-state-a c = let within = c.step_by-c.ensures.within c.if-a-ne0.false in
    search rules

pub bounds-state-a : goal.bounds-state-a
bounds-state-a c = c.step_by-c.ensures.within c.if-a-ne0.false

pub loop-i-preserved : goal.loop-i-preserved
loop-i-preserved c = search cases

pub returns-clause-is : goal.returns-clause-is
returns-clause-is c = search ends

pub returns-clause-told : goal.returns-clause-told
returns-clause-told c = search tells
