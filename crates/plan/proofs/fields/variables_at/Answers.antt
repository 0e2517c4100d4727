-- `plan::fields::variables_at` meets its contract. Assumes nothing.
use Rattle.plan.proofs.TupleReads.{reading-starts, reading-done, reading-refused, reading-barred, reading-again}
use Rattle.plan.proofs.OneNumber.{returned}
use mathlib.Core.Logic.{inl, inr}
use mathlib.Core.Path.{sym, ◌∙◌}
use Rattle.plan.proofs.fields.variables_at.Goals.{else-once-via-then-once+else-seen-v-eq1, else-once-via-else-once}
use Rattle.plan.proofs.fields.variables_at.Goals as goal

ruleset cases = (reading-starts, reading-refused, reading-barred, reading-again, reading-done)

pub loop-i-init : goal.loop-i-init
loop-i-init c = search cases

pub returns-in_err-f : goal.returns-in_err-f
returns-in_err-f c = rw (returned c.from_residual.ensures.1) (search (cases, c.in_err-f.was))

pub returns-then-seen-v-eq1 : goal.returns-then-seen-v-eq1
returns-then-seen-v-eq1 c = reading-barred c.loop-i.invariant c.field_at.ensures.is c.loop-i-test.true c.in_ok-f.was c.field_at.ensures.fits c.requires.1 c.if-once.true c.if-seen-v-eq1.true

pub loop-i-preserved : goal.loop-i-preserved
loop-i-preserved c = reading-again c.loop-i.invariant c.field_at.ensures.is c.loop-i-test.true c.in_ok-f.was c.field_at.ensures.fits c.requires.1 (elim c.else-once.branch [
  | else-once-via-then-once+else-seen-v-eq1 w ↦ inr w.if-seen-v-eq1.false
  | else-once-via-else-once w ↦ inl w.if-once.false
])

pub returns : goal.returns
returns c = search cases
