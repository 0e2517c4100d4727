-- `plan::fields::field_at` meets its contract. Assumes nothing.
use Rattle.plan.proofs.OneNumber.{returned, field-handed, field-outside, field-ruled, field-none, number_fits}
use Rattle.plan.proofs.fields.field_at.Goals as goal

ruleset cases = (field-handed, field-outside, field-ruled, field-none, number_fits)

pub returns-in_err-read : goal.returns-in_err-read
returns-in_err-read c = rw (returned c.from_residual.ensures.1) (search (cases, c.in_err-read.was))

pub returns : goal.returns
returns c = search (cases, c.in_ok-read.was)

pub returns-then-read-least : goal.returns-then-read-least
returns-then-read-least c = search (cases, c.in_ok-read.was)
