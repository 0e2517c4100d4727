-- `plan::fields::tuple_at` meets its contract. Assumes nothing.
use borrow.Author.Rules.{rules}
use Rattle.plan.proofs.TupleReads.{tuple-refused, tuple-read, tuple-count}
use Rattle.plan.proofs.OneNumber.{returned}
use Rattle.plan.proofs.fields.tuple_at.Goals as goal

ruleset cases = (tuple-refused, tuple-read)

ruleset room = (tuple-count)

pub variables_at-requires : goal.variables_at-requires
variables_at-requires c = (search (room, c.in_ok-count.was), search rules)

pub returns-in_err-count : goal.returns-in_err-count
returns-in_err-count c = rw (returned c.from_residual.ensures.1) (search (cases, c.in_err-count.was))

pub returns : goal.returns
returns c = search (cases, c.in_ok-count.was)
