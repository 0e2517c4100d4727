-- `plan::replies::held_send_own` meets its contract. Assumes nothing.
use Rattle.plan.specs.Nodes.{holds}
use Rattle.std.specs.Prelude.{Ok}
use native.Mathlib.Omega.{arith}
use mathlib.Core.Path.{ap, ◌∙◌}
use Rattle.plan.proofs.OwnReads.{room-on}
use Rattle.plan.proofs.ReplyReads.{held-no-variable, held-no-exchange, held_plain, held-no-reply, held-read}
use Rattle.plan.proofs.OneNumber.{returned}
use Rattle.plan.proofs.replies.held_send_own.Goals as goal

ruleset cases = (room-on, held-no-variable, held-no-exchange, held_plain, held-no-reply, held-read)

pub exchange_own-requires : goal.exchange_own-requires
exchange_own-requires c = (search (cases, c.in_ok-variable.was), (holds, omega arith))

pub returns-in_err-variable : goal.returns-in_err-variable
returns-in_err-variable c = rw (returned c.from_residual.ensures.1) (search (cases, c.in_err-variable.was))

pub returns-in_err-sent : goal.returns-in_err-sent
returns-in_err-sent c = rw (returned c.from_residual-in_err-sent.ensures.1) (search (cases, c.in_err-sent.was, c.in_ok-variable.was))

pub returns-in-Numbered : goal.returns-in-Numbered
returns-in-Numbered c = let b = c.in_ok-sent.was ∙ ap Ok c.in-Numbered.is in rw c.in-Numbered.is (search (cases, c.in_ok-variable.was, b))

pub returns-in_ok-reply-in-Read : goal.returns-in_ok-reply-in-Read
returns-in_ok-reply-in-Read c = let b = c.in_ok-sent.was ∙ ap Ok c.in-Read.is in search (cases, c.in_ok-variable.was, b, c.in_ok-reply-in-Read.was)

pub returns-in_err-reply-in-Read : goal.returns-in_err-reply-in-Read
returns-in_err-reply-in-Read c = let b = c.in_ok-sent.was ∙ ap Ok c.in-Read.is in rw (returned c.from_residual-in_err-reply-in-Read.ensures.1) (search (cases, c.in_ok-variable.was, b, c.in_err-reply-in-Read.was))
