-- `plan::replies::asking_receive_own` meets its contract. Assumes nothing.
use Rattle.plan.specs.Nodes.{asks}
use Rattle.std.specs.Prelude.{Ok}
use mathlib.Core.Path.{ap, ◌∙◌}
use Rattle.plan.proofs.OwnReads.{room-on, value-below}
use Rattle.plan.proofs.ReplyReads.{asking-no-partner, asking-no-exchange, asking-plain, asking-no-variable, asking-read, asking-few}
use Rattle.plan.proofs.OneNumber.{returned}
use Rattle.plan.proofs.replies.asking_receive_own.Goals as goal

ruleset cases = (asks, room-on, value-below, asking-no-partner, asking-no-exchange, asking-plain, asking-no-variable, asking-read, asking-few)

pub exchange_own-requires : goal.exchange_own-requires
exchange_own-requires c = search (cases, c.in_ok-partner.was)

pub storing_at-requires : goal.storing_at-requires
storing_at-requires c = let b = c.in_ok-received.was ∙ ap Ok c.in-Read.is in search (cases, c.in_ok-partner.was, b)

pub returns-in_err-partner : goal.returns-in_err-partner
returns-in_err-partner c = rw (returned c.from_residual.ensures.1) (search (cases, c.in_err-partner.was))

pub returns-in_err-received : goal.returns-in_err-received
returns-in_err-received c = rw (returned c.from_residual-in_err-received.ensures.1) (search (cases, c.in_err-received.was, c.in_ok-partner.was))

pub returns-in-Numbered : goal.returns-in-Numbered
returns-in-Numbered c = let b = c.in_ok-received.was ∙ ap Ok c.in-Numbered.is in rw c.in-Numbered.is (search (cases, c.in_ok-partner.was, b))

pub returns-in_ok-variable-in-Read : goal.returns-in_ok-variable-in-Read
returns-in_ok-variable-in-Read c = let b = c.in_ok-received.was ∙ ap Ok c.in-Read.is in search (cases, c.in_ok-partner.was, b, c.in_ok-variable-in-Read.was)

pub returns-in_err-variable-in-Read : goal.returns-in_err-variable-in-Read
returns-in_err-variable-in-Read c = let b = c.in_ok-received.was ∙ ap Ok c.in-Read.is in rw (returned c.from_residual-in_err-variable-in-Read.ensures.1) (search (cases, c.in_ok-partner.was, b, c.in_err-variable-in-Read.was))
