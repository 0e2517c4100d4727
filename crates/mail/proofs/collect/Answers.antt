-- `mail::collect` meets its contract. Assumes nothing.
use Rattle.mail.proofs.Sets.{collect}
use Rattle.mail.proofs.collect.Goals as goal

pub returns-in-Ok : goal.returns-in-Ok
returns-in-Ok c = search collect
