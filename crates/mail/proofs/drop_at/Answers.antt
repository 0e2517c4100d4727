-- `mail::drop_at` meets its contract. Assumes nothing.
use Rattle.mail.proofs.Sets.{drop_at}
use Rattle.mail.proofs.drop_at.Goals as goal

pub returns-in-Ok : goal.returns-in-Ok
returns-in-Ok c = search drop_at
