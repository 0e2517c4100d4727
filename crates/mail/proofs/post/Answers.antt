-- `mail::post` meets its contract. Assumes nothing.
use Rattle.mail.proofs.Sets.{post}
use Rattle.mail.proofs.post.Goals as goal

pub returns-in-Ok : goal.returns-in-Ok
returns-in-Ok c = search post
