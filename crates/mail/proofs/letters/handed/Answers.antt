-- `mail::letters::handed` meets its contract. Assumes nothing.
use Rattle.mail.proofs.Sets.{handed}
use Rattle.mail.proofs.letters.handed.Goals as goal

pub letter_at-requires : goal.letter_at-requires
letter_at-requires c = search handed

pub left-requires : goal.left-requires
left-requires c = (search handed, search handed)
