-- What the proof of each function cites. Assumes nothing.
use Rattle.fit.proofs.Crossed.{crossing-again, crossing-done, crossing-passes, crossing-starts, slot-free}
use Rattle.fit.proofs.Fewest.{lowering-again, lowering-done, lowering-passes, lowering-starts}
use Rattle.fit.proofs.Lines.{rowing-again, rowing-done, rowing-starts}
use Rattle.offer.proofs.Answered.{amount-none, amount-some, amounts-all, previews-all, sees-all, sees-none, sees-started}
use Rattle.offer.proofs.Having.{count-unplanned, counted-all, has-few, has-from, has_room, offer-beyond, offer-found, offer-full, offer-planned, offer-unplanned}
use Rattle.offer.proofs.OrderSeen.{offer-live}
use Rattle.offer.proofs.Starting.{could-take, freeing-again, freeing-found, freeing-none, freeing-starts, passing-again, passing-done, passing-starts, start-beyond, start-held, start-may, start-none-there, start-not, start-shown, start-there, start-unlike, start_none, starting-again, starting-done, starting-starts, starts-all}

pub ruleset count_by = (has-few, has_room, counted-all)

pub ruleset letter_sight = (start-beyond, start-none-there, start-there)

pub ruleset offer = (offer-unplanned, offer-planned)

pub ruleset offer_by = (offer-beyond, offer-full, offer-found)

pub ruleset offers = (has-from, count-unplanned)

pub ruleset amount_of = (amount-none, amount-some)

pub ruleset offered_by = (amounts-all)

pub ruleset preview_by = (previews-all)

pub ruleset sight_in = (sees-none, sees-started, crossing-starts, crossing-passes, crossing-done, crossing-again, lowering-starts, lowering-passes, lowering-done, lowering-again)

pub ruleset sight_of = (sees-all)

pub ruleset could_start = (passing-starts, could-take, passing-again, passing-done)

pub ruleset free_slot = (freeing-starts, freeing-none, freeing-found, freeing-again)

pub ruleset offer_slot = (slot-free, offer-live)

pub ruleset start_letter = (start-unlike, start-not, start-may)

pub ruleset start_letters = (starting-starts, starting-again, starting-done)

pub ruleset start_row = (start_none, start-shown, start-held)

pub ruleset start_rows = (rowing-starts, rowing-again, rowing-done)

pub ruleset starts = (starts-all)
