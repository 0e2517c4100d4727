-- What the proof of each function cites. Assumes nothing.
use Rattle.fit.proofs.Lines.{rowing-again, rowing-done, rowing-starts, wholes-beyond}
use Rattle.order.proofs.Whole.{order-whole}
use Rattle.sight.proofs.Closes.{close-room, close_never, forgets-again, forgets-done, forgets-one, forgets-starts}
use Rattle.sight.proofs.Remembered.{parting-again, parting-done, parting-starts}
use Rattle.sight.proofs.RowSeen.{arm-takes, asking-takes, close-held, close-shown, doing-empty, doing-none, doing_step, offer-aside, offer-cut, offer-free, offer-full, offer-idle, raise-shown, receive-takes, row-beyond, row-full, send-held, send-raises, send-room}
use Rattle.sight.proofs.Rowed.{awaits-arm, awaits-other, awaits-scope, cut-already, cut-before, cut-here, cut-other, scope-open, scope-other, scope-undone, take-least, take-unfit, take_more, taking-again, taking-done, taking-starts}
use Rattle.sight.proofs.Sighting.{answer-beyond, answer-found, answer-held, answer-nothing, pointed-found, pointed-here, pointed-on, shown-is, unseen-is, withheld-is}

pub ruleset answer = (answer-found, answer-held, answer-nothing, answer-beyond)

pub ruleset nothing_seen = (unseen-is)

pub ruleset pointed_at = (pointed-found, pointed-here, pointed-on)

pub ruleset shown = (shown-is)

pub ruleset withheld = (withheld-is)

pub ruleset parts_of = (order-whole, parting-starts, parting-again, parting-done)

pub ruleset row_sight = (row-beyond, row-full)

pub ruleset awaits_at = (awaits-arm, awaits-scope, awaits-other)

pub ruleset close_held = (close_never, close-room, forgets-starts, forgets-done, forgets-one, forgets-again)

pub ruleset cut_row = (cut-already, cut-other, cut-here, cut-before)

pub ruleset cut_rows = (wholes-beyond, rowing-starts, rowing-again, rowing-done)

pub ruleset doing_row = (send-room, send-held, send-raises, receive-takes, asking-takes, arm-takes, close-held, close-shown, raise-shown, doing-empty, doing_step, doing-none)

pub ruleset is_scope = (scope-undone, scope-open, scope-other)

pub ruleset offer_row = (offer-idle, offer-free, offer-cut, offer-aside)

pub ruleset offer_rows = (wholes-beyond, rowing-starts, rowing-again, rowing-done, offer-full)

pub ruleset take_letter = (take_more, take-unfit, take-least)

pub ruleset take_row = (taking-starts, taking-again, taking-done)
