-- What the proof of each function cites. Assumes nothing.
use Rattle.fit.proofs.Fewest.{least-beyond, least-free, least-full, least-less, least-live, least-open, least-shut, least-unfit, least_more, leasting-again, leasting-done, leasting-starts, lessening-again, lessening-done, lessening-starts}
use Rattle.fit.proofs.Filled.{filling-starts}
use Rattle.fit.proofs.FitReturns.{agreeing-again, agreeing-done, agreeing-starts, agreeing-stops, allows-any, allows-value, asking-again, asking-beyond, asking-done, costs-none, costs-one, counting-again, counting-done, counting-fits, counting-starts, fits-beyond, fits-nothing, knowing-again, knowing-done, known-bound, known-other, known-unbound, number-count, number-none, number-operation, number-partner, number-reply, number-value, sixteenth-beyond, sixteenth-here, unchecked-beyond, unchecked-many, writing-again, writing-done, writing-full}
use Rattle.fit.proofs.SearchReturns.{arm-beyond, arm-none, arm-some, arms-beyond, arms-some, arms_none, climbing-again, climbing-done, climbing-found, climbing-starts, no-pick, opens-arm, opens-asking, opens-other, opens-receive, pick-marked, picking-arm, picking-done, picking-other, rows-free, rows-live, takes-beyond, takes-open, takes-shut}
use Rattle.fit.proofs.Searched.{looking-again, looking-starts, searching-again, searching-done, searching-found, searching-starts}

pub ruleset agrees_at = (agreeing-starts, agreeing-done, agreeing-again, agreeing-stops)

pub ruleset allows = (allows-any, allows-value)

pub ruleset asked_at = (filling-starts, asking-beyond, asking-again, asking-done)

pub ruleset fits_at = (fits-beyond, fits-nothing)

pub ruleset known_at = (sixteenth-beyond, sixteenth-here)

pub ruleset known_of = (filling-starts, knowing-again, knowing-done)

pub ruleset known_value = (known-bound, known-unbound, known-other)

pub ruleset unchecked_at = (counting-fits, unchecked-beyond, unchecked-many, counting-starts, counting-done, counting-again)

pub ruleset unchecked_place = (costs-one, costs-none)

pub ruleset least_letter = (least-unfit, least-less, least_more)

pub ruleset least_letters = (lessening-starts, lessening-again, lessening-done)

pub ruleset least_row = (least-shut, least-open)

pub ruleset least_rows = (leasting-starts, leasting-again, leasting-done)

pub ruleset least_slot = (least-beyond, least-full, least-free, least-live)

pub ruleset letters_of = (filling-starts, writing-full, writing-again, writing-done)

pub ruleset number_of = (number-partner, number-operation, number-count, number-value, number-reply, number-none)

pub ruleset arm_at = (arm-beyond, arm-some, arm-none)

pub ruleset arm_open = (arms-beyond, arms-some, arms_none)

pub ruleset first_receiver = (searching-starts, looking-starts, looking-again, searching-again, searching-done, searching-found)

pub ruleset open_at = (opens-receive, opens-asking, opens-arm, opens-other)

pub ruleset open_pick = (pick-marked, no-pick)

pub ruleset picks_of = (filling-starts, picking-arm, picking-other, picking-done)

pub ruleset row_around = (climbing-starts, climbing-done, climbing-found, climbing-again)

pub ruleset rows_of = (rows-free, rows-live)

pub ruleset takes_at = (takes-beyond, takes-shut, takes-open)
