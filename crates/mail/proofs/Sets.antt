-- What the proof of each function cites. Assumes nothing.
use Rattle.machine.proofs.Called.{collect-limits, collect-planned, collect-unplanned, drop-planned, drop-unplanned, post-none, post-planned}
use Rattle.machine.proofs.Copied.{copied_front, trim-is}
use Rattle.machine.proofs.Moved.{added_full, added_more, collect-handed, gap-copied, gap-filled, handed-none, handed-one, left_is, letter-there, limits-messages, limits-place, limits-waiting, partner-below, post-count, post-full, post-ruled-out, post-taken, seeking-found, seeking-none, seeking-on, seeking-starts, taken-beyond, taken-one, taken_none}

pub ruleset collect = (collect-unplanned, collect-limits, collect-planned)

pub ruleset drop_at = (drop-unplanned, collect-limits, drop-planned)

pub ruleset collect_by = (limits-waiting, limits-messages, collect-handed)

pub ruleset first_values = (copied_front)

pub ruleset foreign_place = (seeking-starts, partner-below, seeking-none, seeking-found, seeking-on)

pub ruleset handed = (limits-place, handed-none, handed-one)

pub ruleset left = (left_is)

pub ruleset letter_at = (letter-there)

pub ruleset moved_up = (gap-copied, gap-filled)

pub ruleset post_by = (post-ruled-out, post-full, post-count, post-taken)

pub ruleset trim = (trim-is)

pub ruleset with_message = (added_more, added_full)

pub ruleset without_message = (taken-beyond, taken_none, taken-one)

pub ruleset post = (post-none, post-planned)
