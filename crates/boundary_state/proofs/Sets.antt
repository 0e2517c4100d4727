-- What the proof of each function cites. Assumes nothing.
use Rattle.boundary_state.proofs.Renewing.{end-there, end_none, around-again, around-done, around-found, around-other, around-scope, around-starts, byte-part, byte-scope, cause-before, cause-none, marked-long, marked-not, placing-again, placing-done, placing-starts, reply-before, reply-none, same-again, same-done, same-starts}

pub ruleset cause = (placing-starts, placing-again, placing-done)

pub ruleset cause_byte = (cause-before, cause-none)

pub ruleset closing_byte = (byte-scope, byte-part)

pub ruleset fill = (placing-starts, placing-again, placing-done)

pub ruleset is_around = (around-scope, around-other)

pub ruleset is_marked = (marked-long, marked-not)

pub ruleset part_around = (around-starts, around-done, around-found, around-again)

pub ruleset reply = (placing-starts, placing-again, placing-done)

pub ruleset reply_byte = (reply-before, reply-none)

pub ruleset plan_end = (end-there, end_none)

pub ruleset copy = (same-starts, same-again, same-done)
