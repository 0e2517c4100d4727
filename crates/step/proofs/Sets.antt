-- What the proof of each function cites. Assumes nothing.
use Rattle.machine.proofs.Whole.{state-whole}
use Rattle.order.proofs.Whole.{order-whole}
use Rattle.step.proofs.StepReturns.{step-beyond, step-refused, step-taken}
use Rattle.step.proofs.Taken.{counted-full, counted-more, failed-is, given_is, handled-is, left_is, mail-adds, mail-arm, mail-asking, mail-far, mail-held, mail-none, mail-raises, mail-receive, mail-send, moves-starts, moves-steps, moves_from, next-is, none_is, reply-held, reply-none, sending-done, sending-many, sending-more, sending-starts, start_is, values-none, values-there, well-is}

pub ruleset step_by = (step-taken, step-beyond, step-refused)

pub ruleset count_end = (none_is, well-is, handled-is, failed-is, left_is)

pub ruleset count_start = (start_is)

pub ruleset counted = (counted-more, counted-full)

pub ruleset given_by = (given_is)

pub ruleset letter_values = (values-there, values-none)

pub ruleset messages_after = (mail-far, mail-send, mail-held, mail-receive, mail-asking, mail-arm, mail-none)

pub ruleset moved = (moves-starts, moves-steps)

pub ruleset moved_from = (moves_from)

pub ruleset next_of = (next-is)

pub ruleset sent = (order-whole, mail-adds, mail-raises)

pub ruleset sent_reply = (reply-held, reply-none)

pub ruleset sent_values = (sending-starts, sending-many, sending-more, sending-done)
