-- Glue: the definitions of this crate that compute, under one name: a statement that says `unfolding computing judging` is computed with these and the
-- machine's. Assumes nothing, and nothing here has to be believed.
use Rattle.undoing.specs.History.{history}
use Rattle.undoing.specs.Demand3.{firsts, scopes_in, scopes_of, inside_of, is_begin, since, is_turn, is_finish, closed_by, undone_by, is_undo_raise, closings_of, started_by, undone_of, undo_raised, has_turned, is_left, none_left, may_turn, none_now, may_undo, may_begin, may_close, started_all, may_end, is_over, allowed, right_after, right}
use Rattle.undoing.specs.Ties.{state_after, is_deed, deed_of, deed_in, deed_at, clashes, deed_by, deeds_taken, place_in, place_of, run_at, due_ended, due, is_fault_of, is_fault_with, numbers_told, number_told, raise_told, causes_in, causes_taken, is_end_of, heeds_after, is_raised, end_told, ends_in, ends_taken, is_step, undo_runs, undos_in, moves_on, go_in}
use Rattle.undoing.specs.Orderly.{is_fault_part, part_by, is_part_for, choice_told, is_choice, is_cause, is_began_of, has_faulted, has_handled, may_act, may_handle, not_left, has_mended, orderly, orderly_after}
use Rattle.undoing.specs.Begun.{lasts, acts, owns_in, owns_at, is_marked, goes_in, may_be, has_begun, lead_in, lead_at, may_lead, is_led, numbers, raises_of, steps_taken}
use Rattle.undoing.specs.UndoneRight.{event_code, names_of, mark_told, list_told, broken}

unfoldable pub judging : Unit {0}
unfolding history firsts scopes_in scopes_of inside_of is_begin since is_turn is_finish closed_by undone_by is_undo_raise closings_of started_by undone_of undo_raised has_turned is_left none_left may_turn none_now may_undo may_begin may_close started_all may_end is_over allowed right_after right state_after is_deed deed_of deed_in deed_at clashes deed_by deeds_taken place_in place_of run_at due_ended due is_fault_of is_fault_with numbers_told number_told raise_told causes_in causes_taken is_end_of heeds_after is_raised end_told ends_in ends_taken is_step undo_runs undos_in moves_on go_in is_fault_part part_by is_part_for choice_told is_choice is_cause is_began_of has_faulted has_handled may_act may_handle not_left has_mended orderly orderly_after lasts acts owns_in owns_at is_marked goes_in may_be has_begun lead_in lead_at may_lead is_led numbers raises_of steps_taken event_code names_of mark_told list_told broken
judging = tt
