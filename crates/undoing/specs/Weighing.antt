-- Glue: the definitions of Entirely, Standing and Onward that compute, under one name. Assumes nothing, and nothing here has to be believed.
use Rattle.order.specs.Taking.{act_in}
use Rattle.undoing.specs.Entirely.{times, is_once, is_rash, is_afresh, turn_in, turn_at, suits, is_entire, same_order, chained, is_stopped, has_next, is_stop_of, is_local, is_left_alone, is_awaited}
use Rattle.undoing.specs.Standing.{choice_on, is_doing, holding_of, runs_in, stands}
use Rattle.undoing.specs.Onward.{is_kept, each_began, later_began, goes_on, passes_in, is_passed, picks, picks_in, picks_at, is_decided}

unfoldable pub weighing : Unit {0}
unfolding act_in times is_once is_afresh turn_in turn_at suits is_entire same_order chained is_stopped has_next is_stop_of is_local is_left_alone is_awaited choice_on is_doing holding_of runs_in stands is_rash is_kept each_began later_began goes_on passes_in is_passed picks picks_in picks_at is_decided
weighing = tt
