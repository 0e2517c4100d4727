-- Glue: all definitions that compute, under one name: a statement that says `unfolding computing` is computed with them. Assumes nothing, and nothing here has
-- to be believed.
use Rattle.numbers.specs.Number.{last_group, groups, number_at}
use Rattle.numbers.specs.Shortest.{spelled, shortest}
use Rattle.plan.specs.Agree.{in_bytes, asked_own, span_of, span_all, asked_in, asked_all, asked, agrees_with, judged as agreed}
use Rattle.plan.specs.Found.{number_in, field_in, among}
use Rattle.plan.specs.Spell.{spell, gaps_of, operation_code, expression_numbers, exchange_numbers, own_numbers}
use Rattle.plan.specs.Tree.{kind, size, count}
use Rattle.plan.specs.Read.{expression_code_in, leaf_in, expression_in, variables_in, tuple_in, exchange_in, arm_in, partner_in, with_expression_in, held_send_in, asking_receive_in, set_in, list_in, raise_in, namable, fault_number_in, code_in, parts_in, head_in, many_in, numbered_in, numbered_scope_in, read_arm, read_act, starts, start_form, correlation_in, version_in, root_in, read_any, read_plan}
use Rattle.order.specs.Lists.{every, some, only, each, alike, without_first}
use Rattle.order.specs.Taking.{bind_all}
use Rattle.order.specs.State.{no_order}
use Rattle.machine.specs.State.{no_message, fresh}
use Rattle.machine.specs.Limits.{exchanged, message_in_limits, mark_in_limits, root_in_limits, order_in_limits, in_limits, plan_in}
use Rattle.order.specs.Expression.{is_fault_number, applied, evaluate}
use Rattle.order.specs.Begin.{begin, begin_after, part, part_at, begin_part, cleared, quiet}
use Rattle.order.specs.Scope.{part_for, chosen_part, chosen_at, list_of, remembered_for, forgetting, adds, closing, inner_runs, begin_undo, start_undo, undo, handle, undoes, turns, withdraws, stop, faults, breaks, looks_again, body_over, body_raised, undo_over, undo_raised, from_body, part_over, part_raised, from_fault, goes_through, from_undo}
use Rattle.order.specs.Acting.{repeats, itself, is_part, arms, goes_on, joins, in_scope, combines, replaces, performs, step_in, step_root, end_of, fault_of, moved_to, acted, begun_order, started_order}
use Rattle.order.specs.Awaited.{doing_of, awaits, ready_in, ready_of, kind_in, kind_at}
use Rattle.order.specs.Judging.{is_thing, is_second, clash_after, conflict, judged, rank, weight, spare, settled, step_order}
use Rattle.machine.specs.Fit.{live_from, agrees, fits, unchecked, fitting, fittings, letters_from, may_take}
use Rattle.machine.specs.Offer.{all_of, eager, step_offers, order_offers, start_of, starts_of, free_from, start_offers, offers_of}
use Rattle.machine.specs.Calls.{load, post_by, post, partner_of, partners_in, partners_of, foreign, handing, collect_by, collect, drop_at, end_number, nth, choosing, preview_by, preview, count_end, doing_in, doing_at, values_of, messages_after, order_taking, stepped, taken, step_chosen, step_by, step, run_by, run}

unfoldable pub computing : Unit {0}
unfolding last_group groups number_at number_in field_in among kind size count expression_code_in leaf_in expression_in variables_in tuple_in exchange_in arm_in partner_in with_expression_in held_send_in asking_receive_in set_in list_in raise_in namable fault_number_in code_in parts_in head_in many_in numbered_in numbered_scope_in read_arm read_act starts start_form correlation_in version_in root_in read_any in_bytes asked_own span_of span_all asked_in asked_all asked agrees_with agreed spelled shortest spell gaps_of operation_code expression_numbers exchange_numbers own_numbers read_plan every some only each alike without_first no_order no_message fresh exchanged message_in_limits mark_in_limits root_in_limits order_in_limits in_limits plan_in is_fault_number applied evaluate begin begin_after part part_at begin_part cleared quiet part_for chosen_part chosen_at list_of remembered_for forgetting adds closing inner_runs begin_undo start_undo undo handle undoes turns withdraws stop faults breaks looks_again body_over body_raised undo_over undo_raised from_body part_over part_raised from_fault goes_through from_undo repeats itself is_part arms goes_on joins in_scope combines replaces performs step_in step_root end_of fault_of moved_to acted begun_order started_order is_thing is_second clash_after conflict judged kind_in kind_at rank weight spare settled step_order doing_of awaits ready_in ready_of live_from agrees fits unchecked fitting fittings letters_from may_take all_of eager step_offers order_offers start_of starts_of free_from start_offers offers_of load post_by post partner_of partners_in partners_of foreign handing collect_by collect drop_at end_number nth choosing preview_by preview count_end doing_in doing_at bind_all values_of messages_after order_taking stepped taken step_chosen step_by step run_by run
computing = tt
