-- Tables and their bytes, computed: where each row has the count that its code asks for, both earn the same number; and the smallest table of which that is
-- false, whose last row lacks a number. Assumes nothing.
use Prim.Native.Nat.{ℕ}
use mathlib.Core.Path.{◌≡◌, refl}
use mathlib.Core.Bool.{Bool, true, not, ◌&&◌}
use mathlib.Core.List.{List, [], ◌∷◌}
use lib.Dec.{eqb}
use Rattle.numbers.specs.Number.{last_group, groups, number_at}
use Rattle.numbers.specs.Shortest.{spelled, shortest}
use Rattle.plan.specs.Agree.{in_bytes, asked_own, span_of, span_all, asked_in, asked_all, asked, agrees_with, judged}
use Rattle.plan.specs.Found.{Found, refused, found, number_in, field_in, among}
use Rattle.plan.specs.Read.{expression_code_in, leaf_in, expression_in, variables_in, tuple_in, exchange_in, arm_in, partner_in, held_send_in, asking_receive_in, with_expression_in, set_in, list_in, raise_in, namable, fault_number_in, code_in, parts_in, head_in, many_in, numbered_in, numbered_scope_in, read_arm, read_act, starts, start_form, first_starts, every_starts, correlation_in, version_in, root_in, read_any, read_plan}
use Rattle.plan.specs.Spell.{spell, operation_code, expression_numbers, exchange_numbers, own_numbers, gaps_of, act_numbers, acts_numbers, plan_numbers, spelling}
use Rattle.plan.specs.Tree.{Plan, kind, size, sizes, count}
use Rattle.plan.specs.Within.{variables_within, ascending}
use Rattle.writer.specs.Rows.{line, lines, expression_rows, own_rows, row_numbers, numbers_from, numbers_of}
use Rattle.writer.specs.Reading.{zeros, shaped, row_in, expression_head, expression_fits, expression_at, exchange_fits, arm_at, code_at, parts_fit, with_expression, parts_at, head_at, count_at, fault_number_at, numbered_at, numbered_scope_at, arm_with, act_at, root_at, head_fits, plan_at, in_rows, agreed_at, read_rows}
use Rattle.rows.specs.Counted.{activity_asks, asks, times, activity_has, numbered_has, has, counted_from, counted}

abbrev number_of : Found Plan → ℕ
number_of (refused n place) = n
number_of (found p next) = 0

-- the numbers that a table of rows earns, and its bytes
abbrev of_table : List (List ℕ) → ℕ
of_table l = number_of (read_rows (lines l))

abbrev of_bytes : List (List ℕ) → ℕ
of_bytes l = number_of (read_plan (spell (numbers_of (lines l))))

-- a counted table that earns this number, as its bytes do
earns : List (List ℕ) → ℕ → Bool
earns l n = counted (lines l) && (eqb (of_table l) n && eqb (of_bytes l) n)

abbrev headed : List (List ℕ) → List (List ℕ)
headed l = (1 ∷ 2 ∷ 0 ∷ []) ∷ l

abbrev receiving : (operation : ℕ) → List ℕ → List ℕ
receiving o vs = 2 ∷ 1 ∷ o ∷ vs

-- a scope with one fault part by number, from the rows of its count and of that number on
abbrev naming : (count number : List ℕ) → List (List ℕ)
naming c x = (14 ∷ []) ∷ receiving 1 (1 ∷ 0 ∷ []) ∷ c ∷ x ∷ (0 ∷ []) ∷ (0 ∷ []) ∷ (0 ∷ []) ∷ (0 ∷ []) ∷ []

-- a plan; rows that run out; an unknown version, an unknown code; a fault part for the number 16; counts of 0 and 9, the number 15; rows that run out behind the count; a number twice; a raise with the number 16, with 256; a body that is a scope with no undo part; a variable beyond V, a count of none, a variable twice; a scope in the fault part, and one with no undo
-- part; an empty
-- body; a row left over; a reply variable, and a send to the partner that a variable holds; a reply variable among the others, and one beyond V; a variable beyond V that
-- holds a partner; the reply partner 64; code 16; two receives that disagree
all_earn :
    earns (headed ((8 ∷ 2 ∷ []) ∷ receiving 1 (1 ∷ 0 ∷ []) ∷ (3 ∷ 1 ∷ []) ∷ (2 ∷ []) ∷ (1 ∷ 0 ∷ []) ∷ (0 ∷ 7 ∷ []) ∷ (0 ∷ []) ∷ [])) 0
    && (earns (headed ((8 ∷ 2 ∷ []) ∷ receiving 1 (1 ∷ 0 ∷ []) ∷ [])) 2
    && (earns ((2 ∷ 2 ∷ 0 ∷ []) ∷ receiving 1 (1 ∷ 0 ∷ []) ∷ (0 ∷ []) ∷ []) 4
    && (earns (headed ((15 ∷ []) ∷ (0 ∷ []) ∷ [])) 4
    && (earns (headed (naming (1 ∷ []) (16 ∷ []))) 0
    && (earns (headed (naming (0 ∷ []) (16 ∷ []))) 5
    && (earns (headed (naming (9 ∷ []) (16 ∷ []))) 5
    && (earns (headed (naming (1 ∷ []) (15 ∷ []))) 5
    && (earns (headed ((14 ∷ []) ∷ receiving 1 (1 ∷ 0 ∷ []) ∷ (1 ∷ []) ∷ [])) 2
    && (earns (headed ((14 ∷ []) ∷ receiving 1 (1 ∷ 0 ∷ []) ∷ (2 ∷ []) ∷ (4 ∷ []) ∷ (0 ∷ []) ∷ (4 ∷ []) ∷ [])) 5
    && (earns (headed (receiving 1 (1 ∷ 0 ∷ []) ∷ (13 ∷ 16 ∷ []) ∷ [])) 0
    && (earns (headed (receiving 1 (1 ∷ 0 ∷ []) ∷ (13 ∷ 256 ∷ []) ∷ [])) 5
    && (earns (headed ((12 ∷ []) ∷ receiving 1 (1 ∷ 0 ∷ []) ∷ (0 ∷ []) ∷ (0 ∷ []) ∷ [])) 0
    && (earns (headed (receiving 1 (1 ∷ 5 ∷ []) ∷ (0 ∷ []) ∷ [])) 5
    && (earns (headed (receiving 1 (0 ∷ []) ∷ (0 ∷ []) ∷ [])) 5
    && (earns (headed (receiving 1 (2 ∷ 0 ∷ 0 ∷ []) ∷ (0 ∷ []) ∷ [])) 5
    && (earns (headed (receiving 1 (1 ∷ 0 ∷ []) ∷ (11 ∷ []) ∷ (0 ∷ []) ∷ (0 ∷ []) ∷ (0 ∷ []) ∷ [])) 8
    && (earns (headed (receiving 1 (1 ∷ 0 ∷ []) ∷ (12 ∷ []) ∷ (0 ∷ []) ∷ (0 ∷ []) ∷ [])) 8
    && (earns (headed ((0 ∷ []) ∷ (0 ∷ []) ∷ [])) 7
    && (earns (headed (receiving 1 (1 ∷ 0 ∷ []) ∷ (0 ∷ []) ∷ (9 ∷ []) ∷ [])) 9
    && (earns (headed ((18 ∷ 1 ∷ 1 ∷ 1 ∷ 0 ∷ 1 ∷ []) ∷ (17 ∷ 0 ∷ 1 ∷ 2 ∷ 0 ∷ 0 ∷ 63 ∷ []) ∷ [])) 0
    && (earns (headed ((18 ∷ 1 ∷ 1 ∷ 1 ∷ 0 ∷ 0 ∷ []) ∷ (0 ∷ []) ∷ [])) 5
    && (earns (headed ((18 ∷ 1 ∷ 1 ∷ 1 ∷ 0 ∷ 2 ∷ []) ∷ (0 ∷ []) ∷ [])) 5
    && (earns (headed (receiving 1 (1 ∷ 0 ∷ []) ∷ (17 ∷ 2 ∷ 1 ∷ 1 ∷ 0 ∷ 63 ∷ []) ∷ [])) 5
    && (earns (headed (receiving 1 (1 ∷ 0 ∷ []) ∷ (17 ∷ 0 ∷ 1 ∷ 1 ∷ 0 ∷ 64 ∷ []) ∷ [])) 5
    && (earns (headed (receiving 1 (1 ∷ 0 ∷ []) ∷ (16 ∷ []) ∷ [])) 4
    && earns (headed ((9 ∷ 2 ∷ []) ∷ receiving 1 (1 ∷ 0 ∷ []) ∷ receiving 1 (2 ∷ 0 ∷ 1 ∷ []) ∷ (0 ∷ []) ∷ [])) 21)))))))))))))))))))))))))
    ≡ true
unfolding earns counted counted_from asks activity_asks times activity_has numbered_has has line lines row_numbers numbers_from read_rows agreed_at judged agrees_with asked asked_all asked_in asked_own span_all span_of in_rows in_bytes own_rows expression_rows plan_at root_at head_fits act_at arm_with numbered_scope_at numbered_at fault_number_at count_at namable gaps_of head_at parts_at with_expression parts_fit code_at arm_at exchange_fits expression_at expression_fits expression_head row_in shaped zeros variables_within ascending among many_in start_form first_starts every_starts starts kind size sizes count spelling plan_numbers act_numbers acts_numbers own_numbers exchange_numbers expression_numbers operation_code spell shortest spelled last_group groups number_at number_in field_in expression_code_in leaf_in expression_in variables_in tuple_in exchange_in arm_in partner_in held_send_in asking_receive_in with_expression_in set_in list_in raise_in fault_number_in code_in parts_in head_in numbered_in numbered_scope_in read_arm read_act correlation_in version_in root_in read_any read_plan
all_earn = refl

-- a set with no variable: 5 by its count, where the bytes end; so the table is none of the counted ones
abbrev miscounted : List (List ℕ)
miscounted = headed ((8 ∷ 2 ∷ []) ∷ receiving 1 (1 ∷ 0 ∷ []) ∷ (4 ∷ []) ∷ (3 ∷ []) ∷ [])

otherwise : (not (counted (lines miscounted)) && (eqb (of_table miscounted) 5 && eqb (of_bytes miscounted) 2)) ≡ true
unfolding counted counted_from asks activity_asks times activity_has numbered_has has line lines row_numbers numbers_from read_rows agreed_at judged agrees_with asked asked_all asked_in asked_own span_all span_of in_rows in_bytes own_rows expression_rows plan_at root_at head_fits act_at arm_with numbered_scope_at numbered_at fault_number_at count_at namable gaps_of head_at parts_at with_expression parts_fit code_at arm_at exchange_fits expression_at expression_fits expression_head row_in shaped zeros variables_within ascending among many_in start_form first_starts every_starts starts kind size sizes count spelling plan_numbers act_numbers acts_numbers own_numbers exchange_numbers expression_numbers operation_code spell shortest spelled last_group groups number_at number_in field_in expression_code_in leaf_in expression_in variables_in tuple_in exchange_in arm_in partner_in held_send_in asking_receive_in with_expression_in set_in list_in raise_in fault_number_in code_in parts_in head_in numbered_in numbered_scope_in read_arm read_act correlation_in version_in root_in read_any read_plan
otherwise = refl
