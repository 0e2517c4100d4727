-- Closed plans on each side of the limits: what document 01 allows is within them, what it refuses is not. Assumes nothing.
use Prim.Native.Nat.{ℕ, zero, suc, ◌+◌}
use mathlib.Core.Path.{◌≡◌, refl}
use mathlib.Core.Bool.{Bool, true, false}
use mathlib.Core.List.{List, [], ◌∷◌}
use lib.ListN.{length, replicate}
use Rattle.numbers.specs.Shortest.{spelled, shortest}
use Rattle.numbers.specs.Number.{last_group, groups, number_at}
use Rattle.plan.specs.Agree.{in_bytes, asked_own, span_of, span_all, asked_in, asked_all, asked, agrees_with, judged}
use Rattle.plan.specs.Found as found
use Rattle.plan.specs.Found.{Found, number_in, field_in, among}
use Rattle.plan.specs.Read.{expression_code_in, leaf_in, expression_in, variables_in, tuple_in, exchange_in, arm_in, partner_in, held_send_in, asking_receive_in, with_expression_in, set_in, list_in, raise_in, namable, fault_number_in, code_in, parts_in, head_in, many_in, numbered_in, numbered_scope_in, read_arm, read_act, starts, start_form, first_starts, every_starts, correlation_in, version_in, root_in, read_any, read_plan}
use Rattle.plan.specs.Spell.{spell, operation_code, expression_numbers, exchange_numbers, own_numbers, gaps_of, act_numbers, acts_numbers, plan_numbers, spelling}
use Rattle.plan.specs.Tree.{less, Exp, constant, variable, binary, Own, empty, to_partner, to_held, from_partner, from_asking, send, receive, set, raise, leave, choose, sequence, flow, pick, scope, arm, kind, Act, act, Acts, none, more, Plan, size, sizes, count}
use Rattle.plan.specs.Within.{expression_within, variables_within, exchange_within, numbers_each, numbers_within, own_within, raise_within, act_within, acts_within, ascending, plan_within}

abbrev alone : Own → Act
alone own = act own none

abbrev one : Own → Act → Act
one own a = act own (more a none)

-- 2 variables, the first for correlation, and an empty fault part
abbrev of : Act → Plan
of body = record { variables = 2; correlation = 0 ∷ []; body = body; fault = alone empty }

abbrev ask : Act
ask = alone (receive (from_partner 3) 5 (0 ∷ 1 ∷ []))

-- the scope of plan C: empty but for its undo part
abbrev undone : Act → Act
undone a = act (scope [] true) (more (alone empty) (more (alone empty) (more a none)))

-- a scope with no undo part: its body and its fault part
abbrev handing : Act → Act → Act
handing a b = act (scope [] false) (more a (more b none))

abbrev nested : ℕ → Act → Act
nested zero a = a
nested (suc n) a = one sequence (nested n a)

abbrev deep : ℕ → Exp
deep zero = variable 1
deep (suc n) = binary less (constant 4294967295) (deep n)

abbrev arms : Act
arms = one pick (one (arm 63 0 (1 ∷ 0 ∷ [])) (alone (raise 0)))

-- plan A: 01 02 01 00 02 03 05 02 00 01 00
a-is-spelled : spelling (of ask) ≡ 1 ∷ 2 ∷ 1 ∷ 0 ∷ 2 ∷ 3 ∷ 5 ∷ 2 ∷ 0 ∷ 1 ∷ 0 ∷ []
unfolding spelling plan_numbers act_numbers acts_numbers own_numbers gaps_of exchange_numbers spell shortest spelled count
a-is-spelled = refl

abbrev times : ℕ → Act → Acts
times zero a = none
times (suc n) a = more a (times n a)

-- a scope with fault parts for these numbers, whose body is a receive and whose other parts are empty; the same with these parts after its body
abbrev naming : List ℕ → Act
naming ns = act (scope ns true) (more ask (times (length ns + 2) (alone empty)))

abbrev parted : Acts → Act
parted l = act (scope (0 ∷ 255 ∷ []) true) (more ask l)

-- 235 + n activities in all
abbrev broad : ℕ → Plan
broad n = of (act sequence (more ask (more (act flow (times n (alone empty))) (times 7 (act flow (times 32 (alone empty)))))))

abbrev flagged : List Plan → List Bool
flagged [] = []
flagged (p ∷ l) = plan_within p ∷ flagged l

-- plan A; plan C's form; 16 deep; an expression 8 deep; an arm whose activity is 16 deep; 256 activities; a scope
-- with no undo part around one that has it; a body that is one; raises with the numbers 16 and 255; fault parts for the numbers 0, 5, 16 and 255, and
-- for eight; a send to the partner that a variable for correlation holds, in its tuple too, with the reply partner 63; a receive that stores whom to reply to
abbrev allowed : List Plan
allowed =
    of ask
    ∷ of (act sequence (more ask (more (undone (alone (send (to_partner 0) 1 (0 ∷ 0 ∷ [])))) (more (alone (raise 0)) none))))
    ∷ of (nested 15 ask)
    ∷ of (act sequence (more ask (more (act (choose (deep 7)) (more (alone leave) (more (alone (set 1 (deep 0))) none))) none)))
    ∷ of (nested 14 arms)
    ∷ broad 21
    ∷ of (act sequence (more ask (more (handing (undone (alone empty)) (alone (raise 0))) none)))
    ∷ of (handing ask (alone empty))
    ∷ of (act sequence (more ask (more (alone (raise 16)) (more (alone (raise 255)) none))))
    ∷ of (naming (0 ∷ 5 ∷ 16 ∷ 255 ∷ []))
    ∷ of (naming (0 ∷ 1 ∷ 2 ∷ 3 ∷ 4 ∷ 16 ∷ 17 ∷ 18 ∷ []))
    ∷ of (act sequence (more ask (more (alone (send (to_held 0 63) 1 (0 ∷ 0 ∷ []))) none)))
    ∷ of (alone (receive (from_asking 3 1) 5 (0 ∷ [])))
    ∷ []

-- a scope in an undo part; a scope in the fault part; a variable twice in a receive; 17 deep; an expression 9 deep; an arm's activity 17 deep;
-- a variable for correlation set; body no start form; an arm where an activity is due; an empty sequence; 257 activities; a scope
-- with no undo part in the fault part of one; one with three parts; one whose body is no start form; raises with the numbers 1, 15 and 256; fault parts for
-- the numbers 6, 15 and 256, for one twice, for nine; with a part too few, and one too many; with no undo part; such a scope in a fault part; a send to the partner that
-- variable 2 of 2 holds; one with the reply partner 64; a reply variable 2 of 2, one for correlation, and one among the others
abbrev refused : List Plan
refused =
    of (act sequence (more ask (more (undone (undone (alone empty))) none)))
    ∷ record { variables = 2; correlation = []; body = ask; fault = undone (alone empty) }
    ∷ of (alone (receive (from_partner 3) 5 (1 ∷ 1 ∷ [])))
    ∷ of (nested 16 ask)
    ∷ of (act sequence (more ask (more (act (choose (deep 8)) (more (alone leave) (more (alone leave) none))) none)))
    ∷ of (nested 15 arms)
    ∷ of (act sequence (more ask (more (alone (set 0 (deep 0))) none)))
    ∷ of (alone empty)
    ∷ of (act sequence (more ask (more (one (arm 0 0 (0 ∷ [])) (alone empty)) none)))
    ∷ of (act sequence (more ask (more (alone sequence) none)))
    ∷ broad 22
    ∷ of (handing ask (handing (alone empty) (alone empty)))
    ∷ of (act (scope [] false) (more ask (more (alone empty) (more (alone empty) none))))
    ∷ of (handing (alone empty) ask)
    ∷ of (act sequence (more ask (more (alone (raise 1)) none)))
    ∷ of (act sequence (more ask (more (alone (raise 15)) none)))
    ∷ of (act sequence (more ask (more (alone (raise 256)) none)))
    ∷ of (naming (6 ∷ []))
    ∷ of (naming (15 ∷ []))
    ∷ of (naming (256 ∷ []))
    ∷ of (naming (16 ∷ 0 ∷ 16 ∷ []))
    ∷ of (naming (0 ∷ 1 ∷ 2 ∷ 3 ∷ 4 ∷ 16 ∷ 17 ∷ 18 ∷ 19 ∷ []))
    ∷ of (parted (times 3 (alone empty)))
    ∷ of (parted (times 5 (alone empty)))
    ∷ of (act (scope (0 ∷ []) false) (more ask (times 2 (alone empty))))
    ∷ of (parted (more (naming (0 ∷ [])) (times 3 (alone empty))))
    ∷ of (act sequence (more ask (more (alone (send (to_held 2 63) 1 (0 ∷ 0 ∷ []))) none)))
    ∷ of (act sequence (more ask (more (alone (send (to_held 0 64) 1 (0 ∷ 0 ∷ []))) none)))
    ∷ of (alone (receive (from_asking 3 2) 5 (0 ∷ [])))
    ∷ of (alone (receive (from_asking 3 0) 5 (1 ∷ [])))
    ∷ of (alone (receive (from_asking 3 1) 5 (0 ∷ 1 ∷ [])))
    ∷ []

pub both-sides : (flagged allowed ≡ replicate 13 true) × (flagged refused ≡ replicate 31 false)
unfolding plan_within spelling plan_numbers act_numbers acts_numbers own_numbers gaps_of exchange_numbers spell shortest spelled count ascending act_within acts_within own_within namable numbers_each numbers_within raise_within exchange_within variables_within among size sizes start_form first_starts every_starts starts kind expression_numbers operation_code expression_within
both-sides = (refl, refl)

-- Receives that disagree: document 02, request 8.

-- a sequence of two: a receive of partner 3, operation 5 and two variables, and what these bytes say
abbrev after : List ℕ → List ℕ
after l = 1 ∷ 2 ∷ 0 ∷ 8 ∷ 2 ∷ 2 ∷ 3 ∷ 5 ∷ 2 ∷ 0 ∷ 1 ∷ l

-- a sequence that is no start form, whose two receives disagree, and then these bytes
abbrev unstarted : List ℕ → List ℕ
unstarted l = 1 ∷ 2 ∷ 0 ∷ 8 ∷ 3 ∷ 0 ∷ 2 ∷ 3 ∷ 5 ∷ 2 ∷ 0 ∷ 1 ∷ 2 ∷ 3 ∷ 5 ∷ 1 ∷ 0 ∷ 0 ∷ l

abbrev told : Found Plan → List ℕ
told (found.refused number place) = number ∷ place ∷ []
told (found.found p next) = 0 ∷ next ∷ []

abbrev all : List (List ℕ) → List (List ℕ)
all [] = []
all (l ∷ ls) = told (read_plan l) ∷ all ls

-- a receive of the same pair with one variable: 21, at its count; of another operation, and of another partner: none; an arm of the same pair with one
-- variable: 21, at its count; a send: none; a byte after the plan: 9 comes first; a body that is no start form: 7 comes first, at its code; both: 9
pub disagree : all (
    after (2 ∷ 3 ∷ 5 ∷ 1 ∷ 0 ∷ 0 ∷ [])
    ∷ after (2 ∷ 3 ∷ 6 ∷ 1 ∷ 0 ∷ 0 ∷ [])
    ∷ after (2 ∷ 4 ∷ 5 ∷ 1 ∷ 0 ∷ 0 ∷ [])
    ∷ after (10 ∷ 1 ∷ 3 ∷ 5 ∷ 1 ∷ 0 ∷ 0 ∷ 0 ∷ [])
    ∷ after (1 ∷ 3 ∷ 5 ∷ 1 ∷ 0 ∷ 0 ∷ [])
    ∷ after (2 ∷ 3 ∷ 5 ∷ 1 ∷ 0 ∷ 0 ∷ 0 ∷ [])
    ∷ unstarted []
    ∷ unstarted (0 ∷ [])
    ∷ [])
    ≡ (21 ∷ 14 ∷ []) ∷ (0 ∷ 17 ∷ []) ∷ (0 ∷ 17 ∷ []) ∷ (21 ∷ 15 ∷ []) ∷ (0 ∷ 17 ∷ []) ∷ (9 ∷ 17 ∷ []) ∷ (7 ∷ 3 ∷ []) ∷ (9 ∷ 18 ∷ []) ∷ []
unfolding last_group groups number_at number_in field_in among kind size count expression_code_in leaf_in expression_in variables_in tuple_in exchange_in arm_in partner_in held_send_in asking_receive_in with_expression_in set_in list_in raise_in namable fault_number_in code_in parts_in head_in many_in numbered_in numbered_scope_in read_arm read_act starts start_form first_starts every_starts correlation_in version_in root_in read_any read_plan in_bytes asked_own span_of span_all asked_in asked_all asked agrees_with judged spelled shortest spell operation_code expression_numbers exchange_numbers own_numbers gaps_of
disagree = refl

-- Code 12: document 02, request 13.

-- one variable; the body from this code on: a receive, then these bytes
abbrev from : ℕ → List ℕ → List ℕ
from code l = 1 ∷ 1 ∷ 0 ∷ code ∷ 2 ∷ 0 ∷ 0 ∷ 1 ∷ 0 ∷ l

-- a body of code 12 has two parts, and then comes the root's fault part; three: 9, at the byte after the plan; code 11 has three; code 15: 4; code 12 in
-- the fault part, in the undo part of one of code 11, in the root's fault part: 8; a body of code 12 that is no start form: 7
pub coded : all (
    from 12 (0 ∷ 0 ∷ [])
    ∷ from 12 (0 ∷ 0 ∷ 0 ∷ [])
    ∷ from 11 (0 ∷ 0 ∷ 0 ∷ [])
    ∷ from 15 (0 ∷ 0 ∷ [])
    ∷ from 12 (12 ∷ 0 ∷ 0 ∷ 0 ∷ [])
    ∷ from 11 (0 ∷ 12 ∷ 0 ∷ 0 ∷ 0 ∷ [])
    ∷ from 12 (0 ∷ 12 ∷ 0 ∷ 0 ∷ [])
    ∷ (1 ∷ 1 ∷ 0 ∷ 12 ∷ 0 ∷ 0 ∷ 0 ∷ [])
    ∷ [])
    ≡ (0 ∷ 11 ∷ []) ∷ (9 ∷ 11 ∷ []) ∷ (0 ∷ 12 ∷ []) ∷ (4 ∷ 3 ∷ []) ∷ (8 ∷ 9 ∷ []) ∷ (8 ∷ 10 ∷ []) ∷ (8 ∷ 10 ∷ []) ∷ (7 ∷ 3 ∷ []) ∷ []
unfolding last_group groups number_at number_in field_in among kind size count expression_code_in leaf_in expression_in variables_in tuple_in exchange_in arm_in partner_in held_send_in asking_receive_in with_expression_in set_in list_in raise_in namable fault_number_in code_in parts_in head_in many_in numbered_in numbered_scope_in read_arm read_act starts start_form first_starts every_starts correlation_in version_in root_in read_any read_plan in_bytes asked_own span_of span_all asked_in asked_all asked agrees_with judged spelled shortest spell operation_code expression_numbers exchange_numbers own_numbers gaps_of
coded = refl

-- Code 13: document 02, request 4.

-- raises with the numbers 16 and 255, and with 16 in the root's fault part; with 15, 0 and 256: 5, at that number; cut after the code, and in the
-- number: 2, at the end; a number not in the shortest form: 3; a body that is such a raise: 7
pub numbered : all (
    after (13 ∷ 16 ∷ 0 ∷ [])
    ∷ after (13 ∷ 255 ∷ 1 ∷ 0 ∷ [])
    ∷ after (0 ∷ 13 ∷ 16 ∷ [])
    ∷ after (13 ∷ 15 ∷ 0 ∷ [])
    ∷ after (13 ∷ 0 ∷ 0 ∷ [])
    ∷ after (13 ∷ 128 ∷ 2 ∷ 0 ∷ [])
    ∷ after (13 ∷ [])
    ∷ after (13 ∷ 255 ∷ [])
    ∷ after (13 ∷ 144 ∷ 0 ∷ 0 ∷ [])
    ∷ (1 ∷ 1 ∷ 0 ∷ 13 ∷ 16 ∷ 0 ∷ [])
    ∷ [])
    ≡ (0 ∷ 14 ∷ []) ∷ (0 ∷ 15 ∷ []) ∷ (0 ∷ 14 ∷ []) ∷ (5 ∷ 12 ∷ []) ∷ (5 ∷ 12 ∷ []) ∷ (5 ∷ 12 ∷ []) ∷ (2 ∷ 12 ∷ []) ∷ (2 ∷ 13 ∷ []) ∷ (3 ∷ 12 ∷ []) ∷ (7 ∷ 3 ∷ []) ∷ []
unfolding last_group groups number_at number_in field_in among kind size count expression_code_in leaf_in expression_in variables_in tuple_in exchange_in arm_in partner_in held_send_in asking_receive_in with_expression_in set_in list_in raise_in namable fault_number_in code_in parts_in head_in many_in numbered_in numbered_scope_in read_arm read_act starts start_form first_starts every_starts correlation_in version_in root_in read_any read_plan in_bytes asked_own span_of span_all asked_in asked_all asked agrees_with judged spelled shortest spell operation_code expression_numbers exchange_numbers own_numbers gaps_of
numbered = refl

-- Code 14: document 02, request 4.

-- fault parts for the numbers 0 and 255, then the general fault part, the undo part and the root's fault part; counts of 0 and 9: 5, at the count; the
-- numbers 6, 15 and 256, and one twice: 5, at that number; cut after the body, and after a number: 2, at the end; a count not in the shortest form: 3; a
-- code 15 in a fault part by number: 4; code 14 in one, in the general fault part and in the undo part: 8; a body that is no start form: 7
pub by-numbers : all (
    from 14 (2 ∷ 0 ∷ 0 ∷ 255 ∷ 1 ∷ 0 ∷ 0 ∷ 0 ∷ 0 ∷ [])
    ∷ from 14 (0 ∷ 0 ∷ 0 ∷ 0 ∷ [])
    ∷ from 14 (9 ∷ 0 ∷ 0 ∷ 0 ∷ [])
    ∷ from 14 (1 ∷ 6 ∷ 0 ∷ 0 ∷ 0 ∷ 0 ∷ [])
    ∷ from 14 (1 ∷ 15 ∷ 0 ∷ 0 ∷ 0 ∷ 0 ∷ [])
    ∷ from 14 (1 ∷ 128 ∷ 2 ∷ 0 ∷ 0 ∷ 0 ∷ 0 ∷ [])
    ∷ from 14 (2 ∷ 4 ∷ 0 ∷ 4 ∷ 0 ∷ 0 ∷ 0 ∷ 0 ∷ [])
    ∷ from 14 []
    ∷ from 14 (1 ∷ 0 ∷ [])
    ∷ from 14 (129 ∷ 0 ∷ 0 ∷ 0 ∷ [])
    ∷ from 14 (1 ∷ 0 ∷ 15 ∷ 0 ∷ 0 ∷ 0 ∷ [])
    ∷ from 14 (1 ∷ 0 ∷ 14 ∷ 0 ∷ 0 ∷ 0 ∷ [])
    ∷ from 14 (1 ∷ 0 ∷ 0 ∷ 14 ∷ 0 ∷ 0 ∷ [])
    ∷ from 14 (1 ∷ 0 ∷ 0 ∷ 0 ∷ 14 ∷ 0 ∷ [])
    ∷ (1 ∷ 1 ∷ 0 ∷ 14 ∷ 0 ∷ 1 ∷ 0 ∷ 0 ∷ 0 ∷ 0 ∷ 0 ∷ [])
    ∷ [])
    ≡ (0 ∷ 18 ∷ []) ∷ (5 ∷ 9 ∷ []) ∷ (5 ∷ 9 ∷ []) ∷ (5 ∷ 10 ∷ []) ∷ (5 ∷ 10 ∷ []) ∷ (5 ∷ 10 ∷ []) ∷ (5 ∷ 12 ∷ []) ∷ (2 ∷ 9 ∷ []) ∷ (2 ∷ 11 ∷ []) ∷ (3 ∷ 9 ∷ []) ∷ (4 ∷ 11 ∷ []) ∷ (8 ∷ 11 ∷ []) ∷ (8 ∷ 12 ∷ []) ∷ (8 ∷ 13 ∷ []) ∷ (7 ∷ 3 ∷ []) ∷ []
unfolding last_group groups number_at number_in field_in among kind size count expression_code_in leaf_in expression_in variables_in tuple_in exchange_in arm_in partner_in held_send_in asking_receive_in with_expression_in set_in list_in raise_in namable fault_number_in code_in parts_in head_in many_in numbered_in numbered_scope_in read_arm read_act starts start_form first_starts every_starts correlation_in version_in root_in read_any read_plan in_bytes asked_own span_of span_all asked_in asked_all asked agrees_with judged spelled shortest spell operation_code expression_numbers exchange_numbers own_numbers gaps_of
by-numbers = refl

-- Codes 17 and 18: document 02, request 5.

-- code 17: a send to the partner that variable 1 holds, with the reply partner 63; variable 2 of 2: 5, at that number; the reply partner 64: 5, at that number; cut before
-- it: 2. Code 18: a receive whose variable 1 stores the reply partner; of the pair of the first with another count: 21, at its count; a reply variable among the others,
-- and 2 of 2: 5, at that number; cut before it: 2. Codes 15, 16 and 19: 4. A reply variable for correlation: 5. A body of code 18 is a start form, one of code 17
-- is none: 7.
pub replies : all (
    after (17 ∷ 1 ∷ 63 ∷ 1 ∷ 1 ∷ 63 ∷ 0 ∷ [])
    ∷ after (17 ∷ 2 ∷ 63 ∷ 1 ∷ 1 ∷ 63 ∷ 0 ∷ [])
    ∷ after (17 ∷ 1 ∷ 63 ∷ 1 ∷ 1 ∷ 64 ∷ 0 ∷ [])
    ∷ after (17 ∷ 1 ∷ 63 ∷ 1 ∷ 1 ∷ [])
    ∷ after (18 ∷ 3 ∷ 6 ∷ 1 ∷ 0 ∷ 1 ∷ 0 ∷ [])
    ∷ after (18 ∷ 3 ∷ 5 ∷ 1 ∷ 0 ∷ 1 ∷ 0 ∷ [])
    ∷ after (18 ∷ 3 ∷ 6 ∷ 2 ∷ 0 ∷ 1 ∷ 1 ∷ 0 ∷ [])
    ∷ after (18 ∷ 3 ∷ 6 ∷ 1 ∷ 0 ∷ 2 ∷ 0 ∷ [])
    ∷ after (18 ∷ 3 ∷ 6 ∷ 1 ∷ 0 ∷ [])
    ∷ after (15 ∷ 0 ∷ [])
    ∷ after (16 ∷ 0 ∷ [])
    ∷ after (19 ∷ 0 ∷ [])
    ∷ (1 ∷ 2 ∷ 1 ∷ 0 ∷ 18 ∷ 3 ∷ 5 ∷ 1 ∷ 1 ∷ 0 ∷ 0 ∷ [])
    ∷ (1 ∷ 2 ∷ 1 ∷ 0 ∷ 18 ∷ 3 ∷ 5 ∷ 1 ∷ 0 ∷ 1 ∷ 0 ∷ [])
    ∷ (1 ∷ 1 ∷ 0 ∷ 17 ∷ 0 ∷ 0 ∷ 1 ∷ 0 ∷ 0 ∷ 0 ∷ [])
    ∷ [])
    ≡ (0 ∷ 18 ∷ []) ∷ (5 ∷ 12 ∷ []) ∷ (5 ∷ 16 ∷ []) ∷ (2 ∷ 16 ∷ []) ∷ (0 ∷ 18 ∷ []) ∷ (21 ∷ 14 ∷ []) ∷ (5 ∷ 17 ∷ []) ∷ (5 ∷ 16 ∷ []) ∷ (2 ∷ 16 ∷ []) ∷ (4 ∷ 11 ∷ []) ∷ (4 ∷ 11 ∷ []) ∷ (4 ∷ 11 ∷ []) ∷ (5 ∷ 9 ∷ []) ∷ (0 ∷ 11 ∷ []) ∷ (7 ∷ 3 ∷ []) ∷ []
unfolding last_group groups number_at number_in field_in among kind size count expression_code_in leaf_in expression_in variables_in tuple_in exchange_in arm_in partner_in held_send_in asking_receive_in with_expression_in set_in list_in raise_in namable fault_number_in code_in parts_in head_in many_in numbered_in numbered_scope_in read_arm read_act starts start_form first_starts every_starts correlation_in version_in root_in read_any read_plan in_bytes asked_own span_of span_all asked_in asked_all asked agrees_with judged spelled shortest spell operation_code expression_numbers exchange_numbers own_numbers gaps_of
replies = refl
