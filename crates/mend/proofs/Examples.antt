-- Padded numbers and plans on each side of their rules, computed. Assumes nothing.
use Prim.Native.Nat.{ℕ}
use mathlib.Core.Path.{◌≡◌, refl}
use mathlib.Core.List.{List, [], ◌∷◌, ◌++◌}
use lib.ListN.{replicate}
use Rattle.std.specs.Prelude.{Result, Ok, Err}
use Rattle.numbers.specs.declared.Number.{Number}
use Rattle.numbers.specs.declared.Trouble.{Trouble}
use Rattle.numbers.specs.declared.Trouble.TheVariants.{Short, Bad}
use Rattle.numbers.specs.Shortest.{shortest, spelled}
use Rattle.numbers.specs.Number.{got, last_group, groups, number_at}
use Rattle.plan.specs.Agree.{in_bytes, asked_own, span_of, span_all, asked_in, asked_all, asked, agrees_with, judged}
use Rattle.plan.specs.Found.{number_in, field_in, among}
use Rattle.plan.specs.Read.{expression_code_in, leaf_in, expression_in, variables_in, tuple_in, exchange_in, arm_in, partner_in, held_send_in, asking_receive_in, with_expression_in, set_in, list_in, raise_in, namable, fault_number_in, code_in, parts_in, head_in, many_in, numbered_in, numbered_scope_in, read_arm, read_act, starts, start_form, first_starts, every_starts, correlation_in, version_in, root_in, read_any, read_plan}
use Rattle.plan.specs.Spell.{spell, operation_code, expression_numbers, exchange_numbers, own_numbers, gaps_of, act_numbers, acts_numbers, plan_numbers, spelling}
use Rattle.plan.specs.Tree.{kind, size, count}
use Rattle.mend.specs.Outcome.{mended, put_answer, answer_of}
use Rattle.mend.specs.Padded.{groups_at, padded_at, numbers_from, numbers_of, shortened, cut_from, groups_cut, place_from, place_of, last_place, original, read_padded}
use Rattle.plan.specs.Answers.{refusal}

-- 1 in one, two and ten groups, and 4,294,967,295 in ten; 0 in two; an eleventh group asked for, also where the bytes end there; bytes that end
-- after nine groups; too large in the fifth group and in the sixth, also where the bytes end there
abbrev padded : List (List ℕ)
padded =
    (1 ∷ [])
    ∷ (129 ∷ 0 ∷ [])
    ∷ (129 ∷ (replicate 8 128 ++ (0 ∷ [])))
    ∷ (255 ∷ 255 ∷ 255 ∷ 255 ∷ 143 ∷ 128 ∷ 128 ∷ 128 ∷ 128 ∷ 0 ∷ [])
    ∷ (128 ∷ 0 ∷ [])
    ∷ (129 ∷ (replicate 9 128 ++ (0 ∷ [])))
    ∷ (129 ∷ replicate 9 128)
    ∷ (129 ∷ replicate 8 128)
    ∷ (255 ∷ 255 ∷ 255 ∷ 255 ∷ 144 ∷ [])
    ∷ (129 ∷ 128 ∷ 128 ∷ 128 ∷ 128 ∷ 129 ∷ [])
    ∷ []

abbrev each : List (List ℕ) → List (Result Number Trouble)
each [] = []
each (s ∷ l) = padded_at s 0 ∷ each l

padded-numbers : each padded ≡ got 1 1 ∷ got 1 2 ∷ got 1 10 ∷ got 4294967295 10 ∷ got 0 2 ∷ Err Bad ∷ Err Bad ∷ Err Short ∷ Err Bad ∷ Err Bad ∷ []
unfolding padded_at groups_at
padded-numbers = refl

-- plan A with its version in two groups, its operation in three, and an eleventh group asked for after it
abbrev a : List ℕ
a = 129 ∷ 0 ∷ 2 ∷ 1 ∷ 0 ∷ 2 ∷ 3 ∷ 133 ∷ 128 ∷ 0 ∷ 2 ∷ 0 ∷ 1 ∷ 0 ∷ replicate 10 128

a-shortened : shortened a ≡ 1 ∷ 2 ∷ 1 ∷ 0 ∷ 2 ∷ 3 ∷ 5 ∷ 2 ∷ 0 ∷ 1 ∷ 0 ∷ []
unfolding shortened numbers_of numbers_from padded_at groups_at spell shortest spelled
a-shortened = refl

a-cut : groups_cut a ≡ 3
unfolding groups_cut cut_from padded_at groups_at shortest spelled
a-cut = refl

-- its body, its operation, its first variable, and what follows it
abbrev places : List ℕ → List ℕ
places [] = []
places (q ∷ l) = place_of a q ∷ places l

a-places : places (4 ∷ 6 ∷ 8 ∷ 11 ∷ []) ≡ 5 ∷ 7 ∷ 11 ∷ 14 ∷ []
unfolding place_of place_from padded_at groups_at shortest spelled
a-places = refl

-- Receives that disagree: document 02, request 8. A sequence of two receives of partner 3 and operation 5, of two variables and of one, with its version in
-- two groups and the second operation in three, and then these bytes.
abbrev disagreeing : List ℕ → List ℕ
disagreeing l = 129 ∷ 0 ∷ 2 ∷ 0 ∷ 8 ∷ 2 ∷ 2 ∷ 3 ∷ 5 ∷ 2 ∷ 0 ∷ 1 ∷ 2 ∷ 3 ∷ 133 ∷ 128 ∷ 0 ∷ 1 ∷ 0 ∷ 0 ∷ l

-- 21, at the second count's place in what came in, also where there is no room for what would come out; 9 where a byte follows
disagreement : answer_of (disagreeing []) (read_padded (disagreeing [])) 4096 ∷ answer_of (disagreeing []) (read_padded (disagreeing [])) 0
    ∷ answer_of (disagreeing (0 ∷ [])) (read_padded (disagreeing (0 ∷ []))) 4096 ∷ []
    ≡ Err (refusal 21 17) ∷ Err (refusal 21 17) ∷ Err (refusal 9 20) ∷ []
unfolding answer_of read_padded original shortened numbers_of numbers_from padded_at groups_at place_of last_place place_from spell shortest spelled last_group groups number_at number_in field_in among kind size count expression_code_in leaf_in expression_in variables_in tuple_in exchange_in arm_in partner_in held_send_in asking_receive_in with_expression_in set_in list_in raise_in namable fault_number_in code_in parts_in head_in many_in numbered_in numbered_scope_in read_arm read_act starts start_form first_starts every_starts correlation_in version_in root_in read_any read_plan in_bytes asked_own span_of span_all asked_in asked_all asked agrees_with judged operation_code expression_numbers exchange_numbers own_numbers gaps_of
disagreement = refl

-- Fault parts by number: document 02, request 4. A plan whose body is a scope with one, with its count in two groups and this number.
abbrev naming : List ℕ → List ℕ
naming number = 1 ∷ 2 ∷ 0 ∷ 14 ∷ 2 ∷ 3 ∷ 5 ∷ 1 ∷ 0 ∷ 129 ∷ 0 ∷ (number ++ (0 ∷ 0 ∷ 0 ∷ 0 ∷ []))

-- the number 16 in two groups: two are cut, and 15 bytes come out; 15: 5, at its place in what came in
numbered : answer_of (naming (144 ∷ 0 ∷ [])) (read_padded (naming (144 ∷ 0 ∷ []))) 4096 ∷ answer_of (naming (15 ∷ [])) (read_padded (naming (15 ∷ []))) 4096 ∷ []
    ≡ Ok (mended 15 2) ∷ Err (refusal 5 11) ∷ []
unfolding answer_of put_answer spelling plan_numbers act_numbers acts_numbers read_padded original shortened numbers_of numbers_from groups_cut cut_from padded_at groups_at place_of last_place place_from spell shortest spelled last_group groups number_at number_in field_in among kind size count expression_code_in leaf_in expression_in variables_in tuple_in exchange_in arm_in partner_in held_send_in asking_receive_in with_expression_in set_in list_in raise_in namable fault_number_in code_in parts_in head_in many_in numbered_in numbered_scope_in read_arm read_act starts start_form first_starts every_starts correlation_in version_in root_in read_any read_plan in_bytes asked_own span_of span_all asked_in asked_all asked agrees_with judged operation_code expression_numbers exchange_numbers own_numbers gaps_of
numbered = refl

-- A reply address: document 02, request 5. A plan of two variables whose body is a receive of variable 0 that stores whom to reply to in this one, its code in two groups.
abbrev storing : List ℕ → List ℕ
storing number = 1 ∷ 2 ∷ 0 ∷ 146 ∷ 0 ∷ 3 ∷ 5 ∷ 1 ∷ 0 ∷ (number ++ (0 ∷ []))

-- variable 1 in two groups: two are cut, and 10 bytes come out; 0, which is among the others: 5, at its place in what came in
storing-mended : answer_of (storing (129 ∷ 0 ∷ [])) (read_padded (storing (129 ∷ 0 ∷ []))) 4096 ∷ answer_of (storing (0 ∷ [])) (read_padded (storing (0 ∷ []))) 4096 ∷ []
    ≡ Ok (mended 10 2) ∷ Err (refusal 5 9) ∷ []
unfolding answer_of put_answer spelling plan_numbers act_numbers acts_numbers read_padded original shortened numbers_of numbers_from groups_cut cut_from padded_at groups_at place_of last_place place_from spell shortest spelled last_group groups number_at number_in field_in among kind size count expression_code_in leaf_in expression_in variables_in tuple_in exchange_in arm_in partner_in held_send_in asking_receive_in with_expression_in set_in list_in raise_in namable fault_number_in code_in parts_in head_in many_in numbered_in numbered_scope_in read_arm read_act starts start_form first_starts every_starts correlation_in version_in root_in read_any read_plan in_bytes asked_own span_of span_all asked_in asked_all asked agrees_with judged operation_code expression_numbers exchange_numbers own_numbers gaps_of
storing-mended = refl
