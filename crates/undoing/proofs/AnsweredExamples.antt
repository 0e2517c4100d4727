-- Answers of right runs, and answers that an engine that does wrong would give, judged by what a buyer writes down: computed. Assumes nothing.
use Prim.Native.Nat.{ℕ}
use mathlib.Core.Path.{◌≡◌, refl}
use mathlib.Core.Bool.{Bool, true, false}
use mathlib.Core.List.{List, [], ◌∷◌, map}
use Rattle.plan.specs.Read.{read_plan}
use Rattle.order.specs.declared.End.{End}
use Rattle.order.specs.declared.End.TheVariants.{None, Well, Handled, Failed}
use Rattle.machine.specs.declared.Step.{Step}
use Rattle.machine.specs.State.{no_tally}
use Rattle.machine.specs.Limits.{by}
use Rattle.machine.specs.Calls.{end_number, loaded, Call, posting, stepping}
use Rattle.machine.specs.Computing.{computing}
use Rattle.undoing.specs.Computing.{judging}
use Rattle.undoing.specs.Answered.{is_sure, has_all, surely, back_in, back_of, nothing_due, noted, may_note, settles, in_order, answered, as_often, each_as_often}

abbrev pub first : Call
first = posting (record { partner = 0; operation = 0; count = 1; values = 5 ∷ 0 ∷ 0 ∷ 0 ∷ []; reply = 0 })

abbrev pub next : Call
next = stepping 0

-- an answer: the step of an activity, and how the order ended with it
abbrev pub answers : (activity : ℕ) → End → Step
answers t e = record { refusal = 0; slot = 0; activity = t; place = 0; end = e; fault = 0 }

abbrev pub goes : (activity : ℕ) → Step
goes t = answers t None

-- A plan, calls on a fresh state of it, and what is answered in slot 0: rightly, and otherwise
pub record Example : Type 0 where
  pub bytes : List ℕ
  pub calls : List Call
  pub rightly : List Step
  pub wrongly : List (List Step)

-- Document 01's plan C: a receive 1; two scopes 2 and 6, empty but for their undo parts 5 and 9, which send; a raise 10; the root's fault part 11.
unfoldable two_scopes : Example
two_scopes =
    record {
      bytes = 1 ∷ 1 ∷ 0 ∷ 8 ∷ 4 ∷ 2 ∷ 0 ∷ 0 ∷ 1 ∷ 0 ∷ 11 ∷ 0 ∷ 0 ∷ 1 ∷ 2 ∷ 1 ∷ 1 ∷ 0 ∷ 11 ∷ 0 ∷ 0 ∷ 1 ∷ 2 ∷ 2 ∷ 1 ∷ 0 ∷ 4 ∷ 0 ∷ [];
      calls = first ∷ first ∷ next ∷ next ∷ next ∷ next ∷ next ∷ next ∷ next ∷ [];
      rightly = goes 1 ∷ goes 2 ∷ goes 6 ∷ goes 10 ∷ goes 9 ∷ answers 5 Handled ∷ goes 1 ∷ [];
      wrongly =
          -- oldest first
          (goes 1 ∷ goes 2 ∷ goes 6 ∷ goes 10 ∷ goes 5 ∷ answers 9 Handled ∷ [])
          -- one twice
          ∷ (goes 1 ∷ goes 2 ∷ goes 6 ∷ goes 10 ∷ goes 9 ∷ goes 9 ∷ answers 5 Handled ∷ [])
          ∷ (goes 1 ∷ goes 2 ∷ goes 6 ∷ goes 10 ∷ goes 9 ∷ goes 5 ∷ answers 5 Handled ∷ [])
          -- one left out: the newest, the oldest, both
          ∷ (goes 1 ∷ goes 2 ∷ goes 6 ∷ goes 10 ∷ answers 5 Handled ∷ [])
          ∷ (goes 1 ∷ goes 2 ∷ goes 6 ∷ goes 10 ∷ answers 9 Handled ∷ [])
          ∷ (goes 1 ∷ goes 2 ∷ goes 6 ∷ answers 10 Handled ∷ [])
          -- undone though the order ended well
          ∷ (goes 1 ∷ goes 2 ∷ goes 6 ∷ goes 9 ∷ answers 5 Well ∷ [])
          -- undone before it closed, and closed after undoing began
          ∷ (goes 1 ∷ goes 5 ∷ goes 2 ∷ goes 6 ∷ goes 10 ∷ goes 9 ∷ answers 5 Handled ∷ [])
          ∷ (goes 1 ∷ goes 2 ∷ goes 5 ∷ goes 6 ∷ goes 10 ∷ answers 9 Handled ∷ [])
          -- what an order before it in the slot closed is taken back
          ∷ (goes 1 ∷ goes 2 ∷ answers 6 Well ∷ goes 1 ∷ goes 9 ∷ [])
          ∷ [];
    }

-- A receive 1; a set 2; a repeat 3 of a sequence 4 with a scope 5 (undo part 8) and a set 9, three times; a raise 10; the root's fault part 11.
unfoldable three_closings : Example
three_closings =
    record {
      bytes = 1 ∷ 2 ∷ 0 ∷ 8 ∷ 4 ∷ 2 ∷ 0 ∷ 0 ∷ 1 ∷ 0 ∷ 3 ∷ 1 ∷ 0 ∷ 0 ∷ 7 ∷ 5 ∷ 1 ∷ 1 ∷ 0 ∷ 3 ∷ 8 ∷ 2 ∷ 11 ∷ 0 ∷ 0 ∷ 1 ∷ 2 ∷ 1 ∷ 1 ∷ 1 ∷ 3 ∷ 1 ∷ 2 ∷ 1 ∷ 1 ∷ 0 ∷ 1 ∷ 4 ∷ 0 ∷ [];
      calls = first ∷ next ∷ next ∷ next ∷ next ∷ next ∷ next ∷ next ∷ next ∷ next ∷ next ∷ next ∷ next ∷ next ∷ next ∷ next ∷ next ∷ [];
      rightly = goes 1 ∷ goes 2 ∷ goes 3 ∷ goes 5 ∷ goes 9 ∷ goes 3 ∷ goes 5 ∷ goes 9 ∷ goes 3 ∷ goes 5 ∷ goes 9 ∷ goes 3 ∷ goes 10 ∷ goes 8 ∷ goes 8 ∷ answers 8 Handled ∷ [];
      wrongly =
          -- once where a repeat closed it thrice
          (goes 1 ∷ goes 2 ∷ goes 3 ∷ goes 5 ∷ goes 9 ∷ goes 3 ∷ goes 5 ∷ goes 9 ∷ goes 3 ∷ goes 5 ∷ goes 9 ∷ goes 3 ∷ goes 10 ∷ answers 8 Handled ∷ [])
          -- four times
          ∷ (goes 1 ∷ goes 2 ∷ goes 3 ∷ goes 5 ∷ goes 9 ∷ goes 3 ∷ goes 5 ∷ goes 9 ∷ goes 3 ∷ goes 5 ∷ goes 9 ∷ goes 3 ∷ goes 10 ∷ goes 8 ∷ goes 8 ∷ goes 8 ∷ answers 8 Handled ∷ [])
          ∷ [];
    }

-- A receive 1; a scope 2 (undo part 5, a sequence of two sends, 6 and 7); a raise 8; the root's fault part 9, a send.
unfoldable in_sequence : Example
in_sequence =
    record {
      bytes = 1 ∷ 1 ∷ 0 ∷ 8 ∷ 3 ∷ 2 ∷ 0 ∷ 0 ∷ 1 ∷ 0 ∷ 11 ∷ 0 ∷ 0 ∷ 8 ∷ 2 ∷ 1 ∷ 2 ∷ 1 ∷ 1 ∷ 0 ∷ 1 ∷ 2 ∷ 1 ∷ 1 ∷ 0 ∷ 4 ∷ 1 ∷ 2 ∷ 2 ∷ 1 ∷ 0 ∷ [];
      calls = first ∷ next ∷ next ∷ next ∷ next ∷ next ∷ next ∷ [];
      rightly = goes 1 ∷ goes 2 ∷ goes 8 ∷ goes 6 ∷ goes 7 ∷ answers 9 Handled ∷ [];
      wrongly =
          -- only the first of the two, only the second, and the first again
          (goes 1 ∷ goes 2 ∷ goes 8 ∷ goes 6 ∷ answers 9 Handled ∷ [])
          ∷ (goes 1 ∷ goes 2 ∷ goes 8 ∷ goes 7 ∷ answers 9 Handled ∷ [])
          ∷ (goes 1 ∷ goes 2 ∷ goes 8 ∷ goes 6 ∷ goes 7 ∷ goes 6 ∷ answers 9 Handled ∷ [])
          ∷ [];
    }

-- The same, with a flow in place of the sequence: its sends in either order.
unfoldable in_flow : Example
in_flow =
    record {
      bytes = 1 ∷ 1 ∷ 0 ∷ 8 ∷ 3 ∷ 2 ∷ 0 ∷ 0 ∷ 1 ∷ 0 ∷ 11 ∷ 0 ∷ 0 ∷ 9 ∷ 2 ∷ 1 ∷ 2 ∷ 1 ∷ 1 ∷ 0 ∷ 1 ∷ 2 ∷ 1 ∷ 1 ∷ 0 ∷ 4 ∷ 1 ∷ 2 ∷ 2 ∷ 1 ∷ 0 ∷ [];
      calls = first ∷ next ∷ next ∷ next ∷ stepping 1 ∷ next ∷ next ∷ [];
      rightly = goes 1 ∷ goes 2 ∷ goes 8 ∷ goes 7 ∷ goes 6 ∷ answers 9 Handled ∷ [];
      wrongly =
          -- one of the two, and one of them twice
          (goes 1 ∷ goes 2 ∷ goes 8 ∷ goes 7 ∷ answers 9 Handled ∷ [])
          ∷ (goes 1 ∷ goes 2 ∷ goes 8 ∷ goes 7 ∷ goes 7 ∷ answers 9 Handled ∷ [])
          ∷ [];
    }

-- Plan C with a raise 9 for the second undo part: the order fails, with the first closing not taken back.
unfoldable failing : Example
failing =
    record {
      bytes = 1 ∷ 1 ∷ 0 ∷ 8 ∷ 4 ∷ 2 ∷ 0 ∷ 0 ∷ 1 ∷ 0 ∷ 11 ∷ 0 ∷ 0 ∷ 1 ∷ 2 ∷ 1 ∷ 1 ∷ 0 ∷ 11 ∷ 0 ∷ 0 ∷ 4 ∷ 4 ∷ 0 ∷ [];
      calls = first ∷ next ∷ next ∷ next ∷ next ∷ next ∷ [];
      rightly = goes 1 ∷ goes 2 ∷ goes 6 ∷ goes 10 ∷ answers 9 Failed ∷ [];
      wrongly =
          -- the raise is passed over
          (goes 1 ∷ goes 2 ∷ goes 6 ∷ goes 10 ∷ goes 5 ∷ answers 9 Failed ∷ [])
          ∷ [];
    }

-- A receive 1; a scope 2 whose body is a raise 3, with an empty fault part 4 and an undo part 5; a raise 6; the root's fault part 7.
unfoldable handled_scope : Example
handled_scope =
    record {
      bytes = 1 ∷ 1 ∷ 0 ∷ 8 ∷ 3 ∷ 2 ∷ 0 ∷ 0 ∷ 1 ∷ 0 ∷ 11 ∷ 4 ∷ 0 ∷ 1 ∷ 2 ∷ 1 ∷ 1 ∷ 0 ∷ 4 ∷ 0 ∷ [];
      calls = first ∷ next ∷ next ∷ next ∷ [];
      rightly = goes 1 ∷ goes 3 ∷ answers 6 Handled ∷ [];
      wrongly =
          -- a scope that faulted and was handled is undone
          (goes 1 ∷ goes 3 ∷ goes 6 ∷ answers 5 Handled ∷ [])
          ∷ [];
    }

-- A receive 1; a scope 2 (undo part 5); a flow 6 of two receives for one thing, 7 and 8; the root's fault part 9. With the close both are open, and nobody answers
-- the raise that follows.
unfoldable twice_open : Example
twice_open =
    record {
      bytes = 1 ∷ 1 ∷ 0 ∷ 8 ∷ 3 ∷ 2 ∷ 0 ∷ 0 ∷ 1 ∷ 0 ∷ 11 ∷ 0 ∷ 0 ∷ 1 ∷ 2 ∷ 1 ∷ 1 ∷ 0 ∷ 9 ∷ 2 ∷ 2 ∷ 1 ∷ 2 ∷ 1 ∷ 0 ∷ 2 ∷ 1 ∷ 2 ∷ 1 ∷ 0 ∷ 0 ∷ [];
      calls = first ∷ next ∷ next ∷ next ∷ [];
      rightly = goes 1 ∷ goes 2 ∷ answers 5 Handled ∷ [];
      wrongly =
          -- what closed with the step that the raise follows is not taken back
          (goes 1 ∷ answers 2 Handled ∷ [])
          ∷ [];
    }

-- The same two receives, 6 and 7, in a flow 5 that is the undo part; a raise 8: the order fails with the raise that follows it.
unfoldable twice_open_back : Example
twice_open_back =
    record {
      bytes = 1 ∷ 1 ∷ 0 ∷ 8 ∷ 3 ∷ 2 ∷ 0 ∷ 0 ∷ 1 ∷ 0 ∷ 11 ∷ 0 ∷ 0 ∷ 9 ∷ 2 ∷ 2 ∷ 1 ∷ 2 ∷ 1 ∷ 0 ∷ 2 ∷ 1 ∷ 2 ∷ 1 ∷ 0 ∷ 4 ∷ 0 ∷ [];
      calls = first ∷ next ∷ next ∷ next ∷ [];
      rightly = goes 1 ∷ goes 2 ∷ answers 8 Failed ∷ [];
      wrongly =
          -- as if they had been answered
          (goes 1 ∷ goes 2 ∷ answers 8 Handled ∷ [])
          ∷ [];
    }

-- A receive 1; a scope 2 with a fault part for 17 (a send 4), an empty general one and an undo part 6, a send; a raise 7 with the number 17; the root's fault part
-- 8. The root faults with 17, and takes the scope back.
unfoldable by_number : Example
by_number =
    record {
      bytes = 1 ∷ 1 ∷ 0 ∷ 8 ∷ 3 ∷ 2 ∷ 0 ∷ 0 ∷ 1 ∷ 0 ∷ 14 ∷ 0 ∷ 1 ∷ 17 ∷ 1 ∷ 2 ∷ 1 ∷ 1 ∷ 0 ∷ 0 ∷ 1 ∷ 2 ∷ 2 ∷ 1 ∷ 0 ∷ 13 ∷ 17 ∷ 0 ∷ [];
      calls = first ∷ next ∷ next ∷ next ∷ next ∷ [];
      rightly = goes 1 ∷ goes 2 ∷ goes 7 ∷ answers 6 Handled ∷ [];
      wrongly =
          -- its fault part for that number runs in place of its undo part; the undo part twice; and before it closed
          (goes 1 ∷ goes 2 ∷ goes 7 ∷ answers 4 Handled ∷ [])
          ∷ (goes 1 ∷ goes 2 ∷ goes 7 ∷ goes 6 ∷ answers 6 Handled ∷ [])
          ∷ (goes 1 ∷ goes 6 ∷ goes 2 ∷ answers 7 Handled ∷ [])
          ∷ [];
    }

unfoldable examples : List Example
examples = two_scopes ∷ three_closings ∷ in_sequence ∷ in_flow ∷ failing ∷ handled_scope ∷ twice_open ∷ twice_open_back ∷ by_number ∷ []

-- the activity and the end of each
unfoldable pub brief : List Step → List (List ℕ)
brief l = map (λ x. x.activity ∷ end_number x.end ∷ []) l

-- the right answers are those of the definitions
given : map (λ x. brief (answered x.calls 0 (loaded x.bytes) no_tally)) examples ≡ map (λ x. brief x.rightly) examples
unfolding examples two_scopes three_closings in_sequence in_flow failing handled_scope twice_open twice_open_back by_number brief answered computing judging
given = refl

judged : List ℕ → List Step → Bool
judged bytes l = by false (λ p. in_order p nothing_due l) (read_plan bytes)

accepted : map (λ x. judged x.bytes x.rightly) examples ≡ map (λ x. true) examples
unfolding examples two_scopes three_closings in_sequence in_flow failing handled_scope twice_open twice_open_back by_number judged is_sure has_all surely back_in back_of noted may_note settles in_order computing judging
accepted = refl

refused : map (λ x. map (judged x.bytes) x.wrongly) examples ≡ map (λ x. map (λ l. false) x.wrongly) examples
unfolding examples two_scopes three_closings in_sequence in_flow failing handled_scope twice_open twice_open_back by_number judged is_sure has_all surely back_in back_of noted may_note settles in_order computing judging
refused = refl

-- the same in numbers: an engine that takes back as often as it should, in another order, is not refused by these alone
counted : List ℕ → List Step → Bool
counted bytes l = by false (λ p. each_as_often p [] l) (read_plan bytes)

often : map (λ x. counted x.bytes x.rightly) examples ≡ map (λ x. true) examples
unfolding examples two_scopes three_closings in_sequence in_flow failing handled_scope twice_open twice_open_back by_number counted is_sure has_all surely back_in back_of as_often each_as_often computing judging
often = refl

not_often : map (counted three_closings.bytes) three_closings.wrongly ≡ false ∷ false ∷ []
unfolding three_closings counted is_sure has_all surely back_in back_of as_often each_as_often computing judging
not_often = refl
