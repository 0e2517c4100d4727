-- Answers of right runs, and answers that an engine that does wrong in a scope inside another would give, judged by what is said of any scope: computed. What is said
-- of the root alone lets each of these pass. Assumes nothing.
use Prim.Native.Nat.{ℕ}
use mathlib.Core.Path.{◌≡◌, refl}
use mathlib.Core.Bool.{Bool, true, false, ◌&&◌}
use mathlib.Core.List.{List, [], ◌∷◌, map}
use Rattle.plan.specs.Read.{read_plan}
use Rattle.order.specs.declared.End.TheVariants.{Well, Handled}
use Rattle.machine.specs.declared.Step.{Step}
use Rattle.machine.specs.State.{no_tally}
use Rattle.machine.specs.Limits.{by}
use Rattle.machine.specs.Calls.{loaded}
use Rattle.machine.specs.Computing.{computing}
use Rattle.undoing.specs.Computing.{judging}
use Rattle.undoing.specs.Answered.{is_sure, has_all, surely, back_in, back_of, nothing_due, noted, may_note, settles, in_order, answered, as_often, each_as_often}
use Rattle.order.specs.Lists.{every}
use Rattle.undoing.specs.AnyScope.{no_oftener, never_oftener}
use Rattle.undoing.specs.LatestFirst.{taken_from, stacked, may_stack, latest_first, takers}
use Rattle.undoing.proofs.AnsweredExamples.{first, next, answers, goes, Example, brief}

-- A receive 1; a scope 2, in which two scopes 4 and 8 close (undo parts 7 and 11) and a raise 12 is, with a fault part 13 and an undo part 14.
unfoldable faulting : Example
faulting =
    record {
      bytes = 1 ∷ 1 ∷ 0 ∷ 8 ∷ 2 ∷ 2 ∷ 0 ∷ 0 ∷ 1 ∷ 0 ∷ 11 ∷ 8 ∷ 3 ∷ 11 ∷ 0 ∷ 0 ∷ 1 ∷ 2 ∷ 1 ∷ 1 ∷ 0 ∷ 11 ∷ 0 ∷ 0 ∷ 1 ∷ 2 ∷ 2 ∷ 1 ∷ 0 ∷ 4 ∷ 1 ∷ 2 ∷ 3 ∷ 1 ∷ 0 ∷ 1 ∷ 2 ∷ 4 ∷ 1 ∷ 0 ∷ 0 ∷ [];
      calls = first ∷ next ∷ next ∷ next ∷ next ∷ next ∷ next ∷ next ∷ [];
      rightly = goes 1 ∷ goes 4 ∷ goes 8 ∷ goes 12 ∷ goes 11 ∷ goes 7 ∷ answers 13 Well ∷ [];
      wrongly =
          -- one twice: the newest, the oldest
          (goes 1 ∷ goes 4 ∷ goes 8 ∷ goes 12 ∷ goes 11 ∷ goes 11 ∷ goes 7 ∷ answers 13 Well ∷ [])
          ∷ (goes 1 ∷ goes 4 ∷ goes 8 ∷ goes 12 ∷ goes 11 ∷ goes 7 ∷ goes 7 ∷ answers 13 Well ∷ [])
          -- before it closed
          ∷ (goes 1 ∷ goes 7 ∷ goes 4 ∷ goes 8 ∷ goes 12 ∷ goes 11 ∷ answers 13 Well ∷ [])
          ∷ (goes 1 ∷ goes 4 ∷ goes 11 ∷ goes 8 ∷ goes 12 ∷ goes 7 ∷ answers 13 Well ∷ [])
          -- though it never closed
          ∷ (goes 1 ∷ goes 12 ∷ goes 7 ∷ answers 13 Well ∷ [])
          -- what an order before it in the slot closed
          ∷ (goes 1 ∷ goes 4 ∷ goes 8 ∷ goes 12 ∷ goes 11 ∷ answers 13 Well ∷ goes 1 ∷ goes 7 ∷ [])
          ∷ [];
    }

-- A receive 1; a set 2; a repeat 3 of a sequence 4 with a scope 5, in which a scope 7 closes (undo part 10) and a raise 11 is, and a set 14: three times.
unfoldable in_rounds : Example
in_rounds =
    record {
      bytes = 1 ∷ 2 ∷ 0 ∷ 8 ∷ 3 ∷ 2 ∷ 0 ∷ 0 ∷ 1 ∷ 0 ∷ 3 ∷ 1 ∷ 0 ∷ 0 ∷ 7 ∷ 5 ∷ 1 ∷ 1 ∷ 0 ∷ 3 ∷ 8 ∷ 2 ∷ 11 ∷ 8 ∷ 2 ∷ 11 ∷ 0 ∷ 0 ∷ 1 ∷ 2 ∷ 1 ∷ 1 ∷ 1 ∷ 4 ∷ 0 ∷ 0 ∷ 3 ∷ 1 ∷ 2 ∷ 1 ∷ 1 ∷ 0 ∷ 1 ∷ 0 ∷ [];
      calls = first ∷ next ∷ next ∷ next ∷ next ∷ next ∷ next ∷ next ∷ next ∷ next ∷ next ∷ next ∷ next ∷ next ∷ next ∷ next ∷ next ∷ next ∷ next ∷ [];
      rightly = goes 1 ∷ goes 2 ∷ goes 3 ∷ goes 7 ∷ goes 11 ∷ goes 10 ∷ goes 14 ∷ goes 3 ∷ goes 7 ∷ goes 11 ∷ goes 10 ∷ goes 14 ∷ goes 3 ∷ goes 7 ∷ goes 11 ∷ goes 10 ∷ goes 14 ∷ answers 3 Well ∷ [];
      wrongly =
          -- what an earlier round closed and took back, again
          (goes 1 ∷ goes 2 ∷ goes 3 ∷ goes 7 ∷ goes 11 ∷ goes 10 ∷ goes 14 ∷ goes 3 ∷ goes 10 ∷ [])
          ∷ (goes 1 ∷ goes 2 ∷ goes 3 ∷ goes 7 ∷ goes 11 ∷ goes 10 ∷ goes 14 ∷ goes 3 ∷ goes 7 ∷ goes 11 ∷ goes 10 ∷ goes 10 ∷ goes 14 ∷ answers 3 Well ∷ [])
          ∷ [];
    }

-- A receive 1; a flow 2 of a scope 3, in which a scope 5 closes (undo part 8) and a receive 9 waits, and a sequence 12 of a send 13 and a raise 14 that stops it; the
-- root's fault part 15.
unfoldable stopping : Example
stopping =
    record {
      bytes = 1 ∷ 1 ∷ 0 ∷ 8 ∷ 2 ∷ 2 ∷ 0 ∷ 0 ∷ 1 ∷ 0 ∷ 9 ∷ 2 ∷ 11 ∷ 8 ∷ 2 ∷ 11 ∷ 0 ∷ 0 ∷ 1 ∷ 2 ∷ 1 ∷ 1 ∷ 0 ∷ 2 ∷ 1 ∷ 5 ∷ 1 ∷ 0 ∷ 0 ∷ 0 ∷ 8 ∷ 2 ∷ 1 ∷ 2 ∷ 4 ∷ 1 ∷ 0 ∷ 4 ∷ 1 ∷ 2 ∷ 3 ∷ 1 ∷ 0 ∷ [];
      calls = first ∷ next ∷ next ∷ next ∷ next ∷ next ∷ next ∷ [];
      rightly = goes 1 ∷ goes 5 ∷ goes 13 ∷ goes 14 ∷ goes 8 ∷ answers 15 Handled ∷ [];
      wrongly =
          -- twice; though it never closed
          (goes 1 ∷ goes 5 ∷ goes 13 ∷ goes 14 ∷ goes 8 ∷ goes 8 ∷ answers 15 Handled ∷ [])
          ∷ (goes 1 ∷ goes 13 ∷ goes 14 ∷ goes 8 ∷ answers 15 Handled ∷ [])
          ∷ [];
    }

-- A receive 1; a scope 2 with no undo part, in which a scope 3 closes (undo part 6); a raise 8: what was handed on is taken back by the root.
unfoldable handing : Example
handing =
    record {
      bytes = 1 ∷ 1 ∷ 0 ∷ 8 ∷ 3 ∷ 2 ∷ 0 ∷ 0 ∷ 1 ∷ 0 ∷ 12 ∷ 11 ∷ 0 ∷ 0 ∷ 1 ∷ 2 ∷ 1 ∷ 1 ∷ 0 ∷ 0 ∷ 4 ∷ 0 ∷ [];
      calls = first ∷ next ∷ next ∷ next ∷ next ∷ next ∷ [];
      rightly = goes 1 ∷ goes 3 ∷ goes 2 ∷ goes 8 ∷ answers 6 Handled ∷ [];
      wrongly =
          -- by the scope itself and by the root; before it closed
          (goes 1 ∷ goes 3 ∷ goes 6 ∷ goes 2 ∷ goes 8 ∷ answers 6 Handled ∷ [])
          ∷ (goes 1 ∷ goes 6 ∷ goes 3 ∷ goes 2 ∷ answers 8 Handled ∷ [])
          ∷ [];
    }

-- A receive 1; a scope 2, in which a scope 4 closes (a fault part for 17, 6, an empty general one and the undo part 8) and a raise 9 with the number 17 is; its own
-- fault parts are for 16 (a send 10) and 17 (a send 11), and its other parts empty.
unfoldable numbered : Example
numbered =
    record {
      bytes = 1 ∷ 1 ∷ 0 ∷ 8 ∷ 2 ∷ 2 ∷ 0 ∷ 0 ∷ 1 ∷ 0 ∷ 14 ∷ 8 ∷ 2 ∷ 14 ∷ 0 ∷ 1 ∷ 17 ∷ 1 ∷ 2 ∷ 4 ∷ 1 ∷ 0 ∷ 0 ∷ 1 ∷ 2 ∷ 5 ∷ 1 ∷ 0 ∷ 13 ∷ 17 ∷ 2 ∷ 16 ∷ 1 ∷ 2 ∷ 1 ∷ 1 ∷ 0 ∷ 17 ∷ 1 ∷ 2 ∷ 2 ∷ 1 ∷ 0 ∷ 0 ∷ 0 ∷ 0 ∷ [];
      calls = first ∷ next ∷ next ∷ next ∷ next ∷ next ∷ [];
      rightly = goes 1 ∷ goes 4 ∷ goes 9 ∷ goes 8 ∷ answers 11 Well ∷ [];
      wrongly =
          -- twice; before it closed; though it never closed
          (goes 1 ∷ goes 4 ∷ goes 9 ∷ goes 8 ∷ goes 8 ∷ answers 11 Well ∷ [])
          ∷ (goes 1 ∷ goes 8 ∷ goes 4 ∷ goes 9 ∷ answers 11 Well ∷ [])
          ∷ (goes 1 ∷ goes 9 ∷ goes 8 ∷ answers 11 Well ∷ [])
          ∷ [];
    }

unfoldable examples : List Example
examples = faulting ∷ in_rounds ∷ stopping ∷ handing ∷ numbered ∷ []

-- the right answers are those of the definitions
given : map (λ x. brief (answered x.calls 0 (loaded x.bytes) no_tally)) examples ≡ map (λ x. brief x.rightly) examples
unfolding examples faulting in_rounds stopping handing numbered brief answered computing judging
given = refl

judged : List ℕ → List Step → Bool
judged bytes l = by false (λ p. never_oftener p [] l) (read_plan bytes)

accepted : map (λ x. judged x.bytes x.rightly) examples ≡ map (λ x. true) examples
unfolding examples faulting in_rounds stopping handing numbered judged is_sure has_all surely back_in back_of no_oftener never_oftener computing judging
accepted = refl

refused : map (λ x. map (judged x.bytes) x.wrongly) examples ≡ map (λ x. map (λ l. false) x.wrongly) examples
unfolding examples faulting in_rounds stopping handing numbered judged is_sure has_all surely back_in back_of no_oftener never_oftener computing judging
refused = refl

-- by what is said of the root alone they pass
passes : List ℕ → List Step → Bool
passes bytes l = by false (λ p. in_order p nothing_due l && each_as_often p [] l) (read_plan bytes)

passed : map (λ x. map (passes x.bytes) x.wrongly) examples ≡ map (λ x. map (λ l. true) x.wrongly) examples
unfolding examples faulting in_rounds stopping handing numbered passes is_sure has_all surely back_in back_of noted may_note settles in_order as_often each_as_often computing judging
passed = refl

-- The latest first: of the same examples, and of a receive 1; a set 2; a scope 3, in which a repeat 5 closes the scopes 7 and 11 twice (undo parts 10 and 14), and a raise 16 is; its fault
-- part 17.
unfoldable twice : Example
twice =
    record {
      bytes = 1 ∷ 2 ∷ 0 ∷ 8 ∷ 3 ∷ 2 ∷ 0 ∷ 0 ∷ 1 ∷ 0 ∷ 3 ∷ 1 ∷ 0 ∷ 0 ∷ 11 ∷ 8 ∷ 2 ∷ 7 ∷ 5 ∷ 1 ∷ 1 ∷ 0 ∷ 2 ∷ 8 ∷ 3 ∷ 11 ∷ 0 ∷ 0 ∷ 1 ∷ 2 ∷ 1 ∷ 1 ∷ 0 ∷ 11 ∷ 0 ∷ 0 ∷ 1 ∷ 2 ∷ 2 ∷ 1 ∷ 0 ∷ 3 ∷ 1 ∷ 2 ∷ 1 ∷ 1 ∷ 0 ∷ 1 ∷ 4 ∷ 1 ∷ 2 ∷ 3 ∷ 1 ∷ 0 ∷ 1 ∷ 2 ∷ 4 ∷ 1 ∷ 0 ∷ 0 ∷ [];
      calls = first ∷ next ∷ next ∷ next ∷ next ∷ next ∷ next ∷ next ∷ next ∷ next ∷ next ∷ next ∷ next ∷ next ∷ next ∷ next ∷ next ∷ next ∷ [];
      rightly = goes 1 ∷ goes 2 ∷ goes 5 ∷ goes 7 ∷ goes 11 ∷ goes 15 ∷ goes 5 ∷ goes 7 ∷ goes 11 ∷ goes 15 ∷ goes 5 ∷ goes 16 ∷ goes 14 ∷ goes 10 ∷ goes 14 ∷ goes 10 ∷ answers 17 Well ∷ [];
      wrongly =
          -- oldest first; both of one, then both of the other; the second round's in the wrong order
          (goes 1 ∷ goes 2 ∷ goes 5 ∷ goes 7 ∷ goes 11 ∷ goes 15 ∷ goes 5 ∷ goes 7 ∷ goes 11 ∷ goes 15 ∷ goes 5 ∷ goes 16 ∷ goes 10 ∷ goes 14 ∷ goes 10 ∷ goes 14 ∷ answers 17 Well ∷ [])
          ∷ (goes 1 ∷ goes 2 ∷ goes 5 ∷ goes 7 ∷ goes 11 ∷ goes 15 ∷ goes 5 ∷ goes 7 ∷ goes 11 ∷ goes 15 ∷ goes 5 ∷ goes 16 ∷ goes 14 ∷ goes 14 ∷ goes 10 ∷ goes 10 ∷ answers 17 Well ∷ [])
          ∷ (goes 1 ∷ goes 2 ∷ goes 5 ∷ goes 7 ∷ goes 11 ∷ goes 15 ∷ goes 5 ∷ goes 7 ∷ goes 11 ∷ goes 15 ∷ goes 5 ∷ goes 16 ∷ goes 14 ∷ goes 10 ∷ goes 10 ∷ goes 14 ∷ answers 17 Well ∷ [])
          -- one that was passed over, later
          ∷ (goes 1 ∷ goes 2 ∷ goes 5 ∷ goes 7 ∷ goes 11 ∷ goes 15 ∷ goes 5 ∷ goes 7 ∷ goes 11 ∷ goes 15 ∷ goes 5 ∷ goes 16 ∷ goes 10 ∷ goes 14 ∷ goes 14 ∷ goes 10 ∷ answers 17 Well ∷ [])
          ∷ [];
    }

unfoldable disordered : Example
disordered = record { bytes = faulting.bytes; calls = faulting.calls; rightly = faulting.rightly; wrongly = (goes 1 ∷ goes 4 ∷ goes 8 ∷ goes 12 ∷ goes 7 ∷ goes 11 ∷ answers 13 Well ∷ []) ∷ [] }

given-twice : map (λ x. brief (answered x.calls 0 (loaded x.bytes) no_tally)) (twice ∷ []) ≡ map (λ x. brief x.rightly) (twice ∷ [])
unfolding twice brief answered computing judging
given-twice = refl

in_turn : List ℕ → List Step → Bool
in_turn bytes l = by false (λ p. every (λ n. latest_first p n [] l) (takers p)) (read_plan bytes)

turned : map (λ x. in_turn x.bytes x.rightly) (twice ∷ disordered ∷ examples) ≡ map (λ x. true) (twice ∷ disordered ∷ examples)
unfolding twice disordered examples faulting in_rounds stopping handing numbered in_turn is_sure has_all surely back_in back_of taken_from stacked may_stack latest_first takers computing judging
turned = refl

out-of-turn : map (λ x. map (in_turn x.bytes) x.wrongly) (twice ∷ disordered ∷ []) ≡ map (λ x. map (λ l. false) x.wrongly) (twice ∷ disordered ∷ [])
unfolding twice disordered faulting in_turn is_sure has_all surely back_in back_of taken_from stacked may_stack latest_first takers computing judging
out-of-turn = refl

-- by what is said of numbers alone they pass
often-enough : map (λ x. map (judged x.bytes) x.wrongly) (twice ∷ disordered ∷ []) ≡ map (λ x. map (λ l. true) x.wrongly) (twice ∷ disordered ∷ [])
unfolding twice disordered faulting judged is_sure has_all surely back_in back_of no_oftener never_oftener computing judging
often-enough = refl
