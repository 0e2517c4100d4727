-- A run tells as many answers as it takes steps. Assumes nothing.
use mathlib.Core.Path.{◌≡◌, refl, ap, ◌∙◌}
use mathlib.Core.Bool.{Bool, true, false}
use mathlib.Core.List.{List, [], ◌∷◌}
use Prim.Native.Nat.{ℕ, zero, suc, ◌+◌}
use native.Mathlib.Omega.{arith}
use lib.Dec.{eqb}
use lib.ListN.{length}
use Rattle.plan.specs.Found.{Found, refused, found}
use Rattle.plan.specs.Tree.{Plan}
use Rattle.machine.specs.declared.State.{State}
use Rattle.machine.specs.declared.Step.{Step}
use Rattle.machine.specs.declared.Tally.{Tally}
use Rattle.machine.specs.Calls.{Stepped, Ran, one_more, ran_on, run_by, step, run}
use Rattle.machine.specs.Limits.{plan_in, by}
use Rattle.run.specs.Telling.{told_on, told_by, told_in}

taken_of : Ran → ℕ
taken_of r = r.taken

on-many : (f : State → Tally → List Step) (g : State → Tally → Ran) (r : Stepped) → length (f r.state r.tally) ≡ (g r.state r.tally).taken
    → length (told_on f r) ≡ (ran_on g r).taken
unfolding taken_of
on-many f g r e = by-test (eqb r.answer.refusal 0)
  where
    by-test : (b : Bool) → length {A = Step} (elim b [ true ↦ r.answer ∷ f r.state r.tally | false ↦ [] ])
        ≡ taken_of (elim b [ true ↦ one_more (g r.state r.tally) | false ↦ record { taken = 0; refusal = r.answer.refusal; state = r.state; tally = r.tally } ])
    by-test true = omega (arith, e)
    by-test false = refl

by-many : (f : ℕ → State → Tally → Stepped) (cs : List ℕ) (b : ℕ) (s : State) (t : Tally) → length (told_by f cs b s t) ≡ (run_by f cs b s t).taken
unfolding told_by run_by
by-many f [] b s t = refl
by-many f (c ∷ cs) zero s t = refl
by-many f (c ∷ cs) (suc b) s t = on-many (told_by f cs b) (run_by f cs b) (f c s t) (by-many f cs b (f c s t).state (f c s t).tally)

-- AN ANSWER FOR EACH STEP TAKEN, and no other
pub told-many : (cs : List ℕ) (b : ℕ) (s : State) (t : Tally) → length (told_in cs b s t) ≡ (run cs b s t).taken
unfolding told_in run
told-many cs b s t = by-found (plan_in s)
  where
    by-found : (g : Found Plan)
        → length (by [] (λ p. told_by step cs b s t) g) ≡ (by {A = Ran} (record { taken = 0; refusal = 17; state = s; tally = t }) (λ p. run_by step cs b s t) g).taken
    by-found (refused n place) = refl
    by-found (found p next) = by-many step cs b s t
