-- Meaning: a run told: the answers of the steps that it takes. Assumes nothing: these are definitions.
use Rattle.std.specs.Prelude.{ℕ, zero, suc, Bool, true, false, List, [], ◌∷◌, eqb}
use Rattle.machine.specs.declared.State.{State}
use Rattle.machine.specs.declared.Step.{Step}
use Rattle.machine.specs.declared.Tally.{Tally}
use Rattle.machine.specs.Calls.{Stepped, step}
use Rattle.machine.specs.Limits.{plan_in, by}

-- a step that was taken is told, and the run goes on; one that was refused is not
abbrev pub told_on : (State → Tally → List Step) → Stepped → List Step
told_on f r = elim (eqb r.answer.refusal 0) [ true ↦ r.answer ∷ f r.state r.tally | false ↦ [] ]

-- "A run takes a list of choices and a budget. It stops at the end of either or at the first refused step": the answers of the steps taken
unfoldable pub told_by : (ℕ → State → Tally → Stepped) → (choices : List ℕ) → (budget : ℕ) → State → Tally → List Step
told_by f [] budget s t = []
told_by f (c ∷ cs) zero s t = []
told_by f (c ∷ cs) (suc budget) s t = told_on (told_by f cs budget) (f c s t)

-- "A state that earns 17 gives 17 and no steps"
unfoldable pub told_in : (choices : List ℕ) → (budget : ℕ) → State → Tally → List Step
told_in cs budget s t = by [] (λ p. told_by step cs budget s t) (plan_in s)
