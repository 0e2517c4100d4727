-- Meaning: that what closed in a scope is taken back the latest first, in every scope of a plan that has an undo part and in its root, told by the answers of the steps taken
-- alone, while an order runs and not only at its end. Assumes nothing: these are definitions.
use Rattle.std.specs.Prelude.{ℕ, ◌≡◌, Bool, true, false, cond, not, ◌&&◌, ◌||◌, List, [], ◌∷◌, map, eqb}
use Rattle.plan.specs.Found.{found}
use Rattle.plan.specs.Read.{read_plan}
use Rattle.plan.specs.Tree.{Plan}
use Rattle.order.specs.declared.End.{End}
use Rattle.order.specs.declared.End.TheVariants.{None, Well, Handled, Failed, Left}
use Rattle.machine.specs.declared.Step.{Step}
use Rattle.machine.specs.declared.Tally.{Tally}
use Rattle.order.specs.Lists.{every, some, only}
use Rattle.order.specs.State.{Name, root, inner}
use Rattle.machine.specs.Calls.{loaded, Call}
use Rattle.undoing.specs.Demand3.{scopes_of}
use Rattle.undoing.specs.Answered.{back_of, is_close, is_back, without, answered}

-- What a buyer writes down for a scope: for each closing of a scope directly inside it, the latest first, the steps that may still take it back. A step that takes back is one
-- of those of the latest closing that has it; what closed after that one is taken back no more.
unfoldable pub taken_from : (t : ℕ) → List (List ℕ) → List (List ℕ)
taken_from t [] = []
taken_from t (b ∷ d) = cond (some (eqb t) b) (without t b ∷ d) (taken_from t d)

abbrev pub is_owed : (t : ℕ) → List (List ℕ) → Bool
is_owed t d = some (λ b. some (eqb t) b) d

-- step t is answered, for scope n
unfoldable pub stacked : Plan → Name → (t : ℕ) → List (List ℕ) → List (List ℕ)
stacked p n t d = cond (is_close p n t) (back_of p t ∷ d) (cond (is_back p n t) (taken_from t d) d)

unfoldable pub may_stack : Plan → Name → (t : ℕ) → List (List ℕ) → Bool
may_stack p n t d = not (is_back p n t) || is_owed t d

-- the next order in the slot has a book of its own
abbrev pub onward : End → List (List ℕ) → List (List ℕ)
onward None d = d
onward Well d = []
onward Handled d = []
onward Failed d = []
onward Left d = []

-- the answers in a slot, oldest first, where this stands in the book of n
unfoldable pub latest_first : Plan → Name → List (List ℕ) → List Step → Bool
latest_first p n d [] = true
latest_first p n d (x ∷ l) = may_stack p n x.activity d && latest_first p n (onward x.end (stacked p n x.activity d)) l

-- those that take back what closed directly inside them, and nobody else: what closes in a scope with no undo part may be handed on
unfoldable pub takers : Plan → List Name
takers p = root ∷ map (λ x. inner x.number) (only (λ x. x.undoes) (scopes_of p))

-- LATEST FIRST. For every accepted plan, every run of posts, collects and choices from a fresh start, and every slot; whether the scope faulted or was stopped, and also where the
-- order failed or left.
unfoldable pub TakenBackLatestFirst : Type 0
TakenBackLatestFirst =
    (bytes : List ℕ) (p : Plan) (next : ℕ) → read_plan bytes ≡ found p next → (calls : List Call) (slot : ℕ) (t : Tally) →
    every (λ n. latest_first p n [] (answered calls slot (loaded bytes) t)) (takers p) ≡ true
