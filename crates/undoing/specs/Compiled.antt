-- Meaning: runs of the compiled calls, as their contracts have them: the premises are the `ensures` of the public functions `load`, `post`, `collect`,
-- `drop_at` and `take_step`. Assumes nothing: these are definitions.
use Rattle.std.specs.Prelude.{ℕ, ◌≡◌, List, [], ◌∷◌, get_or}
use Rattle.order.specs.State.{no_order}
use Rattle.machine.specs.declared.Message.{Message}
use Rattle.machine.specs.declared.State.{State}
use Rattle.machine.specs.declared.Tally.{Tally}
use Rattle.machine.specs.declared.Loaded.{Loaded}
use Rattle.machine.specs.declared.Posted.{Posted}
use Rattle.machine.specs.declared.Collected.{Collected}
use Rattle.step.specs.declared.Stepped.{Stepped}
use Rattle.machine.specs.Calls.{load, post, collect, drop_at, step, Call, posting, collecting, dropping, stepping}
use Rattle.step.specs.Stepping.{bare}
use Rattle.undoing.specs.Ties.{order_after}

-- a run from a state and a tally: the calls, each with what the compiled function gives, and the state that they lead to
pub data Runs : State → Tally → List Call → State → Type 0 where
  ends : {s : State} {t : Tally} → Runs s t [] s
  posts : {s s' : State} {t : Tally} {l : List Call} (m : Message) (r : Posted) → r ≡ post m s → Runs r.state t l s' → Runs s t (posting m ∷ l) s'
  collects : {s s' : State} {t : Tally} {l : List Call} (r : Collected) → r ≡ collect s → Runs r.state t l s' → Runs s t (collecting ∷ l) s'
  drops : {s s' : State} {t : Tally} {l : List Call} (place : ℕ) (r : Collected) → r ≡ drop_at place s → Runs r.state t l s' → Runs s t (dropping place ∷ l) s'
  steps : {s s' : State} {t : Tally} {l : List Call} (choice : ℕ) (r : Stepped) → r ≡ bare (step choice s t) → Runs r.state r.tally l s'
      → Runs s t (stepping choice ∷ l) s'

-- What stands in every slot after a run of the compiled calls, from the state that the compiled load gives, is what the statements on histories are about.
unfoldable pub OfTheProgram : Type 0
OfTheProgram =
    (bytes : List ℕ) (r : Loaded) → r ≡ load bytes → (t : Tally) (calls : List Call) (s : State) → Runs r.state t calls s → (slot : ℕ) →
    get_or s.orders slot no_order ≡ order_after calls slot (load bytes).state t
