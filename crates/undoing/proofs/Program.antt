-- The states that the compiled calls give are those of the history, by their contracts. Assumes nothing.
use mathlib.Core.Path.{◌≡◌, refl, ap, ◌∙◌}
use mathlib.Core.List.{List, []}
use lib.ListN.{get_or}
use Rattle.order.specs.State.{no_order}
use Rattle.machine.specs.declared.State.{State}
use Rattle.machine.specs.declared.Tally.{Tally}
use Rattle.machine.specs.declared.Posted.{Posted}
use Rattle.machine.specs.declared.Collected.{Collected}
use Rattle.step.specs.declared.Stepped.{Stepped}
use Rattle.machine.specs.Calls.{Call}
use Rattle.undoing.specs.Ties.{state_after}
use Rattle.undoing.specs.Compiled.{Runs, ends, posts, collects, drops, steps, OfTheProgram}

runs_after : {s s' : State} {t : Tally} {l : List Call} → Runs s t l s' → s' ≡ state_after l s t
unfolding state_after
runs_after ends = refl
runs_after {t = t} (posts {l = l} m r e w) = runs_after w ∙ ap (λ (x : Posted). state_after l x.state t) e
runs_after {t = t} (collects {l = l} r e w) = runs_after w ∙ ap (λ (x : Collected). state_after l x.state t) e
runs_after {t = t} (drops {l = l} i r e w) = runs_after w ∙ ap (λ (x : Collected). state_after l x.state t) e
runs_after (steps {l = l} c r e w) = runs_after w ∙ ap (λ (x : Stepped). state_after l x.state x.tally) e

pub of-the-program : OfTheProgram
unfolding OfTheProgram
of-the-program bytes r e t calls s w slot =
    ap (λ (x : State). get_or x.orders slot no_order) (runs_after w ∙ ap (λ x. state_after calls x.state t) e)
