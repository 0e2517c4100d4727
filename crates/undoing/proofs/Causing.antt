-- The number of a fault stands beside all else: where a scope faults, the marks, the variables and what is remembered are as without it. Assumes nothing.
use Prim.Native.Nat.{ℕ}
use mathlib.Core.Path.{◌≡◌, refl, ap}
use mathlib.Core.Bool.{true}
use mathlib.Core.List.{◌∷◌}
use Rattle.order.specs.declared.Order.{Order}
use Rattle.order.specs.State.{Name, root, inner, faulty, mark_of, mark_with, marking, causing}
use Rattle.order.specs.Event.{faulted}
use Rattle.order.specs.Scope.{Outcome, after, Scope, choice_for, turns, stop, faults}

-- an order with the number of a scope's fault in it, by its fields
abbrev pub caused : Name → (number : ℕ) → Order → Order
caused n x o =
    record { root = o.root; marks = o.marks; values = o.values; bound = o.bound; remembered = o.remembered; kept = o.kept; cause = (causing n x o).cause }

causing-is : (n : Name) (x : ℕ) (o : Order) → causing n x o ≡ caused n x o
causing-is root x o = refl
causing-is (inner k) x o = refl

-- its marks are as they were
pub caused-mark : (m n : Name) (x : ℕ) (o : Order) → mark_of m (caused n x o) ≡ mark_of m o
caused-mark root n x o = refl
caused-mark (inner k) n x o = refl

-- a scope that faults, so
abbrev pub faults_in : (number : ℕ) → Scope → Order → Outcome
faults_in x s o =
    let r = stop s.body s.body_at o in
    after (faulted s.name x ∷ r.log) (turns true s r.order)

-- its mark says which fault part it is to run
abbrev pub chosen_mark : (number : ℕ) → Scope → ℕ
chosen_mark x s = mark_with (choice_for x s) faulty

pub faults-is : (x : ℕ) (s : Scope) (o : Order) → faults x s o ≡ faults_in x s (caused s.name x (marking s.name (chosen_mark x s) o))
unfolding faults
faults-is x s o = ap (faults_in x s) (causing-is s.name x (marking s.name (chosen_mark x s) o))
