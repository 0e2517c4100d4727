-- A step taken is that of an activity or an arm that awaits it, over any run. Assumes nothing.
use Prim.Native.Nat.{ℕ, ◌+◌}
use mathlib.Core.Path.{◌≡◌, ap, ◌∙◌}
use mathlib.Core.Bool.{Bool, true, false, or-true}
use mathlib.Core.List.{List}
use lib.ListN.{get_or}
use lib.Dec.{eqb}
use borrow.Author.Tests.{eq-eqb}
use Rattle.plan.specs.Tree.{Act, Acts, Plan, size}
use Rattle.order.specs.declared.Order.{Order}
use Rattle.order.specs.Lists.{some}
use Rattle.order.specs.Acting.{started_order}
use Rattle.machine.specs.Fit.{Ready, ready_in, ready_among, ready_of, awaits}
use Rattle.undoing.specs.Entirely.{is_awaited, AwaitedTold}
use Rattle.undoing.proofs.Parts.{decide, some-append}
use Rattle.undoing.proofs.Planning.{Promised}
use Rattle.undoing.proofs.Waiting.{Waits, waits-itself, waits-within, WaitsIn, waits-first, waits-later}
use Rattle.undoing.proofs.Roots.{Awaited, in-body, in-fault}
use Rattle.undoing.proofs.Slots.{standing-live}
use Rattle.undoing.proofs.Awaiting.{ready-is}
use Rattle.undoing.proofs.EachTime.{OfTimes, OfStarts, each-time}

-- what awaits its step is among those that are ready
abbrev Its : (t : ℕ) → Ready → Bool
Its t r = eqb r.activity t

mutual
  unfolding ready_in some

  waits-ready : {ms : List ℕ} {a : Act} {k t : ℕ} {b : Bool} → Waits ms a k t b → some (Its t) (ready_in a k b ms) ≡ true
  waits-ready {ms} (waits-itself {own} {within} {k} {t} {b} e h) = ap (some (Its t)) (ready-is ms own within k b true h) ∙ rw (eq-eqb k t e)
  waits-ready {ms} {b = b} (waits-within {own} {within} {k} {t} h w) =
      decide (awaits own b (get_or ms k 0))
      (λ d. ap (some (Its t)) (ready-is ms own within k b true d) ∙ rw (waits-in-ready w, or-true))
      (λ d. ap (some (Its t)) (ready-is ms own within k b false d) ∙ waits-in-ready w)

  waits-in-ready : {ms : List ℕ} {l : Acts} {c t : ℕ} {b : Bool} → WaitsIn ms l c t b → some (Its t) (ready_among l c b ms) ≡ true
  waits-in-ready {ms} {t = t} {b = b} (waits-first {a} {l} {c} h w) = some-append (Its t) (ready_in a c b ms) (ready_among l (c + size a) b ms) ∙ rw (waits-ready w)
  waits-in-ready {ms} {t = t} {b = b} (waits-later {a} {l} {c} h w) = some-append (Its t) (ready_in a c b ms) (ready_among l (c + size a) b ms) ∙ rw (waits-in-ready w, or-true)

awaited-ready : (p : Plan) (o : Order) (t : ℕ) → Awaited p o.marks t → some (Its t) (ready_of p o) ≡ true
unfolding ready_of
awaited-ready p o t (in-body e w) = some-append (Its t) (ready_in p.body 0 false o.marks) (ready_in p.fault (size p.body) false o.marks) ∙ rw (waits-ready w)
awaited-ready p o t (in-fault e w) = some-append (Its t) (ready_in p.body 0 false o.marks) (ready_in p.fault (size p.body) false o.marks) ∙ rw (waits-ready w, or-true)

module _ (p : Plan) (h : Promised p) where
  awaited-time : OfTimes p (is_awaited p)
  unfolding is_awaited
  awaited-time actor t o o' past like a st g = rw (standing-live p o st, awaited-ready p o t a)

  awaited-start : OfStarts p (is_awaited p)
  unfolding is_awaited
  awaited-start t m o past z n a = rw (z, awaited-ready p (started_order p) t a)

-- Every step taken was awaited, and so was every receive in whose place a raise stood.
pub awaited-told : AwaitedTold
unfolding AwaitedTold
awaited-told = each-time is_awaited awaited-time awaited-start
