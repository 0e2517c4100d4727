-- The step of a send: it is over, or it raises a fault. What holds of both holds of it, whomever it is for. Assumes nothing.
use Prim.Native.Nat.{ℕ}
use mathlib.Core.Bool.{Bool, true, false, cond, not}
use mathlib.Core.List.{List, [], ◌∷◌, ◌++◌}
use Rattle.plan.specs.Tree.{To, held_by, send, Acts}
use Rattle.order.specs.declared.Order.{Order}
use Rattle.order.specs.Event.{Event, raised}
use Rattle.order.specs.Expression.{unbound_variable, no_such_partner}
use Rattle.order.specs.Scope.{Outcome}
use Rattle.order.specs.Acting.{finishes, raises, all_bound, reaches, itself}
use Rattle.undoing.specs.Ties.{raised_if, deed_of}

pub by-send : (P : Outcome → Type 0) (to : To) (op : ℕ) (vs : List ℕ) (within : Acts) (q k : ℕ) (o : Order)
    → P (finishes k o) → ((n : ℕ) → P (raises n k o)) → P (itself (send to op vs) within q k o)
unfolding itself
by-send P to op vs within q k o f g = go (all_bound o (held_by to ++ vs)) (reaches o to)
  where
    go : (bound reached : Bool) → P (cond bound (cond reached (finishes k o) (raises no_such_partner k o)) (raises unbound_variable k o))
    go true true = f
    go true false = g no_such_partner
    go false r = g unbound_variable

-- and what it is in the history: nothing, or that fault
pub by-sent : (P : List Event → Type 0) (to : To) (op : ℕ) (vs : List ℕ) (k : ℕ) (o : Order) → P [] → ((n : ℕ) → P (raised k n ∷ [])) → P (deed_of (send to op vs) k o)
unfolding deed_of
by-sent P to op vs k o f g = go (all_bound o (held_by to ++ vs)) (reaches o to)
  where
    go : (bound reached : Bool) → P (cond bound (raised_if k no_such_partner (not reached)) (raised k unbound_variable ∷ []))
    go true true = f
    go true false = g no_such_partner
    go false r = g unbound_variable
