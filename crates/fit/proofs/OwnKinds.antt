-- Arms are known by their kind, and what awaits its step is told by kinds. Assumes nothing.
use mathlib.Core.Path.{◌≡◌, refl}
use mathlib.Core.Bool.{Bool, true, false, cond}
use mathlib.Core.List.{[], ◌∷◌}
use Prim.Native.Nat.{ℕ, zero, suc}
use lib.Dec.{eqb}
use Rattle.plan.specs.Read.{is_scope_code}
use Rattle.plan.specs.Tree.{to_partner, to_held, from_partner, from_asking, Own, empty, send, receive, set, raise, leave, choose, repeat, sequence, flow, pick, scope, arm, kind, is_arm}
use Rattle.plan.proofs.ByKind.{kind-scope}
use Rattle.machine.specs.Fit.{awaits}
use Rattle.order.specs.State.{active, done}

kind-arm : (own : Own) → eqb (kind own) 255 ≡ is_arm own
unfolding kind
kind-arm empty = refl
kind-arm (send (to_partner a) b vs) = refl
kind-arm (send (to_held v a) b vs) = refl
kind-arm (receive (from_partner a) b vs) = refl
kind-arm (receive (from_asking a v) b vs) = refl
kind-arm (set v e) = refl
kind-arm (raise zero) = refl
kind-arm (raise (suc number)) = refl
kind-arm leave = refl
kind-arm (choose e) = refl
kind-arm (repeat e) = refl
kind-arm sequence = refl
kind-arm flow = refl
kind-arm pick = refl
kind-arm (scope [] true) = refl
kind-arm (scope [] false) = refl
kind-arm (scope (n ∷ ns) u) = refl
kind-arm (arm a b vs) = refl

-- whether an activity or arm awaits its step
pub awaits-kind : (own : Own) (arms : Bool) (m : ℕ)
    → awaits own arms m ≡ cond (eqb (kind own) 255) arms (cond (is_scope_code (kind own)) (eqb m done) (eqb m active))
unfolding awaits
awaits-kind own arms m = rw (kind-arm own, kind-scope own)
