-- Which activities of an order await their step: those that the definitions list. Assumes nothing.
use Prim.Native.Nat.{ℕ, ◌+◌, ◌≤◌, ◌<◌}
use native.Mathlib.Omega.{arith}
use mathlib.Core.Path.{◌≡◌, refl}
use mathlib.Core.Bool.{Bool, true, false, ◌&&◌}
use mathlib.Core.List.{List, [], ◌∷◌, ◌++◌}
use lib.ListN.{get_or}
use lib.Dec.{eqb}
use Rattle.plan.specs.Tree.{Own, is_pick, Act, act, Acts, none, more, Plan, size, sizes}
use Rattle.order.specs.declared.Order.{Order}
use Rattle.order.specs.State.{active}
use Rattle.order.specs.Awaited.{doing_of, awaits, Ready, ready_in, ready_among, ready_of}

-- whether the arms of an activity are open
abbrev pub opens : Own → (mark : ℕ) → Bool
opens own m = is_pick own && eqb m active

mutual
  -- activity t in an activity k awaits its step; `b` is whether k is an open arm
  pub data Waits (ms : List ℕ) : Act → (k t : ℕ) → Bool → Type 0 where
    waits-itself : {own : Own} {within : Acts} {k t : ℕ} {b : Bool} → k ≡ t → awaits own b (get_or ms k 0) ≡ true → Waits ms (act own within) k t b
    waits-within : {own : Own} {within : Acts} {k t : ℕ} {b : Bool} → k < t → WaitsIn ms within (k + 1) t (opens own (get_or ms k 0)) → Waits ms (act own within) k t b

  pub data WaitsIn (ms : List ℕ) : Acts → (c t : ℕ) → Bool → Type 0 where
    waits-first : {a : Act} {l : Acts} {c t : ℕ} {b : Bool} → t < c + size a → Waits ms a c t b → WaitsIn ms (more a l) c t b
    waits-later : {a : Act} {l : Acts} {c t : ℕ} {b : Bool} → c + size a ≤ t → WaitsIn ms l (c + size a) t b → WaitsIn ms (more a l) c t b

-- its number is one of the activity's
mutual
  unfolding size

  -- in an activity
  pub waits-from : {ms : List ℕ} {a : Act} {k t : ℕ} {b : Bool} → Waits ms a k t b → k ≤ t
  waits-from (waits-itself e h) = omega arith
  waits-from (waits-within h w) = omega arith

  -- in a list
  pub waits-in-from : {ms : List ℕ} {l : Acts} {c t : ℕ} {b : Bool} → WaitsIn ms l c t b → c ≤ t
  waits-in-from (waits-first h w) = waits-from w
  waits-in-from (waits-later {a} h w) = omega arith

-- activity t of the root's body or fault part awaits its step
pub data Awaited (p : Plan) (ms : List ℕ) (t : ℕ) : Type 0 where
  in-body : t < size p.body → Waits ms p.body 0 t false → Awaited p ms t
  in-fault : size p.body ≤ t → Waits ms p.fault (size p.body) t false → Awaited p ms t

-- P holds of each
pub data Each {A : Type 0} (P : A → Type 0) : List A → Type 0 where
  each_none : Each P []
  each_more : {a : A} {l : List A} → P a → Each P l → Each P (a ∷ l)

module _ {A : Type 0} where
  pub each_append : {P : A → Type 0} {l m : List A} → Each P l → Each P m → Each P (l ++ m)
  each_append each_none y = y
  each_append (each_more x l) y = each_more x (each_append l y)

  -- where one gives the other
  pub each-so : {P Q : A → Type 0} {l : List A} → ((a : A) → P a → Q a) → Each P l → Each Q l
  each-so f each_none = each_none
  each-so f (each_more {a} x l) = each_more (f a x) (each-so f l)

-- What is ready awaits its step.
mutual
  unfolding ready_in size

  -- in an activity
  ready-waits : (a : Act) (k : ℕ) (b : Bool) (ms : List ℕ) → Each {A = Ready} (λ r. Waits ms a k r.activity b × (r.activity < k + size a)) (ready_in a k b ms)
  ready-waits (act own within) k b ms =
      ready-own (awaits own b (get_or ms k 0)) refl
      (each-so (λ r w. (waits-within (omega (arith, waits-in-from w.0)) w.0, omega (arith, w.1))) (among-waits within (k + 1) (opens own (get_or ms k 0)) ms))
    where
      ready-own : (x : Bool) → awaits own b (get_or ms k 0) ≡ x
          → Each {A = Ready} (λ r. Waits ms (act own within) k r.activity b × (r.activity < k + (1 + sizes within))) (ready_among within (k + 1) (opens own (get_or ms k 0)) ms)
          → Each {A = Ready} (λ r. Waits ms (act own within) k r.activity b × (r.activity < k + (1 + sizes within)))
          (elim x [ true ↦ record { activity = k; step = doing_of own within k } ∷ ready_among within (k + 1) (opens own (get_or ms k 0)) ms | false ↦ ready_among within (k + 1) (opens own (get_or ms k 0)) ms ])
      ready-own true e y = each_more (waits-itself refl e, omega arith) y
      ready-own false e y = y

  -- in a list
  among-waits : (l : Acts) (c : ℕ) (b : Bool) (ms : List ℕ)
      → Each {A = Ready} (λ r. WaitsIn ms l c r.activity b × (r.activity < c + sizes l)) (ready_among l c b ms)
  among-waits none c b ms = each_none
  among-waits (more a l) c b ms =
      each_append
      (each-so (λ r w. (waits-first w.1 w.0, omega (arith, w.1))) (ready-waits a c b ms))
      (each-so (λ r w. (waits-later (waits-in-from w.0) w.0, omega (arith, w.1))) (among-waits l (c + size a) b ms))

-- in a plan
pub ready-awaited : (p : Plan) (o : Order) → Each {A = Ready} (λ r. Awaited p o.marks r.activity) (ready_of p o)
unfolding ready_of
ready-awaited p o =
    each_append (each-so (λ r w. in-body (omega (arith, w.1)) w.0) (ready-waits p.body 0 false o.marks))
    (each-so (λ r w. in-fault (waits-from w.0) w.0) (ready-waits p.fault (size p.body) false o.marks))
