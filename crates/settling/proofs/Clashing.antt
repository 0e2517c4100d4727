-- The higher-numbered of two that are open for one thing awaits its step, and takes a message. Assumes nothing.
use Prim.Native.Nat.{ℕ, ◌+◌, ◌≤◌, ◌<◌}
use native.Mathlib.Omega.{arith}
use mathlib.Core.Path.{◌≡◌, refl, sym, ◌∙◌}
use mathlib.Core.Bool.{Bool, true, false, false≢true}
use mathlib.Core.List.{List, [], ◌∷◌}
use lib.ListN.{get_or}
use lib.Dec.{eqb, ltb}
use borrow.Author.Tests.{eq-eqb, ne_eqb, lt-ltb, le-ltb}
use Rattle.plan.specs.Tree.{Own, Act, act, Acts, none, more, Plan, size, sizes}
use Rattle.order.specs.declared.Order.{Order}
use Rattle.order.specs.Awaited.{Doing, no_step, sends, takes, moves, cuts, closes, doing_of, awaits, Ready, ready_in, ready_among, ready_of}
use Rattle.order.specs.Judging.{is_second, Verdict, clear, clash, clash_after, conflict}
use Rattle.machine.specs.Calls.{doing_in, doing_among, doing_at}
use Rattle.settling.proofs.Waiting.{opens, Awaited, Each, each_none, each_more, each_append, each-so, ready-awaited}

-- a step that takes a message
unfoldable pub is_take : Doing → Bool
is_take no_step = false
is_take (sends p o vs) = false
is_take (takes p o vs) = true
is_take moves = false
is_take cuts = false
is_take (closes undo s) = false

second-takes : (before : List Ready) (d : Doing) → is_second before d ≡ true → is_take d ≡ true
unfolding is_second is_take
second-takes before no_step e = e
second-takes before (sends p o vs) e = e
second-takes before (takes p o vs) e = refl
second-takes before moves e = e
second-takes before cuts e = e
second-takes before (closes undo s) e = e

-- what is done, by where the step is
doing-first : (b : Bool) (x y z : Doing) → z ≡ elim b [ true ↦ x | false ↦ y ] → b ≡ true → z ≡ x
doing-first true x y z e h = e
doing-first false x y z e h = absurd (false≢true h)

doing-second : (b : Bool) (x y z : Doing) → z ≡ elim b [ true ↦ x | false ↦ y ] → b ≡ false → z ≡ y
doing-second true x y z e h = absurd (false≢true (sym h))
doing-second false x y z e h = e

pub doing-here : (own : Own) (within : Acts) (k : ℕ) → doing_in (act own within) k k ≡ doing_of own within k
unfolding doing_in
doing-here own within k = doing-first (eqb k k) (doing_of own within k) (doing_among within (k + 1) k) _ refl (eq-eqb k k refl)

pub doing-within : (own : Own) (within : Acts) (k t : ℕ) → k < t → doing_in (act own within) k t ≡ doing_among within (k + 1) t
unfolding doing_in
doing-within own within k t h = doing-second (eqb k t) (doing_of own within k) (doing_among within (k + 1) t) _ refl (ne_eqb k t (omega arith))

pub doing-among : (a : Act) (l : Acts) (c t : ℕ) → t < c + size a → doing_among (more a l) c t ≡ doing_in a c t
unfolding doing_in
doing-among a l c t h = doing-first (ltb t (c + size a)) (doing_in a c t) (doing_among l (c + size a) t) _ refl (lt-ltb t (c + size a) h)

pub doing-later : (a : Act) (l : Acts) (c t : ℕ) → c + size a ≤ t → doing_among (more a l) c t ≡ doing_among l (c + size a) t
unfolding doing_in
doing-later a l c t h = doing-second (ltb t (c + size a)) (doing_in a c t) (doing_among l (c + size a) t) _ refl (le-ltb t (c + size a) h)

pub doing-body : (p : Plan) (t : ℕ) → t < size p.body → doing_at p t ≡ doing_in p.body 0 t
unfolding doing_at
doing-body p t h = doing-first (ltb t (size p.body)) (doing_in p.body 0 t) (doing_in p.fault (size p.body) t) _ refl (lt-ltb t (size p.body) h)

pub doing-fault : (p : Plan) (t : ℕ) → size p.body ≤ t → doing_at p t ≡ doing_in p.fault (size p.body) t
unfolding doing_at
doing-fault p t h = doing-second (ltb t (size p.body)) (doing_in p.body 0 t) (doing_in p.fault (size p.body) t) _ refl (le-ltb t (size p.body) h)

-- What is ready is there for the step that it awaits.
mutual
  unfolding ready_in size

  ready-does : (a : Act) (k : ℕ) (b : Bool) (ms : List ℕ) → Each {A = Ready} (λ r. (doing_in a k r.activity ≡ r.step) × (k ≤ r.activity) × (r.activity < k + size a)) (ready_in a k b ms)
  ready-does (act own within) k b ms =
      ready-own (awaits own b (get_or ms k 0))
      (each-so (λ r w. (doing-within own within k r.activity (omega (arith, w.1)) ∙ w.0, omega (arith, w.1), omega (arith, w.2))) (among-does within (k + 1) (opens own (get_or ms k 0)) ms))
    where
      ready-own : (x : Bool)
          → Each {A = Ready} (λ r. (doing_in (act own within) k r.activity ≡ r.step) × (k ≤ r.activity) × (r.activity < k + (1 + sizes within))) (ready_among within (k + 1) (opens own (get_or ms k 0)) ms)
          → Each {A = Ready} (λ r. (doing_in (act own within) k r.activity ≡ r.step) × (k ≤ r.activity) × (r.activity < k + (1 + sizes within)))
          (elim x [ true ↦ record { activity = k; step = doing_of own within k } ∷ ready_among within (k + 1) (opens own (get_or ms k 0)) ms | false ↦ ready_among within (k + 1) (opens own (get_or ms k 0)) ms ])
      ready-own true y = each_more {a = record { activity = k; step = doing_of own within k }} (doing-here own within k, omega arith, omega arith) y
      ready-own false y = y

  among-does : (l : Acts) (c : ℕ) (b : Bool) (ms : List ℕ)
      → Each {A = Ready} (λ r. (doing_among l c r.activity ≡ r.step) × (c ≤ r.activity) × (r.activity < c + sizes l)) (ready_among l c b ms)
  among-does none c b ms = each_none
  among-does (more a l) c b ms =
      each_append
      (each-so (λ r w. (doing-among a l c r.activity w.2 ∙ w.0, w.1, omega (arith, w.2))) (ready-does a c b ms))
      (each-so (λ r w. (doing-later a l c r.activity w.1 ∙ w.0, omega (arith, w.1), omega (arith, w.2))) (among-does l (c + size a) b ms))

ready-doing : (p : Plan) (o : Order) → Each {A = Ready} (λ r. doing_at p r.activity ≡ r.step) (ready_of p o)
unfolding ready_of
ready-doing p o =
    each_append (each-so (λ r w. doing-body p r.activity (omega (arith, w.2)) ∙ w.0) (ready-does p.body 0 false o.marks))
    (each-so (λ r w. doing-fault p r.activity w.1 ∙ w.0) (ready-does p.fault (size p.body) false o.marks))

-- both at once
each-pair : {A : Type 0} {P R : A → Type 0} {l : List A} → Each P l → Each R l → Each (λ a. P a × R a) l
each-pair each_none y = each_none
each-pair (each_more x l) (each_more y m) = each_more (x, y) (each-pair l m)

-- What is so of every receive that is for the same thing as one before it is so of the higher one of a pair.
abbrev pub OnClash : (ℕ → Type 0) → Verdict → Type 0
OnClash P clear = Unit {0}
OnClash P (clash k) = P k

pub clash-on : (P : ℕ → Type 0) (before l : List Ready) → Each {A = Ready} (λ r. is_take r.step ≡ true → P r.activity) l → OnClash P (clash_after before l)
unfolding clash_after
clash-on P before [] each_none = tt
clash-on P before (r ∷ l) (each_more x y) = go (is_second before r.step) refl (clash-on P (r ∷ before) l y)
  where
    go : (b : Bool) → is_second before r.step ≡ b → OnClash P (clash_after (r ∷ before) l) → OnClash P (elim b [ true ↦ clash r.activity | false ↦ clash_after (r ∷ before) l ])
    go true e z = x (second-takes before r.step e)
    go false e z = z

-- it awaits its step, and takes a message
abbrev pub Higher : Plan → Order → (k : ℕ) → Type 0
Higher p o k = Awaited p o.marks k × (is_take (doing_at p k) ≡ true)

pub conflict-awaited : (p : Plan) (o : Order) → OnClash (Higher p o) (conflict p o)
unfolding conflict
conflict-awaited p o =
    clash-on (Higher p o) [] (ready_of p o)
    (each-so (λ r w e. (w.0, rw w.1 e)) (each-pair (ready-awaited p o) (ready-doing p o)))
