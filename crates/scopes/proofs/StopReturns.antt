-- The returns of the functions that stop an activity. Assumes nothing.
use mathlib.Core.Path.{◌≡◌, refl, sym, ap, ◌∙◌}
use mathlib.Core.Bool.{Bool, true, false}
use mathlib.Core.List.{List}
use Prim.Native.Nat.{ℕ, ◌+◌, ◌*◌, ◌<◌, ◌≤◌}
use native.Mathlib.Omega.{arith}
use borrow.Author.Tests.{ne_eqb}
use lib.Dec.{eqb}
use lib.ListN.{get_or}
use Rattle.plan.specs.Tree.{Own, is_scope, Act, act, Acts, more, size, sizes}
use Rattle.order.specs.declared.Order.{Order}
use Rattle.order.specs.declared.Spot.{Spot}
use Rattle.order.specs.declared.Went.{Went}
use Rattle.order.specs.Answering.{KindOf, scope_kind, Made, scope_act, SpotAt, Turns, Withdraws, Stops, StopsAll}
use Rattle.order.specs.Scope.{Scope, scope_at, is_open, turns, Stopped, untouched, withdraws, stop, stop_all}
use Rattle.order.specs.Stands.{End, Stands}
use Rattle.order.specs.State.{mark_at, marked}
use Rattle.order.proofs.Deciding.{yes, no}
use Rattle.order.proofs.Standing.{size-pos, stands-end, stands-inside, kind_at, row-kind, scope-kind, if_none, if-more, if-scope}

-- a scope that is open, one that is not, and any other activity
stop-scope : (v : Bool) (m : Made) (k : ℕ) (o : Order) → is_open (mark_at k o) ≡ true
    → stop (scope_act v m) k o ≡ withdraws k (scope_at m.numbers k (more m.body m.parts)) (stop m.body (k + 1) (marked k 7 o))
unfolding stop
stop-scope v m k o e = yes (is_open (mark_at k o)) _ (untouched o) e

stop-shut : (v : Bool) (m : Made) (k : ℕ) (o : Order) → is_open (mark_at k o) ≡ false → stop (scope_act v m) k o ≡ untouched o
unfolding stop
stop-shut v m k o e = no (is_open (mark_at k o)) _ (untouched o) e

stop-other : (own : Own) (l : Acts) (k : ℕ) (o : Order) → is_scope own ≡ false → stop (act own l) k o ≡ stop_all l (k + 1) (marked k 0 o)
unfolding stop
stop-other own l k o e = no (is_scope own) _ (stop_all l (k + 1) (marked k 0 o)) e

pub stop-far : (t : List ℕ) (k : ℕ) (o : Order) {r : Order} → 256 ≤ k → Stops t k o r
stop-far t k o h = record { is = λ a s. absurd (omega (arith, stands-inside a k t s, size-pos a)) }

module _ (t : List ℕ) (k : ℕ) (o : Order) {kd : ℕ} (q : KindOf t k kd) {x : Bool} (d : x ≡ scope_kind kd) where
  here : x ≡ true → (a : Act) → Stands a k t → scope_kind (get_or t (k * 13) 0) ≡ true
  here h a s = rw (← kind_at q a s) (sym d ∙ h)

  module _ (h : x ≡ true) {m : ℕ} (i : m ≡ mark_at k o) {v : Bool} (j : v ≡ is_open m) where
    pub stop-opened : v ≡ true → {o₁ : Order} → o₁ ≡ marked k 7 o → {p : Order} → Stops t (k + 1) o₁ p → {r : Order} → Withdraws t k p r → Stops t k o r
    unfolding withdraws
    stop-opened g {o₁} e {p} x {r} y = record {
      is = λ a s. if-scope (λ a. r ≡ (stop a k o).order) t k (here h a s) (λ u m sb s.
          let a : p ≡ (stop m.body (k + 1) (marked k 7 o)).order = rw e at (x.is m.body sb) in
          let c : is_open (mark_at k o) ≡ true = rw (← i) (sym j ∙ g) in
          (rw a at (y.is u m s)) ∙ ap (λ (d : Stopped). d.order) (sym (stop-scope u m k o c))) a s;
    }

    pub stop-closed : v ≡ false → Stops t k o o
    stop-closed g = record {
      is = λ a s. if-scope (λ a. o ≡ (stop a k o).order) t k (here h a s) (λ u m sb s.
          let c : is_open (mark_at k o) ≡ false = rw (← i) (sym j ∙ g) in
          ap (λ (d : Stopped). d.order) (sym (stop-shut u m k o c))) a s;
    }

  -- no scope has no body
  pub stop-bare : x ≡ true → {e : ℕ} → End t k e → e ≤ k + 1 → {r : Order} → Stops t k o r
  unfolding size
  stop-bare h z g {r} = record {
    is = λ a s. if-scope (λ a. r ≡ (stop a k o).order) t k (here h a s)
        (λ u m sb s. absurd (omega (arith, stands-end (scope_act u m) k t s z, size-pos m.body))) a s;
  }

  pub stop-all : x ≡ false → {e : ℕ} → End t k e → {o₁ : Order} → o₁ ≡ marked k 0 o → {r : Order} → StopsAll t (k + 1) e o₁ r → Stops t k o r
  unfolding Stands size
  stop-all h {e} z {o₁} i {r} x = record { is = is }
    where
      is : (a : Act) → Stands a k t → r ≡ (stop a k o).order
      is (act own l) s =
          let n : is_scope own ≡ false = sym (scope-kind own) ∙ (rw (← row-kind q own l s) (sym d ∙ h)) in
          let m : e ≡ k + 1 + sizes l = omega (arith, stands-end (act own l) k t s z) in
          (rw i at (x.is l s.rest m)) ∙ ap (λ (d : Stopped). d.order) (sym (stop-other own l k o n))

-- the loop of `stop`: how those that are left stop is how all stop
pub record Stopping (t : List ℕ) (e c : ℕ) (o : Order) (j : ℕ) (p : Order) : Type 0 where
  pub later : c ≤ j
  pub on : (r : Order) → StopsAll t j e p r → StopsAll t c e o r

pub stopping-starts : (t : List ℕ) (e c : ℕ) (o : Order) → Stopping t e c o c o
stopping-starts t e c o = record { later = omega arith; on = λ r x. x }

module _ {t : List ℕ} {e c : ℕ} {o : Order} {j : ℕ} {p : Order} (w : Stopping t e c o j p) where
  pub stopping-done : e ≤ j → StopsAll t c e o p
  unfolding stop
  stopping-done h = w.on p (record { is = if_none (λ l. p ≡ (stop_all l j p).order) t j e h refl })

  pub stopping-again : e ≤ 256 → j < e → {r : Order} → Stops t j p r → {n : ℕ} → End t j n → Stopping t e c o n r
  unfolding stop
  stopping-again f h {r} b {n} z = record {
    later = omega (arith, w.later, z.past);
    on = λ v x. w.on v (record {
      is = if-more (λ l. v ≡ (stop_all l j p).order) t j e h z
          (λ a l g sa sl q. let i : r ≡ (stop a j p).order = b.is a sa in rw (← g, ← i) (x.is l sl q));
    });
  }
