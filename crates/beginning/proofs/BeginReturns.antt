-- The returns of the functions that begin an activity, and an order. Assumes nothing.
use mathlib.Core.Path.{◌≡◌, refl, sym, ap, ◌∙◌}
use mathlib.Core.Bool.{Bool, true, false, cond, ◌&&◌, false≢true, and_assoc, and-true}
use mathlib.Core.List.{List, [], ◌∷◌}
use mathlib.Core.Logic.{◌⊎◌, inl, inr}
use Prim.Native.Nat.{ℕ, zero, suc, ◌+◌, ◌<◌, ◌≤◌}
use native.Mathlib.Omega.{arith}
use borrow.Author.Tests.{ne_eqb}
use lib.Dec.{eqb}
use lib.ListN.{set}
use Rattle.plan.specs.Tree.{to_partner, to_held, from_partner, from_asking, Own, empty, send, receive, set as setting, raise, leave, choose, repeat, sequence, flow, pick, scope, arm, kind, Act, act, Acts, none, more, size, sizes}
use Rattle.order.specs.declared.Entered.{Entered}
use Rattle.order.specs.declared.Order.{Order}
use Rattle.order.specs.Acting.{begun_order, started_order}
use Rattle.order.specs.Answering.{KindOf, scope_kind, entered, throughout_of, around_of, Begins, BeginsInTurn, BeginsAll, StartsOrder}
use Rattle.order.specs.Begin.{Begun, throughout, around, in_turn, begin, begin_in_turn, begin_all, begin_first}
use Rattle.order.specs.Event.{Event}
use Rattle.order.specs.Stands.{End, Stands, StandAll}
use Rattle.order.specs.State.{no_order, with_marks, with_root}
use Rattle.order.proofs.PlanStands.{plan-stands}
use Rattle.order.proofs.Standing.{size-pos, stands-inside, all-inside, stands-end, kind_at, row-kind, if_none, if-first, if-more, if-scope}

-- how an activity of a kind begins
abbrev begin_kind : (kind : ℕ) → Acts → (k : ℕ) → List ℕ → Entered
begin_kind n l k ms =
    cond (eqb n 0) (record { marks = ms; over = true })
    (cond (eqb n 255) (record { marks = ms; over = true })
    (cond (eqb n 8) (throughout_of k (entered (begin_in_turn l (k + 1) (set ms k 1))))
    (cond (eqb n 9) (throughout_of k (entered (begin_all l (k + 1) (set ms k 1))))
    (cond (scope_kind n) (around_of k (entered (begin_first l (k + 1) (set ms k 1))))
    (record { marks = set ms k 1; over = false })))))

-- what began, less its log, through the branches of the definitions
throughout-entered : (k : ℕ) (b : Begun) → entered (throughout k b) ≡ throughout_of k (entered b)
throughout-entered k b = by-test b.marks b.log b.over
  where
    by-test : (ms : List ℕ) (g : List Event) (x : Bool) → entered (throughout k (record { marks = ms; over = x; log = g })) ≡ throughout_of k (record { marks = ms; over = x })
    by-test ms g true = refl
    by-test ms g false = refl

around-entered : (k : ℕ) (b : Begun) → entered (around k b) ≡ around_of k (entered b)
around-entered k b = by-test b.marks b.log b.over
  where
    by-test : (ms : List ℕ) (g : List Event) (x : Bool) → entered (around k (record { marks = ms; over = x; log = g })) ≡ around_of k (record { marks = ms; over = x })
    by-test ms g true = refl
    by-test ms g false = refl

by_kind : (own : Own) (l : Acts) (k : ℕ) (ms : List ℕ) → entered (begin (act own l) k ms) ≡ begin_kind (kind own) l k ms
unfolding begin kind scope_kind
by_kind empty l k ms = refl
by_kind (send (to_partner p) o vs) l k ms = refl
by_kind (send (to_held v r) o vs) l k ms = refl
by_kind (receive (from_partner p) o vs) l k ms = refl
by_kind (receive (from_asking p v) o vs) l k ms = refl
by_kind (setting v e) l k ms = refl
by_kind (raise zero) l k ms = refl
by_kind (raise (suc number)) l k ms = refl
by_kind leave l k ms = refl
by_kind (choose e) l k ms = refl
by_kind (repeat e) l k ms = refl
by_kind sequence l k ms = throughout-entered k (begin_in_turn l (k + 1) (set ms k 1))
by_kind flow l k ms = throughout-entered k (begin_all l (k + 1) (set ms k 1))
by_kind pick l k ms = refl
by_kind (scope [] true) l k ms = around-entered k (begin_first l (k + 1) (set ms k 1))
by_kind (scope [] false) l k ms = around-entered k (begin_first l (k + 1) (set ms k 1))
by_kind (scope (n ∷ ns) v) l k ms = around-entered k (begin_first l (k + 1) (set ms k 1))
by_kind (arm p o vs) l k ms = refl

pub begin-far : (t : List ℕ) (k : ℕ) (ms : List ℕ) {r : Entered} → 256 ≤ k → Begins t k ms r
begin-far t k ms h = record { is = λ a s. absurd (omega (arith, stands-inside a k t s, size-pos a)) }

module _ (t : List ℕ) (k : ℕ) (ms : List ℕ) {kd : ℕ} (q : KindOf t k kd) where
  begin-row : (own : Own) (l : Acts) → Stands (act own l) k t → entered (begin (act own l) k ms) ≡ begin_kind kd l k ms
  begin-row own l s = by_kind own l k ms ∙ rw (row-kind q own l s)

  pub begin-empty : (kd ≡ 0) ⊎ (kd ≡ 255) → Begins t k ms (record { marks = ms; over = true })
  begin-empty e = record { is = is e }
    where
      is : (kd ≡ 0) ⊎ (kd ≡ 255) → (a : Act) → Stands a k t → record { marks = ms; over = true } ≡ entered (begin a k ms)
      is (inl e) (act own l) s = sym (begin-row own l s ∙ rw e)
      is (inr e) (act own l) s = sym (begin-row own l s ∙ rw e)

  module _ {e : ℕ} (z : End t k e) where
    row-end : (own : Own) (l : Acts) → Stands (act own l) k t → e ≡ k + 1 + sizes l
    unfolding size
    row-end own l s = omega (arith, stands-end (act own l) k t s z)

    pub begin-sequence : kd ≡ 8 → {r p : Entered} → BeginsInTurn t (k + 1) e (set ms k 1) r → p ≡ throughout_of k r → Begins t k ms p
    unfolding Stands
    begin-sequence h {r} {p} b g = record { is = is }
      where
        is : (a : Act) → Stands a k t → p ≡ entered (begin a k ms)
        is (act own l) s = g ∙ sym (begin-row own l s ∙ rw (h, ← b.is l s.rest (row-end own l s)))

    pub begin-flow : kd ≡ 9 → {r p : Entered} → BeginsAll t (k + 1) e (set ms k 1) r → p ≡ throughout_of k r → Begins t k ms p
    unfolding Stands
    begin-flow h {r} {p} b g = record { is = is }
      where
        is : (a : Act) → Stands a k t → p ≡ entered (begin a k ms)
        is (act own l) s = g ∙ sym (begin-row own l s ∙ rw (h, ← b.is l s.rest (row-end own l s)))

    module _ {b : Bool} (y : b ≡ scope_kind kd) where
      pub begin-scope : b ≡ true → {r p : Entered} → Begins t (k + 1) (set ms k 1) r → p ≡ around_of k r → Begins t k ms p
      unfolding begin
      begin-scope h {r} {p} x g = record {
        is = λ a s. if-scope (λ a. p ≡ entered (begin a k ms)) t k (rw (← kind_at q a s) (sym y ∙ h))
            (λ v m sb s. g ∙ (ap (around_of k) (x.is m.body sb) ∙ sym (around-entered k (begin m.body (k + 1) (set ms k 1))))) a s;
      }

      -- no scope has no body
      pub begin-bare : b ≡ true → e ≤ k + 1 → {p : Entered} → Begins t k ms p
      unfolding size
      begin-bare h g {p} = record {
        is = λ a s. if-scope (λ a. p ≡ entered (begin a k ms)) t k (rw (← kind_at q a s) (sym y ∙ h))
            (λ v m sb s. absurd (omega (arith, stands-end _ k t s z, size-pos m.body))) a s;
      }

      pub begin-awaiting : ((kd ≡ 0) ⊎ (kd ≡ 255) → ⊥) → (kd ≡ 8 → ⊥) → (kd ≡ 9 → ⊥) → b ≡ false
          → Begins t k ms (record { marks = set ms k 1; over = false })
      begin-awaiting h0 h8 h9 h = record { is = is }
        where
          is : (a : Act) → Stands a k t → record { marks = set ms k 1; over = false } ≡ entered (begin a k ms)
          is (act own l) s = sym (begin-row own l s ∙ rw (ne_eqb _ _ (λ e. h0 (inl e)), ne_eqb _ _ (λ e. h0 (inr e)), ne_eqb _ _ h8, ne_eqb _ _ h9, ← y, h))

-- the loop of `begin_in_turn`: how those that are left begin is how all begin
pub record Turning (t : List ℕ) (e c : ℕ) (ms : List ℕ) (j : ℕ) (m : List ℕ) : Type 0 where
  pub on : (r : Entered) → BeginsInTurn t j e m r → BeginsInTurn t c e ms r

pub turning-far : (t : List ℕ) (c e : ℕ) (ms : List ℕ) → 256 < e → BeginsInTurn t c e ms (record { marks = ms; over = true })
unfolding begin size
turning-far t c e ms h = record { is = is }
  where
    is : (l : Acts) → StandAll l c t → e ≡ c + sizes l → record { marks = ms; over = true } ≡ entered (begin_in_turn l c ms)
    is none s g = refl
    is (more a l) s g = absurd (omega (arith, all-inside (more a l) c t s (omega (arith, size-pos a))))

pub turning-starts : (t : List ℕ) (e c : ℕ) (ms : List ℕ) → Turning t e c ms c ms
turning-starts t e c ms = record { on = λ r x. x }

in-turn-over : (rest : List ℕ → Begun) (b : Begun) → b.over ≡ true → entered (in_turn rest b) ≡ entered (rest b.marks)
in-turn-over rest b e = rw e

in-turn-runs : (rest : List ℕ → Begun) (b : Begun) → b.over ≡ false → entered (in_turn rest b) ≡ entered b
in-turn-runs rest b e = go b.marks b.log b.over e
  where
    go : (ms : List ℕ) (g : List Event) (x : Bool) → x ≡ false
        → entered (in_turn rest (record { marks = ms; over = x; log = g })) ≡ record { marks = ms; over = x }
    go ms g true e = absurd (false≢true (sym e))
    go ms g false e = refl

module _ {t : List ℕ} {e c : ℕ} {ms : List ℕ} {j : ℕ} {m : List ℕ} (w : Turning t e c ms j m) where
  pub turning-done : e ≤ j → BeginsInTurn t c e ms (record { marks = m; over = true })
  unfolding begin
  turning-done h = w.on _ (record { is = if_none (λ l. record { marks = m; over = true } ≡ entered (begin_in_turn l j m)) t j e h refl })

  module _ (h : j < e) {r : Entered} (b : Begins t j m r) where
    same_over : (a : Act) → Stands a j t → r.over ≡ (begin a j m).over
    same_over a s = ap (λ (x : Entered). x.over) (b.is a s)

    same-marks : (a : Act) → Stands a j t → r.marks ≡ (begin a j m).marks
    same-marks a s = ap (λ (x : Entered). x.marks) (b.is a s)

    pub turning-stops : r.over ≡ false → BeginsInTurn t c e ms r
    unfolding begin
    turning-stops o = w.on r (record {
      is = if-first (λ l. r ≡ entered (begin_in_turn l j m)) t j e h
          (λ a l sa. b.is a sa ∙ sym (in-turn-runs (begin_in_turn l (j + size a)) (begin a j m) (sym (same_over a sa) ∙ o)));
    })

    pub turning-again : {n : ℕ} → End t j n → r.over ≡ true → Turning t e c ms n r.marks
    unfolding begin
    turning-again {n} z o = record {
      on = λ p x. w.on p (record {
        is = if-more (λ l. p ≡ entered (begin_in_turn l j m)) t j e h z
            (λ a l g sa sl q.
            x.is l sl q
            ∙ sym (in-turn-over (begin_in_turn l (j + size a)) (begin a j m) (sym (same_over a sa) ∙ o) ∙ rw (← g, ← same-marks a sa)));
      });
    }

-- the loop of `begin_all`: how those that are left begin, with whether those before are over, is how all begin
pub record Joining (t : List ℕ) (e c : ℕ) (ms : List ℕ) (j : ℕ) (m : List ℕ) (over : Bool) : Type 0 where
  pub on : (r : Entered) → BeginsAll t j e m r → BeginsAll t c e ms (record { marks = r.marks; over = over && r.over })

pub joining-starts : (t : List ℕ) (e c : ℕ) (ms : List ℕ) → Joining t e c ms c ms true
joining-starts t e c ms = record { on = λ r x. x }

module _ {t : List ℕ} {e c : ℕ} {ms : List ℕ} {j : ℕ} {m : List ℕ} {o : Bool} (w : Joining t e c ms j m o) where
  pub joining-done : e ≤ j → BeginsAll t c e ms (record { marks = m; over = o })
  unfolding begin
  joining-done h =
      rw (and-true o) at (w.on (record { marks = m; over = true })
      (record { is = if_none (λ l. record { marks = m; over = true } ≡ entered (begin_all l j m)) t j e h refl }))

  pub joining-again : j < e → {r : Entered} → Begins t j m r → {n : ℕ} → End t j n → {o' : Bool} → o' ≡ (o && r.over)
      → Joining t e c ms n r.marks o'
  unfolding begin
  joining-again h {r} b {n} z {o'} y = record {
    on = λ p x.
        rw (y, and_assoc o r.over p.over) (w.on (record { marks = p.marks; over = r.over && p.over }) (record {
          is = if-more (λ l. record { marks = p.marks; over = r.over && p.over } ≡ entered (begin_all l j m)) t j e h z
              (λ a l g sa sl q.
              let i : p ≡ entered (begin_all l n r.marks) = x.is l sl q in
              let v : r ≡ entered (begin a j m) = b.is a sa in
              rw (← g, ← ap (λ (y : Entered). y.marks) v, ← ap (λ (y : Entered). y.over) v, i));
        }));
  }

-- `started_order`
pub started-is : {t : List ℕ} {e : Order} → e ≡ no_order → {b : Entered} → Begins t 0 e.marks b → StartsOrder t (with_root 1 (with_marks b.marks e))
unfolding started_order begun_order
started-is {t} {e} i {b} x = record {
  is = λ q n s.
      let w = plan-stands s in
      let d : b ≡ entered (begin q.body 0 no_order.marks) = rw i at (x.is q.body w.body) in
      rw (d, i);
}
