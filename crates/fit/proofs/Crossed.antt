-- Going through the slots visits the live orders, in order: stated once, for any state that is carried along. Assumes nothing.
use mathlib.Core.Path.{◌≡◌, refl, sym, ap, ◌∙◌}
use mathlib.Core.Bool.{Bool, true, false, cond}
use mathlib.Core.List.{List, ◌∷◌}
use Prim.Native.Nat.{ℕ, suc, ◌+◌, ◌<◌, ◌≤◌}
use native.Mathlib.Numerals.{add-one}
use native.Mathlib.Omega.{arith}
use borrow.Author.Tests.{eq-eqb}
use lib.ListN.{length, get_or, drop, drop_of_length-le}
use lib.Seq.{drop-cons}
use Rattle.plan.specs.Tree.{Plan}
use Rattle.order.specs.declared.Order.{Order}
use Rattle.machine.specs.Fit.{ready_of, Live, live_from, Letter}
use Rattle.order.specs.State.{is_live}
use Rattle.fit.specs.Folds.{folded}
use Rattle.fit.specs.Lines.{Tabled}
use Rattle.fit.specs.Receiving.{Slots, Across}

live-fold : {S : Type 0} (f : Live → S → S) (p : Plan) (i : ℕ) (o : Order) (l : List Order) (s : S)
    → folded f (live_from p i (o ∷ l)) s
    ≡ folded f (live_from p (i + 1) l) (cond (is_live o) (f (record { slot = i; order = o; ready = ready_of p o }) s) s)
unfolding folded live_from
live-fold {S} f p i o l s = by-test (is_live o) (record { slot = i; order = o; ready = ready_of p o })
  where
    by-test : (b : Bool) (x : Live)
        → folded f (elim b [ true ↦ x ∷ live_from p (i + 1) l | false ↦ live_from p (i + 1) l ]) s ≡ folded f (live_from p (i + 1) l) (cond b (f x s) s)
    by-test true x = refl
    by-test false x = refl

-- the loop over the slots
pub record Crossing {S : Type 0} (t : List ℕ) (n : ℕ) (Given : Plan → List Letter → Type 0) (f : Plan → List Letter → Live → S → S) (orders : List Order) (start : S) (slot : ℕ) (c : S) : Type 0 where
  pub long : length orders ≡ 16
  pub within : slot ≤ 16
  pub same : (p : Plan) (l : List Letter) → Given p l → Tabled p t n → folded (f p l) (live_from p 0 orders) start ≡ folded (f p l) (live_from p slot (drop slot orders)) c

pub crossing-starts : {S : Type 0} (t : List ℕ) (n : ℕ) (Given : Plan → List Letter → Type 0) (f : Plan → List Letter → Live → S → S) (orders : List Order) (start : S)
    → length orders ≡ 16 → Crossing t n Given f orders start 0 start
crossing-starts t n G f orders start e = record { long = e; within = omega arith; same = λ p l g y. refl }

module _ {S : Type 0} {t : List ℕ} {n : ℕ} {G : Plan → List Letter → Type 0} {f : Plan → List Letter → Live → S → S} {orders : List Order} {start : S} {slot : ℕ} {c : S}
    (w : Crossing t n G f orders start slot c) where
  pub crossing-again : (d : Order) → slot < 16 → {r : S} → Slots t n G f slot (get_or orders slot d) c r → Crossing t n G f orders start (slot + 1) r
  crossing-again d h {r} y = record {
    long = w.long;
    within = omega arith;
    same = λ p l g q.
        let e = y.is p l g q in
        w.same p l g q
        ∙ (ap (λ x. folded (f p l) (live_from p slot x) c) (drop-cons orders slot d (omega (arith, w.long)))
        ∙ (live-fold (f p l) p slot (get_or orders slot d) (drop (suc slot) orders) c
        ∙ (ap (folded (f p l) (live_from p (slot + 1) (drop (suc slot) orders))) (sym e) ∙ rw add-one)));
  }

  pub crossing-done : 16 ≤ slot → Across t n G f orders start c
  unfolding folded live_from
  crossing-done h = record {
    long = w.long;
    is = λ p l g q.
        let long : length orders ≤ slot = omega (arith, w.long) in
        sym (w.same p l g q ∙ ap (λ x. folded (f p l) (live_from p slot x) c) (drop_of_length-le orders long));
  }

-- a free slot
pub slot-free : {S : Type 0} (t : List ℕ) (n : ℕ) (G : Plan → List Letter → Type 0) (f : Plan → List Letter → Live → S → S) (i : ℕ) {o : Order} (c : S)
    → o.root ≡ 0 → Slots t n G f i o c c
slot-free t n G f i c e = record { is = λ p l g y. rw (eq-eqb _ _ e) }

-- it is passed by
pub crossing-passes : {S : Type 0} {t : List ℕ} {n : ℕ} {G : Plan → List Letter → Type 0} {f : Plan → List Letter → Live → S → S} {orders : List Order} {start : S} {slot : ℕ} {c : S}
    → Crossing t n G f orders start slot c → (d : Order) → slot < 16 → (get_or orders slot d).root ≡ 0 → Crossing t n G f orders start (slot + 1) c
crossing-passes {t = t} {n} {G} {f} {slot = slot} {c} w d h e = crossing-again w d h (slot-free t n G f slot c e)
