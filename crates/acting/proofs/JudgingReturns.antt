-- The returns of the functions that judge what is open after a step. Assumes nothing.
use Prim.Native.Nat.{ℕ, ◌<◌}
use native.Mathlib.Omega.{arith}
use mathlib.Core.Path.{◌≡◌, refl, sym, ap, ◌∙◌}
use mathlib.Core.Bool.{Bool, true, false}
use mathlib.Core.List.{List, []}
use lib.Dec.{ltb}
use borrow.Author.Tests.{lt-ltb, ltb-true}
use Rattle.std.specs.Prelude.{Option, Some}
use Rattle.plan.specs.Tree.{Plan}
use Rattle.order.specs.declared.Next.{Next}
use Rattle.order.specs.declared.Order.{Order}
use Rattle.order.specs.Acting.{its_own, in_place, acted}
use Rattle.order.specs.Answering.{next_of, moved_as, goes_on_after, Spelled, ActsOrder, Settles, StepsOrder}
use Rattle.order.specs.Judging.{clash, conflict, spare, settled, step_order}
use Rattle.settling.specs.Answering.{Clashes, weight_in, Lowers}
use Rattle.settling.proofs.Formed.{shaped}
use Rattle.settling.proofs.Settled.{any-log, settled-ended, goes_none, clash-is, clash-room, settled-clear, raise-falls, settled-clash}
use Rattle.settling.proofs.Weighing.{weight-spare}

-- the loop: what is left to judge comes to what there was to judge
pub record Settling (t : List ℕ) (n : ℕ) (first m : Next) : Type 0 where
  pub is : (p : Plan) → Spelled p n t → next_of (settled p (moved_as first)) ≡ next_of (settled p (moved_as m))

pub settling-starts : (t : List ℕ) (n : ℕ) (first : Next) → Settling t n first first
settling-starts t n first = record { is = λ p s. refl }

module _ {t : List ℕ} {n : ℕ} {first m : Next} (w : Settling t n first m) where
  -- it has ended
  pub settling-ended : {b : Bool} → b ≡ goes_on_after m.end → b ≡ false → Settles t n first m
  settling-ended q d' = record { is = λ p s. sym (w.is p s ∙ settled-ended p m (sym q ∙ d')) }

  module _ {b : Bool} (q : b ≡ goes_on_after m.end) (u : b ≡ true) {f : Option ℕ} (c : Clashes t n m.order.marks f) where
    g : goes_on_after m.end ≡ true
    g = sym q ∙ u

    -- nothing conflicts
    pub settling-clear : f ≡ Option.None → Settles t n first m
    settling-clear h = record { is = λ p s. sym (w.is p s ∙ settled-clear p (shaped p s.within) m (goes_none m.end g) (rw h at (c.is p s m.order refl))) }

    -- k does, and the raise in its place leaves r
    module _ {k : ℕ} (h : f ≡ Some k) {r : Next} (a : ActsOrder t n in_place k m.order r) where
      clashes : (p : Plan) → Spelled p n t → conflict p m.order ≡ clash k
      clashes p s = clash-is p (shaped p s.within) m.order k (rw h at (c.is p s m.order refl))

      left : (p : Plan) → Spelled p n t → r ≡ next_of (acted in_place p k m.order)
      left p s = a.is p s (clash-room p (shaped p s.within) m.order k (clashes p s))

      once : (p : Plan) → Spelled p n t → next_of (settled p (moved_as first)) ≡ next_of (settled p (moved_as r))
      once p s =
          w.is p s
          ∙ (settled-clash p (shaped p s.within) m (goes_none m.end g) k (clashes p s)
          ∙ ap (λ (x : Next). next_of (settled p (moved_as x))) (sym (left p s)))

      pub settling-again : {v : Bool} → Lowers t n m.order.root m.order.marks r.order.root r.order.marks v → v ≡ true → Settling t n first r
      settling-again y e = record { is = once }

      pub settling-less : {v : Bool} → Lowers t n m.order.root m.order.marks r.order.root r.order.marks v → v ≡ true
          → weight_in t n r.order.root r.order.marks < weight_in t n m.order.root m.order.marks
      settling-less y e = ltb-true (weight_in t n r.order.root r.order.marks) (weight_in t n m.order.root m.order.marks) (sym y.is ∙ e)

      -- an order that is not lower has ended
      ended : (p : Plan) → Spelled p n t → ltb (weight_in t n r.order.root r.order.marks) (weight_in t n m.order.root m.order.marks) ≡ false → goes_on_after r.end ≡ false
      ended p s e = go (goes_on_after r.end) refl
        where
          go : (b : Bool) → goes_on_after r.end ≡ b → b ≡ false
          go true d =
              let l = left p s in
              let f = raise-falls p (shaped p s.within) m.order k (clashes p s) (ap (λ (x : Next). x.end) (sym l) ∙ goes_none r.end d) in
              let x : weight_in t n r.order.root r.order.marks ≡ spare p (acted in_place p k m.order).order = weight-spare s r.order ∙ ap (λ (y : Next). spare p y.order) l in
              let y = weight-spare s m.order in
              sym (lt-ltb (weight_in t n r.order.root r.order.marks) (weight_in t n m.order.root m.order.marks) (omega (arith, f, x, y))) ∙ e
          go false d = refl

      pub settling-last : {v : Bool} → Lowers t n m.order.root m.order.marks r.order.root r.order.marks v → v ≡ false → Settles t n first r
      settling-last y e = record { is = λ p s. sym (once p s ∙ settled-ended p r (ended p s (sym y.is ∙ e))) }

-- `step_order`
pub step-settles : {t : List ℕ} {n x : ℕ} {o : Order} {m r : Next} → ActsOrder t n its_own x o m → Settles t n m r → StepsOrder t n x o r
unfolding step_order settled
step-settles {t} {n} {x} {o} {m} {r} a b =
    record {
      is = λ p s h.
          let q = acted its_own p x o in
          b.is p s ∙ (ap (λ (y : Next). next_of (settled p (moved_as y))) (a.is p s h) ∙ any-log p (spare p q.order) q.end q.fault q.order [] q.log);
    }
