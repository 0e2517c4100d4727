-- The ranks of an order's marks by the rows of the plan's table are those by the plan. Assumes nothing.
use Prim.Native.Nat.{ℕ, zero, suc, ◌+◌, ◌*◌, ◌≤◌, ◌<◌}
use native.Mathlib.Omega.{arith}
use mathlib.Core.Path.{◌≡◌, refl, sym, ap, subst, ◌∙◌}
use mathlib.Core.Bool.{Bool, true, false, cond}
use mathlib.Core.List.{List}
use lib.ListN.{get_or}
use lib.Dec.{eqb, ltb, leb}
use borrow.Author.Tests.{eqb-true, eqb-false, ltb-true, ltb-false, le-leb}
use Rattle.plan.specs.Tree.{kind, Act, act, Acts, none, more, Plan, size, sizes}
use Rattle.order.specs.declared.Order.{Order}
use Rattle.order.specs.Answering.{Spelled}
use Rattle.order.specs.Awaited.{kind_in, kind_among, kind_at}
use Rattle.order.specs.Judging.{rank, weight, spare}
use Rattle.order.specs.Stands.{Stands, StandAll}
use Rattle.order.proofs.PlanStands.{plan-stands}
use Rattle.settling.specs.Answering.{rows_of, weight_in}
use Rattle.settling.proofs.Formed.{Shaped, shaped}

-- the kind of an activity stands in its row
mutual
  unfolding Stands kind_in size

  kinds-in : (t : List ℕ) (a : Act) (k : ℕ) → Stands a k t → (j : ℕ) → k ≤ j → j < k + size a → kind_in a k j ≡ get_or t (j * 13) 0
  kinds-in t (act own l) k s j h g = by-test (eqb k j) refl (λ m. kinds-among t l (k + 1) s.rest j m (omega arith))
    where
      by-test : (b : Bool) → eqb k j ≡ b → (k + 1 ≤ j → kind_among l (k + 1) j ≡ get_or t (j * 13) 0) → ◌≡◌ {A = ℕ} (elim b [ true ↦ kind own | false ↦ kind_among l (k + 1) j ]) (get_or t (j * 13) 0)
      by-test true e f = sym s.first.row.kind ∙ ap (λ (i : ℕ). get_or t (i * 13) 0) (eqb-true k j e)
      by-test false e f = f (omega (arith, eqb-false k j e))

  kinds-among : (t : List ℕ) (l : Acts) (c : ℕ) → StandAll l c t → (j : ℕ) → c ≤ j → j < c + sizes l → kind_among l c j ≡ get_or t (j * 13) 0
  kinds-among t none c s j h g = absurd (omega arith)
  kinds-among t (more a l) c s j h g =
      by-test (ltb j (c + size a)) refl (λ m. kinds-in t a c s.first j h m) (λ m. kinds-among t l (c + size a) s.rest j m (omega arith))
    where
      by-test : (b : Bool) → ltb j (c + size a) ≡ b → (j < c + size a → kind_in a c j ≡ get_or t (j * 13) 0) → (c + size a ≤ j → kind_among l (c + size a) j ≡ get_or t (j * 13) 0)
          → ◌≡◌ {A = ℕ} (elim b [ true ↦ kind_in a c j | false ↦ kind_among l (c + size a) j ]) (get_or t (j * 13) 0)
      by-test true e f g = f (ltb-true j (c + size a) e)
      by-test false e f g = g (ltb-false j (c + size a) e)

kinds-at : {p : Plan} {n : ℕ} {t : List ℕ} → Spelled p n t → (j : ℕ) → j < size p.body + size p.fault → kind_at p j ≡ get_or t (j * 13) 0
unfolding kind_at
kinds-at {p} {n} {t} s j h =
    let w = plan-stands s in
    by-test (ltb j (size p.body)) refl (λ m. kinds-in t p.body 0 w.body j (omega arith) (omega arith)) (λ m. kinds-in t p.fault (size p.body) w.fault j m h)
  where
    by-test : (b : Bool) → ltb j (size p.body) ≡ b → (j < size p.body → kind_in p.body 0 j ≡ get_or t (j * 13) 0) → (size p.body ≤ j → kind_in p.fault (size p.body) j ≡ get_or t (j * 13) 0)
        → ◌≡◌ {A = ℕ} (elim b [ true ↦ kind_in p.body 0 j | false ↦ kind_in p.fault (size p.body) j ]) (get_or t (j * 13) 0)
    by-test true e f g = f (ltb-true j (size p.body) e)
    by-test false e f g = g (ltb-false j (size p.body) e)

-- the same kinds give the same weight
weight-same : (f g : ℕ → ℕ) (n k : ℕ) (ms : List ℕ) (x : ℕ) → ((j : ℕ) → k ≤ j → j < k + n → f j ≡ g j) → weight f k n ms x ≡ weight g k n ms x
unfolding weight
weight-same f g zero k ms x h = refl
weight-same f g (suc n) k ms x h =
    ap (λ (i : ℕ). weight f (k + 1) n ms (x * 9 + rank i (get_or ms k 0))) (h k (omega arith) (omega arith))
    ∙ weight-same f g n (k + 1) ms (x * 9 + rank (g k) (get_or ms k 0)) (λ j u v. h j (omega arith) (omega arith))

pub weight-spare : {p : Plan} {n : ℕ} {t : List ℕ} → Spelled p n t → (o : Order) → weight_in t n o.root o.marks ≡ spare p o
unfolding weight_in spare rows_of
weight-spare {p} {n} {t} s o =
    let f = (shaped p s.within).few in
    ap (λ (b : Bool). weight (λ k. get_or t (k * 13) 0) 0 (cond b n 0) o.marks (rank 11 o.root)) (le-leb n 256 (omega (arith, s.many)))
    ∙ (ap (λ (m : ℕ). weight (λ k. get_or t (k * 13) 0) 0 m o.marks (rank 11 o.root)) s.many
    ∙ weight-same (λ k. get_or t (k * 13) 0) (kind_at p) (size p.body + size p.fault) 0 o.marks (rank 11 o.root) (λ j u v. sym (kinds-at s j (omega arith))))
