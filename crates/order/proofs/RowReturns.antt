-- The returns of the functions on the rows of a plan's table. Assumes nothing.
use mathlib.Core.Path.{◌≡◌, ◌∙◌}
use mathlib.Core.Bool.{Bool, false}
use mathlib.Core.List.{List}
use Prim.Native.Nat.{ℕ, ◌+◌, ◌-◌, ◌≤◌}
use native.Mathlib.Omega.{arith}
use Rattle.plan.specs.Tree.{more, size, sizes}
use Rattle.order.specs.declared.Spot.{Spot}
use Rattle.order.specs.Answering.{Made, scope_act, PartsCount, SpotAt}
use Rattle.order.specs.Begin.{part, part_at}
use Rattle.order.specs.Stands.{End, Stands}
use Rattle.order.proofs.Standing.{size-pos, stands-inside, stands-end, first-at, general-is, scope-numbers, scope-counted, has-general}

-- `spot_at`
pub spot-far : (t : List ℕ) (k : ℕ) {z : Spot} → 256 ≤ k → SpotAt t k z
spot-far t k h = record {
  held = λ v x s. absurd (omega (arith, stands-inside (scope_act v x) k t s, size-pos (scope_act v x)));
  same = λ v x s. absurd (omega (arith, stands-inside (scope_act v x) k t s, size-pos (scope_act v x)));
}

pub spot_is : (t : List ℕ) (k : ℕ) {e f n : ℕ} → End t k e → End t (k + 1) f → PartsCount t k n
    → SpotAt t k (record { root = false; first = k; end = e; body = k + 1; parts = f; count = n })
unfolding Stands size part part_at
spot_is t k {e} {f} {n} x y c = record {
  held = λ v m s.
      let q : f ≡ k + 1 + size m.body = parts_at v m s in
      let w = scope-numbers t k m.numbers v (more m.body m.parts) s in
      let d = scope-counted t k m.numbers v (more m.body m.parts) s in
      record {
        end = x.within;
        body = s.rest.first;
        next = q;
        parts = rw q s.rest.rest;
        general = has-general t k v m s;
        many = c.is w.row (omega (arith, w.few)) ∙ d;
        numbers = w;
      };
  same = λ v m s.
      let q : f ≡ k + 1 + size m.body = parts_at v m s in
      let g : e - k ≡ 1 + sizes (more m.body m.parts) = omega (arith, stands-end (scope_act v m) k t s x) in
      rw (q, g, general-is m.numbers, first-at m.parts (k + 1 + size m.body));
}
  where
    parts_at : (v : Bool) (m : Made) → Stands (scope_act v m) k t → f ≡ k + 1 + size m.body
    parts_at v m s = stands-end m.body (k + 1) t s.rest.first y
