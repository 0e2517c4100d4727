-- The parts of an order's closings, copied one by one. Assumes nothing.
use mathlib.Core.Path.{◌≡◌, refl, ap}
use mathlib.Core.List.{List, [], ◌∷◌}
use Prim.Native.Nat.{ℕ, zero, suc, ◌+◌, ◌<◌, ◌≤◌}
use native.Mathlib.Omega.{arith}
use lib.ListN.{length, get_or, set}
use Rattle.order.specs.declared.Closing.{Closing}
use Rattle.order.specs.declared.Order.{Order}
use Rattle.order.specs.State.{closing_of}
use Rattle.fit.proofs.Filled.{Filling, filling-starts, filling-again, filling-done}
use Rattle.sight.specs.Sights.{Remembers}

-- `parts_of`: the parts of the first i closings are copied
pub record PartAt (l : List Closing) (i r : ℕ) : Type 0 where
  pub is : r ≡ (get_or l i (closing_of 0 0)).part

pub record Parting (l : List Closing) (out : List ℕ) (i : ℕ) : Type 0 where
  pub long : length l ≡ 32
  pub filling : Filling (PartAt l) 32 out i

pub parting-starts : (l : List Closing) (out : List ℕ) → length l ≡ 32 → length out ≡ 32 → Parting l out 0
parting-starts l out e f = record { long = e; filling = filling-starts (PartAt l) 32 out f }

closing-there : (l : List Closing) (i : ℕ) (d e : Closing) → i < length l → get_or l i d ≡ get_or l i e
closing-there [] i d e h = absurd (omega arith)
closing-there (x ∷ l) zero d e h = refl
closing-there (x ∷ l) (suc i) d e h = closing-there l i d e (omega arith)

pub parting-again : {l : List Closing} {out : List ℕ} {i : ℕ} (d : Closing) → Parting l out i → i < 32 → Parting l (set out i (get_or l i d).part) (i + 1)
parting-again {l} {out} {i} d w h = record {
  long = w.long;
  filling = filling-again w.filling h (record { is = ap (λ c. c.part) (closing-there l i d (closing_of 0 0) (omega (arith, w.long))) });
}

pub parting-done : (o : Order) {out : List ℕ} {i : ℕ} → Parting o.remembered out i → 32 ≤ i → Remembers o out
parting-done o w h = record { long = w.long; is = λ j g. (filling-done w.filling h j g).is }
