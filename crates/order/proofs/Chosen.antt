-- A mark with a choice in it: the one of the nine that it is, and the choice, come out again. Assumes nothing.
use mathlib.Core.Path.{◌≡◌, refl}
use mathlib.Core.Bool.{Bool, true, false, cond}
use mathlib.Core.List.{List, [], ◌∷◌}
use Prim.Native.Nat.{ℕ, ◌+◌, ◌<◌, ◌≤◌}
use native.Mathlib.Omega.{arith}
use borrow.Author.Tests.{ne_eqb, leb-true}
use lib.Dec.{eqb, leb}
use lib.ListN.{length}
use Rattle.order.specs.State.{idle, mark_with, state_in, choice_in}
use Rattle.order.specs.Scope.{general_for, part_for}

-- one of the nine alone has no choice in it
pub state-alone : (m : ℕ) → m < 16 → state_in m ≡ m
state-alone m h = omega arith

pub choice-alone : (m : ℕ) → m < 16 → choice_in m ≡ 0
choice-alone m h = omega arith

pub state-with : (c m : ℕ) → m < 16 → state_in (mark_with c m) ≡ m
state-with c m h = omega arith

pub choice-with : (c m : ℕ) → m < 16 → choice_in (mark_with c m) ≡ c
choice-with c m h = omega arith

-- what is not idle is so with any choice
pub with-live : (c m : ℕ) → 0 < m → eqb (mark_with c m) idle ≡ false
with-live c m h = ne_eqb (mark_with c m) idle (omega arith)

-- a choice is one of eight parts by number, or says beside the general part which fault it was: it has room in a byte beside a mark
pub general-most : (x : ℕ) → general_for x ≤ 15
general-most x = go (leb x 5) refl
  where
    go : (b : Bool) → leb x 5 ≡ b → cond b (9 + x) 15 ≤ 15
    go true e = omega (arith, leb-true x 5 e)
    go false e = omega arith

pub part-most : (x i : ℕ) (ns : List ℕ) → i + length ns ≤ 16 → part_for x i ns ≤ 15
unfolding part_for
part-most x i [] h = general-most x
part-most x i (y ∷ l) h = go (eqb x y) (part-most x (i + 1) l (omega arith))
  where
    go : (b : Bool) → part_for x (i + 1) l ≤ 15 → cond b i (part_for x (i + 1) l) ≤ 15
    go true g = omega arith
    go false g = g
