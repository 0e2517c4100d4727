-- The loops that look at all numbers of an order, by the largest of them. Assumes nothing.
use mathlib.Core.Path.{◌≡◌, refl, sym, ◌∙◌}
use mathlib.Core.Bool.{Bool, true, false, ◌&&◌}
use mathlib.Core.List.{List}
use Prim.Native.Nat.{ℕ, ◌+◌, ◌<◌, ◌≤◌}
use native.Mathlib.Numerals.{add-one}
use native.Mathlib.Omega.{arith}
use borrow.Author.Tests.{le-leb}
use lib.Dec.{leb}
use lib.ListN.{length, get_or, drop, drop_of_length-le}
use lib.Seq.{drop-cons}
use Rattle.std.proofs.lemmas.Bool.Decides.{nat_tests}
use Rattle.std.specs.Ordering.{ord_max, nat_cmp}
use Rattle.order.specs.Lists.{every}
use Rattle.machine.specs.Planned.{Bare}
use Rattle.machine.specs.Limits.{mark_in_limits}

larger : (a b n : ℕ) → leb (ord_max nat_cmp a b) n ≡ (leb a n && leb b n)
larger a b n = grind (arith, nat_tests)

grouped : (x y z : Bool) → (x && (y && z)) ≡ ((x && y) && z)
grouped true y z = refl
grouped false y z = refl

alone : (x : Bool) → (x && true) ≡ x
alone true = refl
alone false = refl

-- `at_most`: all numbers are at most m if the largest of those before the place i is, and all from there on are
pub record Most (m : ℕ) (l : List ℕ) (i largest : ℕ) : Type 0 where
  pub same : every (λ x. leb x m) l ≡ (leb largest m && every (λ x. leb x m) (drop i l))

pub most-starts : (m : ℕ) (l : List ℕ) → Most m l 0 0
most-starts m l = record { same = rw (le-leb 0 m (omega arith)) }

module _ {m : ℕ} {l : List ℕ} {i largest : ℕ} (a : Most m l i largest) where
  pub most-more : i < length l → {r : ℕ} → r ≡ ord_max nat_cmp largest (get_or l i 0) → Most m l (i + 1) r
  unfolding every
  most-more h e = record {
    same = a.same ∙ rw (drop-cons l i 0 h, add-one i, e, larger largest (get_or l i 0) m) (grouped (leb largest m) (leb (get_or l i 0) m) _);
  }

  pub most-done : length l ≤ i → leb largest m ≡ every (λ x. leb x m) l
  unfolding every
  most-done h = sym (a.same ∙ rw (drop_of_length-le l h) (alone (leb largest m)))

-- `marks_ruled`: all marks are within their limits if the largest of those before the place i, without their choices, is at most 8, and all from there on are
pub record Ruling (l : List ℕ) (i largest : ℕ) : Type 0 where
  pub same : every mark_in_limits l ≡ (leb largest 8 && every mark_in_limits (drop i l))

pub ruling-starts : (l : List ℕ) → Ruling l 0 0
ruling-starts l = record { same = refl }

module _ {l : List ℕ} {i largest : ℕ} (a : Ruling l i largest) where
  pub ruling-more : i < length l → {b r : ℕ} → Bare (get_or l i 0) b → r ≡ ord_max nat_cmp largest b → Ruling l (i + 1) r
  unfolding every
  ruling-more h {b} e f = record {
    same = a.same ∙ rw (drop-cons l i 0 h, add-one i, f, larger largest b 8, e.is) (grouped (leb largest 8) (mark_in_limits (get_or l i 0)) _);
  }

  pub ruling-done : length l ≤ i → leb largest 8 ≡ every mark_in_limits l
  unfolding every
  ruling-done h = sym (a.same ∙ rw (drop_of_length-le l h) (alone (leb largest 8)))
