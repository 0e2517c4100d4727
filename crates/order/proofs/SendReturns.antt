-- The returns of the functions that say whether a send would send. Assumes nothing.
use mathlib.Core.Path.{◌≡◌, refl, sym, ◌∙◌}
use mathlib.Core.Bool.{Bool, true, false, ◌&&◌}
use mathlib.Core.List.{List}
use Prim.Native.Nat.{ℕ, ◌+◌, ◌*◌, ◌<◌, ◌≤◌}
use native.Mathlib.Numerals.{add-one}
use native.Mathlib.Omega.{arith}
use borrow.Author.Tests.{ne_eqb}
use lib.Dec.{leb}
use lib.ListN.{length, get_or, drop, drop_of_length-le, get_or-eq_default}
use lib.Seq.{drop-cons}
use Rattle.order.specs.declared.Order.{Order}
use Rattle.order.specs.Answering.{CountOf, VariableOf, Tuple, Bindings, BoundAt, TupleBound, AllBound, PartnerTo, Reaches}
use Rattle.order.specs.Lists.{every}
use Rattle.order.specs.State.{is_bound}

-- `bound_at`, `value_at`
beyond : {l m : List ℕ} (v : ℕ) → m ≡ l → length l ≡ 16 → 16 ≤ v → get_or m v 0 ≡ 0
beyond {l} v e s h = rw e (let z : length l ≤ v = omega (arith, s) in get_or-eq_default l 0 z)

-- the count of a row is that of the variables that it names
tuple-count : {t : List ℕ} {k n : ℕ} {vs : List ℕ} → k < 256 → CountOf t k n → Tuple t k vs → n ≡ length vs
tuple-count h c m = c.is h (omega (arith, m.count, m.few)) ∙ m.count

-- the loop of `tuple_bound`: those before are bound
pub record Checking (t : List ℕ) (k : ℕ) (bound : List ℕ) (i : ℕ) : Type 0 where
  pub is : (o : Order) (vs : List ℕ) → Bindings o bound → Tuple t k vs → every (is_bound o) vs ≡ every (is_bound o) (drop i vs)

module _ {t : List ℕ} {k : ℕ} {bound : List ℕ} {i n : ℕ} (z : k < 256) (w : Checking t k bound i) (c : CountOf t k n) where
  pub checking-done : n ≤ i → TupleBound t k bound true
  unfolding every
  checking-done h = record {
    is = λ o vs b m. let g : length vs ≤ i = omega (arith, tuple-count z c m) in sym (w.is o vs b m ∙ rw (drop_of_length-le vs g));
  }

  module _ (h : i < n) {v : ℕ} (q : VariableOf t k i v) {r : Bool} (x : BoundAt bound v r) where
    next-bound : (o : Order) (vs : List ℕ) → Bindings o bound → Tuple t k vs → every (is_bound o) (drop i vs) ≡ (r && every (is_bound o) (drop (i + 1) vs))
    unfolding every
    next-bound o vs b m =
        let g : i < length vs = omega (arith, tuple-count z c m) in
        let f : i < 4 = omega (arith, m.few) in
        let u : v ≡ get_or vs i 0 = q.is z f ∙ m.variables i f in
        let y : r ≡ is_bound o (get_or vs i 0) = rw u at (x.is o b) in
        rw (y, add-one, drop-cons vs i 0 g)

    pub checking-again : r ≡ true → Checking t k bound (i + 1)
    checking-again e = record { is = λ o vs b m. w.is o vs b m ∙ (rw e at (next-bound o vs b m)) }

    pub checking-fails : r ≡ false → TupleBound t k bound false
    checking-fails e = record { is = λ o vs b m. sym (w.is o vs b m ∙ (rw e at (next-bound o vs b m))) }

-- `all_bound`
pub all-beyond : (t : List ℕ) (k : ℕ) (bound : List ℕ) → 256 ≤ k → AllBound t k bound false
all-beyond t k bound h = record { is = λ o vs g b m. absurd (omega arith); beyond = λ g. refl }

module _ {t : List ℕ} {k : ℕ} {bound : List ℕ} (z : k < 256) where
  module _ (h : get_or t (k * 13) 0 ≡ 17) {r : Bool} (x : BoundAt bound (get_or t (k * 13 + 8) 0) r) where
    pub held-bound : r ≡ true → {q : Bool} → TupleBound t k bound q → AllBound t k bound q
    unfolding every
    held-bound e y = record { is = λ o vs g b m. rw (h, sym (x.is o b) ∙ e) (y.is o vs b m); beyond = λ g. absurd (omega arith) }

    pub held-unbound : r ≡ false → AllBound t k bound false
    unfolding every
    held-unbound e = record { is = λ o vs g b m. rw (h, sym (x.is o b) ∙ e); beyond = λ g. refl }

  pub tuple-all : (get_or t (k * 13) 0 ≡ 17 → ⊥) → {q : Bool} → TupleBound t k bound q → AllBound t k bound q
  tuple-all h y = record { is = λ o vs g b m. rw (ne_eqb _ _ h) (y.is o vs b m); beyond = λ g. absurd (omega arith) }

-- `partner_to`, `reaches`
module _ (t : List ℕ) (k : ℕ) {values : List ℕ} where
  pub reaches-held : get_or t (k * 13) 0 ≡ 17 → {r : ℕ} → PartnerTo t k values r → Reaches t k values (leb r 63)
  reaches-held h x = record { is = λ o b. rw (x.is o b, h) }
