-- The returns of the functions on ranks. Assumes nothing.
use Prim.Native.Nat.{ℕ, suc, ◌+◌, ◌*◌, ◌-◌, ◌≤◌, ◌<◌}
use native.Mathlib.Omega.{arith}
use mathlib.Core.Path.{◌≡◌, sym, ap, subst, ◌∙◌}
use mathlib.Core.Bool.{Bool, false}
use mathlib.Core.List.{List}
use lib.ListN.{get_or}
use lib.Dec.{ltb}
use borrow.Author.Tests.{lt-ltb, le-ltb, ltb-true, ltb-false}
use Rattle.order.specs.Judging.{rank, weight}
use Rattle.settling.specs.Answering.{rows_of, Counts, RankAt, weight_in, Lowers}
use Rattle.settling.proofs.Parts.{decide}
use Rattle.settling.proofs.Settling.{weight-less}

-- `is_lower`: the first rank that differs tells
weight-tells : (f : ℕ → ℕ) (n k : ℕ) (ms os : List ℕ) (x y : ℕ) → (x ≡ y → ⊥) → ltb y x ≡ ltb (weight f k n os y) (weight f k n ms x)
weight-tells f n k ms os x y d =
    decide (ltb y x)
    (λ e. e ∙ sym (lt-ltb (weight f k n os y) (weight f k n ms x) (weight-less f n k ms os y x (ltb-true y x e))))
    (λ e. let g : x ≤ y = ltb-false y x e in
    let h : x < y = omega arith in
    let w = weight-less f n k os ms x y h in
    e ∙ sym (le-ltb (weight f k n os y) (weight f k n ms x) (omega (arith, w))))

-- the kinds in the rows of a table
abbrev kinds_in : List ℕ → ℕ → ℕ
kinds_in t k = get_or t (k * 13) 0

pub lower-root : (t : List ℕ) (n b a : ℕ) (ms os : List ℕ) {x y : ℕ} → x ≡ rank 11 b → y ≡ rank 11 a → (x ≡ y → ⊥) → Lowers t n b ms a os (ltb y x)
unfolding weight_in
lower-root t n b a ms os e d g = record { is = rw (e, d) (weight-tells (λ k. get_or t (k * 13) 0) (rows_of n) 0 ms os _ _ (λ z. g (e ∙ (z ∙ sym d)))) }

-- the loop: what tells the rest tells the whole
pub record Comparing (t : List ℕ) (n b : ℕ) (ms : List ℕ) (a : ℕ) (os : List ℕ) (k : ℕ) : Type 0 where
  pub within : k ≤ rows_of n
  pub is : (r : Bool) → ((x : ℕ) → r ≡ ltb (weight (λ k. get_or t (k * 13) 0) k (rows_of n - k) os x) (weight (λ k. get_or t (k * 13) 0) k (rows_of n - k) ms x))
      → Lowers t n b ms a os r

pub comparing-starts : (t : List ℕ) (n : ℕ) (ms os : List ℕ) {b a x y : ℕ} → x ≡ rank 11 b → y ≡ rank 11 a → x ≡ y → Comparing t n b ms a os 0
unfolding weight_in
comparing-starts t n ms os {b} {a} e d g =
    record {
      within = omega arith;
      is = λ r h.
          let z : rank 11 b ≡ rank 11 a = sym e ∙ (g ∙ d) in
          let i : rows_of n - 0 ≡ rows_of n = omega arith in
          record {
            is = subst (λ (y : ℕ). r ≡ ltb (weight (kinds_in t) 0 (rows_of n) os y) (weight (kinds_in t) 0 (rows_of n) ms (rank 11 b))) z
                (subst (λ (m : ℕ). r ≡ ltb (weight (kinds_in t) 0 m os (rank 11 b)) (weight (kinds_in t) 0 m ms (rank 11 b))) i (h (rank 11 b)));
          };
    }

module _ {t : List ℕ} {n b : ℕ} {ms : List ℕ} {a : ℕ} {os : List ℕ} {k : ℕ} (c : Comparing t n b ms a os k) where
  abbrev f : ℕ → ℕ
  f j = get_or t (j * 13) 0

  -- one row of those that are left
  one_more : (m : ℕ) (ls : List ℕ) (x : ℕ) → rows_of n - k ≡ suc m → weight f k (rows_of n - k) ls x ≡ weight f (k + 1) m ls (x * 9 + rank (f k) (get_or ls k 0))
  unfolding weight
  one_more m ls x e = rw e

  pub comparing-again : {r v w : ℕ} → Counts n r → k < r → RankAt t ms k v → RankAt t os k w → v ≡ w → Comparing t n b ms a os (k + 1)
  comparing-again {r} {v} {w} z' h e' d' g =
      let z = z'.is in
      let e = e'.is in
      let d = d'.is in
      record {
        within = omega arith;
        is = λ q j. c.is q (λ x.
            let i : rows_of n - k ≡ suc (rows_of n - (k + 1)) = omega arith in
            let u : rank (f k) (get_or os k 0) ≡ rank (f k) (get_or ms k 0) = sym d ∙ (sym g ∙ e) in
            j (x * 9 + rank (f k) (get_or ms k 0))
            ∙ sym (ap (λ (y : ℕ). ltb y (weight f k (rows_of n - k) ms x)) (one_more (rows_of n - (k + 1)) os x i ∙ ap (λ (y : ℕ). weight f (k + 1) (rows_of n - (k + 1)) os (x * 9 + y)) u)
            ∙ ap (λ (y : ℕ). ltb (weight f (k + 1) (rows_of n - (k + 1)) os (x * 9 + rank (f k) (get_or ms k 0))) y) (one_more (rows_of n - (k + 1)) ms x i)));
      }

  pub comparing-tells : {r v w : ℕ} → Counts n r → k < r → RankAt t ms k v → RankAt t os k w → (v ≡ w → ⊥) → Lowers t n b ms a os (ltb w v)
  comparing-tells {r} {v} {w} z' h e' d' g =
      let z = z'.is in
      let e = e'.is in
      let d = d'.is in
      c.is (ltb w v) (λ x.
      let i : rows_of n - k ≡ suc (rows_of n - (k + 1)) = omega arith in
      shift x v w
      ∙ (weight-tells f (rows_of n - (k + 1)) (k + 1) ms os (x * 9 + v) (x * 9 + w) (λ y. g (omega arith))
      ∙ sym (ap (λ (y : ℕ). ltb y (weight f k (rows_of n - k) ms x)) (one_more (rows_of n - (k + 1)) os x i ∙ ap (λ (y : ℕ). weight f (k + 1) (rows_of n - (k + 1)) os (x * 9 + y)) (sym d))
      ∙ ap (λ (y : ℕ). ltb (weight f (k + 1) (rows_of n - (k + 1)) os (x * 9 + w)) y) (one_more (rows_of n - (k + 1)) ms x i ∙ ap (λ (y : ℕ). weight f (k + 1) (rows_of n - (k + 1)) ms (x * 9 + y)) (sym e)))))
    where
      shift : (x v w : ℕ) → ltb w v ≡ ltb (x * 9 + w) (x * 9 + v)
      shift x v w =
          decide (ltb w v) (λ e. let l = ltb-true w v e in e ∙ sym (lt-ltb (x * 9 + w) (x * 9 + v) (omega arith)))
          (λ e. let l = ltb-false w v e in e ∙ sym (le-ltb (x * 9 + w) (x * 9 + v) (omega arith)))

  pub comparing-done : {r : ℕ} → Counts n r → r ≤ k → Lowers t n b ms a os false
  unfolding weight
  comparing-done {r} z' h =
      let z = z'.is in
      c.is false (λ x. let i : rows_of n - k ≡ 0 = omega arith in rw i (sym (le-ltb x x (omega arith))))
