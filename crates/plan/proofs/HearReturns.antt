-- The returns of the functions that find receives that disagree. Assumes nothing.
use borrow.Author.Tests.{eq-eqb, ne_eqb}
use native.Mathlib.Omega.{arith}
use mathlib.Core.Path.{◌≡◌, refl, sym, ap, ◌∙◌}
use mathlib.Core.List.{List, [], ◌∷◌, ◌++◌}
use Prim.Native.Nat.{ℕ, suc, ◌+◌, ◌-◌, ◌*◌, ◌%◌, ◌≤◌, ◌<◌}
use lib.ListN.{get_or, set}
use Rattle.plan.specs.Agree.{Asked, asking}
use Rattle.plan.specs.Heard.{Noted, noted, blank_heard, pair_of, heard, heard_all, ahead_of, row_asked, rows_asked, differing}

-- `hear`
module _ (t : List ℕ) (f p o m q : ℕ) {v : ℕ} (x : v ≡ get_or t (pair_of p o) 0) where
  pub hear-first : v ≡ 0 → {b : ℕ} → b ≡ m % 256 → noted (set t (pair_of p o) b) f ≡ heard (asking p o m q) (noted t f)
  unfolding heard
  hear-first e i = rw (← x, eq-eqb v 0 e, i)

  module _ (n : v ≡ 0 → ⊥) where
    pub hear-same : v ≡ m → noted t f ≡ heard (asking p o m q) (noted t f)
    unfolding heard
    hear-same e = rw (← x, ne_eqb v 0 n, eq-eqb v m e)

    module _ (d : v ≡ m → ⊥) where
      pub hear-differs : f ≡ 0 → noted t q ≡ heard (asking p o m q) (noted t f)
      unfolding heard
      hear-differs e = rw (← x, ne_eqb v 0 n, ne_eqb v m d, eq-eqb f 0 e)

      pub hear-later : (f ≡ 0 → ⊥) → noted t f ≡ heard (asking p o m q) (noted t f)
      unfolding heard
      hear-later e = rw (← x, ne_eqb v 0 n, ne_eqb v m d, ne_eqb f 0 e)

-- `hear_row`
module _ (t : List ℕ) (k : ℕ) {kind skip : ℕ} (a : kind ≡ get_or t (k * 13 + 0) 0) (b : skip ≡ ahead_of kind) (s : Noted) where
  pub row-silent : skip ≤ 0 → s ≡ heard_all (row_asked t k) s
  unfolding heard_all row_asked
  row-silent n = let e : ahead_of (get_or t (k * 13 + 0) 0) ≡ 0 = omega (arith, n, b ∙ ap ahead_of a) in rw (eq-eqb (ahead_of (get_or t (k * 13 + 0) 0)) 0 e)

  pub row-heard : 0 < skip → {p o m q : ℕ} {u : Noted} → u ≡ heard (asking p o m (q + skip)) s → p ≡ get_or t (k * 13 + 1) 0 → o ≡ get_or t (k * 13 + 2) 0
      → m ≡ get_or t (k * 13 + 3) 0 → q ≡ get_or t (k * 13 + 10) 0 → u ≡ heard_all (row_asked t k) s
  unfolding heard_all row_asked
  row-heard l h c d e f =
      let z = b ∙ ap ahead_of a in
      let n : ahead_of (get_or t (k * 13 + 0) 0) ≡ 0 → ⊥ = λ w. omega (arith, w, z) in
      rw (ne_eqb (ahead_of (get_or t (k * 13 + 0) 0)) 0 n) (h ∙ rw (c, d, e, f, z))

-- one list of what is asked for after another
pub heard-append : (a b : List Asked) (s : Noted) → heard_all (a ++ b) s ≡ heard_all b (heard_all a s)
unfolding heard_all
heard-append [] b s = refl
heard-append (x ∷ a) b s = heard-append a b (heard x s)

-- The loop of `first_differing`: what the rows from k on make of what was heard is what all make.
pub record Hearing (t : List ℕ) (n : ℕ) (seen : Noted) (k : ℕ) : Type 0 where
  pub upto : k ≤ n
  pub rest : heard_all (rows_asked (n - k) t k) seen ≡ heard_all (rows_asked n t 0) blank_heard

pub hearing-starts : (t : List ℕ) (n : ℕ) → Hearing t n blank_heard 0
hearing-starts t n = record { upto = omega arith; rest = let e : n - 0 ≡ n = omega arith in rw e }

pub hearing-again : (t : List ℕ) (n : ℕ) {seen u : Noted} {k : ℕ} → Hearing t n seen k → k < n → u ≡ heard_all (row_asked t k) seen → Hearing t n u (k + 1)
unfolding rows_asked
hearing-again t n {seen} {u} {k} h l e =
    let w : n - k ≡ suc (n - (k + 1)) = omega arith in
    let r : heard_all (row_asked t k ++ rows_asked (n - (k + 1)) t (k + 1)) seen ≡ heard_all (rows_asked n t 0) blank_heard = rw w at h.rest in
    record { upto = omega arith; rest = rw e (sym (heard-append (row_asked t k) (rows_asked (n - (k + 1)) t (k + 1)) seen) ∙ r) }

pub hearing-done : (t : List ℕ) (n : ℕ) {counts : List ℕ} {first k : ℕ} → Hearing t n (noted counts first) k → n ≤ k → first ≡ differing (rows_asked n t 0)
unfolding rows_asked heard_all differing
hearing-done t n {counts} {first} {k} h l =
    let w : n - k ≡ 0 = omega arith in
    let r : noted counts first ≡ heard_all (rows_asked n t 0) blank_heard = rw w at h.rest in
    ap (λ x. x.first) r
