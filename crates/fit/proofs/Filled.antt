-- A loop that fills an array: what holds of each place passed. Assumes nothing.
use mathlib.Core.Path.{◌≡◌, ◌∙◌}
use mathlib.Core.List.{List}
use Prim.Native.Nat.{ℕ, ◌+◌, ◌<◌, ◌≤◌}
use native.Mathlib.Decide.{ℕ_discrete}
use native.Mathlib.Omega.{arith}
use lib.ListN.{length, get_or, set, length-set}
use lib.Seq.{get_or-set_same, get_or-set_other}

pub record Filling (P : ℕ → ℕ → Type 0) (many : ℕ) (out : List ℕ) (i : ℕ) : Type 0 where
  pub long : length out ≡ many
  pub within : i ≤ many
  pub filled : (j : ℕ) → j < i → P j (get_or out j 0)

pub filling-starts : (P : ℕ → ℕ → Type 0) (many : ℕ) (out : List ℕ) → length out ≡ many → Filling P many out 0
filling-starts P many out e = record { long = e; within = omega arith; filled = λ j h. absurd (omega arith) }

module _ {P : ℕ → ℕ → Type 0} {many : ℕ} {out : List ℕ} {i : ℕ} (w : Filling P many out i) where
  pub filling-again : {r : ℕ} → i < many → P i r → Filling P many (set out i r) (i + 1)
  filling-again {r} h y = record {
    long = length-set out i r ∙ w.long;
    within = omega arith;
    filled = λ j g.
        elim (ℕ_discrete j i) [
          | yes e ↦ rw (e, get_or-set_same out i r 0 (omega (arith, w.long))) y
          | no e ↦ rw (get_or-set_other out i j r 0 e) (w.filled j (omega (arith, e)))
        ];
  }

  -- a place that is left as it was
  pub filling-passes : i < many → P i (get_or out i 0) → Filling P many out (i + 1)
  filling-passes h y = record {
    long = w.long;
    within = omega arith;
    filled = λ j g. elim (ℕ_discrete j i) [ yes e ↦ rw e y | no e ↦ w.filled j (omega (arith, e)) ];
  }

  pub filling-done : many ≤ i → (j : ℕ) → j < many → P j (get_or out j 0)
  filling-done h j g = w.filled j (omega arith)
