-- What a buffer holds after numbers were written into it, and the return of `put` where there is no place. Assumes nothing.
use mathlib.Core.Path.{◌≡◌, refl, sym, ap, ◌∙◌}
use mathlib.Core.List.{List, [], ◌∷◌, ◌++◌}
use Prim.Native.Nat.{ℕ, zero, suc, ◌+◌, ◌<◌, ◌≤◌}
use native.Mathlib.Omega.{arith}
use lib.ListN.{length, take, drop, set}
use Rattle.answers.specs.Numbering.{filled}

-- a number for which there is no place
pub set_beyond : (l : List ℕ) (i x : ℕ) → length l ≤ i → l ≡ set l i x
set_beyond [] i x h = refl
set_beyond (y ∷ l) zero x h = absurd (omega arith)
set_beyond (y ∷ l) (suc i) x h = ap (λ (k : List ℕ). y ∷ k) (set_beyond l i x (omega arith))

-- behind a number that stays
filled-behind : (i : ℕ) (l : List ℕ) (y : ℕ) (out : List ℕ) → filled (suc i) l (y ∷ out) ≡ y ∷ filled i l out
unfolding filled
filled-behind i [] y out = refl
filled-behind i (x ∷ l) y out = let z : suc i + 1 ≡ suc (i + 1) = omega arith in rw z (filled-behind (i + 1) l y (set out i x))

-- THE BUFFER AFTERWARDS: as many of the numbers as there is room for, and behind them what was there
pub filled-front : (l out : List ℕ) → filled 0 l out ≡ take (length out) l ++ drop (length l) out
unfolding filled
filled-front [] out = none (length out)
  where
    none : (n : ℕ) → out ≡ take n [] ++ out
    none zero = refl
    none (suc n) = refl
filled-front (x ∷ l) [] = beyond 1 l
  where
    beyond : (i : ℕ) (k : List ℕ) → filled i k [] ≡ []
    beyond i [] = refl
    beyond i (y ∷ k) = beyond (i + 1) k
filled-front (x ∷ l) (y ∷ out) = filled-behind 0 l x out ∙ ap (λ (k : List ℕ). x ∷ k) (filled-front l out)
