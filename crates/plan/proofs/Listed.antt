-- What `contains` answers, by what the definitions find among the numbers that are read. Assumes nothing.
use native.Mathlib.Omega.{arith}
use native.Mathlib.Numerals.{add-one}
use mathlib.Core.Path.{◌≡◌, refl, ◌∙◌}
use mathlib.Core.Bool.{Bool, true, false, ◌||◌}
use mathlib.Core.List.{List, [], ◌∷◌}
use Prim.Native.Nat.{ℕ, zero, suc, ◌≤◌}
use lib.Dec.{eqb}
use lib.ListN.{length, get_or, take}
use Rattle.std.specs.List.{list_any}
use Rattle.std.proofs.lemmas.List.Folds.{list_any_more}
use Rattle.plan.specs.Found.{among}
use Rattle.plan.specs.Numbering.{backwards}
use Rattle.plan.specs.Store.{store, padded}

eqb-swap : (x y : ℕ) → eqb x y ≡ eqb y x
eqb-swap x y = grind arith

or-swap : (a b : Bool) → (a || b) ≡ (b || a)
or-swap true true = refl
or-swap true false = refl
or-swap false true = refl
or-swap false false = refl

-- of the first k, the latest first
pub among-listed : (x : ℕ) (l : List ℕ) (k : ℕ) → k ≤ length l → list_any (λ y. eqb y x) (take k l) ≡ among x (backwards k l)
unfolding backwards among
among-listed x l zero h = refl
among-listed x l (suc k) h =
    let e : list_any (λ y. eqb y x) (take (suc k) l) ≡ (list_any (λ y. eqb y x) (take k l) || eqb (get_or l k 0) x) =
    rw (add-one k) at (list_any_more (λ y. eqb y x) l k 0 (omega arith)) in
    e ∙ or-swap (list_any (λ y. eqb y x) (take k l)) (eqb (get_or l k 0) x) ∙ rw (eqb-swap (get_or l k 0) x, among-listed x l k (omega arith))

listed : (x : ℕ) (l : List ℕ) → list_any (λ y. eqb y x) l ≡ among x l
unfolding among
listed x [] = refl
listed x (y ∷ l) = rw (eqb-swap y x, listed x l)

padded-taken : (l : List ℕ) → length l ≤ 4 → take (length l) (padded l) ≡ l
unfolding padded store
padded-taken [] h = refl
padded-taken (a ∷ []) h = refl
padded-taken (a ∷ b ∷ []) h = refl
padded-taken (a ∷ b ∷ c ∷ []) h = refl
padded-taken (a ∷ b ∷ c ∷ d ∷ []) h = refl
padded-taken (a ∷ b ∷ c ∷ d ∷ e ∷ l) h = absurd (omega arith)

-- of a tuple's variables
pub among-padded : (x : ℕ) (l : List ℕ) → length l ≤ 4 → list_any (λ y. eqb y x) (take (length l) (padded l)) ≡ among x l
among-padded x l h = rw (padded-taken l h) (listed x l)
