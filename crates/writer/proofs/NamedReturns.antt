-- What the functions that check the rows of the numbers between the parts of a scope come to. Assumes nothing.
use native.Mathlib.Omega.{arith}
use native.Mathlib.Numerals.{add-one}
use mathlib.Core.Path.{◌≡◌, refl, sym, ◌∙◌}
use mathlib.Core.Bool.{Bool, true, false, ◌||◌}
use mathlib.Core.List.{List, [], ◌∷◌}
use Prim.Native.Nat.{ℕ, zero, suc, ◌+◌, ◌≤◌, ◌<◌}
use lib.Dec.{eqb}
use lib.ListN.{length, get_or, set, take}
use lib.Seq.{get_or-set_same, get_or-set_other, take-suc}
use Rattle.std.specs.List.{list_any}
use Rattle.std.proofs.lemmas.Bool.Decides.{nat_tests}
use Rattle.std.proofs.lemmas.List.Folds.{list_any-append}
use Rattle.plan.specs.Found.{among}
use Rattle.plan.specs.Numbering.{backwards}

-- `is_known`
either : (a b x y : Bool) → a ≡ x → b ≡ y → (a || b) ≡ (y || x)
either a b x y e f = rw (e, f) (flip x y)
  where
    flip : (x y : Bool) → (x || y) ≡ (y || x)
    flip true true = refl
    flip true false = refl
    flip false true = refl
    flip false false = refl

turned : (x y : ℕ) → eqb x y ≡ (eqb y x || false)
turned x y = grind (arith, nat_tests)

pub backwards_any : (x k : ℕ) (l : List ℕ) → k ≤ length l → among x (backwards k l) ≡ list_any (λ y. eqb y x) (take k l)
unfolding among backwards
backwards_any x zero l h = refl
backwards_any x (suc k) l h =
    let e : eqb x (get_or l k 0) ≡ (eqb (get_or l k 0) x || false) = turned x (get_or l k 0) in
    either (eqb x (get_or l k 0)) _ _ _ e (backwards_any x k l (omega arith))
    ∙ sym (rw (take-suc l k 0 (omega arith)) (list_any-append (λ y. eqb y x) (take k l) (get_or l k 0 ∷ [])))

-- `with_number`
backwards-same : (k i x : ℕ) (l : List ℕ) → k ≤ i → backwards k (set l i x) ≡ backwards k l
unfolding backwards
backwards-same zero i x l h = refl
backwards-same (suc k) i x l h = rw (get_or-set_other l i k x 0 (λ e. omega arith), backwards-same k i x l (omega arith))

pub with-one : (k x : ℕ) (l : List ℕ) → k < length l → backwards (k + 1) (set l k x) ≡ x ∷ backwards k l
unfolding backwards
with-one k x l h = rw (add-one k, get_or-set_same l k x 0 h, backwards-same k k x l (omega arith))
