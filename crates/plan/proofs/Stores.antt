-- Laws of numbers stored into a list, of flags, and of the places that flags choose. Assumes nothing.
use mathlib.Core.Path.{◌≡◌, refl, ap, ◌∙◌}
use mathlib.Core.Bool.{Bool, true, false, cond, ◌||◌}
use mathlib.Core.List.{List, [], ◌∷◌, ◌++◌}
use Prim.Native.Nat.{ℕ, zero, suc, ◌+◌, ◌<◌, ◌≤◌}
use native.Mathlib.Decide.{ℕ_discrete}
use native.Mathlib.Omega.{arith}
use borrow.Author.Tests.{eq-eqb, ne_eqb}
use lib.Dec.{eqb}
use lib.ListN.{length, get_or, set, replicate, length-set, length-append, get_or-replicate}
use lib.Seq.{get_or-set_same, get_or-set_other}
use Rattle.plan.specs.Found.{among}
use Rattle.plan.specs.Store.{store, padded, flagged, chosen}

-- one more number stored
pub store-snoc : (l : List ℕ) (base offset x : ℕ) (t : List ℕ)
    → store (l ++ (x ∷ [])) base offset t ≡ set (store l base offset t) (base + (offset + length l)) x
unfolding store
store-snoc [] base offset x t = let k : base + (offset + 0) ≡ base + offset = omega arith in rw k
store-snoc (y ∷ l) base offset x t =
    let k : base + (offset + suc (length l)) ≡ base + (offset + 1 + length l) = omega arith in
    rw k (store-snoc l base (offset + 1) x (set t (base + offset) y))

pub length-store : (l : List ℕ) (base offset : ℕ) (t : List ℕ) → length (store l base offset t) ≡ length t
unfolding store
length-store [] base offset t = refl
length-store (x ∷ l) base offset t = length-store l base (offset + 1) (set t (base + offset) x) ∙ length-set t (base + offset) x

pub padded-snoc : (l : List ℕ) (x : ℕ) → padded (l ++ (x ∷ [])) ≡ set (padded l) (length l) x
unfolding padded
padded-snoc l x =
    let k : 0 + (0 + length l) ≡ length l = omega arith in
    store-snoc l 0 0 x (replicate 4 0) ∙ ap (λ (j : ℕ). set (store l 0 0 (replicate 4 0)) j x) k

pub length-snoc : (l : List ℕ) (x : ℕ) → length (l ++ (x ∷ [])) ≡ length l + 1
length-snoc l x = length-append l (x ∷ [])

-- one more flag
pub flagged-snoc : (l : List ℕ) (v : ℕ) (t : List ℕ) → flagged (l ++ (v ∷ [])) t ≡ set (flagged l t) v 1
unfolding flagged
flagged-snoc [] v t = refl
flagged-snoc (y ∷ l) v t = flagged-snoc l v (set t y 1)

pub length-flagged : (l t : List ℕ) → length (flagged l t) ≡ length t
unfolding flagged
length-flagged [] t = refl
length-flagged (v ∷ l) t = length-flagged l (set t v 1) ∙ length-set t v 1

or-true : (b : Bool) → (b || true) ≡ true
or-true true = refl
or-true false = refl

or-false : (b : Bool) → (b || false) ≡ b
or-false true = refl
or-false false = refl

-- what is flagged is what was flagged before and what is among those flagged now
pub flagged-or : (l t : List ℕ) (v : ℕ) → v < length t → eqb (get_or (flagged l t) v 0) 1 ≡ (among v l || eqb (get_or t v 0) 1)
unfolding flagged among
flagged-or [] t v h = refl
flagged-or (y ∷ l) t v h =
    let i : v < length (set t y 1) = rw length-set h in
    flagged-or l (set t y 1) v i ∙
    elim (ℕ_discrete v y) [
      | yes e ↦ rw (eq-eqb v y e, ← e, get_or-set_same t v 1 0 h) (or-true (among v l))
      | no n ↦ rw (ne_eqb v y n, get_or-set_other t y v 1 0 n)
    ]

pub flagged-among : (l : List ℕ) (v : ℕ) → v < 16 → eqb (get_or (flagged l (replicate 16 0)) v 0) 1 ≡ among v l
flagged-among l v h =
    flagged-or l (replicate 16 0) v h ∙ rw (get_or-replicate {A = ℕ} 16 v 0 0 h) (or-false (among v l))

-- what stands before the first place is not chosen
chosen-above : (flags : List ℕ) (k x : ℕ) → x < k → among x (chosen k flags) ≡ false
unfolding chosen among
chosen-above [] k x h = refl
chosen-above (f ∷ l) k x h =
    let r : among x (chosen (k + 1) l) ≡ false = chosen-above l (k + 1) x (omega arith) in
    elim (ℕ_discrete f 1) [
      | yes e ↦ rw (eq-eqb f 1 e, ne_eqb x k (λ q. omega arith)) r
      | no n ↦ rw (ne_eqb f 1 n) r
    ]

-- a place is chosen where its flag is 1
pub chosen_at : (flags : List ℕ) (k v x : ℕ) → x ≡ k + v → among x (chosen k flags) ≡ eqb (get_or flags v 0) 1
unfolding chosen among
chosen_at [] k v x e = refl
chosen_at (f ∷ l) k zero x e =
    elim (ℕ_discrete f 1) [
      | yes o ↦ rw (eq-eqb f 1 o, eq-eqb x k (omega arith))
      | no n ↦ rw (ne_eqb f 1 n) (chosen-above l (k + 1) x (omega arith))
    ]
chosen_at (f ∷ l) k (suc v) x e =
    let r : among x (chosen (k + 1) l) ≡ eqb (get_or l v 0) 1 = chosen_at l (k + 1) v x (omega arith) in
    elim (ℕ_discrete f 1) [
      | yes o ↦ rw (eq-eqb f 1 o, ne_eqb x k (λ q. omega arith)) r
      | no n ↦ rw (ne_eqb f 1 n) r
    ]

-- each of the blank flags is 0
pub get_d-blank : (n j : ℕ) → get_or {A = ℕ} (replicate n 0) j 0 ≡ 0
get_d-blank zero j = refl
get_d-blank (suc n) zero = refl
get_d-blank (suc n) (suc j) = get_d-blank n j

-- blank flags choose nothing
pub chosen-blank : (flags : List ℕ) (k : ℕ) → ((j : ℕ) → get_or flags j 0 ≡ 0) → chosen k flags ≡ []
unfolding chosen
chosen-blank [] k z = refl
chosen-blank (f ∷ l) k z =
    let o : f ≡ 0 = z 0 in
    rw o (chosen-blank l (k + 1) (λ j. z (suc j)))

cond-snoc : (b : Bool) (k x : ℕ) (l : List ℕ) → cond b (k ∷ (l ++ (x ∷ []))) (l ++ (x ∷ [])) ≡ cond b (k ∷ l) l ++ (x ∷ [])
cond-snoc true k x l = refl
cond-snoc false k x l = refl

-- one more flag, behind all the others, chooses one more place, behind all the others
pub chosen-snoc : (flags : List ℕ) (k v : ℕ) → v < length flags → ((j : ℕ) → v ≤ j → get_or flags j 0 ≡ 0)
    → chosen k (set flags v 1) ≡ chosen k flags ++ ((k + v) ∷ [])
unfolding chosen
chosen-snoc [] k v h z = absurd (omega arith)
chosen-snoc (f ∷ l) k zero h z =
    let o : f ≡ 0 = z 0 (omega arith) in
    let a : k + 0 ≡ k = omega arith in
    rw (o, a, chosen-blank l (k + 1) (λ j. z (suc j) (omega arith)))
chosen-snoc (f ∷ l) k (suc v) h z =
    let r = chosen-snoc l (k + 1) v (omega arith) (λ j g. z (suc j) (omega arith)) in
    let a : k + 1 + v ≡ k + suc v = omega arith in
    rw (r, a) (cond-snoc (eqb f 1) k (k + suc v) (chosen (k + 1) l))
