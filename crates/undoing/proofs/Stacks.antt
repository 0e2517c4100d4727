-- What is pending, and a book that has an entry for each of it, in its order: what a step that takes back does to both. Assumes nothing.
use Prim.Native.Nat.{ℕ}
use native.Mathlib.Omega.{arith}
use mathlib.Core.Path.{◌≡◌, refl, sym, ap, subst, ◌∙◌}
use mathlib.Core.Bool.{Bool, true, false, cond, not, ◌||◌, false≢true, or-true}
use mathlib.Core.List.{List, [], ◌∷◌, ◌++◌, append-nil}
use lib.Dec.{eqb}
use borrow.Author.Tests.{eqb-true}
use Rattle.order.specs.Lists.{some, only}
use Rattle.undoing.specs.Answered.{putting, without}
use Rattle.undoing.specs.LatestFirst.{taken_from, is_owed}
use Rattle.undoing.proofs.Parts.{decide}

-- all of one is in the other
pub record Sub (x b : List ℕ) : Type 0 where
  pub at : (t : ℕ) → some (eqb t) x ≡ true → some (eqb t) b ≡ true

-- Each of these has an entry in a book, in this order.
pub data Kept : (pending book : List (List ℕ)) → Type 0 where
  kept-none : {d : List (List ℕ)} → Kept [] d
  kept-over : {q d : List (List ℕ)} {b : List ℕ} → Kept q d → Kept q (b ∷ d)
  kept-one : {x b : List ℕ} {q d : List (List ℕ)} → Sub x b → Kept q d → Kept (x ∷ q) (b ∷ d)

-- less is pending
kept-rest : {x : List ℕ} {q d : List (List ℕ)} → Kept (x ∷ q) d → Kept q d
kept-rest (kept-over k) = kept-over (kept-rest k)
kept-rest (kept-one s k) = kept-over k

pub kept-after : (xs : List (List ℕ)) {q d : List (List ℕ)} → Kept (xs ++ q) d → Kept q d
kept-after [] k = k
kept-after (x ∷ xs) k = kept-after xs (kept-rest k)

-- what is left of a list without t
pub some-less : (s t : ℕ) (l : List ℕ) → some (eqb s) (without t l) ≡ true → some (eqb s) l ≡ true
unfolding some only
some-less s t [] h = absurd (false≢true h)
some-less s t (x ∷ l) h =
    decide (eqb s x) (λ e. rw e) (λ e. decide (eqb t x) (λ d. rw e (some-less s t l (rw d at h))) (λ d. rw e (some-less s t l (rw (d, e) at h))))

-- it is not t
pub less_other : (s t : ℕ) (l : List ℕ) → some (eqb s) (without t l) ≡ true → eqb t s ≡ false
unfolding some only
less_other s t [] h = absurd (false≢true h)
less_other s t (x ∷ l) h =
    decide (eqb t x)
    (λ d. less_other s t l (rw d at h))
    (λ d. decide (eqb s x) (λ e. ap (eqb t) (eqb-true s x e) ∙ d) (λ e. less_other s t l (rw (d, e) at h)))

pub some-without : (s t : ℕ) (l : List ℕ) → some (eqb s) l ≡ true → eqb t s ≡ false → some (eqb s) (without t l) ≡ true
unfolding some only
some-without s t [] h e = absurd (false≢true h)
some-without s t (x ∷ l) h e =
    decide (eqb s x)
    (λ d. let z : eqb t x ≡ false = ap (eqb t) (sym (eqb-true s x d)) ∙ e in rw (z, d))
    (λ d. decide (eqb t x) (λ z. rw z (some-without s t l (rw d at h) e)) (λ z. rw (z, d) (some-without s t l (rw d at h) e)))

less-sub : (t : ℕ) {x b : List ℕ} → Sub x b → Sub (without t x) (without t b)
less-sub t {x} {b} s = record { at = λ i h. some-without i t b (s.at i (some-less i t x h)) (less_other i t x h) }

less-here : (t : ℕ) {x : List ℕ} {q d : List (List ℕ)} → Kept (x ∷ q) d → Kept (without t x ∷ q) d
less-here t (kept-over k) = kept-over (less-here t k)
less-here t {x} (kept-one s k) = kept-one (record { at = λ i h. s.at i (some-less i t x h) }) k

-- A step of the first that is pending: it is owed, and no longer.
pub kept-owed : (t : ℕ) {x : List ℕ} {q d : List (List ℕ)} → some (eqb t) x ≡ true → Kept (x ∷ q) d → is_owed t d ≡ true
unfolding some
kept-owed t h (kept-over k) = rw (kept-owed t h k, or-true)
kept-owed t h (kept-one s k) = rw (s.at t h)

taken_is : (t : ℕ) (b : List ℕ) (d : List (List ℕ)) (v : Bool) → some (eqb t) b ≡ v → taken_from t (b ∷ d) ≡ cond v (without t b ∷ d) (taken_from t d)
unfolding taken_from
taken_is t b d v e = rw e

pub kept-taken : (t : ℕ) {x : List ℕ} {q d : List (List ℕ)} → some (eqb t) x ≡ true → Kept (x ∷ q) d → Kept (without t x ∷ q) (taken_from t d)
kept-taken t h (kept-over {d = d} {b} k) =
    decide (some (eqb t) b)
    (λ e. rw (taken_is t b d true e) (kept-over (less-here t k)))
    (λ e. rw (taken_is t b d false e) (kept-taken t h k))
kept-taken t h (kept-one {b = b} {d = d} s k) = rw (taken_is t b d true (s.at t h)) (kept-one (less-sub t s) k)

-- what follows of it changes
kept-head : {x : List ℕ} (q r : List (List ℕ)) → ((d : List (List ℕ)) → Kept q d → Kept r d) → {d : List (List ℕ)} → Kept (x ∷ q) d → Kept (x ∷ r) d
kept-head q r f (kept-over k) = kept-over (kept-head q r f k)
kept-head q r f (kept-one {d = d} s k) = kept-one s (f d k)

pub kept-tail : (xs q r : List (List ℕ)) → ((d : List (List ℕ)) → Kept q d → Kept r d) → (d : List (List ℕ)) → Kept (xs ++ q) d → Kept (xs ++ r) d
kept-tail [] q r f d k = f d k
kept-tail (x ∷ xs) q r f d k = kept-head (xs ++ q) (xs ++ r) (kept-tail xs q r f) k

-- one less, wherever it stands; and only the first of them
pub kept-without : (xs : List (List ℕ)) (x : List ℕ) (q : List (List ℕ)) {d : List (List ℕ)} → Kept (xs ++ (x ∷ q)) d → Kept (xs ++ q) d
kept-without xs x q {d} k = kept-tail xs (x ∷ q) q (λ d. kept-rest) d k

pub kept-first : (xs q : List (List ℕ)) {d : List (List ℕ)} → Kept (xs ++ q) d → Kept xs d
kept-first xs q {d} k = subst (λ (l : List (List ℕ)). Kept l d) (append-nil xs) (kept-tail xs q [] (λ d k. kept-none) d k)

-- what is put on top of both
pub kept_put : (x : List ℕ) {q d : List (List ℕ)} → Kept q d → Kept (putting x q) (x ∷ d)
kept_put [] k = kept-over k
kept_put (t ∷ x) k = kept-one (record { at = λ i h. h }) k

-- an empty book has nothing
pub kept-nothing : (xs : List (List ℕ)) (x : List ℕ) (q : List (List ℕ)) → Kept (xs ++ (x ∷ q)) [] → ⊥
kept-nothing xs x q k = go (xs ++ (x ∷ q)) k (λ e. filled xs e)
  where
    go : (l : List (List ℕ)) → Kept l [] → (l ≡ [] → ⊥) → ⊥
    go [] kept-none f = f refl
    go (_ ∷ _) z f = elim z [ ]

    filled : (ys : List (List ℕ)) → ys ++ (x ∷ q) ≡ [] → ⊥
    filled [] e = let z : ◌≡◌ {A = ℕ} 0 1 = cc in omega arith
    filled (y ∷ ys) e = let z : ◌≡◌ {A = ℕ} 0 1 = cc in omega arith
