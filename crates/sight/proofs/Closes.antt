-- Whether a close is held: it is where its scope has an undo part, all places are taken and it forgets nothing. Assumes nothing.
use mathlib.Core.Path.{◌≡◌, refl, sym, ap, ◌∙◌}
use mathlib.Core.Bool.{Bool, true, false, cond, not}
use mathlib.Core.List.{List, [], ◌∷◌}
use Prim.Native.Nat.{ℕ, zero, suc, ◌+◌, ◌-◌, ◌<◌, ◌≤◌}
use native.Mathlib.Decide.{dec_lt}
use native.Mathlib.Omega.{arith}
use borrow.Author.Tests.{lt-ltb, le-ltb, eqb-true, not-false}
use lib.Dec.{ltb, eqb}
use lib.ListN.{length, get_or, take, replicate}
use lib.Seq.{take_all, take-append_seam}
use Rattle.plan.specs.Tree.{Acts, none, more}
use Rattle.order.specs.declared.Closing.{Closing}
use Rattle.order.specs.declared.Order.{Order}
use Rattle.order.specs.Begin.{part_at}
use Rattle.order.specs.Lists.{only}
use Rattle.machine.specs.Offer.{close_held}
use Rattle.order.specs.Scope.{Scope, scope_at, is_for, forgetting}
use Rattle.order.specs.State.{closing_of, closings}
use Rattle.sight.specs.Sights.{Remembers, ClosesRow}

take-few : {A : Type 0} (n : ℕ) (l : List A) → length (take n l) ≤ n
take-few zero l = omega arith
take-few (suc n) [] = omega arith
take-few (suc n) (x ∷ l) = let e = take-few n l in omega arith

only-few : {A : Type 0} (f : A → Bool) (l : List A) → length (only f l) ≤ length l
unfolding only
only-few f [] = omega arith
only-few f (x ∷ l) = by-test (only-few f l) (f x)
  where
    by-test : length (only f l) ≤ length l → (b : Bool) → length (cond b (x ∷ only f l) (only f l)) ≤ suc (length l)
    by-test e true = omega arith
    by-test e false = omega arith

only-fewer : {A : Type 0} (d : A) (f : A → Bool) (l : List A) (i : ℕ) → i < length l → f (get_or l i d) ≡ false → length (only f l) < length l
unfolding only
only-fewer d f [] i h e = absurd (omega arith)
only-fewer d f (x ∷ l) zero h e = let q = only-few f l in rw e (omega arith)
only-fewer d f (x ∷ l) (suc i) h e = by-test (only-fewer d f l i (omega arith) e) (f x)
  where
    by-test : length (only f l) < length l → (b : Bool) → length (cond b (x ∷ only f l) (only f l)) < suc (length l)
    by-test q true = omega arith
    by-test q false = omega arith

only-all : {A : Type 0} (d : A) (f : A → Bool) (l : List A) → ((i : ℕ) → i < length l → f (get_or l i d) ≡ true) → length (only f l) ≡ length l
unfolding only
only-all d f [] h = refl
only-all d f (x ∷ l) h = rw (h 0 (omega arith)) (ap suc (only-all d f l (λ i g. h (suc i) (omega arith))))

-- what is left after a close forgot
left : Scope → List Closing → List Closing
left s l = only (λ c. not (is_for s c)) l

closings-left : (s : Scope) (o : Order) → closings (forgetting s o) ≡ left s (closings o)
unfolding forgetting left
closings-left s o = take-append_seam (left s (closings o)) (replicate (32 - length (left s (closings o))) (closing_of 0 0))

left-few : (s : Scope) (l : List Closing) → length l < 32 → ltb 32 (length (left s l) + 1) ≡ false
unfolding left
left-few s l h = le-ltb 32 (length (left s l) + 1) (omega (arith, only-few (λ c. not (is_for s c)) l))

-- a part is that of a scope where it is the scope's body, which comes first
body-first : (within : Acts) (c : ℕ) → part_at 0 within c ≡ c
unfolding part_at
body-first none c = refl
body-first (more a l) c = refl

for-body : (o : Order) (parts ns : List ℕ) (k i : ℕ) (within : Acts) → Remembers o parts → i < 32
    → is_for (scope_at ns k within) (get_or o.remembered i (closing_of 0 0)) ≡ eqb (get_or parts i 0) (k + 1)
for-body o parts ns k i within m h = rw (body-first within (k + 1), ← m.is i h)

-- a scope with no undo part is never held
held_by : (o : Order) (s : Scope) {b : Bool} (undo : Bool) → (undo ≡ true → b ≡ ltb 32 (length (closings (forgetting s o)) + 1)) → (undo ≡ false → b ≡ false) → b ≡ close_held o undo s
held_by o s true f g = f refl
held_by o s false f g = g refl

-- `close_held`
pub close_never : {kind : ℕ} (parts : List ℕ) (kept k : ℕ) → kind ≡ 12 → ClosesRow kind parts kept k false
close_never parts kept k e = record {
  is = λ o ns l m n. rw e;
}

pub close-room : (kind : ℕ) (parts : List ℕ) (kept k : ℕ) → kept < 32 → ClosesRow kind parts kept k false
close-room kind parts kept k h = record {
  is = λ o ns l m n.
      let s = scope_at ns k l in
      held_by o s (not (eqb kind 12)) (λ q. sym (rw (closings-left s o) (left-few s (closings o) (omega (arith, take-few o.kept o.remembered))))) (λ q. refl);
}

pub record Forgets (kind : ℕ) (parts : List ℕ) (kept k i : ℕ) : Type 0 where
  pub undoes : kind ≡ 12 → ⊥
  pub full : 32 ≤ kept
  pub within : i ≤ 32
  pub none : (j : ℕ) → j < i → eqb (get_or parts j 0) (k + 1) ≡ false

pub forgets-starts : (kind : ℕ) (parts : List ℕ) (kept k : ℕ) → (kind ≡ 12 → ⊥) → 32 ≤ kept → Forgets kind parts kept k 0
forgets-starts kind parts kept k e h = record { undoes = e; full = h; within = omega arith; none = λ j g. absurd (omega arith) }

module _ {kind : ℕ} {parts : List ℕ} {kept k i : ℕ} (w : Forgets kind parts kept k i) where
  all-closings : (o : Order) → Remembers o parts → o.kept ≡ kept → closings o ≡ o.remembered
  all-closings o m n = rw n (take_all kept o.remembered (omega (arith, m.long, w.full)))

  pub forgets-done : 32 ≤ i → ClosesRow kind parts kept k true
  unfolding left
  forgets-done h = record {
    is = λ o ns l m n.
        let s = scope_at ns k l in
        let e : length (left s o.remembered) ≡ length o.remembered =
        only-all (closing_of 0 0) (λ c. not (is_for s c)) o.remembered
        (λ j g. rw (for-body o parts ns k j l m (omega (arith, m.long)), w.none j (omega (arith, m.long)))) in
        held_by o s (not (eqb kind 12))
        (λ q. sym (rw (closings-left s o, all-closings o m n) (lt-ltb 32 (length (left s o.remembered) + 1) (omega (arith, e, m.long)))))
        (λ q. absurd (w.undoes (eqb-true kind 12 (not-false (eqb kind 12) q))));
  }

  module _ (h : i < 32) {b : Bool} (d : b ≡ eqb (get_or parts i 0) (k + 1)) where
    pub forgets-one : b ≡ true → ClosesRow kind parts kept k false
    unfolding left
    forgets-one v = record {
      is = λ o ns l m n.
          let s = scope_at ns k l in
          let e = only-fewer (closing_of 0 0) (λ c. not (is_for s c)) o.remembered i (omega (arith, m.long)) (rw (for-body o parts ns k i l m h, sym d ∙ v)) in
          held_by o s (not (eqb kind 12))
          (λ q. sym (rw (closings-left s o, all-closings o m n) (le-ltb 32 (length (left s o.remembered) + 1) (omega (arith, e, m.long)))))
          (λ q. refl);
    }

    pub forgets-again : b ≡ false → Forgets kind parts kept k (i + 1)
    forgets-again v = record {
      undoes = w.undoes;
      full = w.full;
      within = omega arith;
      none = λ j g.
          elim (dec_lt j i) [
            | yes f ↦ w.none j f
            | no f ↦ let q : j ≡ i = omega (arith, f) in rw q (sym d ∙ v)
          ];
    }
