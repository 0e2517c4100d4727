-- Bytes written one after the other. Assumes nothing.
use mathlib.Core.Path.{◌≡◌, refl, sym, ap, ◌∙◌}
use mathlib.Core.List.{List, [], ◌∷◌, ◌++◌, append-nil, append_assoc}
use Prim.Native.Nat.{ℕ, suc, ◌+◌, ◌*◌, ◌-◌, ◌/◌, ◌%◌, ◌<◌, ◌≤◌}
use native.Mathlib.Nat.{add-zero, zero-mul, suc-mul}
use native.Mathlib.Omega.{arith}
use native.Mathlib.Numerals.{add-one}
use lib.ListN.{length, get_or, take, drop, set, length-append, drop_of_length-le}
use lib.Seq.{sets, sets-eq, length-sets, drop-cons, drop-length}
use Rattle.order.specs.Lists.{each}
use Rattle.std.proofs.Math.Seq.{paste}
use Rattle.std.proofs.lemmas.List.Edits.{paste_all}
use Rattle.store.specs.Bytes.{spelled}
use Rattle.store.specs.Putting.{Put}

sets-append : (a l : List ℕ) (i : ℕ) (b : List ℕ) → sets l i (a ++ b) ≡ sets (sets l i a) (i + length a) b
sets-append [] l i b = rw add-zero
sets-append (x ∷ a) l i b =
    let e : i + suc (length a) ≡ suc i + length a = omega arith in
    sets-append a (set l i x) (suc i) b ∙ rw e

pub sets-all : {A : Type 0} (l vs : List A) → length vs ≡ length l → sets l 0 vs ≡ vs
sets-all l vs e =
    let z : 0 + length vs ≡ length l = omega arith in
    sets-eq vs l 0 (omega arith) ∙ rw (z, drop-length l, append-nil vs)

-- one part, and the next right behind it
pub then : {l m n a b : List ℕ} {i j p q r : ℕ} → Put l m i p a → Put m n j q b → j ≡ i + p → r ≡ p + q → Put l n i r (a ++ b)
then {l} {m} {n} {a} {b} {i} {j} {p} {q} {r} x y e f =
    let u : j ≡ i + length a = omega (arith, x.size) in
    record {
      is = y.is ∙ rw (x.is, u) (sym (sets-append a l i b));
      size = length-append a b ∙ omega (arith, x.size, y.size);
    }

-- what fills all that there is
pub put_all : {l m bytes : List ℕ} {n : ℕ} → Put l m 0 n bytes → length l ≡ n → m ≡ bytes
put_all {l} {m} {bytes} {n} x e = x.is ∙ sets-all l bytes (omega (arith, x.size))

-- A loop that writes: with `rest` from `place` on, what there is would be what there was with `all` from `at` on.
pub record Going (l₀ l : List ℕ) (at : ℕ) (all : List ℕ) (place : ℕ) (rest : List ℕ) : Type 0 where
  pub is : sets l place rest ≡ sets l₀ at all
  pub long : length l ≡ length l₀
  pub size : place + length rest ≡ at + length all

pub going-starts : (l : List ℕ) (at place : ℕ) (all : List ℕ) → place ≡ at → Going l l at all place all
going-starts l at place all e = record { is = rw e; long = refl; size = rw e }

pub going_on : {l₀ l m all a rest : List ℕ} {at place next n : ℕ} → Going l₀ l at all place (a ++ rest) → Put l m place n a
    → next ≡ place + n → Going l₀ m at all next rest
going_on {l₀} {l} {m} {all} {a} {rest} {at} {place} {next} {n} g x e =
    let u : next ≡ place + length a = omega (arith, x.size) in
    record {
      is = rw (x.is, u) (sym (sets-append a l place rest) ∙ g.is);
      long = ap length x.is ∙ length-sets l place a ∙ g.long;
      size = omega (arith, u, g.size, length-append a rest);
    }

pub going-ends : {l₀ l all : List ℕ} {at place n : ℕ} → Going l₀ l at all place [] → place ≡ at + n → Put l₀ l at n all
going-ends g e = record { is = g.is; size = omega (arith, g.size) }

-- `x` is written at a place
pub put_one : (l : List ℕ) (i x : ℕ) → Put l (set l i x) i 1 (x ∷ [])
put_one l i x = record { is = refl; size = refl }

-- bytes copied over a part
pub put_pasted : (l : List ℕ) {m : List ℕ} (at : ℕ) (s : List ℕ) → at + length s ≤ length l → m ≡ paste l at s (length s) → Put l m at (length s) s
put_pasted l at s h e = record { is = e ∙ (paste_all l at s (length s) refl ∙ (sym (append_assoc (take at l) s (drop (at + length s) l)) ∙ sym (sets-eq s l at h))); size = refl }

-- A number of w bytes: i of them are written, and `rest` is what is left of the number.
pub record Spelling (l₀ l : List ℕ) (at w n i rest : ℕ) : Type 0 where
  pub going : Going l₀ l at (spelled w n) (at + i) (spelled (w - i) rest)
  pub within : i ≤ w

pub spelling-starts : (l : List ℕ) (at w n : ℕ) → Spelling l l at w n 0 n
spelling-starts l at w n =
    let e : w - 0 ≡ w = omega arith in
    record { going = rw e (going-starts l at (at + 0) (spelled w n) (add-zero at)); within = omega arith }

pub spelling-more : {l₀ l : List ℕ} {at w n i rest : ℕ} → Spelling l₀ l at w n i rest → i < w
    → Spelling l₀ (set l (at + i) (rest % 256)) at w n (i + 1) (rest / 256)
unfolding spelled
spelling-more {l₀} {l} {at} {w} {n} {i} {rest} g h =
    let e : w - i ≡ suc (w - (i + 1)) = omega arith in
    let k : Going l₀ l at (spelled w n) (at + i) ((rest % 256 ∷ []) ++ spelled (w - (i + 1)) (rest / 256)) = rw e at g.going in
    record { going = going_on k (put_one l (at + i) (rest % 256)) (omega arith); within = omega arith }

pub spelling-ends : {l₀ l : List ℕ} {at w n i rest : ℕ} → Spelling l₀ l at w n i rest → w ≤ i → Put l₀ l at w (spelled w n)
unfolding spelled
spelling-ends {l₀} {l} {at} {w} {n} {i} {rest} g h =
    let e : w - i ≡ 0 = omega arith in
    let k : Going l₀ l at (spelled w n) (at + i) [] = rw e at g.going in
    going-ends k (omega (arith, g.within))

-- Things of w bytes each: i of them are written.
pub record Writing {A : Type 0} (f : A → List ℕ) (w : ℕ) (l₀ l : List ℕ) (at : ℕ) (s : List A) (i : ℕ) : Type 0 where
  pub going : Going l₀ l at (each f s) (at + i * w) (each f (drop i s))
  pub within : i ≤ length s

pub writing-starts : {A : Type 0} (f : A → List ℕ) (w : ℕ) (l : List ℕ) (at : ℕ) (s : List A) → Writing f w l l at s 0
writing-starts f w l at s =
    let e : at + 0 * w ≡ at = rw zero-mul (add-zero at) in
    record { going = going-starts l at (at + 0 * w) (each f s) e; within = omega arith }

pub writing_more : {A : Type 0} {f : A → List ℕ} {w : ℕ} {l₀ l m : List ℕ} {at : ℕ} {s : List A} {i : ℕ} (d : A) → Writing f w l₀ l at s i
    → i < length s → Put l m (at + i * w) w (f (get_or s i d)) → Writing f w l₀ m at s (i + 1)
unfolding each
writing_more {A} {f} {w} {l₀} {l} {m} {at} {s} {i} d g h p =
    let e : drop i s ≡ get_or s i d ∷ drop (i + 1) s = rw (add-one, drop-cons s i d) in
    let k : Going l₀ l at (each f s) (at + i * w) (f (get_or s i d) ++ each f (drop (i + 1) s)) = rw e at g.going in
    let q : (i + 1) * w ≡ i * w + w = rw (add-one, suc-mul) in
    record { going = going_on k p (omega arith); within = omega arith }

pub writing-ends : {A : Type 0} {f : A → List ℕ} {w : ℕ} {l₀ l : List ℕ} {at n : ℕ} {s : List A} {i : ℕ} → Writing f w l₀ l at s i
    → length s ≤ i → n ≡ length s * w → Put l₀ l at n (each f s)
unfolding each
writing-ends {A} {f} {w} {l₀} {l} {at} {n} {s} {i} g h e =
    let z : i ≡ length s = omega (arith, g.within) in
    let y : i * w ≡ n = rw (z, e) in
    let k : Going l₀ l at (each f s) (at + i * w) [] = rw (drop_of_length-le s h) at g.going in
    going-ends k (omega arith)
