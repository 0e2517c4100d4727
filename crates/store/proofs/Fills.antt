-- Arrays filled from the front, and what is read of bytes. Assumes nothing.
use mathlib.Core.Path.{◌≡◌, refl, ap, ◌∙◌}
use mathlib.Core.List.{List, [], ◌∷◌}
use Prim.Native.Nat.{ℕ, zero, suc, ◌+◌, ◌*◌, ◌-◌, ◌<◌, ◌≤◌}
use native.Mathlib.Nat.{add-zero, zero-mul, suc-mul}
use native.Mathlib.Omega.{arith}
use native.Mathlib.Numerals.{add-one}
use lib.ListN.{length, get_or, take, drop, set, length-set, length-drop}
use lib.Seq.{sets, drop-cons, drop-drop, length-take-le}
use Rattle.store.specs.Bytes.{many_in}
use Rattle.store.proofs.Puts.{sets-all}

-- A loop that fills: with `rest` from i on, what there is would be `all`.
pub record Filling {A : Type 0} (n : ℕ) (out : List A) (i : ℕ) (rest all : List A) : Type 0 where
  pub is : sets out i rest ≡ all
  pub long : length out ≡ n

pub filling-starts : {A : Type 0} (n : ℕ) (out all rest : List A) → length out ≡ n → length all ≡ n → rest ≡ all → Filling n out 0 rest all
filling-starts n out all rest e f g = record { is = rw g (sets-all out all (omega arith)); long = e }

pub filling-more : {A : Type 0} {n i : ℕ} {out rest all next : List A} {x : A} → Filling n out i rest all → rest ≡ x ∷ next
    → Filling n (set out i x) (i + 1) next all
filling-more {A} {n} {i} {out} {rest} {all} {next} {x} g e =
    record { is = rw (add-one i) (rw e at g.is); long = length-set out i x ∙ g.long }

pub filling-ends : {A : Type 0} {n i : ℕ} {out rest all : List A} → Filling n out i rest all → rest ≡ [] → out ≡ all
filling-ends g e = rw e at g.is

-- n bytes from a place on
pub bytes-long : (s : List ℕ) (at n : ℕ) → at + n ≤ length s → length (take n (drop at s)) ≡ n
bytes-long s at n h = length-take-le n (drop at s) (omega (arith, length-drop at s))

pub bytes-more : (s : List ℕ) (at n i : ℕ) → at + n ≤ length s → i < n
    → take (n - i) (drop (at + i) s) ≡ get_or s (at + i) 0 ∷ take (n - (i + 1)) (drop (at + (i + 1)) s)
bytes-more s at n i h k =
    let e : n - i ≡ suc (n - (i + 1)) = omega arith in
    let f : at + (i + 1) ≡ suc (at + i) = omega arith in
    rw (e, f, drop-cons s (at + i) 0 (omega arith))

-- n things from a place on
pub many-long : {A : Type 0} (f : List ℕ → A) (w n : ℕ) (s : List ℕ) → length (many_in f w n s) ≡ n
unfolding many_in
many-long f w zero s = refl
many-long f w (suc n) s = ap suc (many-long f w n (drop w s))

pub many_more : {A : Type 0} (f : List ℕ → A) (w n at i j k : ℕ) (s : List ℕ) → i < n → j ≡ at + i * w → k ≡ j + w
    → many_in f w (n - i) (drop j s) ≡ f (drop j s) ∷ many_in f w (n - (i + 1)) (drop k s)
unfolding many_in
many_more f w n at i j k s h e g =
    let z : n - i ≡ suc (n - (i + 1)) = omega arith in
    rw (z, g, drop-drop w j s)

-- Things of w bytes each: i of n are read.
pub record Reading {A : Type 0} (f : List ℕ → A) (w n : ℕ) (s : List ℕ) (at : ℕ) (out : List A) (i : ℕ) : Type 0 where
  pub filling : Filling n out i (many_in f w (n - i) (drop (at + i * w) s)) (many_in f w n (drop at s))

pub reading-starts : {A : Type 0} (f : List ℕ → A) (w n : ℕ) (s : List ℕ) (at : ℕ) (out : List A) → length out ≡ n → Reading f w n s at out 0
reading-starts f w n s at out h =
    let e : n - 0 ≡ n = omega arith in
    let p : at + 0 * w ≡ at = rw zero-mul (add-zero at) in
    record { filling = filling-starts n out _ _ h (many-long f w n (drop at s)) (rw (e, p)) }

pub reading-more : {A : Type 0} {f : List ℕ → A} {w n : ℕ} {s : List ℕ} {at : ℕ} {out : List A} {i : ℕ} {x : A} → Reading f w n s at out i
    → i < n → x ≡ f (drop (at + i * w) s) → Reading f w n s at (set out i x) (i + 1)
reading-more {A} {f} {w} {n} {s} {at} {out} {i} {x} g h e =
    let q : (i + 1) * w ≡ i * w + w = rw (add-one, suc-mul) in
    let m = many_more f w n at i (at + i * w) (at + (i + 1) * w) s h refl (omega arith) in
    record { filling = rw e (filling-more g.filling m) }

pub reading-ends : {A : Type 0} {f : List ℕ → A} {w n : ℕ} {s : List ℕ} {at : ℕ} {out : List A} {i : ℕ} → Reading f w n s at out i
    → n ≤ i → out ≡ many_in f w n (drop at s)
unfolding many_in
reading-ends {A} {f} {w} {n} {s} {at} {out} {i} g h =
    let e : n - i ≡ 0 = omega arith in
    filling-ends g.filling (rw e)
