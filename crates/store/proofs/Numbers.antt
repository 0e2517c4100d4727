-- A number in bytes is read back as that number, and bytes are the spelling of the number that they spell. Assumes nothing.
use mathlib.Core.Path.{◌≡◌, refl, sym, ap}
use mathlib.Core.List.{List, [], ◌∷◌, ◌++◌}
use Prim.Native.Nat.{ℕ, zero, suc, ◌+◌, ◌*◌, ◌/◌, ◌%◌, ◌^◌, ◌<◌, ◌≤◌}
use native.Mathlib.Nat.{pow-suc, div-lt_iff_lt-mul, zero-lt-suc, mod-add-div}
use native.Mathlib.Omega.{arith}
use native.Mathlib.Numerals.{add-one}
use lib.ListN.{length, get_or, drop}
use lib.Seq.{take_at, drop-cons}
use Rattle.store.specs.Bytes.{spelled, valued, number_in}
use Rattle.order.proofs.Whole.{Each}

pub spelled-long : (w n : ℕ) → length (spelled w n) ≡ w
unfolding spelled
spelled-long zero n = refl
spelled-long (suc w) n = ap suc (spelled-long w (n / 256))

pub valued-spelled : (w n : ℕ) → n < 256 ^ w → valued (spelled w n) ≡ n
unfolding spelled valued
valued-spelled zero n h = omega arith
valued-spelled (suc w) n h =
    let k : n < 256 ^ w * 256 = rw (pow-suc 256 w) at h in
    rw (valued-spelled w (n / 256) ((div-lt_iff_lt-mul (zero-lt-suc 255)).1 k)) (mod-add-div n 256)

-- bytes are the spelling of the number that they spell, so no other bytes spell it
pub spelled-valued : (l : List ℕ) → Each (λ b. b < 256) l → spelled (length l) (valued l) ≡ l
unfolding spelled valued
spelled-valued [] p = refl
spelled-valued (b ∷ l) p =
    let e : (b + 256 * valued l) % 256 ≡ b = omega (arith, p.0) in
    let f : (b + 256 * valued l) / 256 ≡ valued l = omega (arith, p.0) in
    rw (e, f, spelled-valued l p.1)

-- what is written first is read first
pub number-back : (w n : ℕ) (r : List ℕ) → n < 256 ^ w → number_in w (spelled w n ++ r) ≡ n
unfolding number_in
number-back w n r h = rw (take_at (spelled w n) r w (spelled-long w n)) (valued-spelled w n h)

-- the first byte, and the number in those behind it
pub number_more : (w at : ℕ) (s : List ℕ) → at < length s
    → number_in (suc w) (drop at s) ≡ get_or s at 0 + 256 * number_in w (drop (at + 1) s)
unfolding number_in valued
number_more w at s h = rw (drop-cons s at 0 h, add-one at)

-- `four_at`, `eight_at`
none : (l : List ℕ) → number_in 0 l ≡ 0
unfolding number_in valued
none l = refl

module _ (s : List ℕ) (at : ℕ) where
  pub four_is : {a b c d : ℕ} → at + 4 ≤ length s → a ≡ get_or s at 0 → b ≡ get_or s (at + 1) 0 → c ≡ get_or s (at + 1 + 1) 0
      → d ≡ get_or s (at + 1 + 1 + 1) 0 → a + 256 * (b + 256 * (c + 256 * d)) ≡ number_in 4 (drop at s)
  four_is h e f g k =
      let m = number_more 3 at s (omega arith) in
      let n = number_more 2 (at + 1) s (omega arith) in
      let o = number_more 1 (at + 1 + 1) s (omega arith) in
      let p = number_more 0 (at + 1 + 1 + 1) s (omega arith) in
      omega (arith, none (drop (at + 1 + 1 + 1 + 1) s))

  pub eight_is : {low high : ℕ} → at + 8 ≤ length s → low ≡ number_in 4 (drop at s) → high ≡ number_in 4 (drop (at + 4) s)
      → low + 4294967296 * high ≡ number_in 8 (drop at s)
  eight_is {low} {high} h e f =
      let m = number_more 7 at s (omega arith) in
      let n = number_more 6 (at + 1) s (omega arith) in
      let o = number_more 5 (at + 1 + 1) s (omega arith) in
      let p = number_more 4 (at + 1 + 1 + 1) s (omega arith) in
      let q : at + 1 + 1 + 1 + 1 ≡ at + 4 = omega arith in
      let r : number_in 4 (drop (at + 1 + 1 + 1 + 1) s) ≡ high = rw q (sym f) in
      let t = four_is (omega arith) refl refl refl refl in
      omega arith
