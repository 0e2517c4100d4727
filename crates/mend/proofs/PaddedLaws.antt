-- Laws of padded numbers: where they end, how large they are, and that they are no shorter than their shortest form. Assumes nothing.
use borrow.Author.Tests.{ltb-true, ltb-false, leb-false}
use native.Mathlib.Omega.{arith}
use native.Mathlib.Nat.{mul-le-mul_right}
use native.Mathlib.Decide.{dec_lt}
use mathlib.Core.Path.{◌≡◌, sym}
use mathlib.Core.List.{List}
use Prim.Native.Nat.{ℕ, zero, suc, ◌+◌, ◌-◌, ◌*◌, ◌/◌, ◌%◌, ◌≤◌, ◌<◌}
use lib.ListN.{length, get_or}
use lib.Dec.{ltb, leb}
use Rattle.std.specs.Prelude.{Err}
use Rattle.numbers.specs.declared.Trouble.TheVariants.{Short}
use Rattle.numbers.specs.Number.{got}
use Rattle.numbers.specs.Shortest.{spelled, shortest}
use Rattle.numbers.proofs.Groups.{cond-elim, no_short, no-bad, value_of, next_of}
use Rattle.numbers.proofs.Laws.{spelled-last, spelled-more, values}
use Rattle.mend.specs.Padded.{groups_at, padded_at}
use Rattle.mend.proofs.PaddedReads.{groups-short}

-- What the first group of a padded number that is read tells, where k groups may follow it.
pub data Group (k : ℕ) (s : List ℕ) (at scale sum v next : ℕ) : Type 0 where
  last : at < length s → get_or s at 0 < 128 → sum + get_or s at 0 % 128 * scale ≤ 4294967295 → v ≡ sum + get_or s at 0 % 128 * scale → next ≡ at + 1
      → Group k s at scale sum v next
  more : at < length s → 128 ≤ get_or s at 0 → sum + get_or s at 0 % 128 * scale ≤ 4294967295
      → groups_at k s (at + 1) (scale * 128) (sum + get_or s at 0 % 128 * scale) ≡ got v next → Group k s at scale sum v next

pub group : (k : ℕ) (s : List ℕ) (at scale sum : ℕ) {v next : ℕ} → groups_at (suc k) s at scale sum ≡ got v next → Group k s at scale sum v next
unfolding groups_at
group k s at scale sum e =
    cond-elim (leb (length s) at) e (λ t f. no_short f)
    (λ t1 e1. cond-elim (ltb 4294967295 (sum + get_or s at 0 % 128 * scale)) e1 (λ t f. no-bad f)
    (λ t2 e2. cond-elim (ltb (get_or s at 0) 128) e2
    (λ t3 e3. last (leb-false _ _ t1) (ltb-true _ _ t3) (ltb-false _ _ t2) (sym (value_of e3)) (sym (next_of e3)))
    (λ t3 e3. more (leb-false _ _ t1) (ltb-false _ _ t3) (ltb-false _ _ t2) e3)))

-- Where a number ends that stands at `at`, and how large it is; it has i groups before `at`.
record Bounds (s : List ℕ) (at i v next : ℕ) : Type 0 where
  forward : at < next
  inside : next ≤ length s
  small : v ≤ 4294967295
  width : v < values (i + (next - at))

pub next-below : (sum b scale : ℕ) → sum < scale → sum + b % 128 * scale < scale * 128
next-below sum b scale h = let m : b % 128 * scale ≤ 127 * scale = mul-le-mul_right scale (omega arith) in omega arith

group-bounds : (k : ℕ) (s : List ℕ) (at i sum : ℕ) {v next : ℕ} → sum < values i → Group k s at (values i) sum v next
    → (groups_at k s (at + 1) (values (suc i)) (sum + get_or s at 0 % 128 * values i) ≡ got v next → Bounds s (at + 1) (suc i) v next)
    → Bounds s at i v next
unfolding values
group-bounds k s at i sum h (last w b f q n) rest =
    let z : i + (at + 1 - at) ≡ suc i = omega arith in
    record {
      forward = omega arith;
      inside = omega arith;
      small = omega arith;
      width = rw (n, z, q) (next-below sum (get_or s at 0) (values i) h);
    }
group-bounds k s at i sum {v} {next} h (more w b f e) rest =
    let r = rest e in
    let z : suc i + (next - (at + 1)) ≡ i + (next - at) = omega (arith, r.forward) in
    record { forward = omega (arith, r.forward); inside = r.inside; small = r.small; width = rw z at r.width }

groups-bounds : (left : ℕ) (s : List ℕ) (at i sum : ℕ) {v next : ℕ} → sum < values i → groups_at left s at (values i) sum ≡ got v next
    → Bounds s at i v next
unfolding groups_at values
groups-bounds zero s at i sum h e = no-bad e
groups-bounds (suc k) s at i sum h e =
    group-bounds k s at i sum h (group k s at (values i) sum e)
    (groups-bounds k s (at + 1) (suc i) (sum + get_or s at 0 % 128 * values i) (next-below sum (get_or s at 0) (values i) h))

-- a value below that of so many groups has no more of them
spelled-fits : (k n v : ℕ) → v < values (suc n) → length (spelled k v) ≤ suc n
unfolding spelled values
spelled-fits zero n v h = omega arith
spelled-fits (suc k) n v h =
    elim (dec_lt v 128) [
      | yes l ↦ rw (spelled-last k v l) (omega arith)
      | no l ↦ rw (spelled-more k v (omega (arith, l))) (spelled-longer k n v h (omega (arith, l)) (spelled-fits k))
    ]
  where
    spelled-longer : (k n v : ℕ) → v < values (suc n) → 128 ≤ v → ((m w : ℕ) → w < values (suc m) → length (spelled k w) ≤ suc m)
        → suc (length (spelled k (v / 128))) ≤ suc n
    spelled-longer k zero v h l f = absurd (omega arith)
    spelled-longer k (suc m) v h l f = omega (arith, f m (v / 128) (omega arith))

-- What is read as a padded number ends further on, within the list, is small enough, and is no shorter than its shortest form.
pub record PaddedBounds (s : List ℕ) (at v next : ℕ) : Type 0 where
  pub forward : at < next
  pub inside : next ≤ length s
  pub small : v ≤ 4294967295
  pub long : at + length (shortest v) ≤ next

pub padded-bounds : (s : List ℕ) (at : ℕ) {v next : ℕ} → padded_at s at ≡ got v next → PaddedBounds s at v next
unfolding padded_at values shortest
padded-bounds s at {v} {next} e =
    let b = groups-bounds 10 s at 0 0 (omega arith) e in
    let z : 0 + (next - at) ≡ suc (next - at - 1) = omega (arith, b.forward) in
    record {
      forward = b.forward;
      inside = b.inside;
      small = b.small;
      long = omega (arith, b.forward, spelled-fits 5 (next - at - 1) v (rw z at b.width));
    }

pub padded-end : (s : List ℕ) (at : ℕ) → length s ≤ at → padded_at s at ≡ Err Short
unfolding padded_at
padded-end s at h = groups-short 9 s at 1 0 h
