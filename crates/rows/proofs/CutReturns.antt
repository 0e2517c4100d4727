-- The returns of the functions that cut a plan's bytes into rows. Assumes nothing.
use native.Mathlib.Omega.{arith}
use native.Mathlib.Nat.{add-zero}
use mathlib.Core.Path.{◌≡◌, refl, sym, ap, ◌∙◌}
use mathlib.Core.Bool.{cond}
use mathlib.Core.List.{List, append_assoc}
use lib.Dec.{eqb}
use Prim.Native.Nat.{ℕ, zero, suc, ◌+◌, ◌*◌, ◌-◌, ◌≤◌, ◌<◌}
use lib.ListN.{length, set, take, drop, replicate, length-set, length-replicate, length-drop}
use lib.Seq.{sets, sets-eq, length-sets, length-take-le, drop-drop}
use borrow.Rule.Slice.PartMut.{put_mid}
use mir.Syntax.{w64}
use mir.Val.{Fits}
use Rattle.writer.specs.Rows.{line, lines}
use Rattle.rows.specs.Cut.{value_in, next_in, numbers_in, place_after, kind_in, count_in, between_in, row_width, due_after, k_after, cut_rows, head_width, cut_plan}
use Rattle.writer.proofs.ByteReturns.{sets-append}
use Rattle.writer.proofs.Lines.{line-long}

-- `put_numbers`
pub numbers-long : (left : ℕ) (s : List ℕ) (at : ℕ) → length (numbers_in left s at) ≡ left
unfolding numbers_in
numbers-long zero s at = refl
numbers-long (suc left) s at = ap suc (numbers-long left s (next_in s at))

pub record Putting (s : List ℕ) (at left : ℕ) (out₀ : List ℕ) (base : ℕ) (out : List ℕ) (p i : ℕ) : Type 0 where
  pub same : sets out₀ base (numbers_in left s at) ≡ sets out (base + i) (numbers_in (left - i) s p)
  pub ends : place_after left s at ≡ place_after (left - i) s p
  pub room : base + left ≤ length out

pub putting-starts : (s : List ℕ) (at left : ℕ) (out : List ℕ) (base : ℕ) → base + left ≤ length out → Putting s at left out base out at 0
putting-starts s at left out base h =
    let z : left - 0 ≡ left = omega arith in
    record { same = rw (z, add-zero base); ends = rw z; room = h }

module _ {s : List ℕ} {at left : ℕ} {out₀ : List ℕ} {base : ℕ} {out : List ℕ} {p i : ℕ} (w : Putting s at left out₀ base out p i) where
  pub putting-next : left ≤ i → p ≡ place_after left s at
  unfolding place_after
  putting-next h = let z : left - i ≡ 0 = omega arith in sym (w.ends ∙ rw z)

  pub putting-done : left ≤ i → out ≡ sets out₀ base (numbers_in left s at)
  unfolding numbers_in
  putting-done h = let z : left - i ≡ 0 = omega arith in sym (w.same ∙ rw z)

  pub putting-long : left ≤ i → length out ≡ length out₀
  putting-long h = ap length (putting-done h) ∙ length-sets out₀ base (numbers_in left s at)

  pub putting-inside : i < left → base + i < length out
  putting-inside h = omega (arith, w.room)

  pub putting-again : i < left → {v next : ℕ} → v ≡ value_in s p → next ≡ next_in s p → Putting s at left out₀ base (set out (base + i) v) next (i + 1)
  unfolding numbers_in place_after
  putting-again h {v} {next} e f =
      let z : left - i ≡ suc (left - (i + 1)) = omega arith in
      let y : base + (i + 1) ≡ suc (base + i) = omega arith in
      record { same = w.same ∙ rw (z, y, e, f); ends = w.ends ∙ rw (z, f); room = rw (length-set out (base + i) v) w.room }

pub ruleset putting = (putting-starts, putting-next, putting-done, putting-long, putting-inside)

-- `put_row`: the count, the numbers and the zeros behind them are one row
pub row_put : (s : List ℕ) (at width : ℕ) (out : List ℕ) (base : ℕ) {out₁ out₂ : List ℕ} → out₁ ≡ sets (set out base width) (base + 1) (numbers_in width s at)
    → out₂ ≡ sets out₁ (base + 1 + width) (replicate (19 - width) 0) → out₂ ≡ sets out base (line (numbers_in width s at))
unfolding line
row_put s at width out base e f =
    let l = numbers-long width s at in
    let y : base + 1 ≡ suc base = omega arith in
    let a = rw l at (sets-append (set out base width) (suc base) (numbers_in width s at) (replicate (19 - width) 0)) in
    f ∙ rw (e, y, l) (sym a)

module _ (s : List ℕ) (at width : ℕ) (out : List ℕ) (base : ℕ) (room : base + 20 ≤ length out) (few : width ≤ 19) where
  pub row_room : base + 1 + width ≤ length (set out base width)
  row_room = rw (length-set out base width) (omega arith)

  module _ {out₁ : List ℕ} (e : out₁ ≡ sets (set out base width) (base + 1) (numbers_in width s at)) where
    pub row_kept : length out₁ ≡ length out
    row_kept = ap length e ∙ length-sets (set out base width) (base + 1) (numbers_in width s at) ∙ length-set out base width

    -- as many zeros as there is room for behind the numbers
    pub row_filled : {ys : List ℕ} → ys ≡ replicate (length (take (base + 20 - (base + 1 + width)) (drop (base + 1 + width) out₁))) 0
        → put_mid (base + 1 + width) (base + 20 - (base + 1 + width)) out₁ ys ≡ sets out base (line (numbers_in width s at))
    row_filled {ys} f =
        let n : base + 20 - (base + 1 + width) ≡ 19 - width = omega arith in
        let l = length-replicate {A = ℕ} (19 - width) 0 in
        let q : length (take (19 - width) (drop (base + 1 + width) out₁)) ≡ 19 - width =
        length-take-le (19 - width) (drop (base + 1 + width) out₁) (omega (arith, length-drop (base + 1 + width) out₁, row_kept)) in
        let zs : ys ≡ replicate (19 - width) 0 = rw (n, q) at f in
        let g = rw (l, append_assoc) at (sets-eq (replicate (19 - width) 0) out₁ (base + 1 + width) (omega (arith, row_kept, l))) in
        row_put s at width out base e (rw (n, zs, drop-drop (19 - width) (base + 1 + width) out₁) (sym g))

pub ruleset row = (row_room, row_kept)

-- `between`
pub record Summing (t : List ℕ) (left sum k : ℕ) : Type 0 where
  pub within : k ≤ left
  pub same : between_in left t 0 ≡ sum + between_in (left - k) t k
  pub few : sum ≤ k * 4294967296

pub summing-starts : (t : List ℕ) (left : ℕ) → Summing t left 0 0
summing-starts t left = let z : left - 0 ≡ left = omega arith in record { within = omega arith; same = rw z (omega arith); few = omega arith }

module _ {t : List ℕ} {left sum k : ℕ} (w : Summing t left sum k) where
  pub summing-done : left ≤ k → sum ≡ between_in left t 0
  unfolding between_in
  summing-done h = let z : left - k ≡ 0 = omega arith in let e : between_in left t 0 ≡ sum + 0 = w.same ∙ rw z in omega arith

  pub summing-again : k < left → {x : ℕ} → x ≡ cond (eqb (kind_in t k) 14) (count_in t k + 1) 0 → x ≤ 4294967296 → Summing t left (sum + x) (k + 1)
  unfolding between_in
  summing-again h {x} e l =
      let z : left - k ≡ suc (left - (k + 1)) = omega arith in
      let f : between_in left t 0 ≡ sum + (x + between_in (left - (k + 1)) t (k + 1)) = w.same ∙ rw (z, e) in
      record { within = omega arith; same = omega arith; few = omega (arith, w.few) }

  pub summing-fits : left ≤ 256 → k < left → {x : ℕ} → x ≤ 4294967296 → Fits w64 (sum + x)
  summing-fits h g l = omega (arith, w.few)

pub ruleset summing = (summing-starts, summing-fits)

-- `put_parts`
pub record Cutting (s t : List ℕ) (left from : ℕ) (out₀ out : List ℕ) (k due at i : ℕ) : Type 0 where
  pub same : sets out₀ 20 (lines (cut_rows left s t 0 0 from)) ≡ sets out ((i + 1) * 20) (lines (cut_rows (left - i) s t k due at))
  pub long : length out ≡ length out₀
  pub few : k ≤ i
  pub some : due ≤ i

pub cutting-starts : (s t : List ℕ) (left from : ℕ) (out : List ℕ) → Cutting s t left from out out 0 0 from 0
cutting-starts s t left from out = let z : left - 0 ≡ left = omega arith in record { same = rw z; long = refl; few = omega arith; some = omega arith }

module _ {s t : List ℕ} {left from : ℕ} {out₀ out : List ℕ} {k due at i : ℕ} (w : Cutting s t left from out₀ out k due at i) where
  pub cutting-done : left ≤ i → out ≡ sets out₀ 20 (lines (cut_rows left s t 0 0 from))
  unfolding cut_rows lines
  cutting-done h = let z : left - i ≡ 0 = omega arith in sym (w.same ∙ rw z)

  pub cutting-long : length out ≡ length out₀
  cutting-long = w.long

  pub cutting-room : (left + 1) * 20 ≤ length out₀ → i < left → (i + 1) * 20 + 20 ≤ length out
  cutting-room h g = omega (arith, w.long)

  pub cutting-k : left ≤ 16384 → i < left → k ≤ 4294967295
  cutting-k h g = omega (arith, w.few)

  pub cutting-due : left ≤ 16384 → i < left → due ≤ 4294967295
  cutting-due h g = omega (arith, w.some)

  pub cutting-again : i < left → {width k₁ due₁ at₁ : ℕ} {out₁ : List ℕ} → width ≡ row_width s t k due at → width ≤ 19 → due₁ ≡ due_after s t k due at → due₁ ≤ due + 1
      → k₁ ≡ k_after t k due at → k₁ ≤ k + 1 → at₁ ≡ place_after width s at → out₁ ≡ sets out ((i + 1) * 20) (line (numbers_in width s at))
      → Cutting s t left from out₀ out₁ k₁ due₁ at₁ (i + 1)
  unfolding cut_rows lines
  cutting-again h {width} {k₁} {due₁} {at₁} {out₁} e l f m g n a o =
      let z : left - i ≡ suc (left - (i + 1)) = omega arith in
      let x = line (numbers_in width s at) in
      let v : length x ≡ 20 = line-long (numbers_in width s at) (omega (arith, numbers-long width s at)) in
      let y : (i + 1 + 1) * 20 ≡ (i + 1) * 20 + length x = omega arith in
      record {
        same = w.same ∙ rw (z, ← e, ← f, ← g, ← a, o, y) (sets-append out ((i + 1) * 20) x (lines (cut_rows (left - (i + 1)) s t k₁ due₁ at₁)));
        long = ap length o ∙ length-sets out ((i + 1) * 20) x ∙ w.long;
        few = omega (arith, w.few);
        some = omega (arith, w.some);
      }

pub ruleset cutting = (cutting-starts, cutting-done, cutting-long, cutting-room, cutting-k, cutting-due)

-- `put_rows`
pub plan-put : (s t : List ℕ) (left : ℕ) (out : List ℕ) {width at : ℕ} {out₁ out₂ : List ℕ} → width ≡ head_width s → width ≤ 19 → at ≡ place_after width s 0
    → out₁ ≡ sets out 0 (line (numbers_in width s 0)) → out₂ ≡ sets out₁ 20 (lines (cut_rows left s t 0 0 at)) → out₂ ≡ sets out 0 (lines (cut_plan left s t))
unfolding cut_plan lines
plan-put s t left out {width} {at} e l a f g =
    let x = line (numbers_in width s 0) in
    let v : length x ≡ 20 = line-long (numbers_in width s 0) (omega (arith, numbers-long width s 0)) in
    let y : 20 ≡ 0 + length x = omega arith in
    g ∙ rw (f, ← e, ← a, y) (sym (sets-append out 0 x (lines (cut_rows left s t 0 0 at))))

pub ruleset whole = (plan-put)
