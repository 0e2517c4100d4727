-- The returns of the functions that read a padded number. Assumes nothing.
use borrow.Author.Tests.{le-ltb, lt-ltb, le-leb, lt-leb}
use native.Mathlib.Omega.{arith}
use native.Mathlib.Nat.{mul-le-mul, zero-mul}
use native.Mathlib.Decide.{dec_lt}
use mathlib.Core.Path.{◌≡◌, refl, sym, ◌∙◌}
use mathlib.Core.List.{List}
use Prim.Native.Nat.{ℕ, zero, suc, ◌+◌, ◌-◌, ◌*◌, ◌%◌, ◌≤◌, ◌<◌}
use lib.ListN.{length, get_or}
use Rattle.std.specs.Prelude.{Err}
use Rattle.numbers.specs.declared.Trouble.TheVariants.{Short, Bad}
use Rattle.numbers.specs.Number.{got}
use Rattle.mend.specs.Fits.{scale_after}
use Rattle.mend.specs.Padded.{groups_at, padded_at}

-- what one group makes of a number
module _ (k : ℕ) (s : List ℕ) (at scale sum : ℕ) where
  pub groups-short : length s ≤ at → groups_at (suc k) s at scale sum ≡ Err Short
  unfolding groups_at
  groups-short h = simp (le-leb _ _ h)

  module _ (b : ℕ) (w : at < length s) (e : get_or s at 0 ≡ b) where
    pub groups-large : 4294967295 < sum + b % 128 * scale → groups_at (suc k) s at scale sum ≡ Err Bad
    unfolding groups_at
    groups-large h = simp (e, lt-leb _ _ w, lt-ltb _ _ h)

    pub groups-last : sum + b % 128 * scale ≤ 4294967295 → b < 128 → groups_at (suc k) s at scale sum ≡ got (sum + b % 128 * scale) (at + 1)
    unfolding groups_at
    groups-last fit h = simp (e, lt-leb _ _ w, le-ltb _ _ fit, lt-ltb _ _ h)

    pub groups-more : sum + b % 128 * scale ≤ 4294967295 → 128 ≤ b
        → groups_at (suc k) s at scale sum ≡ groups_at k s (at + 1) (scale * 128) (sum + b % 128 * scale)
    unfolding groups_at
    groups-more fit h = simp (e, lt-leb _ _ w, le-ltb _ _ fit, le-ltb _ _ h)

-- a group that counts more than there is room for
over : (sum d scale : ℕ) → 0 < d → 4294967295 < scale → 4294967295 < sum + d * scale
over sum d scale p h = let m : 1 * scale ≤ d * scale = mul-le-mul p (omega arith) in omega arith

-- where a scale is that large only zeros fit, and it does not matter how large it is
pub large-scales : (k : ℕ) (s : List ℕ) (at x y sum : ℕ) → 4294967295 < x → 4294967295 < y → groups_at k s at x sum ≡ groups_at k s at y sum
unfolding groups_at
large-scales zero s at x y sum h i = refl
large-scales (suc k) s at x y sum h i =
    elim (dec_lt at (length s)) [
      | no w ↦ groups-short k s at x sum (omega (arith, w)) ∙ sym (groups-short k s at y sum (omega (arith, w)))
      | yes w ↦ elim (dec_lt 0 (get_or s at 0 % 128)) [
        | yes p ↦ groups-large k s at x sum _ w refl (over sum _ x p h) ∙ sym (groups-large k s at y sum _ w refl (over sum _ y p i))
        | no p ↦
            let z : get_or s at 0 % 128 ≡ 0 = omega (arith, p) in
            rw (z, zero-mul x, zero-mul y, large-scales k s (at + 1) (x * 128) (y * 128) (sum + 0) (omega arith) (omega arith))
      ]
    ]

-- `next_scale`
pub scale-grows : (scale : ℕ) → scale < 34359738368 → scale * 128 ≡ scale_after scale
unfolding scale_after
scale-grows scale h = rw (lt-ltb scale 34359738368 h)

pub scale-stays : (scale : ℕ) → 34359738368 ≤ scale → scale ≡ scale_after scale
unfolding scale_after
scale-stays scale h = rw (le-ltb scale 34359738368 h)

pub scale-after : (k : ℕ) (s : List ℕ) (at scale sum : ℕ) → groups_at k s at (scale * 128) sum ≡ groups_at k s at (scale_after scale) sum
scale-after k s at scale sum =
    elim (dec_lt scale 34359738368) [
      | yes h ↦ rw (← scale-grows scale h)
      | no h ↦
          let g : 34359738368 ≤ scale = omega (arith, h) in
          rw (← scale-stays scale g) (large-scales k s at (scale * 128) scale sum (omega arith) (omega arith))
    ]

pub scale_small : (scale : ℕ) → scale ≤ 4398046511104 → scale_after scale ≤ 4398046511104
scale_small scale h =
    elim (dec_lt scale 34359738368) [
      | yes g ↦ rw (← scale-grows scale g) (omega arith)
      | no g ↦ let f : 34359738368 ≤ scale = omega (arith, g) in rw (← scale-stays scale f) h
    ]

group-small : (b scale : ℕ) → scale ≤ 4398046511104 → b % 128 * scale ≤ 558551906910208
group-small b scale h = let g : b % 128 ≤ 127 = omega arith in mul-le-mul g h

-- `padded_at`: what is to be read is what the groups left make of what was read
pub record Reads (s : List ℕ) (at i p scale sum : ℕ) : Type 0 where
  pub left : ℕ
  pub ten : left + i ≡ 10
  pub same : padded_at s at ≡ groups_at left s p scale sum
  pub fits : scale ≤ 4398046511104
  pub small : sum ≤ 4294967295

pub reads-starts : (s : List ℕ) (at : ℕ) → Reads s at 0 at 1 0
unfolding padded_at
reads-starts s at = record { left = 10; ten = refl; same = refl; fits = omega arith; small = omega arith }

module _ {s : List ℕ} {at i p scale sum : ℕ} (r : Reads s at i p scale sum) where
  pub reads_none : 10 ≤ i → Err Bad ≡ padded_at s at
  unfolding groups_at
  reads_none h = let z : r.left ≡ 0 = omega (arith, r.ten) in sym (rw z at r.same)

  pub reads-group : (b : ℕ) → (b % 128 * scale ≤ 558551906910208) × (sum + b % 128 * scale ≤ 558556201877503)
  reads-group b = let g = group-small b scale r.fits in (g, omega (arith, r.small))

  module _ (more : i < 10) where
    one_more : padded_at s at ≡ groups_at (suc (9 - i)) s p scale sum
    one_more = let z : r.left ≡ suc (9 - i) = omega (arith, r.ten) in rw z at r.same

    pub reads_short : length s ≤ p → Err Short ≡ padded_at s at
    reads_short h = sym (one_more ∙ groups-short (9 - i) s p scale sum h)

    module _ {b : ℕ} (e : b ≡ get_or s p 0) (within : p < length s) where
      pub reads-large : 4294967295 < sum + b % 128 * scale → Err Bad ≡ padded_at s at
      reads-large h = sym (one_more ∙ groups-large (9 - i) s p scale sum b within (sym e) h)

      module _ (fit : sum + b % 128 * scale ≤ 4294967295) where
        pub reads-last : b < 128 → got (sum + b % 128 * scale) (p + 1) ≡ padded_at s at
        reads-last h = sym (one_more ∙ groups-last (9 - i) s p scale sum b within (sym e) fit h)

        pub reads-again : 128 ≤ b → {next : ℕ} → next ≡ scale_after scale → Reads s at (i + 1) (p + 1) next (sum + b % 128 * scale)
        reads-again h {next} f = record {
          left = 9 - i;
          ten = omega arith;
          same =
              one_more ∙ groups-more (9 - i) s p scale sum b within (sym e) fit h
              ∙ scale-after (9 - i) s (p + 1) scale (sum + b % 128 * scale) ∙ rw f;
          fits = rw f (scale_small scale r.fits);
          small = fit;
        }

pub ruleset reading = (reads-starts, reads-group, reads-again)
