-- `numbers::read` meets its contract. Assumes nothing.
use borrow.Author.Tests.{eq-eqb, ne_eqb}
use Rattle.std.proofs.Common.{ℕ, zero, suc, ◌+◌, ◌-◌, ◌*◌, ◌%◌, ◌≤◌, ◌<◌, ◌≡◌, ◌⊎◌, inl, inr, refl, sym, ◌∙◌, List, length, get_or, Err, arith}
use Rattle.std.proofs.Math.Nat.{mul-le-mul}
use Rattle.numbers.specs.declared.Trouble.TheVariants.{Short, Bad}
use Rattle.numbers.specs.Number.{got, last_group, groups, number_at}
use Rattle.numbers.proofs.Groups.{groups-short, groups-large, groups-last, groups-more}
use Rattle.numbers.proofs.read.Invariants.{room, Reading}
use borrow.Author.Rules.{rules}
use Rattle.numbers.proofs.read.Goals as goal

room_small : (k : ℕ) → room k ≤ 34359738368
room_small zero = omega arith
room_small (suc k) = omega (arith, room_small k)

scale_small : (left i scale : ℕ) → left + i ≡ 5 → i < 5 → scale ≤ room left → scale ≤ 268435456
scale_small zero i scale h l f = absurd (omega arith)
scale_small (suc k) i scale h l f = omega (arith, room_small k)

-- what a group more leaves of the invariant
again : {s : List ℕ} {at p sum : ℕ} (left i scale b : ℕ) → left + i ≡ 5 → i < 5 → number_at s at ≡ groups left s p scale sum → scale ≤ room left
    → (i ≡ 0 → (scale ≡ 1) × (sum ≡ 0)) → i < scale → p < length s → b ≡ get_or s p 0
    → sum + b % 128 * scale ≤ 4294967295 → 128 ≤ b → Reading s at (i + 1) (p + 1) (scale * 128) (sum + b % 128 * scale)
again zero i scale b l m e f a o w g h u = absurd (omega arith)
again {s} {at} {p} {sum} (suc k) i scale b l m e f a o w g h u = record {
  left = k;
  five = omega arith;
  same = e ∙ groups-more k s p scale sum b w (sym g) h u;
  fits = omega arith;
  small = h;
  first = λ z. absurd (omega arith);
  grown = omega arith;
}

module _ {s : List ℕ} {at i p scale sum : ℕ} (r : Reading s at i p scale sum) where
  -- no group is left
  none_left : 5 ≤ i → Err Bad ≡ number_at s at
  unfolding groups
  none_left h = let z : r.left ≡ 0 = omega (arith, r.five) in sym (rw z at r.same)

  module _ (m : i < 5) where
    small : scale ≤ 268435456
    small = scale_small r.left i scale r.five m r.fits

    part : (b : ℕ) → b % 128 * scale ≤ 34091302912
    part b = let g : b % 128 ≤ 127 = omega arith in mul-le-mul g small

    one_more : number_at s at ≡ groups (suc (4 - i)) s p scale sum
    one_more = let z : r.left ≡ suc (4 - i) = omega (arith, r.five) in rw z at r.same

    short : length s ≤ p → Err Short ≡ number_at s at
    short h = sym (one_more ∙ groups-short (4 - i) s p scale sum h)

    module _ {b : ℕ} (w : p < length s) (e : b ≡ get_or s p 0) where
      large : 4294967295 < sum + b % 128 * scale → Err Bad ≡ number_at s at
      large h = sym (one_more ∙ groups-large (4 - i) s p scale sum b w (sym e) h)

      module _ (fit : sum + b % 128 * scale ≤ 4294967295) where
        ended : b < 128 → number_at s at ≡ last_group b scale (sum + b % 128 * scale) (p + 1)
        ended h = one_more ∙ groups-last (4 - i) s p scale sum b w (sym e) fit h

        padded : b ≡ 0 → 0 < i → Err Bad ≡ number_at s at
        unfolding last_group
        padded z o = let n : scale ≡ 1 → ⊥ = λ u. omega (arith, r.grown) in rw (ended (omega arith)) (simp (eq-eqb _ _ z, ne_eqb _ _ n))

        value : b < 128 → (b ≡ 0 × i ≤ 0) ⊎ (b ≡ 0 → ⊥) → got (sum + b % 128 * scale) (p + 1) ≡ number_at s at
        unfolding last_group
        value h x =
            elim x [
              | inl y ↦
                  let o : scale ≡ 1 = (r.first (omega (arith, y))).0 in
                  let n : sum + b % 128 * scale ≡ 0 = rw (y.0, (r.first (omega (arith, y))).1) (omega arith) in
                  rw (ended h) (simp (eq-eqb _ _ y.0, eq-eqb _ _ o, n))
              | inr y ↦ rw (ended h) (simp (ne_eqb _ _ y))
            ]

pub loop-i-init : goal.loop-i-init
unfolding number_at
loop-i-init c = record { left = 5; five = refl; same = refl; fits = omega arith; small = omega arith; first = λ h. (refl, refl); grown = omega arith }

pub returns-in_default : goal.returns-in_default
returns-in_default c = short c.loop-i.invariant c.loop-i-test.true (omega (arith, c.in_default.ensures.lookup))

pub returns-then-sum-gt4294967295 : goal.returns-then-sum-gt4294967295
returns-then-sum-gt4294967295 c =
    let h = c.in-Some.ensures.lookup in
    large c.loop-i.invariant c.loop-i-test.true h.3.0 (c.from-b.ensures ∙ h.3.1 0) c.if-sum-gt4294967295.true

pub returns-then-i-gt0 : goal.returns-then-i-gt0
returns-then-i-gt0 c =
    let h = c.in-Some.ensures.lookup in
    padded c.loop-i.invariant c.loop-i-test.true h.3.0 (c.from-b.ensures ∙ h.3.1 0) (omega arith) c.if-b-eq0.true c.if-i-gt0.true

pub returns-then-b-lt128 : goal.returns-then-b-lt128
returns-then-b-lt128 c =
    let h = c.in-Some.ensures.lookup in
    value c.loop-i.invariant c.loop-i-test.true h.3.0 (c.from-b.ensures ∙ h.3.1 0) (omega arith) c.if-b-lt128.true (search rules)

pub overflow_mul-sum : goal.overflow_mul-sum
overflow_mul-sum c = omega (arith, part c.loop-i.invariant c.loop-i-test.true c.from-b.result)

pub overflow_add-sum : goal.overflow_add-sum
overflow_add-sum c = omega (arith, part c.loop-i.invariant c.loop-i-test.true c.from-b.result)

pub overflow_mul-scale : goal.overflow_mul-scale
overflow_mul-scale c = omega (arith, small c.loop-i.invariant c.loop-i-test.true)

pub loop-i-preserved : goal.loop-i-preserved
loop-i-preserved c =
    let h = c.in-Some.ensures.lookup in
    let r = c.loop-i.invariant in
    again r.left _ _ _ r.five c.loop-i-test.true r.same r.fits r.first r.grown h.3.0 (c.from-b.ensures ∙ h.3.1 0) c.if-sum-gt4294967295.false c.if-b-lt128.false

pub returns : goal.returns
returns c = none_left c.loop-i.invariant c.loop-i-test.false
