-- The loops over the numbers of padded bytes: `shorten` and `place_of`. Assumes nothing.
use borrow.Author.Tests.{le-leb, lt-leb}
use native.Mathlib.Omega.{arith}
use native.Mathlib.Nat.{add-zero}
use mathlib.Core.Path.{◌≡◌, refl, sym, ap, ◌∙◌}
use mathlib.Core.Bool.{Bool, true, false, cond}
use mathlib.Core.List.{List, [], ◌∷◌, ◌++◌}
use Prim.Native.Nat.{ℕ, zero, suc, ◌+◌, ◌-◌, ◌≤◌, ◌<◌}
use lib.Dec.{leb}
use lib.ListN.{length, set, length-append}
use lib.Seq.{sets, length-sets}
use Rattle.std.specs.Prelude.{Result, Err}
use Rattle.numbers.specs.declared.Number.{Number}
use Rattle.numbers.specs.declared.Trouble.{Trouble}
use Rattle.numbers.specs.Number.{got}
use Rattle.numbers.specs.Shortest.{shortest}
use Rattle.numbers.specs.Written.{groups_written, written}
use Rattle.numbers.proofs.Writes.{all_fit, all-stand}
use Rattle.plan.specs.Spell.{spell}
use Rattle.mend.specs.Padded.{padded_at, by_number, numbers_from, numbers_of, shortened, place_from, place_of}
use Rattle.numbers.proofs.Groups.{no_short}
use Rattle.mend.proofs.PaddedLaws.{PaddedBounds, padded-bounds, padded-end}

sets-append : (a l : List ℕ) (i : ℕ) (b : List ℕ) → sets l i (a ++ b) ≡ sets (sets l i a) (i + length a) b
sets-append [] l i b = rw (add-zero i)
sets-append (x ∷ a) l i b =
    let e : i + suc (length a) ≡ suc i + length a = omega arith in
    sets-append a (set l i x) (suc i) b ∙ rw e

-- what is no number
pub data None : Result Number Trouble → Type 0 where
  trouble : {e : Trouble} → None (Err e)

pub none-as : {n m : Result Number Trouble} → None n → n ≡ m → None m
none-as x e = rw e at x

pub end_none : (s : List ℕ) (at : ℕ) → length s ≤ at → None (padded_at s at)
end_none s at h = none-as trouble (sym (padded-end s at h))

pub no_more : {n : Result Number Trouble} {A : Type 0} (x : A) (f : (value next : ℕ) → A) → None n → by_number n x f ≡ x
no_more x f trouble = refl

pub numbers-none : (left : ℕ) (s : List ℕ) (at : ℕ) → None (padded_at s at) → numbers_from left s at ≡ []
unfolding numbers_from
numbers-none zero s at h = refl
numbers-none (suc left) s at h = no_more [] _ h

pub numbers-some : (left : ℕ) (s : List ℕ) (at : ℕ) {v next : ℕ} → padded_at s at ≡ got v next → numbers_from (suc left) s at ≡ v ∷ numbers_from left s next
unfolding numbers_from
numbers-some left s at e = rw e

pub spell-some : (left : ℕ) (s : List ℕ) (at : ℕ) {v next : ℕ} → padded_at s at ≡ got v next
    → spell (numbers_from (suc left) s at) ≡ shortest v ++ spell (numbers_from left s next)
unfolding spell
spell-some left s at e = rw (numbers-some left s at e)

pub long-some : (left : ℕ) (s : List ℕ) (at : ℕ) {v next : ℕ} → padded_at s at ≡ got v next
    → length (spell (numbers_from (suc left) s at)) ≡ length (shortest v) + length (spell (numbers_from left s next))
long-some left s at {v} {next} e = rw (spell-some left s at e) (length-append (shortest v) (spell (numbers_from left s next)))

either : (t : Bool) {y : ℕ} (x : ℕ) → y ≡ x → cond t x y ≡ x
either true x e = refl
either false x e = e

pub place_none : (left : ℕ) (s : List ℕ) (at p q : ℕ) → None (padded_at s at) → place_from left s at p q ≡ at
unfolding place_from
place_none zero s at p q h = refl
place_none (suc left) s at p q h = either (leb q p) at (no_more at _ h)

pub place-there : (left : ℕ) (s : List ℕ) (at p q : ℕ) → q ≤ p → place_from left s at p q ≡ at
unfolding place_from
place-there zero s at p q h = refl
place-there (suc left) s at p q h = rw (le-leb q p h)

pub place-further : (left : ℕ) (s : List ℕ) (at p q : ℕ) {v next : ℕ} → p < q → padded_at s at ≡ got v next
    → place_from (suc left) s at p q ≡ place_from left s next (p + length (shortest v)) q
unfolding place_from
place-further left s at p q h e = rw (lt-leb q p h, e)

-- a number stands at `at`, so that there are bytes left
module _ (s : List ℕ) (at : ℕ) {v next : ℕ} (e : got v next ≡ padded_at s at) where
  bounds : PaddedBounds s at v next
  bounds = padded-bounds s at (sym e)

  pub run-less : length s - next < length s - at
  run-less = omega (arith, bounds.forward, bounds.inside)

-- `left` numbers are enough for the bytes from `at` on, and one for a number that stands there
pub record Left (s : List ℕ) (at v next left : ℕ) : Type 0 where
  pub rest : ℕ
  pub is : left ≡ suc rest
  pub enough : length s ≤ next + rest

pub left_over : (s : List ℕ) (at v next left : ℕ) → padded_at s at ≡ got v next → length s ≤ at + left → Left s at v next left
left_over s at v next zero e h = no_short (sym (padded-end s at (omega arith)) ∙ e)
left_over s at v next (suc k) e h = let b = padded-bounds s at e in record { rest = k; is = refl; enough = omega (arith, b.forward) }

-- `shorten`
pub record Shortening (s out₀ out : List ℕ) (at q : ℕ) : Type 0 where
  pub left : ℕ
  pub enough : length s ≤ at + left
  pub same : sets out₀ 0 (shortened s) ≡ sets out q (spell (numbers_from left s at))
  pub ends : length (shortened s) ≡ q + length (spell (numbers_from left s at))
  pub behind : q ≤ at
  pub long : length out ≡ length out₀

pub shortening-starts : (s out : List ℕ) → Shortening s out out 0 0
unfolding shortened numbers_of
shortening-starts s out = record { left = length s; enough = omega arith; same = refl; ends = omega arith; behind = omega arith; long = refl }

module _ {s out₀ out : List ℕ} {at q : ℕ} (w : Shortening s out₀ out at q) where
  module _ {e : Trouble} (h : Err e ≡ padded_at s at) where
    nothing : spell (numbers_from w.left s at) ≡ []
    unfolding spell
    nothing = rw (numbers-none w.left s at (none-as trouble h))

    pub shorten-end : q ≡ length (shortened s)
    shorten-end = omega (arith, w.ends, ap length nothing)

    pub shorten-end-bytes : out ≡ sets out₀ 0 (shortened s)
    shorten-end-bytes = sym (w.same ∙ rw nothing)

  module _ {v next : ℕ} (e : got v next ≡ padded_at s at) (big : length s ≤ length out₀) where
    pub shortening-again : {m : ℕ} {out₁ : List ℕ} → m ≡ q + groups_written out q v → out₁ ≡ written out q v → Shortening s out₀ out₁ next m
    shortening-again {m} {out₁} f g =
        let x = shortest v in
        let b = bounds s at e in
        let l = left_over s at v next w.left (sym e) w.enough in
        let room : q + length x ≤ length out = omega (arith, w.behind, b.long, b.inside, w.long) in
        let fm : m ≡ q + length x = omega (arith, f, all_fit out q v room) in
        let gm : out₁ ≡ sets out q x = g ∙ all-stand out q v room in
        let rest = spell (numbers_from l.rest s next) in
        let more : spell (numbers_from w.left s at) ≡ x ++ rest =
        ap (λ k. spell (numbers_from k s at)) l.is ∙ spell-some l.rest s at (sym e) in
        record {
          left = l.rest;
          enough = l.enough;
          same = w.same ∙ rw (more, gm, fm) (sets-append x out q rest);
          ends = w.ends ∙ rw (more, fm) (omega (arith, length-append x rest));
          behind = omega (arith, fm, w.behind, b.long);
          long = rw gm (length-sets out q x ∙ w.long);
        }

pub ruleset shortening = (shortening-starts, shortening-again)

-- `place_of`
pub record Placing (s : List ℕ) (q at p : ℕ) : Type 0 where
  pub left : ℕ
  pub enough : length s ≤ at + left
  pub same : place_of s q ≡ place_from left s at p q
  pub behind : p ≤ at

pub placing-starts : (s : List ℕ) (q : ℕ) → Placing s q 0 0
unfolding place_of
placing-starts s q = record { left = length s; enough = omega arith; same = refl; behind = omega arith }

module _ {s : List ℕ} {q at p : ℕ} (w : Placing s q at p) where
  pub place-done : q ≤ p → at ≡ place_of s q
  place-done h = sym (w.same ∙ place-there w.left s at p q h)

  pub place_end : {e : Trouble} → Err e ≡ padded_at s at → at ≡ place_of s q
  place_end h = sym (w.same ∙ place_none w.left s at p q (none-as trouble h))

  module _ {v next : ℕ} (e : got v next ≡ padded_at s at) {m : ℕ} (g : m ≡ length (shortest v)) where
    pub place-behind : p + m ≤ length s
    place-behind = let b = bounds s at e in omega (arith, b.long, b.inside, w.behind, g)

    pub placing-again : p < q → Placing s q next (p + m)
    placing-again h =
        let b = bounds s at e in
        let l = left_over s at v next w.left (sym e) w.enough in
        record {
          left = l.rest;
          enough = l.enough;
          same = w.same ∙ ap (λ k. place_from k s at p q) l.is ∙ place-further l.rest s at p q h (sym e) ∙ rw g;
          behind = omega (arith, b.long, w.behind, g);
        }

pub ruleset placing = (placing-starts, placing-again)
