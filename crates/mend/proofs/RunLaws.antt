-- Laws of the numbers of padded bytes: where they end, what is cut, and that their shortest form is of bytes. Assumes nothing.
use native.Mathlib.Omega.{arith}
use native.Mathlib.Decide.{dec_lt}
use native.Mathlib.Nat.{zero-add}
use mathlib.Core.Path.{◌≡◌, refl, sym, ◌∙◌}
use mathlib.Core.List.{List, [], ◌∷◌, ◌++◌}
use Prim.Native.Nat.{ℕ, zero, suc, ◌+◌, ◌-◌, ◌≤◌, ◌<◌}
use lib.ListN.{length}
use Rattle.std.specs.Prelude.{Result, Ok, Err}
use Rattle.numbers.specs.declared.Number.{Number}
use Rattle.numbers.specs.declared.Trouble.{Trouble}
use Rattle.numbers.specs.Number.{got}
use Rattle.numbers.specs.Shortest.{Bytes, shortest}
use Rattle.numbers.proofs.Laws.{bytes-nil, bytes-cons, shortest-bytes, shortest-long}
use Rattle.plan.specs.Spell.{spell}
use Rattle.mend.specs.Padded.{padded_at, numbers_from, numbers_of, shortened, cut_from, groups_cut, place_from, place_of, last_place}
use Rattle.mend.proofs.PaddedLaws.{padded-bounds}
use Rattle.mend.proofs.RunReturns.{None, trouble, none-as, no_more, numbers-none, long-some, place_none, place-there, place-further}

-- what stands at `at`
pub data View (s : List ℕ) (at : ℕ) : Type 0 where
  none : None (padded_at s at) → View s at
  one : (v next : ℕ) → padded_at s at ≡ got v next → View s at

view_of : (s : List ℕ) (at : ℕ) (n : Result Number Trouble) → padded_at s at ≡ n → View s at
view_of s at (Err t) e = none (none-as trouble (sym e))
view_of s at (Ok r) e = one r.value r.next e

pub view : (s : List ℕ) (at : ℕ) → View s at
view s at = view_of s at (padded_at s at) refl

-- how many bytes the shortest form of the numbers from `at` on has
abbrev pub long : (left : ℕ) → List ℕ → (at : ℕ) → ℕ
long left s at = length (spell (numbers_from left s at))

long-none : (left : ℕ) (s : List ℕ) (at : ℕ) → None (padded_at s at) → long left s at ≡ 0
unfolding spell
long-none left s at h = rw (numbers-none left s at h)

cut-none : (left : ℕ) (s : List ℕ) (at : ℕ) → None (padded_at s at) → cut_from left s at ≡ 0
unfolding cut_from
cut-none zero s at h = refl
cut-none (suc left) s at h = no_more 0 _ h

pub cut-some : (left : ℕ) (s : List ℕ) (at : ℕ) {v next : ℕ} → padded_at s at ≡ got v next
    → cut_from (suc left) s at ≡ next - at - length (shortest v) + cut_from left s next
unfolding cut_from
cut-some left s at e = rw e

-- the place after the last number
Last : (left : ℕ) (s : List ℕ) (at p : ℕ) → Type 0
Last left s at p = place_from left s at p (p + long left s at) ≡ at + long left s at + cut_from left s at

last_view : (k : ℕ) (s : List ℕ) (at p : ℕ) → View s at → ((next q : ℕ) → Last k s next q) → Last (suc k) s at p
unfolding Last
last_view k s at p (none h) rest =
    place_none (suc k) s at p (p + long (suc k) s at) h ∙ omega (arith, long-none (suc k) s at h, cut-none (suc k) s at h)
last_view k s at p (one v next e) rest =
    let l = long-some k s at e in
    let b = padded-bounds s at e in
    let z : p + long (suc k) s at ≡ p + length (shortest v) + long k s next = omega (arith, l) in
    let f : p < p + long (suc k) s at = omega (arith, l, (shortest-long v).0) in
    let r : place_from k s next (p + length (shortest v)) (p + long (suc k) s at) ≡ next + long k s next + cut_from k s next =
    rw z (rest next (p + length (shortest v))) in
    omega (arith, place-further k s at p (p + long (suc k) s at) f e, r, l, b.long, cut-some k s at e)

last-is : (left : ℕ) (s : List ℕ) (at p : ℕ) → Last left s at p
unfolding Last spell numbers_from place_from cut_from
last-is zero s at p = omega arith
last-is (suc k) s at p = last_view k s at p (view s at) (λ next q. last-is k s next q)

-- no place is beyond the bytes
Inside : (left : ℕ) (s : List ℕ) (at p q : ℕ) → Type 0
Inside left s at p q = at ≤ length s → place_from left s at p q ≤ length s

inside-view : (k : ℕ) (s : List ℕ) (at p q : ℕ) → View s at → ((next r : ℕ) → Inside k s next r q) → Inside (suc k) s at p q
unfolding Inside
inside-view k s at p q (none h) rest i = omega (arith, place_none (suc k) s at p q h)
inside-view k s at p q (one v next e) rest i =
    elim (dec_lt p q) [
      | yes f ↦ omega (arith, place-further k s at p q f e, rest next (p + length (shortest v)) (padded-bounds s at e).inside)
      | no f ↦ omega (arith, place-there (suc k) s at p q (omega (arith, f)))
    ]

inside : (left : ℕ) (s : List ℕ) (at p q : ℕ) → Inside left s at p q
unfolding Inside place_from
inside zero s at p q h = h
inside (suc k) s at p q h = inside-view k s at p q (view s at) (λ next r. inside k s next r q) h

module _ (s : List ℕ) where
  -- the bytes up to the place after the last number are their shortest form and what is cut
  pub last-place : last_place s ≡ length (shortened s) + groups_cut s
  unfolding last_place place_of shortened numbers_of groups_cut Last
  last-place = rw (zero-add (long (length s) s 0)) at (last-is (length s) s 0 0)

  pub last-inside : last_place s ≤ length s
  unfolding last_place place_of Inside
  last-inside = inside (length s) s 0 0 (length (shortened s)) (omega arith)

  pub shortened-fits : length (shortened s) ≤ length s
  shortened-fits = omega (arith, last-place, last-inside)

-- bytes after bytes
pub bytes-append : (a b : List ℕ) → Bytes a → Bytes b → Bytes (a ++ b)
bytes-append [] b x y = y
bytes-append (n ∷ a) b x y = bytes-cons n (a ++ b) (x 0) (bytes-append a b (λ i. x (suc i)) y)

pub spell-bytes : (ns : List ℕ) → Bytes (spell ns)
unfolding spell
spell-bytes [] = bytes-nil
spell-bytes (x ∷ ns) = bytes-append (shortest x) (spell ns) (shortest-bytes x) (spell-bytes ns)

pub shortened-bytes : (s : List ℕ) → Bytes (shortened s)
unfolding shortened
shortened-bytes s = spell-bytes (numbers_of s)
