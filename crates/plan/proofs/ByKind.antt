-- Scopes, picks and raises are known by their kinds, and scopes with fault parts by number from all others. Assumes nothing.
use mathlib.Core.Path.{◌≡◌, refl}
use mathlib.Core.Bool.{Bool, true, false, ◌||◌, ◌&&◌, false≢true}
use mathlib.Core.List.{List, [], ◌∷◌}
use Prim.Native.Nat.{ℕ, zero, suc, ◌≤◌, ◌<◌}
use native.Mathlib.Omega.{arith}
use borrow.Author.Tests.{leb-true, eqb-true, le-leb, lt-leb, ne_eqb}
use lib.Dec.{leb, eqb}
use Rattle.plan.specs.Read.{namable, is_code, is_scope_code}
use Rattle.plan.specs.Spell.{own_numbers}
use Rattle.plan.specs.Within.{raise_within}
use Rattle.plan.specs.Tree.{Own, empty, to_partner, to_held, from_partner, from_asking, send, receive, set, raise, leave, choose, repeat, sequence, flow, pick, scope, arm, kind, is_scope, is_pick, numbers_of}

pub kind-scope : (own : Own) → is_scope_code (kind own) ≡ is_scope own
unfolding kind
kind-scope empty = refl
kind-scope (send (to_partner p) o vs) = refl
kind-scope (send (to_held v r) o vs) = refl
kind-scope (receive (from_partner p) o vs) = refl
kind-scope (receive (from_asking p v) o vs) = refl
kind-scope (set v e) = refl
kind-scope (raise zero) = refl
kind-scope (raise (suc n)) = refl
kind-scope leave = refl
kind-scope (choose e) = refl
kind-scope (repeat e) = refl
kind-scope sequence = refl
kind-scope flow = refl
kind-scope pick = refl
kind-scope (scope [] true) = refl
kind-scope (scope [] false) = refl
kind-scope (scope (n ∷ ns) undo) = refl
kind-scope (arm p o vs) = refl

pub kind-pick : (own : Own) → eqb (kind own) 10 ≡ is_pick own
unfolding kind
kind-pick empty = refl
kind-pick (send (to_partner p) o vs) = refl
kind-pick (send (to_held v r) o vs) = refl
kind-pick (receive (from_partner p) o vs) = refl
kind-pick (receive (from_asking p v) o vs) = refl
kind-pick (set v e) = refl
kind-pick (raise zero) = refl
kind-pick (raise (suc n)) = refl
kind-pick leave = refl
kind-pick (choose e) = refl
kind-pick (repeat e) = refl
kind-pick sequence = refl
kind-pick flow = refl
kind-pick pick = refl
kind-pick (scope [] true) = refl
kind-pick (scope [] false) = refl
kind-pick (scope (n ∷ ns) undo) = refl
kind-pick (arm p o vs) = refl

-- the codes of activities: 14 and below are codes, 18 is the last, and of those above 14 one that is not 17 is 18
pub early-code : (code : ℕ) → code ≤ 14 → is_code code ≡ true
early-code code h = rw (le-leb code 14 h)

pub last_code : (code : ℕ) → is_code code ≡ true → 14 < code → eqb code 17 ≡ false → code ≡ 18
last_code code h l t = eqb-true code 18 (rw (lt-leb code 14 l, t) at h)

pub code-small : (code : ℕ) → is_code code ≡ true → code ≤ 18
code-small code h = go (leb code 14) (eqb code 17) (eqb code 18) h (leb-true code 14) (eqb-true code 17) (eqb-true code 18)
  where
    go : (a b c : Bool) → (a || (b || c)) ≡ true → (a ≡ true → code ≤ 14) → (b ≡ true → code ≡ 17) → (c ≡ true → code ≡ 18) → code ≤ 18
    go true b c e f g h = omega (arith, f refl)
    go false true c e f g h = omega (arith, g refl)
    go false false c e f g h = omega (arith, h e)

-- a raise with a number, by its code and its numbers; and the numbers that a raise may have
pub raise-kind : (n : ℕ) → 16 ≤ n → kind (raise n) ≡ 13
unfolding kind
raise-kind zero h = absurd (omega arith)
raise-kind (suc n) h = refl

pub raise-numbers : (n within : ℕ) → 16 ≤ n → own_numbers (raise n) within ≡ 13 ∷ n ∷ []
unfolding own_numbers
raise-numbers zero within h = absurd (omega arith)
raise-numbers (suc n) within h = refl

pub raise-allowed : (n : ℕ) → 16 ≤ n → n < 256 → raise_within n ≡ true
unfolding raise_within
raise-allowed n h l = rw (ne_eqb n 0 (λ z. omega arith), le-leb 16 n h, le-leb n 255 (omega arith))

pub raise-limits : (n : ℕ) → raise_within (suc n) ≡ true → (16 ≤ suc n) × (suc n < 256)
unfolding raise_within
raise-limits n e = go (leb 16 (suc n)) (leb (suc n) 255) (rw (ne_eqb (suc n) 0 (λ z. omega arith)) at e) (leb-true 16 (suc n)) (leb-true (suc n) 255)
  where
    go : (a b : Bool) → (a && b) ≡ true → (a ≡ true → 16 ≤ suc n) → (b ≡ true → suc n ≤ 255) → (16 ≤ suc n) × (suc n < 256)
    go true b e f g = (f refl, omega (arith, g e))
    go false b e f g = absurd (false≢true e)

-- a scope with fault parts by number, or anything else
pub data ByNumber : Own → Type 0 where
  plain : {own : Own} → numbers_of own ≡ [] → ByNumber own
  numbered : (number : ℕ) (numbers : List ℕ) (undo : Bool) → ByNumber (scope (number ∷ numbers) undo)

pub by_number : (own : Own) → ByNumber own
by_number empty = plain refl
by_number (send p o vs) = plain refl
by_number (receive p o vs) = plain refl
by_number (set v e) = plain refl
by_number (raise n) = plain refl
by_number leave = plain refl
by_number (choose e) = plain refl
by_number (repeat e) = plain refl
by_number sequence = plain refl
by_number flow = plain refl
by_number pick = plain refl
by_number (scope [] undo) = plain refl
by_number (scope (n ∷ ns) undo) = numbered n ns undo
by_number (arm p o vs) = plain refl

-- the number of a fault part is a byte
pub namable-small : (n : ℕ) → namable n ≡ true → n ≤ 255
unfolding namable
namable-small n e = go (leb n 5) (leb 16 n) (leb n 255) e (leb-true n 5) (leb-true n 255)
  where
    go : (a b c : Bool) → (a || (b && c)) ≡ true → (a ≡ true → n ≤ 5) → (c ≡ true → n ≤ 255) → n ≤ 255
    go true b c e f g = omega (arith, f refl)
    go false true c e f g = g e
    go false false c e f g = absurd (false≢true e)
