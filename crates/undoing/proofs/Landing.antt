-- Which of a list of activities a step is in, by its place among them: what it does there, where that one stands, and before which of them. Assumes nothing.
use Prim.Native.Nat.{ℕ, zero, suc, ◌+◌, ◌≤◌, ◌<◌}
use native.Mathlib.Omega.{arith}
use mathlib.Core.Path.{◌≡◌, refl, ap, ◌∙◌}
use mathlib.Core.Bool.{Bool, true, false, cond}
use mathlib.Core.List.{List}
use lib.Dec.{ltb}
use borrow.Author.Tests.{ltb-true, ltb-false, lt-ltb, le-ltb}
use Rattle.plan.specs.Tree.{Act, Acts, none, more, size, sizes, count}
use Rattle.order.specs.declared.Order.{Order}
use Rattle.order.specs.Begin.{part, part_at}
use Rattle.order.specs.Scope.{Outcome, runs}
use Rattle.order.specs.Acting.{Actor, step_in, step_among}
use Rattle.undoing.specs.Ties.{Place, place_in, place_parts}
use Rattle.undoing.proofs.Parts.{decide}
use Rattle.undoing.proofs.Places.{first-of, second-of, parts_first, parts_last, parts-later}

-- step t is in the i-th of a list, the first of which has the number c; or beyond all of them
pub data Lands : Acts → (c t i : ℕ) → Type 0 where
  lands_here : {a : Act} {l : Acts} {c t : ℕ} → t < c + size a → Lands (more a l) c t zero
  lands-later : {a : Act} {l : Acts} {c t i : ℕ} → c + size a ≤ t → Lands l (c + size a) t i → Lands (more a l) c t (suc i)

pub data Landed (l : Acts) (c t : ℕ) : Type 0 where
  landed : (i : ℕ) → Lands l c t i → Landed l c t
  beyond : c + sizes l ≤ t → Landed l c t

pub lands : (l : Acts) (c t : ℕ) → c ≤ t → Landed l c t
unfolding size
lands none c t h = beyond (omega arith)
lands (more a l) c t h =
    decide (ltb t (c + size a)) (λ e. landed 0 (lands_here (ltb-true t (c + size a) e))) (λ e. later (ltb-false t (c + size a) e) (lands l (c + size a) t (ltb-false t (c + size a) e)))
  where
    later : c + size a ≤ t → Landed l (c + size a) t → Landed (more a l) c t
    later g (landed i w) = landed (suc i) (lands-later g w)
    later g (beyond e) = beyond (omega arith)

-- it is one of them, and has the step in it
pub lands-count : {l : Acts} {c t i : ℕ} → Lands l c t i → i < count l
unfolding count
lands-count (lands_here h) = omega arith
lands-count (lands-later h w) = omega (arith, lands-count w)

pub lands-from : {l : Acts} {c t i : ℕ} → Lands l c t i → c ≤ t → part_at i l c ≤ t
unfolding part_at
lands-from (lands_here h) e = e
lands-from (lands-later h w) e = lands-from w h

pub lands-to : {l : Acts} {c t i : ℕ} → Lands l c t i → t < part_at i l c + size (part i l)
unfolding part part_at
lands-to (lands_here h) = h
lands-to (lands-later h w) = lands-to w

-- the i-th stands from the first number on, and one further on later
pub at_from : (i : ℕ) (l : Acts) (c : ℕ) → c ≤ part_at i l c
unfolding part_at
at_from i none c = omega arith
at_from zero (more a l) c = omega arith
at_from (suc i) (more a l) c = omega (arith, at_from i l (c + size a))

pub at-to : (i : ℕ) (l : Acts) (c : ℕ) → part_at i l c ≤ c + sizes l
unfolding part_at size
at-to i none c = omega arith
at-to zero (more a l) c = omega arith
at-to (suc i) (more a l) c = omega (arith, at-to i l (c + size a))

-- the last ends with the list, and beyond it stands what follows the list
pub at_last : (i : ℕ) (l : Acts) (c : ℕ) → count l ≡ suc i → part_at i l c + size (part i l) ≡ c + sizes l
unfolding part part_at count size
at_last i none c h = absurd (omega arith)
at_last zero (more a none) c h = omega arith
at_last zero (more a (more b l)) c h = absurd (omega arith)
at_last (suc i) (more a l) c h = omega (arith, at_last i l (c + size a) (omega arith))

pub at-end : (i : ℕ) (l : Acts) (c : ℕ) → count l ≤ i → part_at i l c ≡ c + sizes l
unfolding part_at count size
at-end i none c h = omega arith
at-end zero (more a l) c h = absurd (omega arith)
at-end (suc i) (more a l) c h = omega (arith, at-end i l (c + size a) (omega arith))

-- it is before each later one, and not before itself or an earlier one
pub lands-before : {l : Acts} {c t i : ℕ} → Lands l c t i → (g : ℕ) → i < g → ltb t (part_at g l c) ≡ true
unfolding part_at
lands-before (lands_here {a} {l} {c} {t} h) zero e = absurd (omega arith)
lands-before (lands_here {a} {l} {c} {t} h) (suc g) e = lt-ltb t (part_at g l (c + size a)) (omega (arith, at_from g l (c + size a)))
lands-before (lands-later h w) zero e = absurd (omega arith)
lands-before (lands-later h w) (suc g) e = lands-before w g (omega arith)

pub lands-after : {l : Acts} {c t i : ℕ} → Lands l c t i → c ≤ t → (g : ℕ) → g ≤ i → ltb t (part_at g l c) ≡ false
unfolding part_at
lands-after (lands_here {a} {l} {c} {t} h) e zero d = le-ltb t c e
lands-after (lands_here h) e (suc g) d = absurd (omega arith)
lands-after (lands-later {c = c} {t = t} h w) e zero d = le-ltb t c e
lands-after (lands-later h w) e (suc g) d = lands-after w h g (omega arith)

pub beyond-after : (l : Acts) (c t : ℕ) → c + sizes l ≤ t → (g : ℕ) → ltb t (part_at g l c) ≡ false
beyond-after l c t h g = le-ltb t (part_at g l c) (omega (arith, at-to g l c))

-- the step in it
pub lands-step : (actor : Actor) {l : Acts} {c t i : ℕ} → Lands l c t i → (q₀ : ℕ) (o : Order) → step_among actor l true q₀ c t o ≡ step_in actor (part i l) (part_at i l c) (part_at i l c) t o
unfolding step_in part part_at
lands-step actor (lands_here {a} {l} {c} {t} h) q₀ o =
    first-of (ltb t (c + size a)) (step_in actor a c c t o) (step_among actor l true q₀ (c + size a) t o) (step_among actor (more a l) true q₀ c t o) refl (lt-ltb t (c + size a) h)
lands-step actor (lands-later {a} {l} {c} {t} h w) q₀ o =
    second-of (ltb t (c + size a)) (step_in actor a c c t o) (step_among actor l true q₀ (c + size a) t o) (step_among actor (more a l) true q₀ c t o) refl (le-ltb t (c + size a) h)
    ∙ lands-step actor w q₀ o

pub beyond-step : (actor : Actor) (l : Acts) (c t q₀ : ℕ) (o : Order) → c + sizes l ≤ t → step_among actor l true q₀ c t o ≡ runs o
unfolding step_in size
beyond-step actor none c t q₀ o h = refl
beyond-step actor (more a l) c t q₀ o h =
    second-of (ltb t (c + size a)) (step_in actor a c c t o) (step_among actor l true q₀ (c + size a) t o) (step_among actor (more a l) true q₀ c t o) refl (le-ltb t (c + size a) (omega arith))
    ∙ beyond-step actor l (c + size a) t q₀ o (omega arith)

-- where it stands, among the parts of a scope: one of the n fault parts after the first, or the undo part
pub lands-fault : {l : Acts} {c t i : ℕ} → Lands l c t i → (n : ℕ) → i ≤ n → (f u : Place) → place_parts n l c t f f u ≡ place_in (part i l) (part_at i l c) t f
unfolding part part_at
lands-fault (lands_here {a} {l} {c} {t} h) n e f u = parts_first n a l c t f f u (lt-ltb t (c + size a) h)
lands-fault (lands-later h w) zero e f u = absurd (omega arith)
lands-fault (lands-later {a} {l} {c} {t} h w) (suc n) e f u = parts-later n a l c t f f u (le-ltb t (c + size a) h) ∙ lands-fault w n (omega arith) f u

lands-rest : {l : Acts} {c t i : ℕ} → Lands l c t i → (f u : Place) → place_parts zero l c t u f u ≡ place_in (part i l) (part_at i l c) t u
unfolding part part_at
lands-rest (lands_here {a} {l} {c} {t} h) f u = parts_first zero a l c t u f u (lt-ltb t (c + size a) h)
lands-rest (lands-later {a} {l} {c} {t} h w) f u = parts_last a l c t u f u (le-ltb t (c + size a) h) ∙ lands-rest w f u

pub lands-undo : {l : Acts} {c t i : ℕ} → Lands l c t i → (n : ℕ) → n < i → (f u : Place) → place_parts n l c t f f u ≡ place_in (part i l) (part_at i l c) t u
unfolding part part_at
lands-undo (lands_here h) n e f u = absurd (omega arith)
lands-undo (lands-later {a} {l} {c} {t} h w) zero e f u = parts_last a l c t f f u (le-ltb t (c + size a) h) ∙ lands-rest w f u
lands-undo (lands-later {a} {l} {c} {t} h w) (suc n) e f u = parts-later n a l c t f f u (le-ltb t (c + size a) h) ∙ lands-undo w n (omega arith) f u
