-- An order that is judged, without its log: as it is where it ended or nothing conflicts, and else as what the raise leaves is judged. Assumes nothing.
use Prim.Native.Nat.{ℕ, zero, suc, ◌<◌}
use native.Mathlib.Omega.{arith}
use mathlib.Core.Path.{◌≡◌, refl, sym, ap, subst, ◌∙◌}
use mathlib.Core.Bool.{true, false, false≢true}
use mathlib.Core.List.{List, [], ◌++◌}
use Rattle.std.specs.Prelude.{Option, Some}
use Rattle.plan.specs.Tree.{Plan}
use Rattle.order.specs.declared.Order.{Order}
use Rattle.order.specs.declared.Next.{Next}
use Rattle.order.specs.declared.End.{End}
use Rattle.order.specs.declared.End.TheVariants.{None, Well, Handled, Failed, Left}
use Rattle.order.specs.Acting.{in_place, Moved, acted}
use Rattle.order.specs.Answering.{next_of, goes_on_after, moved_as}
use Rattle.order.specs.Event.{Event}
use Rattle.order.specs.Judging.{Verdict, clear, clash, conflict, following, upon, judged, spare, settled}
use Rattle.order.specs.Room.{room_plan}
use Rattle.order.specs.State.{closings}
use Rattle.laws.proofs.Staying.{Roomed, conflict-room}
use Rattle.settling.specs.Answering.{number_of}
use Rattle.settling.proofs.Formed.{Shaped}
use Rattle.settling.proofs.Clashing.{OnClash, Higher, conflict-awaited}
use Rattle.settling.proofs.Settling.{acted-falls, empty-clear, judged-as-is, judged-enough}

-- an order after a step
abbrev so : End → (fault : ℕ) → Order → List Event → Moved
so e x o l = record { end = e; fault = x; order = o; log = l }

-- Where it ends, and which order it leaves, does not hang on what happened before.
pub any-log : (p : Plan) (n : ℕ) (e : End) (x : ℕ) (o : Order) (l m : List Event) → next_of (judged n p (so e x o l)) ≡ next_of (judged n p (so e x o m))
unfolding judged
any-log p zero e x o l m = refl
any-log p (suc n) None x o l m = go (λ e x o l m. any-log p n e x o l m) (conflict p o)
  where
    go : ((e : End) (x : ℕ) (o : Order) (l m : List Event) → next_of (judged n p (so e x o l)) ≡ next_of (judged n p (so e x o m))) → (v : Verdict)
        → next_of (upon (judged n p) p (so None x o l) v) ≡ next_of (upon (judged n p) p (so None x o m) v)
    go f clear = refl
    go f (clash k) = f (acted in_place p k o).end (acted in_place p k o).fault (acted in_place p k o).order (l ++ (acted in_place p k o).log) (m ++ (acted in_place p k o).log)
any-log p (suc n) Well x o l m = refl
any-log p (suc n) Handled x o l m = refl
any-log p (suc n) Failed x o l m = refl
any-log p (suc n) Left x o l m = refl

-- one that has ended
ended-still : (p : Plan) (n : ℕ) (e : End) (x : ℕ) (o : Order) (l : List Event) → goes_on_after e ≡ false → judged n p (so e x o l) ≡ so e x o l
unfolding judged goes_on_after
ended-still p zero e x o l d = refl
ended-still p (suc n) None x o l d = absurd (false≢true (sym d))
ended-still p (suc n) Well x o l d = refl
ended-still p (suc n) Handled x o l d = refl
ended-still p (suc n) Failed x o l d = refl
ended-still p (suc n) Left x o l d = refl

pub settled-ended : (p : Plan) (m : Next) → goes_on_after m.end ≡ false → next_of (settled p (moved_as m)) ≡ m
unfolding settled
settled-ended p m d = ap next_of (ended-still p (spare p m.order) m.end m.fault m.order [] d)

pub goes_none : (e : End) → goes_on_after e ≡ true → e ≡ None
unfolding goes_on_after
goes_none None d = refl
goes_none Well d = absurd (false≢true d)
goes_none Handled d = absurd (false≢true d)
goes_none Failed d = absurd (false≢true d)
goes_none Left d = absurd (false≢true d)

module _ (p : Plan) (h : Shaped p) where
  pub clash-is : (o : Order) (k : ℕ) → ◌≡◌ {A = Option ℕ} (Some k) (number_of (conflict p o)) → conflict p o ≡ clash k
  clash-is o k e = by-verdict (conflict p o) e
    where
      by-verdict : (v : Verdict) → ◌≡◌ {A = Option ℕ} (Some k) (number_of v) → v ≡ clash k
      by-verdict clear e = absurd cc
      by-verdict (clash j) e = let z : k ≡ j = cc in ap clash (sym z)

  clear-is : (v : Verdict) → ◌≡◌ {A = Option ℕ} Option.None (number_of v) → v ≡ clear
  clear-is clear e = refl
  clear-is (clash k) e = absurd cc

  pub clash-room : (o : Order) (k : ℕ) → conflict p o ≡ clash k → room_plan p k (closings o) ≡ true
  clash-room o k e = (subst (λ (v : Verdict). Roomed p (closings o) v) e (conflict-room p o)).1

  -- one with no conflict
  clear-still : (n x : ℕ) (o : Order) → conflict p o ≡ clear → judged n p (so None x o []) ≡ so None x o []
  unfolding judged
  clear-still zero x o e = refl
  clear-still (suc n) x o e = judged-as-is p h n (so None x o []) (λ d. e)

  pub settled-clear : (m : Next) → m.end ≡ None → ◌≡◌ {A = Option ℕ} Option.None (number_of (conflict p m.order)) → next_of (settled p (moved_as m)) ≡ m
  unfolding settled
  settled-clear m d e =
      let c : conflict p m.order ≡ clear = clear-is (conflict p m.order) e in
      ap (λ (x : End). next_of (judged (spare p m.order) p (so x m.fault m.order []))) d ∙ (ap next_of (clear-still (spare p m.order) m.fault m.order c) ∙ ap (λ (x : End). next_of (so x m.fault m.order [])) (sym d))

  higher : (o : Order) (k : ℕ) → conflict p o ≡ clash k → Higher p o k
  higher o k e = subst (λ (v : Verdict). OnClash (Higher p o) v) e (conflict-awaited p o)

  -- the raise leaves less
  pub raise-falls : (o : Order) (k : ℕ) → conflict p o ≡ clash k → (acted in_place p k o).end ≡ None → spare p (acted in_place p k o).order < spare p o
  raise-falls o k e d = acted-falls p h k o (higher o k e) d

  clash-once : (n x : ℕ) (o : Order) (k : ℕ) → spare p o ≡ n → conflict p o ≡ clash k
      → next_of (judged n p (so None x o []))
      ≡ next_of (judged (spare p (acted in_place p k o).order) p (so (acted in_place p k o).end (acted in_place p k o).fault (acted in_place p k o).order []))
  unfolding judged
  clash-once zero x o k s e = absurd (let c = empty-clear p h o (omega arith) in let q : clear ≡ clash k = sym c ∙ e in let z : ◌≡◌ {A = ℕ} 0 1 = cc in omega arith)
  clash-once (suc n) x o k s e =
      let m = acted in_place p k o in
      ap (λ (v : Verdict). next_of (upon (judged n p) p (so None x o []) v)) e
      ∙ (ap next_of (judged-enough p h n (spare p m.order) (following [] m) (λ d. omega (arith, raise-falls o k e d)) (λ d. omega arith))
      ∙ any-log p (spare p m.order) m.end m.fault m.order ([] ++ m.log) [])

  pub settled-clash : (m : Next) → m.end ≡ None → (k : ℕ) → conflict p m.order ≡ clash k
      → next_of (settled p (moved_as m)) ≡ next_of (settled p (moved_as (next_of (acted in_place p k m.order))))
  unfolding settled
  settled-clash m d k e =
      ap (λ (x : End). next_of (judged (spare p m.order) p (so x m.fault m.order []))) d ∙ clash-once (spare p m.order) m.fault m.order k refl e
