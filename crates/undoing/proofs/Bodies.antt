-- What begins with an order that starts stands in no undo part. Assumes nothing.
use Prim.Native.Nat.{ℕ, zero, suc, ◌+◌}
use mathlib.Core.Path.{◌≡◌, refl, sym, ap, subst, ◌∙◌}
use mathlib.Core.Bool.{Bool, true, false, false≢true}
use mathlib.Core.List.{List, [], ◌∷◌, ◌++◌}
use lib.ListN.{set}
use lib.Dec.{eqb}
use borrow.Author.Tests.{eqb-true}
use Rattle.plan.specs.Tree.{Own, empty, send, receive, set as setting, raise, leave, choose, repeat, sequence, flow, pick, scope, arm, Act, act, Acts, Plan, size}
use Rattle.order.specs.Lists.{some}
use Rattle.order.specs.State.{active}
use Rattle.order.specs.Event.{Event, began}
use Rattle.order.specs.Begin.{Begun, throughout, around, in_turn, begin, begin_in_turn, begin_all, begin_first}
use Rattle.undoing.specs.Ties.{Place, place_of}
use Rattle.undoing.specs.Orderly.{is_began_of}
use Rattle.undoing.specs.Begun.{has_began}
use Rattle.undoing.specs.Entirely.{is_undo}
use Rattle.undoing.proofs.Orders.{Sits, sits-part, sits-scope, SitsIn, sits-none, sits-more}
use Rattle.undoing.proofs.Truly.{or_case, began-in}

-- Each that begins has a property.
module _ (P : ℕ → Type 0) where
  pub record Each (l : List Event) : Type 0 where
    pub at : (j : ℕ) → has_began j l ≡ true → P j

  each_none : Each []
  unfolding some
  each_none = record { at = λ j h. absurd (false≢true h) }

  each_more : (k : ℕ) (l : List Event) → P k → Each l → Each (began k ∷ l)
  unfolding some is_began_of
  each_more k l x w = record { at = λ j h. or_case (eqb j k) (has_began j l) h (λ e. subst P (sym (eqb-true j k e)) x) (λ e. w.at j e) }

  each_both : (l m : List Event) → Each l → Each m → Each (l ++ m)
  each_both l m w v = record { at = λ j h. began-in j l m h (λ e. w.at j e) (λ e. v.at j e) }

  through-each : (k : ℕ) (r : Begun) → Each r.log → Each (throughout k r).log
  through-each k r w = go r.over
    where
      go : (v : Bool) → Each (throughout k (record { marks = r.marks; over = v; log = r.log })).log
      go true = w
      go false = w

  around-each : (k : ℕ) (r : Begun) → Each r.log → Each (around k r).log
  around-each k r w = go r.over
    where
      go : (v : Bool) → Each (around k (record { marks = r.marks; over = v; log = r.log })).log
      go true = w
      go false = w

  turn-each : (g : List ℕ → Begun) (r : Begun) → Each r.log → Each (g r.marks).log → Each (in_turn g r).log
  turn-each g r w v = go r.over
    where
      go : (b : Bool) → Each (in_turn g (record { marks = r.marks; over = b; log = r.log })).log
      go true = each_both r.log (g r.marks).log w v
      go false = w

  own-each : (own : Own) (within : Acts) (k : ℕ) (ms : List ℕ) → P k → Each (begin_in_turn within (k + 1) (set ms k active)).log → Each (begin_all within (k + 1) (set ms k active)).log → Each (begin_first within (k + 1) (set ms k active)).log
      → Each (begin (act own within) k ms).log
  unfolding begin
  own-each empty within k ms x a b c = each_more k [] x each_none
  own-each (send p o vs) within k ms x a b c = each_more k [] x each_none
  own-each (receive p o vs) within k ms x a b c = each_more k [] x each_none
  own-each (setting v e) within k ms x a b c = each_more k [] x each_none
  own-each (raise zero) within k ms x a b c = each_more k [] x each_none
  own-each (raise (suc number)) within k ms x a b c = each_more k [] x each_none
  own-each leave within k ms x a b c = each_more k [] x each_none
  own-each (choose e) within k ms x a b c = each_more k [] x each_none
  own-each (repeat e) within k ms x a b c = each_more k [] x each_none
  own-each sequence within k ms x a b c = each_more k _ x (through-each k (begin_in_turn within (k + 1) (set ms k active)) a)
  own-each flow within k ms x a b c = each_more k _ x (through-each k (begin_all within (k + 1) (set ms k active)) b)
  own-each pick within k ms x a b c = each_more k [] x each_none
  own-each (scope xs v) within k ms x a b c = each_more k _ x (around-each k (begin_first within (k + 1) (set ms k active)) c)
  own-each (arm p o vs) within k ms x a b c = each_none

module _ (p : Plan) where
  -- it stands in no undo part
  abbrev pub Plainly : ℕ → Type 0
  Plainly j = is_undo (place_of p j) ≡ false

  mutual
    unfolding begin

    pub begin-bodies : {q : Place} {a : Act} {k : ℕ} → Sits p q a k → is_undo q ≡ false → (ms : List ℕ) → Each Plainly (begin a k ms).log
    begin-bodies (sits-part {q} {own} {within} {k} s g u y l) e ms =
        own-each Plainly own within k ms (ap is_undo u.place ∙ e) (turn-bodies l e (set ms k active)) (all-bodies l e (set ms k active)) (first-bodies l e (set ms k active))
    begin-bodies (sits-scope {b = b} {k = k} kn v i sb y) e ms =
        each_more Plainly k _ (ap is_undo v.place) (around-each Plainly k (begin b (k + 1) (set ms k active)) (begin-bodies sb refl (set ms k active)))

    turn-bodies : {q : Place} {l : Acts} {c : ℕ} → SitsIn p q l c → is_undo q ≡ false → (ms : List ℕ) → Each Plainly (begin_in_turn l c ms).log
    turn-bodies sits-none e ms = each_none Plainly
    turn-bodies (sits-more {q} {a} {l} {c} s y) e ms = turn-each Plainly (begin_in_turn l (c + size a)) (begin a c ms) (begin-bodies s e ms) (turn-bodies y e (begin a c ms).marks)

    all-bodies : {q : Place} {l : Acts} {c : ℕ} → SitsIn p q l c → is_undo q ≡ false → (ms : List ℕ) → Each Plainly (begin_all l c ms).log
    all-bodies sits-none e ms = each_none Plainly
    all-bodies (sits-more {q} {a} {l} {c} s y) e ms = each_both Plainly (begin a c ms).log _ (begin-bodies s e ms) (all-bodies y e (begin a c ms).marks)

    first-bodies : {q : Place} {l : Acts} {c : ℕ} → SitsIn p q l c → is_undo q ≡ false → (ms : List ℕ) → Each Plainly (begin_first l c ms).log
    first-bodies sits-none e ms = each_none Plainly
    first-bodies (sits-more {q} {a} {l} {c} s y) e ms = begin-bodies s e ms
