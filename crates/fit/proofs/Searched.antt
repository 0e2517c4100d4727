-- The search for an open receive goes through the slots and the rows, and keeps the first that takes the message. Assumes nothing.
use mathlib.Core.Path.{◌≡◌, refl, sym, ap, ◌∙◌}
use mathlib.Core.Bool.{Bool, true, false, false≢true, cond, not, ◌&&◌}
use mathlib.Core.List.{List, [], ◌∷◌}
use Prim.Native.Nat.{ℕ, zero, suc, ◌+◌, ◌<◌, ◌≤◌}
use native.Mathlib.Omega.{arith}
use lib.ListN.{length, get_or, drop}
use Rattle.plan.specs.Tree.{partner_from, Own, empty, send, receive, set, raise, leave, choose, repeat, sequence, flow, pick, scope, arm, Acts, Plan}
use Rattle.machine.specs.declared.Message.{Message}
use Rattle.order.specs.declared.Order.{Order}
use Rattle.std.specs.Prelude.{Option, None, Some}
use Rattle.fit.specs.declared.Receiver.{Receiver}
use Rattle.fit.specs.Answering.{KnowsOrder, message_at, fits_own, catches}
use Rattle.fit.specs.Finding.{receiver, first_of, or_else, first_receiver}
use Rattle.machine.specs.Fit.{doing_of, Ready, ready_of, Live, live_from, Letter, fits, unchecked, fitting}
use Rattle.fit.specs.Folds.{folded}
use Rattle.fit.specs.Lines.{Line, lines_of, is_ready, ready_at, Tabled}
use Rattle.order.specs.Lists.{empties}
use Rattle.fit.specs.Receiving.{Flagged, Lent, TakesRow, catch_line, catch_live, Receives, Slots}
use Rattle.order.specs.State.{is_live}
use Rattle.fit.proofs.Crossed.{Crossing, crossing-starts, crossing-again, crossing-done}
use Rattle.fit.proofs.Lines.{fold_same, fold-ready, Rowing, rowing-starts, rowing-again, rowing-done}

else-nothing : (c : Option Receiver) → or_else c None ≡ c
unfolding or_else
else-nothing (Some x) = refl
else-nothing None = refl

else-assoc : (a b c : Option Receiver) → or_else (or_else a b) c ≡ or_else a (or_else b c)
unfolding or_else
else-assoc (Some x) b c = refl
else-assoc None b c = refl

-- what is found stays
else-stays : {A : Type 0} (g : A → Option Receiver) (l : List A) (i k : ℕ) → folded (λ a c. or_else c (g a)) l (receiver i k) ≡ receiver i k
unfolding folded or_else
else-stays g [] i k = refl
else-stays g (a ∷ l) i k = else-stays g l i k

-- the message fits a step where it fits what the activity says of itself
one-empties : (b : Bool) (x : ℕ) → empties (cond b (x ∷ []) []) ≡ not b
one-empties true x = refl
one-empties false x = refl

fitting-own : (p : Plan) (o : Order) (m : Message) (own : Own) (l : Acts) (k : ℕ) → empties (fitting p o m (doing_of own l k)) ≡ not (fits_own p o m own)
unfolding doing_of fitting fits_own
fitting-own p o m empty l k = refl
fitting-own p o m (send a b vs) l k = refl
fitting-own p o m (receive a b vs) l k = one-empties (fits p o (partner_from a) b vs m) (unchecked p o vs)
fitting-own p o m (set v e) l k = refl
fitting-own p o m (raise zero) l k = refl
fitting-own p o m (raise (suc number)) l k = refl
fitting-own p o m leave l k = refl
fitting-own p o m (choose e) l k = refl
fitting-own p o m (repeat e) l k = refl
fitting-own p o m sequence l k = refl
fitting-own p o m flow l k = refl
fitting-own p o m pick l k = refl
fitting-own p o m (scope ns u) l k = refl
fitting-own p o m (arm a b vs) l k = one-empties (fits p o a b vs m) (unchecked p o vs)

or-else-nothing : (c : Option Receiver) → or_else None c ≡ c
unfolding or_else
or-else-nothing c = refl

or-else-at : (i k : ℕ) (c : Option Receiver) → or_else (receiver i k) c ≡ receiver i k
unfolding or_else
or-else-at i k c = refl

unfoldable caught : Plan → (slot : ℕ) → Order → Message → Ready → Option Receiver
caught p i o m r = cond (empties (fitting p o m r.step)) None (receiver i r.activity)

first-fold : (p : Plan) (i : ℕ) (o : Order) (m : Message) (l : List Ready) (c : Option Receiver)
    → folded (λ r x. or_else x (caught p i o m r)) l c ≡ or_else c (first_of p i o m l)
unfolding folded first_of caught
first-fold p i o m [] c = sym (else-nothing c)
first-fold p i o m (r ∷ l) c =
    first-fold p i o m l (or_else c (caught p i o m r))
    ∙ (else-assoc c (caught p i o m r) (first_of p i o m l) ∙ ap (or_else c) (by-test (empties (fitting p o m r.step))))
  where
    by-test : (b : Bool) → or_else (cond b None (receiver i r.activity)) (first_of p i o m l) ≡ cond b (first_of p i o m l) (receiver i r.activity)
    by-test true = or-else-nothing (first_of p i o m l)
    by-test false = or-else-at i r.activity (first_of p i o m l)

live-fold : (p : Plan) (m : Message) (l : List Letter) (live : List Live) (c : Option Receiver) → folded (catch_live m p l) live c ≡ or_else c (first_receiver p live m)
unfolding folded first_receiver catch_live
live-fold p m l [] c = sym (else-nothing c)
live-fold p m l (x ∷ live) c =
    live-fold p m l live (or_else c (first_of p x.slot x.order m x.ready))
    ∙ else-assoc c (first_of p x.slot x.order m x.ready) (first_receiver p live m)

catch-line : (i : ℕ) (o : Order) (m : Message) (p : Plan) (l : List Letter) (x : Line) (c : Option Receiver)
    → cond (is_ready o.marks x) (or_else c (caught p i o m (ready_at x))) c ≡ catch_line i m o p l x c
unfolding catch_line catches caught
catch-line i o m p l x c =
    rw (fitting-own p o m x.own x.within x.activity) (by-test (is_ready o.marks x) (fits_own p o m x.own))
  where
    by-test : (a b : Bool) → cond a (or_else c (cond (not b) None (receiver i x.activity))) c ≡ or_else c (cond (a && b) (receiver i x.activity) None)
    by-test true true = refl
    by-test true false = refl
    by-test false b = sym (else-nothing c)

first-lines : (i : ℕ) (o : Order) (m : Message) (p : Plan) (l : List Letter) (c : Option Receiver)
    → folded (catch_line i m o p l) (lines_of p o.marks) c ≡ catch_live m p l (record { slot = i; order = o; ready = ready_of p o }) c
unfolding catch_live
first-lines i o m p l c =
    sym (sym (first-fold p i o m (ready_of p o) c)
    ∙ (fold-ready (λ r x. or_else x (caught p i o m r)) p o c ∙ fold_same _ _ (λ x s. catch-line i o m p l x s) (lines_of p o.marks) c))

catch-none : (i : ℕ) (o : Order) (m : Message) (p : Plan) (l : List Letter) (x : Line) → catches p o m x.own x.arms x.activity ≡ false
    → None ≡ catch_line i m o p l x None
unfolding catch_line or_else
catch-none i o m p l x e = rw e

catch-here : (i : ℕ) (o : Order) (m : Message) (p : Plan) (l : List Letter) (x : Line) {k : ℕ} → x.activity ≡ k
    → catches p o m x.own x.arms x.activity ≡ true → receiver i k ≡ catch_line i m o p l x None
unfolding catch_line or_else
catch-here i o m p l x z e = rw (e, z)

line_stays : (i : ℕ) (o : Order) (m : Message) (p : Plan) (l : List Letter) (lines : List Line) (j k : ℕ) → folded (catch_line i m o p l) lines (receiver j k) ≡ receiver j k
unfolding catch_line
line_stays i o m p l lines j k =
    else-stays (λ (x : Line). cond (catches p o m x.own x.arms x.activity) (receiver i x.activity) None) lines j k

live-stays : (p : Plan) (m : Message) (l : List Letter) (live : List Live) (j k : ℕ) → folded (catch_live m p l) live (receiver j k) ≡ receiver j k
unfolding catch_live
live-stays p m l live j k = else-stays (λ (x : Live). first_of p x.slot x.order m x.ready) live j k

-- the inner loop: no row passed takes the message, which is one of 64
pub record Looking (t picks marks known : List ℕ) (i rows : ℕ) (letters : List ℕ) (j k : ℕ) : Type 0 where
  pub row : j < 64 → Rowing t rows (Lent t picks marks known) (catch_line i (message_at letters j)) None k None

-- the outer loop: no slot passed has a row that takes the message
pub record Searching (t flags picks : List ℕ) (orders : List Order) (n : ℕ) (letters : List ℕ) (j slot : ℕ) : Type 0 where
  pub slots : j < 64 → Crossing t n (Flagged t picks flags) (catch_live (message_at letters j)) orders None slot None

pub searching-starts : (t flags picks : List ℕ) (orders : List Order) (n : ℕ) (letters : List ℕ) (j : ℕ) → length orders ≡ 16
    → Searching t flags picks orders n letters j 0
searching-starts t flags picks orders n letters j e =
    record { slots = λ few. crossing-starts t n (Flagged t picks flags) (catch_live (message_at letters j)) orders None e }

pub looking-starts : (t picks marks known : List ℕ) (i rows : ℕ) (letters : List ℕ) (j : ℕ) → Looking t picks marks known i rows letters j 0
looking-starts t picks marks known i rows letters j =
    record { row = λ few. rowing-starts t rows (Lent t picks marks known) (catch_line i (message_at letters j)) None }

module _ {t picks marks known : List ℕ} {i rows : ℕ} {letters : List ℕ} {j k : ℕ} (w : Looking t picks marks known i rows letters j k)
    (h : k < rows) {b : Bool} (y : TakesRow t picks marks known k letters j b) where
  pub looking-again : b ≡ false → Looking t picks marks known i rows letters j (k + 1)
  looking-again e = record {
    row = λ few. rowing-again (w.row few) h
        (record { is = λ o p l x g z. catch-none i o (message_at letters j) p l x (sym (y.is few o p l x g z) ∙ e) });
  }

  looking-found : b ≡ true → j < 64 → Rowing t rows (Lent t picks marks known) (catch_line i (message_at letters j)) None (k + 1) (receiver i k)
  looking-found e few = rowing-again (w.row few) h
      (record { is = λ o p l x g z. catch-here i o (message_at letters j) p l x z.activity (sym (y.is few o p l x g z) ∙ e) })

module _ {t flags picks : List ℕ} {orders : List Order} {n : ℕ} {letters : List ℕ} {j slot : ℕ}
    (w : Searching t flags picks orders n letters j slot) where
  pub searching-done : 16 ≤ slot → Receives t flags picks orders n letters j None
  unfolding or_else
  searching-done h = record {
    is = λ few p cor v y.
        (crossing-done (w.slots few) h).is p [] (record { correlated = cor; picked = v }) y ∙ live-fold p (message_at letters j) [] (live_from p 0 orders) None;
  }

  module _ (d : Order) {rows : ℕ} (many : rows ≡ cond (is_live (get_or orders slot d)) n 0) (h : slot < 16) {known : List ℕ}
      (knows : KnowsOrder flags (get_or orders slot d) known) {k : ℕ}
      (v : Looking t picks (get_or orders slot d).marks known slot rows letters j k) where
    tabled : (b : Bool) → rows ≡ cond b n 0 → b ≡ true → {p : Plan} → Tabled p t n → Tabled p t rows
    tabled true e q y = rw e y
    tabled false e q y = absurd (false≢true q)

    lends : (p : Plan) (l : List Letter) → Flagged t picks flags p l → Lent t picks (get_or orders slot d).marks known (get_or orders slot d) p l
    lends p l x = record { picked = x.picked; marked = refl; knows = knows.is p x.correlated }

    pub searching-again : rows ≤ k → Searching t flags picks orders n letters j (slot + 1)
    searching-again g = record {
      slots = λ few. crossing-again (w.slots few) d h (record { is = λ p l x y. by-test few p l x y (is_live (get_or orders slot d)) refl });
    }
      where
        by-test : j < 64 → (p : Plan) (l : List Letter) → Flagged t picks flags p l → Tabled p t n → (b : Bool) → is_live (get_or orders slot d) ≡ b
            → None
            ≡ cond b (catch_live (message_at letters j) p l (record { slot = slot; order = get_or orders slot d; ready = ready_of p (get_or orders slot d) }) None) None
        by-test few p l x y true e =
            (rowing-done (v.row few) g).is (get_or orders slot d) p l (lends p l x) (tabled (is_live (get_or orders slot d)) many e y)
            ∙ first-lines slot (get_or orders slot d) (message_at letters j) p l None
        by-test few p l x y false e = refl

    pub searching-found : k < rows → {b : Bool} → TakesRow t picks (get_or orders slot d).marks known k letters j b → b ≡ true
        → Receives t flags picks orders n letters j (receiver slot k)
    unfolding or_else
    searching-found g {b} y z = record {
      is = λ few p cor u q.
          let c = crossing-again (w.slots few) d h (here few) in
          sym (sym (live-fold p (message_at letters j) [] (live_from p 0 orders) None)
          ∙ (c.same p [] (record { correlated = cor; picked = u }) q
          ∙ live-stays p (message_at letters j) [] (live_from p (slot + 1) (drop (slot + 1) orders)) slot k));
    }
      where
        by-test : j < 64 → (p : Plan) (l : List Letter) → Flagged t picks flags p l → Tabled p t n → (b : Bool) → is_live (get_or orders slot d) ≡ b → rows ≡ cond b n 0
            → receiver slot k
            ≡ cond b (catch_live (message_at letters j) p l (record { slot = slot; order = get_or orders slot d; ready = ready_of p (get_or orders slot d) }) None) None
        by-test few p l x u true e r =
            sym (sym (first-lines slot (get_or orders slot d) (message_at letters j) p l None)
            ∙ ((looking-found v g y z few).same (get_or orders slot d) p l (lends p l x) (tabled (is_live (get_or orders slot d)) many e u)
            ∙ line_stays slot (get_or orders slot d) (message_at letters j) p l (drop (k + 1) (lines_of p (get_or orders slot d).marks)) slot k))
        by-test few p l x u false e r = absurd (omega arith)

        here : j < 64 → Slots t n (Flagged t picks flags) (catch_live (message_at letters j)) slot (get_or orders slot d) None (receiver slot k)
        here few = record { is = λ p l x u. by-test few p l x u (is_live (get_or orders slot d)) refl many }
