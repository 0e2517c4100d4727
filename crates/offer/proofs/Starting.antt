-- What may start: the lowest free slot, and the start receives that a message fits. Assumes nothing.
use mathlib.Core.Path.{◌≡◌, refl, sym, ap, ◌∙◌}
use mathlib.Core.Bool.{Bool, true, false, false≢true, cond, not, ◌&&◌}
use mathlib.Core.List.{List, [], ◌∷◌, map}
use Prim.Native.Nat.{ℕ, zero, suc, ◌+◌, ◌<◌, ◌≤◌}
use native.Mathlib.Numerals.{add-one}
use native.Mathlib.Nat.{add-zero}
use native.Mathlib.Omega.{arith}
use borrow.Author.Tests.{eq-eqb, ne_eqb, lt-ltb, le-ltb, le-leb, lt-leb, ltb-true, ltb-false}
use lib.Dec.{ltb, leb}
use lib.ListN.{length, get_or, drop, drop_of_length-le}
use lib.Seq.{drop-cons}
use Rattle.plan.specs.Tree.{partner_from, Own, empty, send, receive, set as setting, raise, leave, choose, repeat, sequence, flow, pick, scope, arm, Acts, Plan}
use Rattle.machine.specs.declared.Message.{Message}
use Rattle.order.specs.declared.Order.{Order}
use Rattle.std.specs.Prelude.{Option, None, Some}
use Rattle.std.specs.Option.{is_some}
use Rattle.fit.specs.declared.Receiver.{Receiver}
use Rattle.fit.specs.Answering.{Correlated, KnowsOrder, message_at, Picks, fits_own, catches}
use Rattle.fit.specs.Finding.{is_nothing}
use Rattle.machine.specs.Fit.{doing_of, awaits, ready_of, Live, live_from, Letter, letters_from, fits, fittings}
use Rattle.order.specs.Lists.{each, empties}
use Rattle.machine.specs.Offer.{offering, Offers, unless_held, start_of, starts_of, free_from, start_offers}
use Rattle.order.specs.State.{is_live, mark_at}
use Rattle.machine.specs.State.{no_message}
use Rattle.fit.proofs.FirstFits.{first-exactly}
use Rattle.sight.specs.declared.Sight.{Sight}
use Rattle.fit.specs.Folds.{folded}
use Rattle.fit.specs.Lines.{Line, lines_of, is_ready, ready_at, Tabled, Rows, Wholes}
use Rattle.offer.specs.Seeing.{Frees, start_line, Could, StartsLetter, StartsAt, Mailed, Starts, StartsOrder}
use Rattle.sight.specs.Sights.{pointed, seen, showing, withholding, no_letter}
use Rattle.fit.specs.Receiving.{Lent, TakesRow, Receives}
use Rattle.fit.proofs.Fewest.{cond-and}
use Rattle.fit.proofs.Lines.{fold-each, fold_same, fold-ready, size-short, Rowing, rowing-starts, rowing-again, rowing-done}
use Rattle.sight.proofs.RowSeen.{or-false, seen_none, seen_hold}

-- `free_slot`
pub record Freeing (orders : List Order) (i : ℕ) : Type 0 where
  pub long : length orders ≡ 16
  pub within : i ≤ 16
  pub same : free_from 0 orders ≡ free_from i (drop i orders)

pub freeing-starts : (orders : List Order) → length orders ≡ 16 → Freeing orders 0
freeing-starts orders e = record { long = e; within = omega arith; same = refl }

module _ {orders : List Order} {i : ℕ} (w : Freeing orders i) where
  pub freeing-none : 16 ≤ i → Frees orders 16
  unfolding free_from
  freeing-none h =
      let long : length orders ≤ i = omega (arith, w.long) in
      let all : i ≡ 16 = omega (arith, w.within) in
      record { is = sym (w.same ∙ (rw (drop_of_length-le orders long) all)) }

  free_step : (d : Order) → i < 16 → free_from 0 orders ≡ cond (is_live (get_or orders i d)) (free_from (i + 1) (drop (i + 1) orders)) i
  unfolding free_from
  free_step d h = w.same ∙ (ap (free_from i) (drop-cons orders i d (omega (arith, w.long))) ∙ rw (add-one i))

  module _ (d : Order) (h : i < 16) where
    pub freeing-found : (get_or orders i d).root ≡ 0 → Frees orders i
    freeing-found e = record { is = sym (free_step d h ∙ rw (eq-eqb (get_or orders i d).root 0 e)) }

    pub freeing-again : ((get_or orders i d).root ≡ 0 → ⊥) → Freeing orders (i + 1)
    freeing-again e = record { long = w.long; within = omega arith; same = free_step d h ∙ rw (ne_eqb (get_or orders i d).root 0 e) }

-- `start_row`
module _ {t picks marks known : List ℕ} (free : ℕ) {k : ℕ} {letters : List ℕ} {j : ℕ} (s : Sight) (few : j < 64) {b : Bool} (w : TakesRow t picks marks known k letters j b) where
  pub start_none : b ≡ false → Rows t k (Lent t picks marks known) (start_line free j (message_at letters j)) s s
  unfolding start_line
  start_none e = record { is = λ o p l x g y. rw (sym (w.is few o p l x g y) ∙ e) }

  module _ (e : b ≡ true) {r : Sight} where
    pub start-shown : free < 16 → r ≡ showing free k j s → Rows t k (Lent t picks marks known) (start_line free j (message_at letters j)) s r
    unfolding start_line
    start-shown h q = record { is = λ o p l x g y. q ∙ rw (sym (w.is few o p l x g y) ∙ e, lt-ltb _ _ h, y.activity) }

    pub start-held : 16 ≤ free → r ≡ withholding s → Rows t k (Lent t picks marks known) (start_line free j (message_at letters j)) s r
    unfolding start_line
    start-held h q = record { is = λ o p l x g y. q ∙ rw (sym (w.is few o p l x g y) ∙ e, le-ltb _ _ h) }

-- `could_start`: no row passed takes the message
pub record Passing (t picks marks known : List ℕ) (n : ℕ) (letters : List ℕ) (j k : ℕ) : Type 0 where
  pub none : (free : ℕ) (s : Sight) → Rowing t n (Lent t picks marks known) (start_line free j (message_at letters j)) s k s

pub passing-starts : (t picks marks known : List ℕ) (n : ℕ) (letters : List ℕ) (j : ℕ) → Passing t picks marks known n letters j 0
passing-starts t picks marks known n letters j = record { none = λ free s. rowing-starts _ _ _ _ _ }

pub could-take : (t picks marks known : List ℕ) (n : ℕ) (letters : List ℕ) (j : ℕ) → Could t picks marks known n letters j true
could-take t picks marks known n letters j = record { not = λ e. absurd (false≢true (sym e)) }

module _ {t picks marks known : List ℕ} {n : ℕ} {letters : List ℕ} {j k : ℕ} (w : Passing t picks marks known n letters j k) where
  pub passing-again : k < n → j < 64 → {b : Bool} → TakesRow t picks marks known k letters j b → b ≡ false → Passing t picks marks known n letters j (k + 1)
  passing-again h few y e = record { none = λ free s. rowing-again (w.none free s) h (start_none free s few y e) }

  pub passing-done : n ≤ k → Could t picks marks known n letters j false
  passing-done h = record { not = λ e free s. rowing-done (w.none free s) h }

-- what one start receive adds, and what some add
unfoldable starting : (free j k : ℕ) → Sight → Sight
starting free j k c = cond (ltb free 16) (showing free k j c) (withholding c)

show-some : (free j : ℕ) (ks : List ℕ) (s : Sight) → seen (unless_held false (map (λ k. offering free k j) ks)) s ≡ folded (λ k. showing free k j) ks s
unfolding seen folded showing
show-some free j [] s = rw (or-false s.held)
show-some free j (k ∷ ks) s = show-some free j ks (record { pointer = pointed (offering free k j) s.pointer; held = s.held })

hold-some : (ks : List ℕ) (s : Sight) → folded (λ k. withholding) ks (withholding s) ≡ withholding s
unfolding folded withholding
hold-some [] s = refl
hold-some (k ∷ ks) s = hold-some ks s

start-some : (free j : ℕ) (ks : List ℕ) (s : Sight)
    → seen (unless_held (leb 16 free && not (empties ks)) (map (λ k. offering free k j) ks)) s ≡ folded (starting free j) ks s
unfolding starting folded
start-some free j ks s = by-test (ltb free 16) refl ks
  where
    by-test : (b : Bool) → ltb free 16 ≡ b → (l : List ℕ)
        → seen (unless_held (leb 16 free && not (empties l)) (map (λ k. offering free k j) l)) s ≡ folded (λ k c. cond b (showing free k j c) (withholding c)) l s
    by-test true e l = rw (lt-leb 16 free (ltb-true _ _ e)) (show-some free j l s)
    by-test false e [] = rw (le-leb 16 free (ltb-false _ _ e)) (seen_none s)
    by-test false e (k ∷ l) = rw (le-leb 16 free (ltb-false _ _ e)) (seen_hold (map (λ x. offering free x j) (k ∷ l)) s ∙ sym (hold-some l s))

one-start : (free j : ℕ) (b : Bool) (k : ℕ) (c : Sight) → folded (starting free j) (cond b (k ∷ []) []) c ≡ cond b (starting free j k c) c
unfolding folded
one-start free j true k c = refl
one-start free j false k c = refl

start-own : (free : ℕ) (p : Plan) (o : Order) (y : Letter) (own : Own) (w : Acts) (k : ℕ) (c : Sight)
    → folded (starting free y.place) (start_of p o y (record { activity = k; step = doing_of own w k })) c ≡ cond (fits_own p o y.message own) (starting free y.place k c) c
unfolding doing_of start_of fits_own folded
start-own free p o y empty w k c = refl
start-own free p o y (send a b vs) w k c = refl
start-own free p o y (receive a b vs) w k c = one-start free y.place (fits p o (partner_from a) b vs y.message) k c
start-own free p o y (setting v e) w k c = refl
start-own free p o y (raise zero) w k c = refl
start-own free p o y (raise (suc number)) w k c = refl
start-own free p o y leave w k c = refl
start-own free p o y (choose e) w k c = refl
start-own free p o y (repeat e) w k c = refl
start-own free p o y sequence w k c = refl
start-own free p o y flow w k c = refl
start-own free p o y pick w k c = refl
start-own free p o y (scope ns u) w k c = refl
start-own free p o y (arm a b vs) w k c = one-start free y.place (fits p o a b vs y.message) k c

start-line : (free : ℕ) (p : Plan) (l : List Letter) (o : Order) (y : Letter) (x : Line) (c : Sight)
    → cond (is_ready o.marks x) (folded (starting free y.place) (start_of p o y (ready_at x)) c) c ≡ start_line free y.place y.message o p l x c
unfolding start_line catches starting
start-line free p l o y x c =
    ap (λ z. cond (is_ready o.marks x) z c) (start-own free p o y x.own x.within x.activity c)
    ∙ cond-and (awaits x.own x.arms (mark_at x.activity o)) (fits_own p o y.message x.own) (starting free y.place x.activity c) c

start-lines : (free : ℕ) (p : Plan) (l : List Letter) (o : Order) (y : Letter) (s : Sight)
    → folded (starting free y.place) (each (start_of p o y) (ready_of p o)) s ≡ folded (start_line free y.place y.message o p l) (lines_of p o.marks) s
start-lines free p l o y s =
    fold-each (starting free y.place) (start_of p o y) (ready_of p o) s
    ∙ (fold-ready (λ r. folded (starting free y.place) (start_of p o y r)) p o s
    ∙ fold_same _ _ (λ x c. start-line free p l o y x c) (lines_of p o.marks) s)

-- `start_letter`
starts-empty : (free : ℕ) (o : Order) (s : Sight) (p : Plan) (y : Letter) → seen (start_offers p free o (ready_of p o) y) s
    ≡ folded (starting free y.place) (cond (empties y.fitted) (each (start_of p o y) (ready_of p o)) []) s
unfolding start_offers starts_of
starts-empty free o s p y = start-some free y.place (cond (empties y.fitted) (each (start_of p o y) (ready_of p o)) []) s

-- what all rows of the order as it starts add
start-whole : {t picks marks known : List ℕ} {n : ℕ} (free : ℕ) (letters : List ℕ) (j : ℕ) {s v : Sight}
    → Wholes t n (Lent t picks marks known) (start_line free j (message_at letters j)) s v
    → (o : Order) (p : Plan) (y : Letter) → Lent t picks marks known o p [] → Tabled p t n → y.place ≡ j → y.message ≡ message_at letters j
    → v ≡ folded (starting free y.place) (each (start_of p o y) (ready_of p o)) s
start-whole free letters j {s} g o p y lent q place message =
    g.is o p [] lent q ∙ rw (← message, ← place) (sym (start-lines free p [] o y s))

nothing-not : (r : Option Receiver) → is_some r ≡ true → is_nothing r ≡ false
unfolding is_nothing
nothing-not (Some x) e = refl
nothing-not None e = cc

fits-none : {t flags picks : List ℕ} {orders : List Order} {n : ℕ} {letters : List ℕ} {j : ℕ} {r : Option Receiver} → j < 64 → Receives t flags picks orders n letters j r
    → (p : Plan) → Correlated p flags → Picks t picks → Tabled p t n → is_nothing r ≡ empties (fittings p (live_from p 0 orders) (message_at letters j))
fits-none {orders = orders} {letters = letters} {j} few w p cor v y =
    ap is_nothing (w.is few p cor v y) ∙ first-exactly p (live_from p 0 orders) (message_at letters j)

pub start-unlike : {t picks marks known : List ℕ} (flags : List ℕ) (orders : List Order) {n : ℕ} (free : ℕ) {letters : List ℕ} {j : ℕ} (s : Sight) {b : Bool}
    → Could t picks marks known n letters j b → b ≡ false → StartsLetter seen t flags picks orders marks known free n letters j s s
unfolding folded
start-unlike flags orders free s w e = record {
  is = λ o p y cor lent q place message fitted.
      let u = start-whole free _ _ (w.not e free s) o p y lent q place message in
      sym (starts-empty free o s p y ∙ by-test o p y (empties y.fitted) u);
}
  where
    by-test : (o : Order) (p : Plan) (y : Letter) (b : Bool) → s ≡ folded (starting free y.place) (each (start_of p o y) (ready_of p o)) s
        → folded (starting free y.place) (cond b (each (start_of p o y) (ready_of p o)) []) s ≡ s
    by-test o p y true u = sym u
    by-test o p y false u = refl

module _ {t flags picks : List ℕ} {orders : List Order} {n : ℕ} {letters : List ℕ} {j : ℕ} {r : Option Receiver} (few : j < 64) (w : Receives t flags picks orders n letters j r) where
  pub start-not : (marks known : List ℕ) (free : ℕ) (s : Sight) → is_some r ≡ true
      → StartsLetter seen t flags picks orders marks known free n letters j s s
  unfolding is_nothing folded
  start-not marks known free s e = record {
    is = λ o p y cor lent q place message fitted.
        let z : empties y.fitted ≡ false = ap empties fitted ∙ (sym (fits-none few w p cor lent.picked q) ∙ nothing-not r e) in
        sym (starts-empty free o s p y ∙ rw z);
  }

  pub start-may : {marks known : List ℕ} (free : ℕ) {s v : Sight} → r ≡ None
      → Wholes t n (Lent t picks marks known) (start_line free j (message_at letters j)) s v
      → StartsLetter seen t flags picks orders marks known free n letters j s v
  unfolding is_nothing
  start-may free {s} e g = record {
    is = λ o p y cor lent q place message fitted.
        let z : empties y.fitted ≡ true = ap empties fitted ∙ (sym (fits-none few w p cor lent.picked q) ∙ rw e) in
        start-whole free letters j g o p y lent q place message ∙ sym (starts-empty free o s p y ∙ rw z);
  }

-- the letters are the messages that wait, each in its place
pub letters-long : (p : Plan) (live : List Live) (i : ℕ) (ms : List Message) → length (letters_from p live i ms) ≡ length ms
unfolding letters_from
letters-long p live i [] = refl
letters-long p live i (m ∷ ms) = ap suc (letters-long p live (i + 1) ms)

pub letters-at : (p : Plan) (live : List Live) (i : ℕ) (ms : List Message) (j : ℕ) (d : Letter) (e : Message) → j < length ms
    → get_or (letters_from p live i ms) j d ≡ record { place = i + j; message = get_or ms j e; fitted = fittings p live (get_or ms j e) }
unfolding letters_from
letters-at p live i [] j d e h = absurd (omega arith)
letters-at p live i (m ∷ ms) zero d e h = rw (add-zero i)
letters-at p live i (m ∷ ms) (suc j) d e h =
    let q : i + 1 + j ≡ i + suc j = omega arith in
    letters-at p live (i + 1) ms j d e (omega arith) ∙ rw q

-- `start_letters`
pub record Starting {S : Type 0} (act : Offers → S → S) (t flags picks : List ℕ) (orders : List Order) (marks known : List ℕ) (free n : ℕ) (letters : List ℕ) (waiting : ℕ) (start : S) (j : ℕ) (c : S) : Type 0 where
  pub within : j ≤ waiting
  pub same : (o : Order) (p : Plan) (ms : List Message) → Correlated p flags → Lent t picks marks known o p [] → Tabled p t n → Mailed letters waiting ms
      → folded (λ y. act (start_offers p free o (ready_of p o) y)) (letters_from p (live_from p 0 orders) 0 ms) start
      ≡ folded (λ y. act (start_offers p free o (ready_of p o) y)) (drop j (letters_from p (live_from p 0 orders) 0 ms)) c

pub starting-starts : {S : Type 0} (act : Offers → S → S) (t flags picks : List ℕ) (orders : List Order) (marks known : List ℕ) (free n : ℕ) (letters : List ℕ) (waiting : ℕ) (start : S)
    → Starting act t flags picks orders marks known free n letters waiting start 0 start
starting-starts f t flags picks orders marks known free n letters waiting start = record { within = omega arith; same = λ o p ms cor v q m. refl }

module _ {S : Type 0} {act : Offers → S → S} {t flags picks : List ℕ} {orders : List Order} {marks known : List ℕ} {free n : ℕ} {letters : List ℕ} {waiting : ℕ} {start : S} {j : ℕ} {c : S}
    (w : Starting act t flags picks orders marks known free n letters waiting start j c) where
  pub starting-again : j < waiting → {r : S}
      → StartsLetter act t flags picks orders marks known free n letters j c r
      → Starting act t flags picks orders marks known free n letters waiting start (j + 1) r
  unfolding folded
  starting-again h {r} y = record {
    within = omega arith;
    same = λ o p ms cor u q m.
        let l = letters_from p (live_from p 0 orders) 0 ms in
        let g : j < length ms = omega (arith, m.long) in
        let long : j < length l = omega (arith, letters-long p (live_from p 0 orders) 0 ms, g) in
        let z : 0 + j ≡ j = omega arith in
        let v : get_or l j no_letter ≡ record { place = j; message = message_at letters j; fitted = fittings p (live_from p 0 orders) (message_at letters j) } =
        letters-at p (live_from p 0 orders) 0 ms j no_letter no_message g ∙ rw (z, m.is j h) in
        let f : Letter → S → S = λ x. act (start_offers p free o (ready_of p o) x) in
        let e : r ≡ f (get_or l j no_letter) c =
        y.is o p (get_or l j no_letter) cor u q (ap (λ x. x.place) v) (ap (λ x. x.message) v) (ap (λ x. x.fitted) v) in
        w.same o p ms cor u q m ∙ (ap (λ x. folded f x c) (drop-cons l j no_letter long) ∙ (ap (folded f (drop (suc j) l)) (sym e) ∙ rw (add-one j)));
  }

  pub starting-done : waiting ≤ j → Starts act t flags picks orders marks known free n letters waiting start c
  unfolding folded
  starting-done h = record {
    is = λ o p ms cor u q m.
        let l = letters_from p (live_from p 0 orders) 0 ms in
        let long : length l ≤ j = omega (arith, letters-long p (live_from p 0 orders) 0 ms, m.long) in
        sym (w.same o p ms cor u q m ∙ rw (drop_of_length-le l long));
  }

-- `starts`
pub starts-all : {S : Type 0} {act : Offers → S → S} {t flags picks : List ℕ} {orders : List Order} {o : Order} {free n : ℕ} {letters : List ℕ} {waiting : ℕ} {known : List ℕ} {s r : S}
    → Frees orders free → KnowsOrder flags o known → Starts act t flags picks orders o.marks known free n letters waiting s r
    → StartsOrder act t flags picks orders o n letters waiting s r
starts-all {o = o} f k w = record {
  is = λ p ms cor u q m.
      w.is o p ms cor (record { picked = u; marked = refl; knows = k.is p cor }) q m ∙ rw f.is;
}

-- `letter_sight`
module _ (t flags picks : List ℕ) (orders : List Order) (marks known : List ℕ) (free : ℕ) {n : ℕ} (letters : List ℕ) {j : ℕ} (s : Sight) where
  pub start-beyond : 256 < n → StartsAt t flags picks orders marks known free n letters j s s
  start-beyond h = record {
    is = λ few. record { is = λ o p y cor lent q place message fitted. absurd (omega (arith, h, q.many, size-short p q.limited)) };
  }

  pub start-none-there : 64 ≤ j → StartsAt t flags picks orders marks known free n letters j s s
  start-none-there h = record { is = λ few. absurd (omega (arith, h, few)) }

  pub start-there : {r : Sight} → StartsLetter seen t flags picks orders marks known free n letters j s r → StartsAt t flags picks orders marks known free n letters j s r
  start-there x = record { is = λ few. x }
