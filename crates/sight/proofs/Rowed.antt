-- The returns of the functions that ask what a row has on offer. Assumes nothing.
use mathlib.Core.Path.{◌≡◌, refl, sym, ap, ◌∙◌}
use mathlib.Core.Bool.{Bool, true, false, false≢true, cond, ◌&&◌, ◌||◌}
use mathlib.Core.List.{List, [], ◌∷◌}
use Prim.Native.Nat.{ℕ, zero, suc, ◌+◌, ◌*◌, ◌<◌, ◌≤◌}
use native.Mathlib.Numerals.{add-one}
use native.Mathlib.Omega.{arith}
use borrow.Author.Tests.{eq-eqb, ne_eqb, le-leb, lt-leb}
use lib.Dec.{eqb, leb}
use lib.ListN.{length, get_or, drop, drop_of_length-le}
use lib.Seq.{drop-cons}
use Rattle.plan.specs.Read.{is_scope_code}
use Rattle.plan.specs.Spells.{variables_of}
use Rattle.plan.specs.Tree.{to_partner, to_held, from_partner, from_asking, Own, empty, send, receive, set as setting, raise, leave, choose, repeat, sequence, flow, pick, scope, arm, kind, Acts, Plan}
use Rattle.order.specs.declared.Order.{Order}
use Rattle.fit.specs.Answering.{Asking, AsksRow, FitsRow, UncheckedRow, message_at, ArmsRow}
use Rattle.machine.specs.Fit.{doing_of, awaits, is_checked, Letter, fits, unchecked, may_take}
use Rattle.machine.specs.Offer.{is_cut}
use Rattle.sight.specs.declared.Sight.{Sight}
use Rattle.fit.specs.Folds.{folded}
use Rattle.fit.specs.Lines.{Line, is_ready, ready_at, Stands, Rows}
use Rattle.sight.specs.Sights.{Marked, Exchanging, Heeding, Told, Tells, no_letter, AwaitsRow, CutRow, cut_line, showing, take_letter, TakesLetter, take_line}
use Rattle.fit.proofs.FitReturns.{asks-asking}
use Rattle.fit.proofs.OwnKinds.{awaits-kind}
use Rattle.fit.proofs.SearchReturns.{stands-kind, stands-exchange, and-false}

-- `is_scope`
pub scope-undone : (n : ℕ) → n ≡ 11 → true ≡ is_scope_code n
scope-undone n e = rw (eq-eqb _ _ e)

pub scope-open : (n : ℕ) → (n ≡ 11 → ⊥) → n ≡ 12 → true ≡ is_scope_code n
scope-open n e d = rw (ne_eqb _ _ e, eq-eqb _ _ d)

pub scope-other : (n : ℕ) → (n ≡ 11 → ⊥) → (n ≡ 12 → ⊥) → eqb n 14 ≡ is_scope_code n
scope-other n e d = rw (ne_eqb _ _ e, ne_eqb _ _ d)

-- `awaits_at`
module _ (t picks ms : List ℕ) (k : ℕ) where
  pub awaits-arm : {b : Bool} → get_or t (k * 13) 0 ≡ 255 → ArmsRow t picks ms k b → AwaitsRow t picks ms k b
  awaits-arm z q = record {
    is = λ x w y. rw (awaits-kind x.own, sym (stands-kind y) ∙ z) (q.is y.inside w z ∙ sym y.arms);
  }

  module _ (z : get_or t (k * 13) 0 ≡ 255 → ⊥) {b : Bool} (v : b ≡ is_scope_code (get_or t (k * 13) 0)) where
    pub awaits-scope : b ≡ true → AwaitsRow t picks ms k (eqb (get_or ms k 0) 3)
    awaits-scope e = record {
      is = λ x w y.
          rw (awaits-kind x.own, ne_eqb (kind x.own) 255 (λ q. z (stands-kind y ∙ q)), ← stands-kind y, sym v ∙ e, y.activity);
    }

    pub awaits-other : b ≡ false → AwaitsRow t picks ms k (eqb (get_or ms k 0) 1)
    awaits-other e = record {
      is = λ x w y.
          rw (awaits-kind x.own, ne_eqb (kind x.own) 255 (λ q. z (stands-kind y ∙ q)), ← stands-kind y, sym v ∙ e, y.activity);
    }

-- `is_cut`
cut-own : (own : Own) (w : Acts) (k : ℕ) → is_cut (record { activity = k; step = doing_of own w k }) ≡ (eqb (kind own) 4 || (eqb (kind own) 13 || eqb (kind own) 5))
unfolding doing_of kind
cut-own empty w k = refl
cut-own (send (to_partner a) b vs) w k = refl
cut-own (send (to_held v a) b vs) w k = refl
cut-own (receive (from_partner a) b vs) w k = refl
cut-own (receive (from_asking a v) b vs) w k = refl
cut-own (setting v e) w k = refl
cut-own (raise zero) w k = refl
cut-own (raise (suc number)) w k = refl
cut-own leave w k = refl
cut-own (choose e) w k = refl
cut-own (repeat e) w k = refl
cut-own sequence w k = refl
cut-own flow w k = refl
cut-own pick w k = refl
cut-own (scope [] true) w k = refl
cut-own (scope [] false) w k = refl
cut-own (scope (n ∷ ns) u) w k = refl
cut-own (arm a b vs) w k = refl

pub cut_code : {t : List ℕ} {k : ℕ} {r : Bool}
    → r ≡ (eqb (get_or t (k * 13) 0) 4 || (eqb (get_or t (k * 13) 0) 13 || eqb (get_or t (k * 13) 0) 5)) → CutRow t k r
cut_code e = record { is = λ ms x y. e ∙ sym (cut-own x.own x.within x.activity ∙ rw (stands-kind y)) }

-- `cut_row`
cut-awaits : (own : Own) (w : Acts) (k : ℕ) (b : Bool) (m : ℕ) → is_cut (record { activity = k; step = doing_of own w k }) ≡ true → awaits own b m ≡ eqb m 1
unfolding doing_of awaits kind
cut-awaits empty w k b m e = refl
cut-awaits (send a d vs) w k b m e = refl
cut-awaits (receive a d vs) w k b m e = refl
cut-awaits (setting v x) w k b m e = refl
cut-awaits (raise zero) w k b m e = refl
cut-awaits (raise (suc number)) w k b m e = refl
cut-awaits leave w k b m e = refl
cut-awaits (choose x) w k b m e = refl
cut-awaits (repeat x) w k b m e = refl
cut-awaits sequence w k b m e = refl
cut-awaits flow w k b m e = refl
cut-awaits pick w k b m e = refl
cut-awaits (scope ns u) w k b m e = absurd (false≢true e)
cut-awaits (arm a d vs) w k b m e = absurd (false≢true e)

cond_same : {A : Type 0} (b : Bool) (x : A) → cond b x x ≡ x
cond_same true x = refl
cond_same false x = refl

pub cut-already : {t : List ℕ} (marks : List ℕ) {k : ℕ} (c : Bool) → c ≡ true → Rows t k (Marked marks) cut_line c c
unfolding cut_line
cut-already marks c z = record { is = λ o p l x g y. rw z (by-test (is_ready o.marks x) (is_cut (ready_at x))) }
  where
    by-test : (a b : Bool) → true ≡ cond a (b || true) true
    by-test true true = refl
    by-test true false = refl
    by-test false b = refl

module _ {t : List ℕ} (marks : List ℕ) {k : ℕ} (c : Bool) {d : Bool} (v : CutRow t k d) where
  pub cut-other : d ≡ false → Rows t k (Marked marks) cut_line c c
  unfolding cut_line
  cut-other z = record {
    is = λ o p l x g y. rw (sym (v.is o.marks x y) ∙ z) (sym (cond_same (is_ready o.marks x) c));
  }

  module _ (z : d ≡ true) where
    cut-ready : (o : Order) (x : Line) → o.marks ≡ marks → Stands t o.marks k x → is_ready o.marks x ≡ eqb (get_or marks k 0) 1
    cut-ready o x g y =
        cut-awaits x.own x.within x.activity x.arms (get_or o.marks x.activity 0) (sym (v.is o.marks x y) ∙ z) ∙ rw (g, y.activity)

    pub cut-here : get_or marks k 0 ≡ 1 → Rows t k (Marked marks) cut_line c true
    unfolding cut_line
    cut-here e = record {
      is = λ o p l x g y. rw (sym (v.is o.marks x y) ∙ z, cut-ready o x g.same y, eq-eqb _ _ e);
    }

    pub cut-before : (get_or marks k 0 ≡ 1 → ⊥) → Rows t k (Marked marks) cut_line c c
    unfolding cut_line
    cut-before e = record {
      is = λ o p l x g y. rw (cut-ready o x g.same y, ne_eqb _ _ e);
    }

-- `take_letter`
unchecked-few : (p : Plan) (o : Order) (vs : List ℕ) → unchecked p o vs ≤ length vs
unfolding unchecked
unchecked-few p o [] = omega arith
unchecked-few p o (v ∷ vs) = by-test (unchecked-few p o vs) (is_checked p o v)
  where
    by-test : unchecked p o vs ≤ length vs → (b : Bool) → cond b (unchecked p o vs) (suc (unchecked p o vs)) ≤ suc (length vs)
    by-test e true = omega arith
    by-test e false = omega arith

module _ (t : List ℕ) (i k : ℕ) (asked : List ℕ) (u : ℕ) (letters : List ℕ) (j least : ℕ) (s : Sight) where
  may-take : (o : Order) (p : Plan) (x : Line) (y : Letter) → (get_or t (k * 13) 0 ≡ 14 → ⊥) → UncheckedRow t k asked u → Asking asked p o (variables_of x.own) → Stands t o.marks k x
      → Tells y j (message_at letters j) least
      → may_take p o (get_or t (k * 13 + 1) 0) (get_or t (k * 13 + 2) 0) (variables_of x.own) y
      ≡ (fits p o (get_or t (k * 13 + 1) 0) (get_or t (k * 13 + 2) 0) (variables_of x.own) (message_at letters j) && leb u least)
  unfolding may_take
  may-take o p x y f₁ g a z v =
      let n : u ≡ unchecked p o (variables_of x.own) = g.is p o _ _ (variables_of x.own) a (stands-exchange z f₁) in
      let f : u ≤ 4 = omega (arith, unchecked-few p o (variables_of x.own), z.few) in
      rw (v.message, ← n, v.few u f)

  pub take_more : least < u → TakesLetter t i k asked u letters j least s s
  unfolding take_letter
  take_more h = record {
    is = λ o p x y f₁ g a z v. rw (may-take o p x y f₁ g a z v, lt-leb _ _ h, ← and-false (fits p o (get_or t (k * 13 + 1) 0) (get_or t (k * 13 + 2) 0) (variables_of x.own) (message_at letters j)));
  }

  module _ (h : u ≤ least) (few : j < 64) {b : Bool} (w : FitsRow t k asked letters j b) where
    pub take-unfit : b ≡ false → TakesLetter t i k asked u letters j least s s
    unfolding take_letter
    take-unfit e = record {
      is = λ o p x y f₁ g a z v.
          rw (may-take o p x y f₁ g a z v, sym (w.is few p o _ _ (variables_of x.own) a (stands-exchange z f₁)) ∙ e);
    }

    pub take-least : {r : Sight} → b ≡ true → r ≡ showing i k j s → TakesLetter t i k asked u letters j least s r
    unfolding take_letter
    take-least e q = record {
      is = λ o p x y f₁ g a z v.
          q ∙ rw (may-take o p x y f₁ g a z v, sym (w.is few p o _ _ (variables_of x.own) a (stands-exchange z f₁)) ∙ e, le-leb _ _ h, z.activity, v.place);
    }

-- `take_row`
pub record Taking (t : List ℕ) (slot k : ℕ) (asked : List ℕ) (u : ℕ) (letters : List ℕ) (waiting : ℕ) (least : List ℕ) (start : Sight) (j : ℕ) (c : Sight) : Type 0 where
  pub within : j ≤ waiting
  pub same : (o : Order) (p : Plan) (l : List Letter) (x : Line) → (get_or t (k * 13) 0 ≡ 14 → ⊥) → UncheckedRow t k asked u → Asking asked p o (variables_of x.own) → Told l letters waiting least
      → Stands t o.marks k x
      → folded (take_letter slot (get_or t (k * 13 + 1) 0) (get_or t (k * 13 + 2) 0) o p x) l start
      ≡ folded (take_letter slot (get_or t (k * 13 + 1) 0) (get_or t (k * 13 + 2) 0) o p x) (drop j l) c

pub taking-starts : (t : List ℕ) (slot k : ℕ) (asked : List ℕ) (u : ℕ) (letters : List ℕ) (waiting : ℕ) (least : List ℕ) (start : Sight)
    → Taking t slot k asked u letters waiting least start 0 start
taking-starts t slot k asked u letters waiting least start = record { within = omega arith; same = λ o p l x f₁ g a v z. refl }

module _ {t : List ℕ} {slot k : ℕ} {asked : List ℕ} {u : ℕ} {letters : List ℕ} {waiting : ℕ} {least : List ℕ} {start : Sight} {j : ℕ} {c : Sight}
    (w : Taking t slot k asked u letters waiting least start j c) where
  pub taking-again : j < waiting → {r : Sight} → TakesLetter t slot k asked u letters j (get_or least j 0) c r
      → Taking t slot k asked u letters waiting least start (j + 1) r
  unfolding folded
  taking-again h {r} y = record {
    within = omega arith;
    same = λ o p l x f₁ g a v z.
        let long : j < length l = omega (arith, v.long) in
        let f = take_letter slot (get_or t (k * 13 + 1) 0) (get_or t (k * 13 + 2) 0) o p x in
        let e : r ≡ f (get_or l j no_letter) c = y.is o p x (get_or l j no_letter) f₁ g a z (v.tells j h) in
        w.same o p l x f₁ g a v z ∙ (ap (λ n. folded f n c) (drop-cons l j no_letter long) ∙ (ap (folded f (drop (suc j) l)) (sym e) ∙ rw (add-one j)));
  }

  pub taking-done : {known : List ℕ} → waiting ≤ j → AsksRow t known k asked → UncheckedRow t k asked u
      → Rows t k (Exchanging t k (Heeding known letters waiting least)) (take_line slot (get_or t (k * 13 + 1) 0) (get_or t (k * 13 + 2) 0)) start c
  unfolding take_line folded
  taking-done h a g = record {
    is = λ o p l x q z.
        let long : length l ≤ j = omega (arith, q.given.told.long) in
        sym (w.same o p l x q.row g (asks-asking a q.given.knows (stands-exchange z q.row) z.few) q.given.told z ∙ rw (drop_of_length-le l long));
  }
