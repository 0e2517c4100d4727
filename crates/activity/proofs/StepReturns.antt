-- The returns of the functions by which an activity has its step. Assumes nothing.
use mathlib.Core.Path.{◌≡◌, refl, sym, ap, ◌∙◌}
use mathlib.Core.Bool.{Bool, true, false, cond, not, ◌&&◌, false≢true}
use mathlib.Core.List.{List, [], ◌∷◌, ◌++◌}
use mathlib.Core.Logic.{◌⊎◌, inl, inr}
use Prim.Native.Nat.{ℕ, zero, suc, ◌+◌, ◌*◌, ◌-◌, ◌<◌, ◌≤◌}
use native.Mathlib.Omega.{arith}
use borrow.Author.Tests.{eq-eqb, ne_eqb, eqb-true, ltb-true, leb-true}
use lib.Dec.{eqb, ltb, leb}
use lib.ListN.{length, get_or}
use Rattle.plan.specs.Found.{among}
use Rattle.plan.specs.Spells.{SpellsOwn, variables_of}
use Rattle.plan.specs.Table.{row_of}
use Rattle.plan.specs.Tree.{Exp, To, to_partner, to_held, held_by, from_partner, from_asking, Own, empty, send, receive, set as setting, raise, leave, choose, repeat, sequence, flow, pick, scope, arm, kind, numbers_of, Act, act, Acts, none, more, size, sizes, count}
use Rattle.plan.specs.Within.{own_within, exchange_within, variables_within, raise_within}
use Rattle.plan.proofs.Accepts.{both}
use Rattle.plan.proofs.TableSpells.{row_count, row-variables}
use Rattle.order.specs.declared.Closing.{Closing}
use Rattle.order.specs.declared.Entered.{Entered}
use Rattle.order.specs.declared.Order.{Order}
use Rattle.order.specs.declared.Way.TheVariants.{Over, Raising, Leaving}
use Rattle.order.specs.declared.Went.{Went}
use Rattle.std.specs.Prelude.{Result, Ok, Err, OkIff}
use Rattle.std.specs.Result.{result_unwrap_or}
use Rattle.order.specs.declared.fault.Fault.{Fault}
use Rattle.order.specs.Acting.{finishes, enters, again, repeats, all_bound, reaches, itself}
use Rattle.order.specs.Answering.{went, is_over, worth_of, Evaluates, begun_of, Begins, Clears, KindOf, for_part, not_for, handed, Forgets, Remembers, Hands, runs_of, finishes_of, raises_of, leaves_of, CountOf, Names, Tuple, to_at, AllBound, Reaches, Binds, Enters, SendStep, StepOf, Roomy, Closes, HandsOn, StepsAt, Repeats, WorthAt}
use Rattle.order.specs.Begin.{begin, part, part_at, begin_part}
use Rattle.order.specs.Expression.{plain_raise, unbound_variable, no_such_partner, value, evaluate, is_true}
use Rattle.order.specs.Lists.{only}
use Rattle.order.specs.Scope.{begun_in, where_over, scope_at, is_for, list_of, forgetting, adds, closing}
use Rattle.order.specs.Stands.{End, Line, Stands}
use Rattle.order.specs.State.{closings, remembering, marked, with_marks, binding}
use Rattle.order.proofs.EvaluationReturns.{fault-known, value-known}
use Rattle.order.proofs.Owns.{of-kind}
use Rattle.order.proofs.MemoryReturns.{closings-are}
use Rattle.order.proofs.Deciding.{yes, no, goes_on, stays}
use Rattle.order.proofs.Standing.{size-pos, stands-end, stands-inside, row-kind, scope-line, numbered-undo, if-two, if-one}

-- `enters`
module _ (t : List ℕ) (k c : ℕ) (o : Order) {o₁ : Order} (e : o₁ ≡ marked k 2 o) {b : Entered} (x : Begins t c o₁.marks b)
    {r : Went} (y : r ≡ begun_of o₁ b) {v : Bool} (q : v ≡ is_over r.way) where
  part-begun : (a : Act) → Stands a c t → r ≡ went (begun_in (marked k 2 o) (begin a c (marked k 2 o).marks))
  part-begun a s = rw e at (rw (x.is a s) at y)

  pub enters-over : v ≡ true → {p : Went} → p ≡ finishes_of k r.order → Enters t k c o p
  enters-over h g = record {
    is = λ a s. goes_on (finishes k) (begun_in (marked k 2 o) (begin a c (marked k 2 o).marks)) (part-begun a s) q h g;
  }

  pub enters-runs : v ≡ false → Enters t k c o r
  enters-runs h = record {
    is = λ a s. stays (finishes k) (begun_in (marked k 2 o) (begin a c (marked k 2 o).marks)) (part-begun a s) q h;
  }

-- the count of a row is that of the variables it names
pub names-count : {t : List ℕ} {k n : ℕ} {vs : List ℕ} → CountOf t k n → Names t k vs → n ≡ length vs
names-count c m = c.is m.row (omega (arith, m.count, m.few)) ∙ m.count

-- what the limits say of the variables of a tuple
pub variables-small : (vars : ℕ) (once : Bool) (vs : List ℕ) → variables_within vars once vs ≡ true → vars ≤ 16 → (i : ℕ) → i < length vs → get_or vs i 0 < 16
unfolding variables_within
variables-small vars once [] h f i g = absurd (omega arith)
variables-small vars once (v ∷ l) h f zero g = both (ltb v vars) _ h (λ a b. omega (arith, ltb-true v vars a))
variables-small vars once (v ∷ l) h f (suc i) g =
    both (ltb v vars) _ h (λ a b. both (not (once && among v l)) _ b (λ c d. variables-small vars once l d f i (omega arith)))

-- what the limits say of the tuple of a send, a receive or an arm
pub line-names : {own : Own} {n k e : ℕ} {t : List ℕ} (w : Line own n k e t) → numbers_of own ≡ [] → (once : Bool) (p q : ℕ) → k < e
    → exchange_within w.variables once p q (variables_of own) ≡ true → Names t k (variables_of own)
unfolding exchange_within
line-names {own} w u once p q z h =
    both (ltb p 64) _ h (λ a b.
    both (ltb q 64) _ b (λ c d.
    both (leb 1 (length (variables_of own))) _ d (λ e f.
    both (leb (length (variables_of own)) 4) _ f (λ g i. record {
      row = omega (arith, w.inside);
      count = w.row.count ∙ row_count own w.node w.at u;
      variables = λ j m. w.row.variables j m ∙ row-variables own w.node w.at j u m;
      few = leb-true (length (variables_of own)) 4 g;
      small = variables-small w.variables once (variables_of own) i w.few;
    }))))

-- `sends`: what the row of a send says
module _ (t : List ℕ) (k : ℕ) (q : ℕ) (vs : List ℕ) (l : Acts) where
  pub send-names : (to : To) → Stands (act (send to q vs) l) k t → Names t k vs
  unfolding Stands variables_of own_within
  send-names (to_partner p) s =
      both (not s.first.arms) _ s.first.limits (λ a b.
      both (eqb (count l) 0) _ b (λ c d. line-names s.first refl false p q (omega arith) d))
  send-names (to_held v r) s =
      both (not s.first.arms) _ s.first.limits (λ a b.
      both (eqb (count l) 0) _ b (λ c d.
      both (ltb v s.first.variables) _ d (λ e f. line-names s.first refl false r q (omega arith) f)))

  pub send-to : (to : To) → Stands (act (send to q vs) l) k t → to_at t k ≡ to
  unfolding Stands row_of kind
  send-to (to_partner p) s = rw (s.first.row.kind, s.first.row.partner)
  send-to (to_held v r) s = rw (s.first.row.kind, s.first.row.partner, s.first.row.variable)

pub names-tuple : {t : List ℕ} {k : ℕ} {vs : List ℕ} → Names t k vs → Tuple t k vs
names-tuple m = record { count = m.count; variables = m.variables; few = m.few }

module _ (t : List ℕ) (k : ℕ) (o : Order) (h : k < 256) (w : length o.bound ≡ 16) {b : Bool} (x : AllBound t k o.bound b) where
  send-bound : (to : To) (q : ℕ) (vs : List ℕ) (l : Acts) → Stands (act (send to q vs) l) k t → b ≡ all_bound o (held_by to ++ vs)
  send-bound to q vs l s =
      x.is o vs h (record { same = refl; sixteen = w }) (names-tuple (send-names t k q vs l to s)) ∙ rw (send-to t k q vs l to s)

  pub send-raises : b ≡ false → {r : Went} → r ≡ raises_of unbound_variable k o → SendStep t k o r
  unfolding itself
  send-raises e g = record { is = λ to q vs l pt s. rw (sym (send-bound to q vs l s) ∙ e) g }

  module _ (e : b ≡ true) (u : length o.values ≡ 16) {c : Bool} (y : Reaches t k o.values c) where
    send-reaches : (to : To) (q : ℕ) (vs : List ℕ) (l : Acts) → Stands (act (send to q vs) l) k t → c ≡ reaches o to
    send-reaches to q vs l s = y.is o (record { same = refl; sixteen = u }) ∙ rw (send-to t k q vs l to s)

    pub send-sends : c ≡ true → {r : Went} → r ≡ finishes_of k o → SendStep t k o r
    unfolding itself
    send-sends f g = record { is = λ to q vs l pt s. rw (sym (send-bound to q vs l s) ∙ e, sym (send-reaches to q vs l s) ∙ f) g }

    pub send-misses : c ≡ false → {r : Went} → r ≡ raises_of no_such_partner k o → SendStep t k o r
    unfolding itself
    send-misses f g = record { is = λ to q vs l pt s. rw (sym (send-bound to q vs l s) ∙ e, sym (send-reaches to q vs l s) ∙ f) g }

-- `sets`
pub record SetRow (t : List ℕ) (k v : ℕ) (o : Order) (e : Exp) (w : Result ℕ Fault) : Type 0 where
  pub variable : get_or t (k * 13 + 8) 0 ≡ v
  pub small : v < 16
  pub worth : w ≡ worth_of (evaluate e o)

set-row : (t : List ℕ) (k v : ℕ) (o : Order) (e : Exp) (l : Acts) {w : Result ℕ Fault} → WorthAt t k o w → Stands (act (setting v e) l) k t → SetRow t k v o e w
unfolding Stands row_of SpellsOwn own_within
set-row t k v o e l x s =
    both (not s.first.arms) _ s.first.limits (λ a b.
    both (eqb (count l) 0) _ b (λ c d.
    both (ltb v s.first.variables) _ d (λ f g.
    both (not (among v s.first.correlation)) _ g (λ h i. record {
      variable = s.first.row.variable;
      small = omega (arith, ltb-true v s.first.variables f, s.first.few);
      worth = x.is s.first.long e s.first.node s.first.variables s.first.row.expression s.first.few s.first.expression i;
    }))))

module _ (t : List ℕ) (k : ℕ) (o : Order) {w : Result ℕ Fault} (x : WorthAt t k o w) where
  pub set-raises : {f : Fault} → w ≡ Err f → {r : Went} → r ≡ raises_of f.number k o → StepOf 3 t k o r
  unfolding itself
  set-raises h {r} g = record {
    is = λ own l pt n s.
        of-kind 3 (λ y. Stands (act y l) k t → r ≡ went (itself y l pt k o))
        (λ v e s. rw (fault-known (evaluate e o) (set-row t k v o e l x s).worth h) g) own n s;
  }

  pub set-binds : {y : ℕ} → w ≡ Ok y → {v : ℕ} → v ≡ get_or t (k * 13 + 8) 0 → {p : Order} → Binds v y o p → {r : Went} → r ≡ finishes_of k p → StepOf 3 t k o r
  unfolding itself
  set-binds {y} h {v} q {p} z {r} g = record {
    is = λ own l pt n s.
        of-kind 3 (λ y. Stands (act y l) k t → r ≡ went (itself y l pt k o))
        (λ u e s.
        let i = set-row t k u o e l x s in
        let j : v ≡ u = q ∙ i.variable in
        let m : p ≡ binding u y o = rw j at (z.is (omega (arith, i.small))) in
        rw (value-known (evaluate e o) i.worth h) (rw m at g)) own n s;
  }

-- `raises_its_number`
pub record NumberRow (t : List ℕ) (k number : ℕ) : Type 0 where
  pub is : get_or t (k * 13 + 1) 0 ≡ number
  pub small : number ≤ 255

number-row : (t : List ℕ) (k number : ℕ) (l : Acts) → Stands (act (raise (suc number)) l) k t → NumberRow t k (suc number)
unfolding Stands row_of own_within raise_within
number-row t k number l s =
    both (not s.first.arms) _ s.first.limits (λ a b.
    both (eqb (count l) 0) _ b (λ c d.
    both (leb 16 (suc number)) _ (rw (ne_eqb (suc number) 0 (λ z. omega (arith, z))) at d) (λ e f. record { is = s.first.row.partner; small = leb-true (suc number) 255 f })))

number-kept : {E : Type 0} {x : ℕ} (m : Result ℕ E) → OkIff m (x < 256) x → x ≤ 255 → result_unwrap_or m 0 ≡ x
number-kept (Ok y) h l = h.1
number-kept (Err e) h l = absurd (h (omega arith))

pub numbered-is : (t : List ℕ) (k : ℕ) (o : Order) {E : Type 0} (m : Result ℕ E) → OkIff m (get_or t (k * 13 + 1) 0 < 256) (get_or t (k * 13 + 1) 0)
    → {n : ℕ} → n ≡ result_unwrap_or m 0 → {r : Went} → r ≡ raises_of n k o → StepOf 13 t k o r
unfolding itself
numbered-is t k o m h {n} q {r} g = record {
  is = λ own l pt z s.
      of-kind 13 (λ y. Stands (act y l) k t → r ≡ went (itself y l pt k o))
      (λ number s.
      let w = number-row t k number l s in
      let i : n ≡ suc number = q ∙ (number-kept m h (omega (arith, w.is, w.small)) ∙ w.is) in
      rw i at g) own z s;
}

-- `chooses`
pub record ChooseRow (o : Order) (e : Exp) (l : Acts) (w : Result ℕ Fault) : Type 0 where
  pub two : count l ≡ 2
  pub worth : w ≡ worth_of (evaluate e o)

choose-row : (t : List ℕ) (k : ℕ) (o : Order) (e : Exp) (l : Acts) {w : Result ℕ Fault} → WorthAt t k o w → Stands (act (choose e) l) k t → ChooseRow o e l w
unfolding Stands row_of SpellsOwn own_within
choose-row t k o e l x s =
    both (not s.first.arms) _ s.first.limits (λ a b.
    both (eqb (count l) 2) _ b (λ c d. record {
      two = eqb-true (count l) 2 c;
      worth = x.is s.first.long e s.first.node s.first.variables s.first.row.expression s.first.few s.first.expression d;
    }))

-- which part a choose enters
chosen : (e : Exp) (a b : Act) (pt k : ℕ) (o : Order) (y : ℕ) → evaluate e o ≡ value y → (x : Bool) → is_true y ≡ x
    → itself (choose e) (more a (more b none)) pt k o ≡ enters k o (begin (cond x a b) (cond x (k + 1) (k + 1 + size a)) (marked k 2 o).marks)
unfolding itself begin_part part part_at
chosen e a b pt k o y h true i = rw (h, i)
chosen e a b pt k o y h false i = rw (h, i)

module _ (t : List ℕ) (k : ℕ) (o : Order) {w : Result ℕ Fault} (x : WorthAt t k o w) where
  pub choose-raises : {f : Fault} → w ≡ Err f → {r : Went} → r ≡ raises_of f.number k o → StepOf 6 t k o r
  unfolding itself
  choose-raises h {r} g = record {
    is = λ own l pt n s.
        of-kind 6 (λ y. Stands (act y l) k t → r ≡ went (itself y l pt k o))
        (λ e s. rw (fault-known (evaluate e o) (choose-row t k o e l x s).worth h) g) own n s;
  }

  module _ {y : ℕ} (h : w ≡ Ok y) where
    pub choose-first : (y ≡ 0 → ⊥) → {r : Went} → Enters t k (k + 1) o r → StepOf 6 t k o r
    unfolding Stands
    choose-first z {r} g = record {
      is = λ own l pt n s.
          of-kind 6 (λ y. Stands (act y l) k t → r ≡ went (itself y l pt k o))
          (λ e s. if-two (λ l. Stands (act (choose e) l) k t → r ≡ went (itself (choose e) l pt k o))
          (λ a b s.
          let i : evaluate e o ≡ value y = value-known (evaluate e o) (choose-row t k o e _ x s).worth h in
          let m : is_true y ≡ true = rw (ne_eqb _ _ z) in
          g.is a s.rest.first ∙ sym (ap went (chosen e a b pt k o y i true m)))
          l (choose-row t k o e l x s).two s) own n s;
    }

    pub choose-second : y ≡ 0 → {c : ℕ} → End t (k + 1) c → {r : Went} → Enters t k c o r → StepOf 6 t k o r
    unfolding Stands
    choose-second z {c} f {r} g = record {
      is = λ own l pt n s.
          of-kind 6 (λ y. Stands (act y l) k t → r ≡ went (itself y l pt k o))
          (λ e s. if-two (λ l. Stands (act (choose e) l) k t → r ≡ went (itself (choose e) l pt k o))
          (λ a b s.
          let i : evaluate e o ≡ value y = value-known (evaluate e o) (choose-row t k o e _ x s).worth h in
          let m : is_true y ≡ false = rw (eq-eqb _ _ z) in
          let j : c ≡ k + 1 + size a = stands-end a (k + 1) t s.rest.first f in
          (rw j at (g.is b (rw j s.rest.rest.first))) ∙ sym (ap went (chosen e a b pt k o y i false m)))
          l (choose-row t k o e l x s).two s) own n s;
    }

-- `repeats`
module _ (t : List ℕ) (k : ℕ) (o : Order) {e : ℕ} (z : End t k e) {n : List ℕ} (i : Clears (k + 1) e o.marks n) {o₁ o₂ : Order}
    (d : o₁ ≡ with_marks n o) (j : o₂ ≡ marked k 2 o₁) {b : Entered} (x : Begins t (k + 1) o₂.marks b) {r : Went} (y : r ≡ begun_of o₂ b)
    {v : Bool} (q : v ≡ is_over r.way) where
  repeated : (own : Own) (a : Act) → Stands (act own (more a none)) k t
      → went (repeats k (more a none) o) ≡ went (where_over (again k) (begun_in o₂ (begin a (k + 1) o₂.marks)))
  unfolding repeats begin_part part part_at size
  repeated own a s =
      let f : e - (k + 1) ≡ sizes (more a none) = omega (arith, stands-end (act own (more a none)) k t s z) in
      rw (j, d, i.is z.within, f)

  body-begun : (own : Own) (a : Act) → Stands (act own (more a none)) k t → r ≡ went (begun_in o₂ (begin a (k + 1) o₂.marks))
  unfolding Stands
  body-begun own a s = rw (x.is a s.rest.first) at y

  pub repeat-over : v ≡ true → {p : Went} → p ≡ runs_of (marked k 1 r.order) → Repeats t k o p
  repeat-over h g = record {
    is = λ own a s. goes_on (again k) (begun_in o₂ (begin a (k + 1) o₂.marks)) (body-begun own a s) q h g ∙ sym (repeated own a s);
  }

  pub repeat_runs : v ≡ false → Repeats t k o r
  repeat_runs h = record {
    is = λ own a s. stays (again k) (begun_in o₂ (begin a (k + 1) o₂.marks)) (body-begun own a s) q h ∙ sym (repeated own a s);
  }

-- `decides`
pub record RepeatRow (o : Order) (e : Exp) (l : Acts) (w : Result ℕ Fault) : Type 0 where
  pub one : count l ≡ 1
  pub worth : w ≡ worth_of (evaluate e o)

repeat-row : (t : List ℕ) (k : ℕ) (o : Order) (e : Exp) (l : Acts) {w : Result ℕ Fault} → WorthAt t k o w → Stands (act (repeat e) l) k t → RepeatRow o e l w
unfolding Stands row_of SpellsOwn own_within
repeat-row t k o e l x s =
    both (not s.first.arms) _ s.first.limits (λ a b.
    both (eqb (count l) 1) _ b (λ c d. record {
      one = eqb-true (count l) 1 c;
      worth = x.is s.first.long e s.first.node s.first.variables s.first.row.expression s.first.few s.first.expression d;
    }))

decided : (e : Exp) (l : Acts) (pt k : ℕ) (o : Order) (y : ℕ) → evaluate e o ≡ value y → (x : Bool) → is_true y ≡ x
    → itself (repeat e) l pt k o ≡ cond x (repeats k l o) (finishes k o)
unfolding itself
decided e l pt k o y h true i = rw h (yes (is_true y) (repeats k l o) (finishes k o) i)
decided e l pt k o y h false i = rw h (no (is_true y) (repeats k l o) (finishes k o) i)

module _ (t : List ℕ) (k : ℕ) (o : Order) {w : Result ℕ Fault} (x : WorthAt t k o w) where
  pub decide-raises : {f : Fault} → w ≡ Err f → {r : Went} → r ≡ raises_of f.number k o → StepOf 7 t k o r
  unfolding itself
  decide-raises h {r} g = record {
    is = λ own l pt n s.
        of-kind 7 (λ y. Stands (act y l) k t → r ≡ went (itself y l pt k o))
        (λ e s. rw (fault-known (evaluate e o) (repeat-row t k o e l x s).worth h) g) own n s;
  }

  module _ {y : ℕ} (h : w ≡ Ok y) where
    pub decide-over : y ≡ 0 → {r : Went} → r ≡ finishes_of k o → StepOf 7 t k o r
    decide-over z {r} g = record {
      is = λ own l pt n s.
          of-kind 7 (λ y. Stands (act y l) k t → r ≡ went (itself y l pt k o))
          (λ e s.
          let i : evaluate e o ≡ value y = value-known (evaluate e o) (repeat-row t k o e l x s).worth h in
          let m : is_true y ≡ false = rw (eq-eqb _ _ z) in
          g ∙ sym (ap went (decided e l pt k o y i false m))) own n s;
    }

    pub decide-again : (y ≡ 0 → ⊥) → {r : Went} → Repeats t k o r → StepOf 7 t k o r
    decide-again z {r} g = record {
      is = λ own l pt n s.
          of-kind 7 (λ y. Stands (act y l) k t → r ≡ went (itself y l pt k o))
          (λ e s. if-one (λ l. Stands (act (repeat e) l) k t → r ≡ went (itself (repeat e) l pt k o))
          (λ a s.
          let i : evaluate e o ≡ value y = value-known (evaluate e o) (repeat-row t k o e _ x s).worth h in
          let m : is_true y ≡ true = rw (ne_eqb _ _ z) in
          g.is (repeat e) a s ∙ sym (ap went (decided e (more a none) pt k o y i true m)))
          l (repeat-row t k o e l x s).one s) own n s;
    }

-- `takes`
arm-one : (t : List ℕ) (k p q : ℕ) (vs : List ℕ) (l : Acts) → Stands (act (arm p q vs) l) k t → count l ≡ 1
unfolding Stands own_within
arm-one t k p q vs l s =
    both s.first.arms _ s.first.limits (λ a b. both (eqb (count l) 1) _ b (λ c d. eqb-true (count l) 1 c))

pub takes-is : (t : List ℕ) (k : ℕ) (o : Order) {b : Entered} → Begins t (k + 1) o.marks b → {r : Went} → r ≡ begun_of o b → StepOf 255 t k o r
unfolding itself begin_part part part_at Stands
takes-is t k o {b} x {r} y = record {
  is = λ own l pt n s.
      of-kind 255 (λ w. Stands (act w l) k t → r ≡ went (itself w l pt k o))
      (λ p q vs s. if-one (λ l. Stands (act (arm p q vs) l) k t → r ≡ went (itself (arm p q vs) l pt k o))
      (λ a s. rw (x.is a s.rest.first) at y)
      l (arm-one t k p q vs l s) s) own n s;
}

-- `closes`: the closings that are left
module _ (q k : ℕ) (o : Order) {f : Order} (y : Forgets (k + 1) o f) where
  abbrev left_in : List ℕ → Acts → List Closing
  left_in ns l = only (λ c. not (is_for (scope_at ns k l) c)) (closings o)

  forgotten : (ns : List ℕ) (l : Acts) → f ≡ forgetting (scope_at ns k l) o
  unfolding forgetting part_at
  forgotten ns none = y.is
  forgotten ns (more a l) = y.is

  kept-all : (ns : List ℕ) (l : Acts) → f.kept ≡ length (closings (forgetting (scope_at ns k l) o))
  unfolding forgetting
  kept-all ns l = ap (λ (w : Order). w.kept) (forgotten ns l) ∙ ap length (sym (closings-are (left_in ns l) o))

  pub closes-is : f.kept < 32 → {p : Order} → Remembers k q f p → {r : Went} → r ≡ finishes_of k p → Closes q k o r
  unfolding closing forgetting adds
  closes-is i {p} j {r} g = record {
    is = λ x z ns l room.
        let m : p ≡ remembering (closings (forgetting (scope_at ns k l) o) ++ adds true q k (scope_at ns k l) o) o
        = rw (closings-are (left_in ns l) o) (j.is x z i (left_in ns l) o (forgotten ns l)) in
        rw m at g;
  }

  pub closes-full : 32 ≤ f.kept → {r : Went} → Closes q k o r
  closes-full i = record { is = λ x z ns l room. absurd (omega (arith, kept-all ns l, room refl)) }

-- `hands_on`
pub hands-is : (q k : ℕ) (o : Order) {p : Order} → Hands (k + 1) q o p → {r : Went} → r ≡ finishes_of k p → HandsOn q k o r
unfolding closing forgetting adds list_of part_at
hands-is q k o {p} y {r} g = record { is = λ x z ns l. g ∙ rw (y.is z) (sym (go ns l)) }
  where
    go : (ns : List ℕ) (l : Acts) → went (closing false q k (scope_at ns k l) o)
        ≡ finishes_of k (remembering (only (not_for (k + 1)) (closings o) ++ handed q (only (for_part (k + 1)) (closings o))) o)
    go ns none = rw (closings-are (only (not_for (k + 1)) (closings o)) o)
    go ns (more a l) = rw (closings-are (only (not_for (k + 1)) (closings o)) o)

-- `itself`: by the kind of the row
pub itself-far : (t : List ℕ) (pt k : ℕ) (o : Order) {r : Went} → 256 ≤ k → StepsAt t pt k o r
itself-far t pt k o h = record { is = λ own l d s room. absurd (omega (arith, stands-inside (act own l) k t s, size-pos (act own l))) }

module _ (t : List ℕ) (pt k : ℕ) (o : Order) {kd : ℕ} (q : KindOf t k kd) where
  pub itself-of : (n : ℕ) → kd ≡ n → {r : Went} → StepOf n t k o r → StepsAt t pt k o r
  itself-of n e x = record { is = λ own l d s room. x.is own l pt (sym (row-kind q own l s) ∙ e) s }

  below : (own : Own) (l : Acts) → Stands (act own l) k t → k < 256
  below own l s = omega (arith, stands-inside (act own l) k t s, size-pos (act own l))

  itself-closes : kd ≡ 11 → {r : Went} → Closes pt k o r → StepsAt t pt k o r
  unfolding itself
  itself-closes e {r} x = record {
    is = λ own l d s room.
        of-kind 11 (λ w. Roomy w l k o → r ≡ went (itself w l pt k o)) (λ room. x.is (below own l s) d [] l room) own (sym (row-kind q own l s) ∙ e) room;
  }

  -- fault parts by number come with an undo part
  itself-numbered : kd ≡ 14 → {r : Went} → Closes pt k o r → StepsAt t pt k o r
  unfolding itself
  itself-numbered e {r} x = record {
    is = λ own l d s room.
        of-kind 14 (λ w. Stands (act w l) k t → Roomy w l k o → r ≡ went (itself w l pt k o))
        (λ n ns v s room. by-undo n ns v l (numbered-undo n ns v (scope-line t k (n ∷ ns) v l s).numbers) (x.is (below (scope (n ∷ ns) v) l s) d (n ∷ ns) l) room)
        own (sym (row-kind q own l s) ∙ e) s room;
  }
    where
      by-undo : {r : Went} (n : ℕ) (ns : List ℕ) (v : Bool) (l : Acts) → v ≡ true
          → (Roomy (scope (n ∷ ns) true) l k o → r ≡ went (closing true pt k (scope_at (n ∷ ns) k l) o))
          → Roomy (scope (n ∷ ns) v) l k o → r ≡ went (closing v pt k (scope_at (n ∷ ns) k l) o)
      by-undo n ns true l e f room = f room
      by-undo n ns false l e f room = absurd (false≢true e)

  pub itself-hands : kd ≡ 12 → {r : Went} → HandsOn pt k o r → StepsAt t pt k o r
  unfolding itself
  itself-hands e {r} x = record {
    is = λ own l d s room. of-kind 12 (λ w. r ≡ went (itself w l pt k o)) (x.is (below own l s) d [] l) own (sym (row-kind q own l s) ∙ e);
  }

  itself-sends : kd ≡ 1 → {r : Went} → SendStep t k o r → StepsAt t pt k o r
  itself-sends e {r} x = record {
    is = λ own l d s room.
        of-kind 1 (λ w. Stands (act w l) k t → r ≡ went (itself w l pt k o)) (λ p a vs s. x.is (to_partner p) a vs l pt s) own (sym (row-kind q own l s) ∙ e) s;
  }

  itself-sends-held : kd ≡ 17 → {r : Went} → SendStep t k o r → StepsAt t pt k o r
  itself-sends-held e {r} x = record {
    is = λ own l d s room.
        of-kind 17 (λ w. Stands (act w l) k t → r ≡ went (itself w l pt k o)) (λ v p a vs s. x.is (to_held v p) a vs l pt s) own (sym (row-kind q own l s) ∙ e) s;
  }

  itself-receives : kd ≡ 2 → {r : Went} → r ≡ finishes_of k o → StepsAt t pt k o r
  unfolding itself
  itself-receives e {r} g = record {
    is = λ own l d s room. of-kind 2 (λ w. r ≡ went (itself w l pt k o)) (λ p q vs. g) own (sym (row-kind q own l s) ∙ e);
  }

  itself-receives-asking : kd ≡ 18 → {r : Went} → r ≡ finishes_of k o → StepsAt t pt k o r
  unfolding itself
  itself-receives-asking e {r} g = record {
    is = λ own l d s room. of-kind 18 (λ w. r ≡ went (itself w l pt k o)) (λ p v q vs. g) own (sym (row-kind q own l s) ∙ e);
  }

  -- of the kinds that have one step
  pub itself-send : (kd ≡ 1) ⊎ (kd ≡ 17) → {r : Went} → SendStep t k o r → StepsAt t pt k o r
  itself-send (inl e) x = itself-sends e x
  itself-send (inr e) x = itself-sends-held e x

  pub itself-receive : (kd ≡ 2) ⊎ (kd ≡ 18) → {r : Went} → r ≡ finishes_of k o → StepsAt t pt k o r
  itself-receive (inl e) g = itself-receives e g
  itself-receive (inr e) g = itself-receives-asking e g

  pub itself-close : (kd ≡ 11) ⊎ (kd ≡ 14) → {r : Went} → Closes pt k o r → StepsAt t pt k o r
  itself-close (inl e) x = itself-closes e x
  itself-close (inr e) x = itself-numbered e x

  pub itself-raises : kd ≡ 4 → {r : Went} → r ≡ raises_of plain_raise k o → StepsAt t pt k o r
  unfolding itself
  itself-raises e {r} g = record { is = λ own l d s room. of-kind 4 (λ w. r ≡ went (itself w l pt k o)) g own (sym (row-kind q own l s) ∙ e) }

  pub itself-leaves : kd ≡ 5 → {r : Went} → r ≡ leaves_of k o → StepsAt t pt k o r
  unfolding itself
  itself-leaves e {r} g = record { is = λ own l d s room. of-kind 5 (λ w. r ≡ went (itself w l pt k o)) g own (sym (row-kind q own l s) ∙ e) }

  module _ (h1 : (kd ≡ 1) ⊎ (kd ≡ 17) → ⊥) (h2 : (kd ≡ 2) ⊎ (kd ≡ 18) → ⊥) (h3 : kd ≡ 3 → ⊥) (h4 : kd ≡ 4 → ⊥) (h13 : kd ≡ 13 → ⊥) (h5 : kd ≡ 5 → ⊥) (h6 : kd ≡ 6 → ⊥)
      (h7 : kd ≡ 7 → ⊥) (h11 : (kd ≡ 11) ⊎ (kd ≡ 14) → ⊥) (h12 : kd ≡ 12 → ⊥) (h255 : kd ≡ 255 → ⊥) where
    runs-itself : {r : Went} → r ≡ runs_of o → (own : Own) (l : Acts) → kd ≡ kind own → r ≡ went (itself own l pt k o)
    unfolding itself kind
    runs-itself g empty l e = g
    runs-itself g (send (to_partner p) q vs) l e = absurd (h1 (inl e))
    runs-itself g (send (to_held v r) q vs) l e = absurd (h1 (inr e))
    runs-itself g (receive (from_partner p) q vs) l e = absurd (h2 (inl e))
    runs-itself g (receive (from_asking p v) q vs) l e = absurd (h2 (inr e))
    runs-itself g (setting v x) l e = absurd (h3 e)
    runs-itself g (raise zero) l e = absurd (h4 e)
    runs-itself g (raise (suc number)) l e = absurd (h13 e)
    runs-itself g leave l e = absurd (h5 e)
    runs-itself g (choose x) l e = absurd (h6 e)
    runs-itself g (repeat x) l e = absurd (h7 e)
    runs-itself g sequence l e = g
    runs-itself g flow l e = g
    runs-itself g pick l e = g
    runs-itself g (scope [] true) l e = absurd (h11 (inl e))
    runs-itself g (scope [] false) l e = absurd (h12 e)
    runs-itself g (scope (n ∷ ns) v) l e = absurd (h11 (inr e))
    runs-itself g (arm p q vs) l e = absurd (h255 e)

    pub itself-runs : {r : Went} → r ≡ runs_of o → StepsAt t pt k o r
    itself-runs g = record { is = λ own l d s room. runs-itself g own l (row-kind q own l s) }
