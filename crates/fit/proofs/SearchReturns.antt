-- The returns of the functions that ask whether a row is open and takes a message. Assumes nothing.
use mathlib.Core.Path.{◌≡◌, refl, sym, ap, ◌∙◌}
use mathlib.Core.Bool.{Bool, true, false, cond, ◌&&◌, ◌||◌, false≢true}
use mathlib.Core.List.{List, [], ◌∷◌}
use Prim.Native.Nat.{ℕ, zero, suc, ◌+◌, ◌*◌, ◌-◌, ◌<◌, ◌≤◌}
use native.Mathlib.Numerals.{sub-one}
use native.Mathlib.Omega.{arith}
use borrow.Author.Tests.{eq-eqb, ne_eqb, lt-ltb, le-ltb}
use lib.Dec.{eqb, ltb}
use lib.ListN.{get_or, set as set_at}
use Rattle.plan.specs.Spells.{variables_of, Spells}
use Rattle.plan.specs.Table.{row_of}
use Rattle.plan.specs.Tree.{to_partner, to_held, from_partner, from_asking, Own, empty, send, receive, set, raise, leave, choose, repeat, sequence, flow, pick, scope, arm, kind, numbers_of, Plan}
use Rattle.plan.proofs.TableSpells.{row_count, row-variables}
use Rattle.machine.specs.declared.Message.{Message}
use Rattle.order.specs.declared.Order.{Order}
use Rattle.fit.specs.Answering.{Exchange, AsksRow, FitsRow, message_at, open_pick, arms_from, around_from, PicksRow, Picks, ArmAt, ArmsRow, fits_own, catches}
use Rattle.machine.specs.Fit.{fits}
use Rattle.order.specs.State.{is_live}
use Rattle.fit.specs.Lines.{Line, is_ready, Stands}
use Rattle.fit.specs.Receiving.{receives, OpensRow, TakesRow}
use Rattle.fit.proofs.Filled.{Filling, filling-again, filling-passes, filling-done}
use Rattle.fit.proofs.FitReturns.{asks-asking}
use Rattle.fit.proofs.OwnKinds.{awaits-kind}

-- `open_pick`
pub pick-marked : (t ms : List ℕ) (j : ℕ) → get_or t (j * 13) 0 ≡ 10 → eqb (get_or ms j 0) 1 ≡ open_pick t ms j
pick-marked t ms j e = rw (eq-eqb _ _ e)

pub no-pick : (t ms : List ℕ) (j : ℕ) → (get_or t (j * 13) 0 ≡ 10 → ⊥) → false ≡ open_pick t ms j
no-pick t ms j e = rw (ne_eqb _ _ e)

-- `rows_of`
pub rows-free : (o : Order) (n : ℕ) → o.root ≡ 0 → 0 ≡ cond (is_live o) n 0
rows-free o n e = rw (eq-eqb _ _ e)

pub rows-live : (o : Order) (n : ℕ) → (o.root ≡ 0 → ⊥) → n ≡ cond (is_live o) n 0
rows-live o n e = rw (ne_eqb _ _ e)

-- the loop of `row_around`: no row passed reaches beyond row k
pub record Climbing (t : List ℕ) (k j : ℕ) : Type 0 where
  pub within : j ≤ k
  pub same : around_from t k k ≡ around_from t k j

pub climbing-starts : (t : List ℕ) (k : ℕ) → Climbing t k k
climbing-starts t k = record { within = omega arith; same = refl }

around-step : (t : List ℕ) (k j : ℕ) → 0 < j → around_from t k j ≡ cond (ltb k (get_or t ((j - 1) * 13 + 11) 0)) (j - 1) (around_from t k (j - 1))
unfolding around_from
around-step t k zero h = absurd (omega arith)
around-step t k (suc j) h = rw (sub-one (suc j))

module _ {t : List ℕ} {k j : ℕ} (w : Climbing t k j) where
  pub climbing-done : j ≤ 0 → 256 ≡ around_from t k k
  unfolding around_from
  climbing-done h = let z : j ≡ 0 = omega arith in sym (w.same ∙ rw z)

  pub climbing-found : 0 < j → k < get_or t ((j - 1) * 13 + 11) 0 → j - 1 ≡ around_from t k k
  climbing-found h l = sym (w.same ∙ (around-step t k j h ∙ rw (lt-ltb _ _ l)))

  pub climbing-again : 0 < j → get_or t ((j - 1) * 13 + 11) 0 ≤ k → Climbing t k (j - 1)
  climbing-again h l = record {
    within = omega arith;
    same = w.same ∙ (around-step t k j h ∙ rw (le-ltb _ _ l));
  }

-- a row that is no arm
picks-other : (t : List ℕ) (k r : ℕ) → (get_or t (k * 13) 0 ≡ 255 → ⊥) → PicksRow t k r
picks-other t k r n = record { is = λ z. absurd (n z) }

-- `picks_of`
module _ {t out : List ℕ} {k : ℕ} (w : Filling (PicksRow t) 256 out k) where
  pub picking-arm : k < 256 → {r : ℕ} → r ≡ around_from t k k → Filling (PicksRow t) 256 (set_at out k r) (k + 1)
  picking-arm h e = filling-again w h (record { is = λ z. e })

  pub picking-other : k < 256 → (get_or t (k * 13) 0 ≡ 255 → ⊥) → Filling (PicksRow t) 256 out (k + 1)
  picking-other h n = filling-passes w h (picks-other t k (get_or out k 0) n)

  pub picking-done : 256 ≤ k → Picks t out
  picking-done h = record { is = λ j g. filling-done w h j g }

-- `arm_open`
arms-around : (t ms : List ℕ) (k j : ℕ) → j ≤ 256 → arms_from t ms k j ≡ cond (ltb (around_from t k j) 256) (open_pick t ms (around_from t k j)) false
unfolding arms_from around_from
arms-around t ms k zero h = refl
arms-around t ms k (suc j) h = by-test (arms-around t ms k j (omega arith)) (ltb k (get_or t (j * 13 + 11) 0))
  where
    by-test : arms_from t ms k j ≡ cond (ltb (around_from t k j) 256) (open_pick t ms (around_from t k j)) false → (b : Bool)
        → cond b (open_pick t ms j) (arms_from t ms k j)
        ≡ cond (ltb (cond b j (around_from t k j)) 256) (open_pick t ms (cond b j (around_from t k j))) false
    by-test e true = rw (lt-ltb j 256 (omega arith))
    by-test e false = e

-- `arm_at`
pub arm-beyond : (t ms : List ℕ) (k : ℕ) → 256 ≤ k → ArmAt t ms k false
arm-beyond t ms k h = record { is = λ g. absurd (omega arith) }

module _ (t ms : List ℕ) (k : ℕ) {j : ℕ} (e : j ≡ around_from t k k) where
  pub arm-some : {r : Bool} → j < 256 → r ≡ open_pick t ms j → ArmAt t ms k r
  arm-some h q = record { is = λ g. q ∙ sym (arms-around t ms k k (omega arith) ∙ rw (← e, lt-ltb _ _ h)) }

  pub arm-none : 256 ≤ j → ArmAt t ms k false
  arm-none h = record { is = λ g. sym (arms-around t ms k k (omega arith) ∙ rw (← e, le-ltb _ _ h)) }

pub arms-beyond : (t picks ms : List ℕ) (k : ℕ) → 256 ≤ k → ArmsRow t picks ms k false
arms-beyond t picks ms k h = record { is = λ g w z. absurd (omega arith) }

module _ {t picks : List ℕ} (ms : List ℕ) {k : ℕ} (h : k < 256) where
  arms-say : Picks t picks → get_or t (k * 13) 0 ≡ 255 → arms_from t ms k k ≡ cond (ltb (get_or picks k 0) 256) (open_pick t ms (get_or picks k 0)) false
  arms-say w z = arms-around t ms k k (omega arith) ∙ rw (← (w.is k h).is z)

  pub arms-some : {r : Bool} → get_or picks k 0 < 256 → r ≡ open_pick t ms (get_or picks k 0) → ArmsRow t picks ms k r
  arms-some l e = record { is = λ g w z. e ∙ sym (arms-say w z ∙ rw (lt-ltb _ _ l)) }

  pub arms_none : 256 ≤ get_or picks k 0 → ArmsRow t picks ms k false
  arms_none l = record { is = λ g w z. sym (arms-say w z ∙ rw (le-ltb _ _ l)) }

-- what a row says of its line
pub stands-kind : {t ms : List ℕ} {k : ℕ} {x : Line} → Stands t ms k x → get_or t (k * 13) 0 ≡ kind x.own
unfolding Spells
stands-kind y = y.spelled.row.kind

-- the row of any activity or arm but a scope with fault parts by number names its partner, its operation and its variables
no-numbers : (own : Own) → (kind own ≡ 14 → ⊥) → numbers_of own ≡ []
unfolding kind
no-numbers empty h = refl
no-numbers (send a b vs) h = refl
no-numbers (receive a b vs) h = refl
no-numbers (set v e) h = refl
no-numbers (raise number) h = refl
no-numbers leave h = refl
no-numbers (choose e) h = refl
no-numbers (repeat e) h = refl
no-numbers sequence h = refl
no-numbers flow h = refl
no-numbers pick h = refl
no-numbers (scope [] u) h = refl
no-numbers (scope (n ∷ ns) u) h = absurd (h refl)
no-numbers (arm a b vs) h = refl

pub stands-exchange : {t ms : List ℕ} {k : ℕ} {x : Line} → Stands t ms k x → (get_or t (k * 13) 0 ≡ 14 → ⊥)
    → Exchange (get_or t (k * 13 + 1) 0) (get_or t (k * 13 + 2) 0) (variables_of x.own) k t
unfolding Spells
stands-exchange {x = x} y h =
    let n : numbers_of x.own ≡ [] = no-numbers x.own (λ q. h (stands-kind y ∙ q)) in
    record {
      inside = y.inside;
      partner = refl;
      operation = refl;
      count = y.spelled.row.count ∙ row_count x.own y.node y.place n;
      variables = λ i l. y.spelled.row.variables i l ∙ row-variables x.own y.node y.place i n l;
    }

-- one that takes a message is none
receives-other : (own : Own) → receives own ≡ true → kind own ≡ 14 → ⊥
receives-other own e h = false≢true (sym (ap (λ (n : ℕ). eqb n 2 || (eqb n 18 || eqb n 255)) h) ∙ e)

and_second : (a b : Bool) → (a && b) ≡ true → b ≡ true
and_second true b e = e
and_second false b e = absurd (false≢true e)

and-true : (b : Bool) → b ≡ (b && true)
and-true true = refl
and-true false = refl

pub and-false : (b : Bool) → false ≡ (b && false)
and-false true = refl
and-false false = refl

and_assoc : (a b c : Bool) → (a && (b && c)) ≡ ((a && b) && c)
and_assoc true b c = refl
and_assoc false b c = refl

-- `open_at`
module _ (t picks ms : List ℕ) (k : ℕ) where
  pub opens-receive : get_or t (k * 13) 0 ≡ 2 → OpensRow t picks ms k (eqb (get_or ms k 0) 1)
  opens-receive z = record { is = λ x w y. rw (awaits-kind x.own, sym (stands-kind y) ∙ z, y.activity) (and-true (eqb (get_or ms k 0) 1)) }

  pub opens-asking : get_or t (k * 13) 0 ≡ 18 → OpensRow t picks ms k (eqb (get_or ms k 0) 1)
  opens-asking z = record { is = λ x w y. rw (awaits-kind x.own, sym (stands-kind y) ∙ z, y.activity) (and-true (eqb (get_or ms k 0) 1)) }

  pub opens-arm : {b : Bool} → get_or t (k * 13) 0 ≡ 255 → ArmsRow t picks ms k b → OpensRow t picks ms k b
  opens-arm {b} z q = record { is = λ x w y. rw (awaits-kind x.own, sym (stands-kind y) ∙ z) (q.is y.inside w z ∙ (sym y.arms ∙ and-true x.arms)) }

  pub opens-other : (get_or t (k * 13) 0 ≡ 2 → ⊥) → (get_or t (k * 13) 0 ≡ 18 → ⊥) → (get_or t (k * 13) 0 ≡ 255 → ⊥) → OpensRow t picks ms k false
  opens-other z u v = record {
    is = λ x w y.
        rw (
          ne_eqb (kind x.own) 2 (λ q. z (stands-kind y ∙ q)),
          ne_eqb (kind x.own) 18 (λ q. u (stands-kind y ∙ q)),
          ne_eqb (kind x.own) 255 (λ q. v (stands-kind y ∙ q)),
        ) (and-false (is_ready ms x));
  }

-- `takes_at`
fits-row : (p : Plan) (o : Order) (m : Message) (own : Own) (q at : ℕ)
    → fits_own p o m own ≡ (receives own && fits p o (get_or (row_of own q at) 1 0) (get_or (row_of own q at) 2 0) (variables_of own) m)
unfolding fits_own row_of variables_of kind
fits-row p o m empty q at = refl
fits-row p o m (send (to_partner a) b vs) q at = refl
fits-row p o m (send (to_held v a) b vs) q at = refl
fits-row p o m (receive (from_partner a) b vs) q at = refl
fits-row p o m (receive (from_asking a v) b vs) q at = refl
fits-row p o m (set v e) q at = refl
fits-row p o m (raise zero) q at = refl
fits-row p o m (raise (suc number)) q at = refl
fits-row p o m leave q at = refl
fits-row p o m (choose e) q at = refl
fits-row p o m (repeat e) q at = refl
fits-row p o m sequence q at = refl
fits-row p o m flow q at = refl
fits-row p o m pick q at = refl
fits-row p o m (scope [] true) q at = refl
fits-row p o m (scope [] false) q at = refl
fits-row p o m (scope (n ∷ ns) u) q at = refl
fits-row p o m (arm a b vs) q at = refl

stands-fits : {t ms : List ℕ} {k : ℕ} {x : Line} (p : Plan) (o : Order) (m : Message) → Stands t ms k x
    → fits_own p o m x.own ≡ (receives x.own && fits p o (get_or t (k * 13 + 1) 0) (get_or t (k * 13 + 2) 0) (variables_of x.own) m)
unfolding Spells
stands-fits {x = x} p o m y =
    fits-row p o m x.own y.node y.place ∙ rw (← y.spelled.row.partner, ← y.spelled.row.operation)

-- a row catches a message where it is open and the message fits
pub catch-open : {t picks ms : List ℕ} {k : ℕ} {b : Bool} → OpensRow t picks ms k b → Picks t picks → (o : Order) → o.marks ≡ ms
    → {x : Line} → Stands t o.marks k x → (p : Plan) (m : Message)
    → catches p o m x.own x.arms x.activity
    ≡ (b && fits p o (get_or t (k * 13 + 1) 0) (get_or t (k * 13 + 2) 0) (variables_of x.own) m)
unfolding catches
catch-open {ms = ms} {b = b} v w o e {x} y p m =
    let n : b ≡ (is_ready o.marks x && receives x.own) = (rw (← e) at v).is x w y in
    ap (λ z. is_ready o.marks x && z) (stands-fits p o m y) ∙ (and_assoc (is_ready o.marks x) (receives x.own) _ ∙ rw (← n))

-- and one that is open names its exchange
pub open-exchange : {t picks ms : List ℕ} {k : ℕ} {b : Bool} → OpensRow t picks ms k b → Picks t picks → (o : Order) → o.marks ≡ ms
    → {x : Line} → Stands t o.marks k x → b ≡ true → Exchange (get_or t (k * 13 + 1) 0) (get_or t (k * 13 + 2) 0) (variables_of x.own) k t
open-exchange {b = b} v w o e {x} y d =
    let n : b ≡ (is_ready o.marks x && receives x.own) = (rw (← e) at v).is x w y in
    let r : receives x.own ≡ true = and_second (is_ready o.marks x) (receives x.own) (sym n ∙ d) in
    stands-exchange y (λ q. receives-other x.own r (sym (stands-kind y) ∙ q))

pub takes-beyond : (t picks marks known : List ℕ) (k : ℕ) (letters : List ℕ) (j : ℕ) → 256 ≤ k → TakesRow t picks marks known k letters j false
takes-beyond t picks marks known k letters j h = record { is = λ few o p l x g y. absurd (omega (arith, y.inside)) }

module _ {t picks marks : List ℕ} {k : ℕ} {b : Bool} (v : OpensRow t picks marks k b) where
  pub takes-shut : (known letters : List ℕ) (j : ℕ) → b ≡ false → TakesRow t picks marks known k letters j false
  takes-shut known letters j e = record { is = λ few o p l x g y. sym (catch-open v g.picked o g.marked y p (message_at letters j) ∙ rw e) }

  pub takes-open : {known asked letters : List ℕ} {j : ℕ} {r : Bool} → b ≡ true → AsksRow t known k asked → FitsRow t k asked letters j r
      → TakesRow t picks marks known k letters j r
  takes-open {letters = letters} {j} e a f = record {
    is = λ few o p l x g y.
        let q = open-exchange v g.picked o g.marked y e in
        f.is few p o _ _ (variables_of x.own) (asks-asking a g.knows q y.few) q
        ∙ sym (catch-open v g.picked o g.marked y p (message_at letters j) ∙ rw e);
  }
