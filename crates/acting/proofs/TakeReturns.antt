-- The returns of the functions by which an order takes a message. Assumes nothing.
use mathlib.Core.Path.{◌≡◌, refl, sym, ap, ◌∙◌}
use mathlib.Core.Bool.{true, not}
use mathlib.Core.List.{List, ◌∷◌}
use mathlib.Core.Logic.{◌⊎◌, inl, inr}
use Prim.Native.Nat.{ℕ, zero, suc, ◌+◌, ◌*◌, ◌<◌, ◌≤◌}
use native.Mathlib.Numerals.{add-one}
use native.Mathlib.Omega.{arith}
use borrow.Author.Tests.{le-ltb, ltb-true}
use lib.Dec.{eqb, ltb}
use lib.ListN.{length, get_or, drop, drop_of_length-le}
use lib.Seq.{drop-cons, drop-drop, get_or-drop}
use Rattle.plan.specs.Spells.{variables_of}
use Rattle.plan.specs.Table.{row_of}
use Rattle.plan.specs.Tree.{from_partner, from_asking, Own, empty, send, receive, set as setting, raise, leave, choose, repeat, sequence, flow, pick, scope, arm, kind, Act, act, Acts, none, more, size, sizes, count}
use Rattle.plan.specs.Within.{own_within, exchange_within}
use Rattle.plan.proofs.Accepts.{both}
use Rattle.order.specs.declared.Order.{Order}
use Rattle.order.specs.Answering.{KindOf, CountOf, VariableOf, Names, Binds, BindsRow, BindsAsking, TakesOrder}
use Rattle.order.specs.Stands.{Stands}
use Rattle.order.specs.State.{binding}
use Rattle.order.specs.Taking.{act_in, act_among, act_at, bind_all, bind_own, bind_act}
use Rattle.order.proofs.Deciding.{no}
use Rattle.order.proofs.Owns.{of-kind}
use Rattle.order.proofs.PlanStands.{plan-stands, plan-size, plan-at}
use Rattle.order.proofs.Standing.{size-pos, stands-inside, row-kind}
use Rattle.activity.proofs.StepReturns.{line-names, names-count}

-- `bind_row`
bind-next : (v : ℕ) (l ys zs : List ℕ) (x : ℕ) (o p : Order) → drop 1 ys ≡ zs → get_or ys 0 0 ≡ x → p ≡ binding v x o → bind_all (v ∷ l) ys o ≡ bind_all l zs p
unfolding bind_all
bind-next v l ys zs x o p d f y = rw (y, ← d, ← f)

pub record Taking (t : List ℕ) (k : ℕ) (xs : List ℕ) (o₀ : Order) (i : ℕ) (o : Order) : Type 0 where
  pub is : (vs : List ℕ) → Names t k vs → bind_all vs xs o₀ ≡ bind_all (drop i vs) (drop i xs) o

pub taking-starts : (t : List ℕ) (k : ℕ) (xs : List ℕ) (o : Order) → Taking t k xs o 0 o
taking-starts t k xs o = record { is = λ vs n. refl }

module _ {t : List ℕ} {k : ℕ} {xs : List ℕ} {o₀ : Order} {i : ℕ} {o : Order} (w : Taking t k xs o₀ i o) {n : ℕ} (c : CountOf t k n) where
  pub taking-done : n ≤ i → BindsRow t k xs o₀ o
  unfolding bind_all
  taking-done h = record {
    is = λ vs m. let g : length vs ≤ i = omega (arith, names-count c m) in sym (w.is vs m ∙ rw (drop_of_length-le vs g));
  }

  pub taking-again : i < n → {v : ℕ} → VariableOf t k i v → {p : Order} → Binds v (get_or xs i 0) o p → Taking t k xs o₀ (i + 1) p
  taking-again h {v} q {p} b = record {
    is = λ vs m.
        let g : i < length vs = omega (arith, names-count c m) in
        let z : i < 4 = omega (arith, m.few) in
        let u : v ≡ get_or vs i 0 = q.is m.row z ∙ m.variables i z in
        let y : p ≡ binding (get_or vs i 0) (get_or xs i 0) o = rw u at (b.is (rw u (m.small i g))) in
        let c : drop i vs ≡ get_or vs i 0 ∷ drop (i + 1) vs = rw add-one (drop-cons vs i 0 g) in
        let d : drop 1 (drop i xs) ≡ drop (i + 1) xs = drop-drop 1 i xs in
        let e : i + 0 ≡ i = omega arith in
        let f : get_or (drop i xs) 0 0 ≡ get_or xs i 0 = rw e at (get_or-drop i xs 0 0) in
        w.is vs m
        ∙ (ap (λ (l : List ℕ). bind_all l (drop i xs) o) c ∙ bind-next (get_or vs i 0) (drop (i + 1) vs) (drop i xs) (drop (i + 1) xs) (get_or xs i 0) o p d f y);
  }

-- the variables of a receive and of an arm, and the one for the reply partner
pub record AskingRow (t : List ℕ) (k v : ℕ) (vs : List ℕ) : Type 0 where
  pub names : Names t k vs
  pub variable : get_or t (k * 13 + 8) 0 ≡ v
  pub small : v < 16

module _ (t : List ℕ) (k p q : ℕ) (vs : List ℕ) (l : Acts) where
  receive-names : Stands (act (receive (from_partner p) q vs) l) k t → Names t k vs
  unfolding Stands variables_of own_within
  receive-names s =
      both (not s.first.arms) _ s.first.limits (λ a b.
      both (eqb (count l) 0) _ b (λ c d. line-names s.first refl true p q (omega arith) d))

  asking-row : (v : ℕ) → Stands (act (receive (from_asking p v) q vs) l) k t → AskingRow t k v vs
  unfolding Stands variables_of own_within row_of
  asking-row v s =
      both (not s.first.arms) _ s.first.limits (λ a b.
      both (eqb (count l) 0) _ b (λ c d.
      both (exchange_within s.first.variables true p q vs) _ d (λ e f.
      both (ltb v s.first.variables) _ f (λ g h. record {
        names = line-names s.first refl true p q (omega arith) e;
        variable = s.first.row.variable;
        small = omega (arith, ltb-true v s.first.variables g, s.first.few);
      }))))

  arm-names : Stands (act (arm p q vs) l) k t → Names t k vs
  unfolding Stands variables_of own_within
  arm-names s =
      both s.first.arms _ s.first.limits (λ a b.
      both (eqb (count l) 1) _ b (λ c d. line-names s.first refl true p q (omega arith) d))

none-past : (l : Acts) (c x : ℕ) → c + sizes l ≤ x → act_among l c x ≡ act empty none
unfolding act_in size
none-past none c x h = refl
none-past (more a l) c x h =
    no (ltb x (c + size a)) (act_in a c x) (act_among l (c + size a) x) (le-ltb x (c + size a) (omega arith)) ∙ none-past l (c + size a) x (omega arith)

-- `taken_order`
module _ (t : List ℕ) (n x : ℕ) (xs : List ℕ) (o : Order) where
  pub takes-beyond : n ≤ x → TakesOrder t n x xs o o
  unfolding bind_own
  takes-beyond h = record {
    is = λ p s.
        let e : act_at p x ≡ act empty none = none-past (more p.body (more p.fault none)) 0 x (omega (arith, plan-size p, s.many)) in
        sym (ap (λ (a : Act). bind_act a xs o) e);
  }

  pub takes-far : 256 ≤ x → x < n → TakesOrder t n x xs o o
  takes-far h g = record {
    is = λ p s. let a = plan-at p n t (plan-stands s) x g in absurd (omega (arith, stands-inside (act_at p x) x t a, size-pos (act_at p x)));
  }

  module _ (g : x < n) {kd : ℕ} (q : KindOf t x kd) where
    by_row : {r : Order} → ((own : Own) (l : Acts) → Stands (act own l) x t → r ≡ bind_own own xs o) → TakesOrder t n x xs o r
    by_row {r} f = record { is = λ p s. go (act_at p x) (plan-at p n t (plan-stands s) x g) }
      where
        go : (a : Act) → Stands a x t → r ≡ bind_act a xs o
        go (act own l) s = f own l s

    takes-receive : kd ≡ 2 → {r : Order} → BindsRow t x xs o r → TakesOrder t n x xs o r
    unfolding bind_own
    takes-receive h {r} b = by_row (λ own l s.
        of-kind 2 (λ w. Stands (act w l) x t → r ≡ bind_own w xs o) (λ p y vs s. b.is vs (receive-names t x p y vs l s)) own (sym (row-kind q own l s) ∙ h) s)

    pub takes-asking : kd ≡ 18 → {r : Order} → BindsAsking t x xs o r → TakesOrder t n x xs o r
    unfolding bind_own
    takes-asking h {r} b = by_row (λ own l s.
        of-kind 18 (λ w. Stands (act w l) x t → r ≡ bind_own w xs o)
        (λ p v y vs s.
        let z = asking-row t x p y vs l v s in
        rw z.variable at (b.is vs z.names (rw z.variable z.small)))
        own (sym (row-kind q own l s) ∙ h) s)

    takes-arm : kd ≡ 255 → {r : Order} → BindsRow t x xs o r → TakesOrder t n x xs o r
    unfolding bind_own
    takes-arm h {r} b = by_row (λ own l s.
        of-kind 255 (λ w. Stands (act w l) x t → r ≡ bind_own w xs o) (λ p y vs s. b.is vs (arm-names t x p y vs l s)) own (sym (row-kind q own l s) ∙ h) s)

    pub takes-row : (kd ≡ 2) ⊎ (kd ≡ 255) → {r : Order} → BindsRow t x xs o r → TakesOrder t n x xs o r
    takes-row (inl e) b = takes-receive e b
    takes-row (inr e) b = takes-arm e b

    no-take : (kd ≡ 2 → ⊥) → (kd ≡ 18 → ⊥) → (kd ≡ 255 → ⊥) → (own : Own) → kind own ≡ kd → o ≡ bind_own own xs o
    unfolding bind_own kind
    no-take h g i empty e = refl
    no-take h g i (send p y vs) e = refl
    no-take h g i (receive (from_partner p) y vs) e = absurd (h (sym e))
    no-take h g i (receive (from_asking p v) y vs) e = absurd (g (sym e))
    no-take h g i (setting v d) e = refl
    no-take h g i (raise zero) e = refl
    no-take h g i (raise (suc number)) e = refl
    no-take h g i leave e = refl
    no-take h g i (choose d) e = refl
    no-take h g i (repeat d) e = refl
    no-take h g i sequence e = refl
    no-take h g i flow e = refl
    no-take h g i pick e = refl
    no-take h g i (scope ns u) e = refl
    no-take h g i (arm p y vs) e = absurd (i (sym e))

    pub takes_none : ((kd ≡ 2) ⊎ (kd ≡ 255) → ⊥) → (kd ≡ 18 → ⊥) → TakesOrder t n x xs o o
    takes_none h g = by_row (λ own l s. no-take (λ e. h (inl e)) g (λ e. h (inr e)) own (sym (row-kind q own l s)))
