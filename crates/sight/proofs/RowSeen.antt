-- What a row has on offer. Assumes nothing.
use mathlib.Core.Path.{◌≡◌, refl, sym, ap, ◌∙◌}
use mathlib.Core.Bool.{Bool, true, false, false≢true, cond, not, ◌&&◌, ◌||◌}
use mathlib.Core.List.{List, [], ◌∷◌, map}
use Prim.Native.Nat.{ℕ, zero, suc, ◌+◌, ◌*◌, ◌<◌, ◌≤◌}
use native.Mathlib.Omega.{arith}
use borrow.Author.Tests.{eqb-true, eqb-false, ne_eqb, le-leb, lt-leb}
use lib.Dec.{eqb, leb}
use lib.ListN.{get_or}
use Rattle.plan.specs.Read.{is_scope_code}
use Rattle.plan.specs.Spells.{Spells, variables_of}
use Rattle.plan.specs.Table.{row_of}
use Rattle.plan.specs.Tree.{to_partner, to_held, From, from_partner, from_asking, partner_from, Own, empty, send, receive, set as setting, raise, leave, choose, repeat, sequence, flow, pick, scope, arm, kind, has_undo, numbers_of, Acts, Plan}
use Rattle.plan.specs.Within.{numbers_within}
use Rattle.order.specs.declared.Order.{Order}
use Rattle.machine.specs.Fit.{no_step, sends, takes, moves, cuts, closes, doing_of, Letter, may_take}
use Rattle.order.specs.Acting.{may_send}
use Rattle.order.specs.Answering.{to_by, to_at, MaySend}
use Rattle.order.specs.Lists.{only}
use Rattle.machine.specs.Offer.{Offer, offering, no_offers, unless_held, step_offers}
use Rattle.order.specs.Scope.{Scope, scope_at}
use Rattle.sight.specs.declared.Sight.{Sight}
use Rattle.fit.specs.Folds.{folded}
use Rattle.fit.specs.Answering.{Picks}
use Rattle.fit.specs.Lines.{Line, is_ready, Stands, Rows, Wholes}
use Rattle.sight.specs.Sights.{pointed, seen, showing, withholding, Exchanging, Heeding, Serving, Opening, is_send_code, doing_by, AwaitsRow, CutRow, ClosesRow, take_letter, take_line, doing_line, offer_line}
use Rattle.fit.proofs.Lines.{fold-only}
use Rattle.fit.proofs.SearchReturns.{stands-exchange}

pub or-false : (b : Bool) → (b || false) ≡ b
or-false true = refl
or-false false = refl

pub or-true : (b : Bool) → (b || true) ≡ true
or-true true = refl
or-true false = refl

or-neither : (a b : Bool) → (a || b) ≡ false → (a ≡ false) × (b ≡ false)
or-neither true b e = absurd (false≢true (sym e))
or-neither false b e = (refl, e)

-- what is seen of the parts of an offer
pub seen_none : (s : Sight) → seen no_offers s ≡ s
unfolding seen folded
seen_none s = rw (or-false s.held)

pub seen-show : (i k j : ℕ) (s : Sight) → seen (unless_held false (offering i k j ∷ [])) s ≡ showing i k j s
unfolding seen showing folded
seen-show i k j s = rw (or-false s.held)

pub seen_hold : (l : List Offer) (s : Sight) → seen (unless_held true l) s ≡ withholding s
unfolding seen withholding folded
seen_hold l s = rw (or-true s.held)

seen-map : (i k : ℕ) (l : List Letter) (s : Sight)
    → seen (unless_held false (map (λ x. offering i k x.place) l)) s ≡ folded (λ x. showing i k x.place) l s
unfolding seen folded showing
seen-map i k [] s = rw (or-false s.held)
seen-map i k (x ∷ l) s = seen-map i k l (record { pointer = pointed (offering i k x.place) s.pointer; held = s.held })

-- the step of a row
doing-own : (own : Own) (w : Acts) (k q at : ℕ)
    → numbers_within (numbers_of own) (has_undo own) ≡ true
    → doing_of own w k ≡ doing_by (kind own) (get_or (row_of own q at) 1 0) (get_or (row_of own q at) 2 0) (get_or (row_of own q at) 8 0) (variables_of own) (scope_at (numbers_of own) k w)
unfolding doing_of doing_by kind row_of variables_of numbers_within
doing-own empty w k q at h = refl
doing-own (send (to_partner a) b vs) w k q at h = refl
doing-own (send (to_held v a) b vs) w k q at h = refl
doing-own (receive (from_partner a) b vs) w k q at h = refl
doing-own (receive (from_asking a v) b vs) w k q at h = refl
doing-own (setting v e) w k q at h = refl
doing-own (raise zero) w k q at h = refl
doing-own (raise (suc number)) w k q at h = refl
doing-own leave w k q at h = refl
doing-own (choose e) w k q at h = refl
doing-own (repeat e) w k q at h = refl
doing-own sequence w k q at h = refl
doing-own flow w k q at h = refl
doing-own pick w k q at h = refl
doing-own (scope [] true) w k q at h = refl
doing-own (scope [] false) w k q at h = refl
doing-own (scope (n ∷ ns) true) w k q at h = refl
doing-own (scope (n ∷ ns) false) w k q at h = absurd (false≢true h)
doing-own (arm a b vs) w k q at h = refl

stands-doing : {t ms : List ℕ} {k : ℕ} {x : Line} → Stands t ms k x
    → doing_of x.own x.within k ≡ doing_by (get_or t (k * 13) 0) (get_or t (k * 13 + 1) 0) (get_or t (k * 13 + 2) 0) (get_or t (k * 13 + 8) 0) (variables_of x.own) (scope_at (numbers_of x.own) k x.within)
unfolding Spells
stands-doing {k = k} {x} y =
    doing-own x.own x.within k y.node y.place y.numbers
    ∙ rw (← y.spelled.row.kind, ← y.spelled.row.partner, ← y.spelled.row.operation, ← y.spelled.row.variable)

doing-moves : (n a b v : ℕ) (vs : List ℕ) (s : Scope) → 3 ≤ n → n ≤ 7 → doing_by n a b v vs s ≡ cond (eqb n 4 || eqb n 5) cuts moves
unfolding doing_by
doing-moves n a b v vs s h g =
    rw (
      ne_eqb n 1 (λ q. omega arith),
      ne_eqb n 17 (λ q. omega arith),
      ne_eqb n 2 (λ q. omega arith),
      ne_eqb n 255 (λ q. omega arith),
      ne_eqb n 18 (λ q. omega arith),
      ne_eqb n 11 (λ q. omega arith),
      ne_eqb n 14 (λ q. omega arith),
      ne_eqb n 12 (λ q. omega arith),
      ne_eqb n 13 (λ q. omega arith),
      le-leb 3 n h,
      le-leb n 7 g,
    )

doing-nothing : (n a b v : ℕ) (vs : List ℕ) (s : Scope) → 7 < n → is_send_code n ≡ false → (n ≡ 18 → ⊥) → (n ≡ 255 → ⊥) → (n ≡ 13 → ⊥) → is_scope_code n ≡ false
    → doing_by n a b v vs s ≡ no_step
unfolding doing_by is_send_code
doing-nothing n a b v vs s h f u x z e =
    let g = or-neither (eqb n 1) (eqb n 17) f in
    let y = or-neither (eqb n 11) _ e in
    let w = or-neither (eqb n 12) (eqb n 14) y.1 in
    rw (g.0, g.1, ne_eqb n 2 (λ q. omega arith), ne_eqb n 255 x, ne_eqb n 18 u, y.0, w.1, w.0, ne_eqb n 13 z, le-leb 3 n (omega arith), lt-leb n 7 h)

-- a scope's step is its close: that of the kind 12 has no undo part
doing-closes : (n a b v : ℕ) (vs : List ℕ) (s : Scope) → is_scope_code n ≡ true → doing_by n a b v vs s ≡ closes (not (eqb n 12)) s
unfolding doing_by
doing-closes n a b v vs s e = go (eqb n 11) (eqb n 12) refl refl e
  where
    go : (x y : Bool) → eqb n 11 ≡ x → eqb n 12 ≡ y → (x || (y || eqb n 14)) ≡ true → doing_by n a b v vs s ≡ closes (not (eqb n 12)) s
    go true y z w h = let q : n ≡ 11 = eqb-true n 11 z in rw q
    go false true z w h = let q : n ≡ 12 = eqb-true n 12 w in rw q
    go false false z w h = let q : n ≡ 14 = eqb-true n 14 h in rw q

-- the step of a send, by its row: to a partner, or to the one that a variable holds
doing-sends : (n a b v : ℕ) (vs : List ℕ) (s : Scope) → is_send_code n ≡ true → doing_by n a b v vs s ≡ sends (to_by n a v) b vs
unfolding doing_by is_send_code
doing-sends n a b v vs s e = go (eqb n 1) refl e
  where
    go : (x : Bool) → eqb n 1 ≡ x → (x || eqb n 17) ≡ true → doing_by n a b v vs s ≡ sends (to_by n a v) b vs
    go true z h = let q : n ≡ 1 = eqb-true n 1 z in rw q
    go false z h = let q : n ≡ 17 = eqb-true n 17 h in rw q

-- no scope is a send
no-send : (n : ℕ) → is_send_code n ≡ true → n ≡ 14 → ⊥
unfolding is_send_code
no-send n e h = false≢true (sym (ap (λ (m : ℕ). eqb m 1 || eqb m 17) h) ∙ e)

-- `doing_row`
module _ (t known bound values parts : List ℕ) (kept i k : ℕ) (letters : List ℕ) (wait : ℕ) (least : List ℕ) (s : Sight) where
  doing-says : (n : ℕ) → get_or t (k * 13) 0 ≡ n → (o : Order) (p : Plan) (l : List Letter) (x : Line) → Stands t o.marks k x
      → doing_line wait i o p l x s
      ≡ seen (step_offers p wait l i o k (doing_by n (get_or t (k * 13 + 1) 0) (get_or t (k * 13 + 2) 0) (get_or t (k * 13 + 8) 0) (variables_of x.own) (scope_at (numbers_of x.own) k x.within))) s
  unfolding doing_line
  doing-says n z o p l x y = rw (y.activity, stands-doing y, z)

  module _ {c : Bool} (z : c ≡ is_send_code (get_or t (k * 13) 0)) (d : c ≡ true) where
    sends-says : (o : Order) (p : Plan) (l : List Letter) (x : Line) → Stands t o.marks k x
        → doing_line wait i o p l x s ≡ seen (unless_held (leb 64 wait && may_send o (to_at t k) (variables_of x.own)) (offering i k 0 ∷ [])) s
    unfolding step_offers
    sends-says o p l x y =
        doing-says (get_or t (k * 13) 0) refl o p l x y
        ∙ ap (λ d. seen (step_offers p wait l i o k d) s) (doing-sends (get_or t (k * 13) 0) _ _ _ (variables_of x.own) (scope_at (numbers_of x.own) k x.within) (sym z ∙ d))

    pub send-room : {r : Sight} → wait < 64 → r ≡ showing i k 0 s → Rows t k (Serving known bound values parts kept letters wait least) (doing_line wait i) s r
    send-room h q = record { is = λ o p l x g y. q ∙ sym (sends-says o p l x y ∙ rw (lt-leb 64 wait h) (seen-show i k 0 s)) }

    module _ (h : 64 ≤ wait) {b : Bool} (v : MaySend t k bound values b) where
      may-says : (o : Order) (p : Plan) (l : List Letter) (x : Line) → Serving known bound values parts kept letters wait least o p l → Stands t o.marks k x
          → may_send o (to_at t k) (variables_of x.own) ≡ b
      may-says o p l x g y =
          let e = stands-exchange y (no-send (get_or t (k * 13) 0) (sym z ∙ d)) in
          sym (v.is o (variables_of x.own) g.bindings g.holds (record { count = e.count; variables = e.variables; few = y.few }))

      pub send-held : {r : Sight} → b ≡ true → r ≡ withholding s → Rows t k (Serving known bound values parts kept letters wait least) (doing_line wait i) s r
      send-held e q = record { is = λ o p l x g y. q ∙ sym (sends-says o p l x y ∙ rw (le-leb 64 wait h, may-says o p l x g y ∙ e) (seen_hold (offering i k 0 ∷ []) s)) }

      pub send-raises : {r : Sight} → b ≡ false → r ≡ showing i k 0 s → Rows t k (Serving known bound values parts kept letters wait least) (doing_line wait i) s r
      send-raises e q = record { is = λ o p l x g y. q ∙ sym (sends-says o p l x y ∙ rw (le-leb 64 wait h, may-says o p l x g y ∙ e) (seen-show i k 0 s)) }

  seen-takes : (f : From) → partner_from f ≡ get_or t (k * 13 + 1) 0 → (o : Order) (p : Plan) (l : List Letter) (x : Line) → Stands t o.marks k x
      → seen (step_offers p wait l i o k (takes f (get_or t (k * 13 + 2) 0) (variables_of x.own))) s
      ≡ take_line i (get_or t (k * 13 + 1) 0) (get_or t (k * 13 + 2) 0) o p l x s
  unfolding step_offers take_line take_letter
  seen-takes f e o p l x y =
      rw e (seen-map i k (only (may_take p o (get_or t (k * 13 + 1) 0) (get_or t (k * 13 + 2) 0) (variables_of x.own)) l) s
      ∙ (fold-only (λ v. showing i k v.place) (may_take p o (get_or t (k * 13 + 1) 0) (get_or t (k * 13 + 2) 0) (variables_of x.own)) l s ∙ rw y.activity))

  module _ {r : Sight} (w : Rows t k (Exchanging t k (Heeding known letters wait least)) (take_line i (get_or t (k * 13 + 1) 0) (get_or t (k * 13 + 2) 0)) s r) where
    pub receive-takes : get_or t (k * 13) 0 ≡ 2 → Rows t k (Serving known bound values parts kept letters wait least) (doing_line wait i) s r
    unfolding doing_by
    receive-takes z = record { is = λ o p l x g y. w.is o p l x (record { row = λ q. omega arith; given = g.heeding }) y ∙ sym (doing-says 2 z o p l x y ∙ seen-takes (from_partner (get_or t (k * 13 + 1) 0)) refl o p l x y) }

    pub asking-takes : get_or t (k * 13) 0 ≡ 18 → Rows t k (Serving known bound values parts kept letters wait least) (doing_line wait i) s r
    unfolding doing_by
    asking-takes z = record {
      is = λ o p l x g y.
          w.is o p l x (record { row = λ q. omega arith; given = g.heeding }) y
          ∙ sym (doing-says 18 z o p l x y ∙ seen-takes (from_asking (get_or t (k * 13 + 1) 0) (get_or t (k * 13 + 8) 0)) refl o p l x y);
    }

    pub arm-takes : get_or t (k * 13) 0 ≡ 255 → Rows t k (Serving known bound values parts kept letters wait least) (doing_line wait i) s r
    unfolding doing_by
    arm-takes z = record { is = λ o p l x g y. w.is o p l x (record { row = λ q. omega arith; given = g.heeding }) y ∙ sym (doing-says 255 z o p l x y ∙ seen-takes (from_partner (get_or t (k * 13 + 1) 0)) refl o p l x y) }

  module _ {c : Bool} (z : c ≡ is_scope_code (get_or t (k * 13) 0)) (d : c ≡ true) {b : Bool} (v : ClosesRow (get_or t (k * 13) 0) parts kept k b) where
    closes-says : (o : Order) (p : Plan) (l : List Letter) (x : Line) → Serving known bound values parts kept letters wait least o p l → Stands t o.marks k x
        → doing_line wait i o p l x s ≡ seen (unless_held b (offering i k 0 ∷ [])) s
    unfolding step_offers
    closes-says o p l x g y =
        doing-says (get_or t (k * 13) 0) refl o p l x y
        ∙ (ap (λ d. seen (step_offers p wait l i o k d) s) (doing-closes (get_or t (k * 13) 0) _ _ _ (variables_of x.own) (scope_at (numbers_of x.own) k x.within) (sym z ∙ d))
        ∙ ap (λ h. seen (unless_held h (offering i k 0 ∷ [])) s)
        (sym (v.is o (numbers_of x.own) x.within g.memory g.many)))

    pub close-held : {r : Sight} → b ≡ true → r ≡ withholding s → Rows t k (Serving known bound values parts kept letters wait least) (doing_line wait i) s r
    close-held e q = record { is = λ o p l x g y. q ∙ sym (closes-says o p l x g y ∙ rw e (seen_hold (offering i k 0 ∷ []) s)) }

    pub close-shown : {r : Sight} → b ≡ false → r ≡ showing i k 0 s → Rows t k (Serving known bound values parts kept letters wait least) (doing_line wait i) s r
    close-shown e q = record { is = λ o p l x g y. q ∙ sym (closes-says o p l x g y ∙ rw e (seen-show i k 0 s)) }

  pub doing-empty : {c : Bool} → c ≡ is_send_code (get_or t (k * 13) 0) → c ≡ false → (get_or t (k * 13) 0 ≡ 2 → ⊥) → get_or t (k * 13) 0 < 3
      → Rows t k (Serving known bound values parts kept letters wait least) (doing_line wait i) s s
  unfolding step_offers doing_by is_send_code
  doing-empty y d x2 h =
      let x1 : get_or t (k * 13) 0 ≡ 1 → ⊥ = eqb-false _ 1 (or-neither (eqb (get_or t (k * 13) 0) 1) _ (sym y ∙ d)).0 in
      let z : get_or t (k * 13) 0 ≡ 0 = omega (arith, x1, x2) in
      record { is = λ o p l x g y. sym (doing-says 0 z o p l x y ∙ seen_none s) }

  pub raise-shown : {r : Sight} → get_or t (k * 13) 0 ≡ 13 → r ≡ showing i k 0 s → Rows t k (Serving known bound values parts kept letters wait least) (doing_line wait i) s r
  unfolding step_offers doing_by
  raise-shown z q = record { is = λ o p l x g y. q ∙ sym (doing-says 13 z o p l x y ∙ seen-show i k 0 s) }

  pub doing_step : {r : Sight} → 3 ≤ get_or t (k * 13) 0 → get_or t (k * 13) 0 ≤ 7 → r ≡ showing i k 0 s
      → Rows t k (Serving known bound values parts kept letters wait least) (doing_line wait i) s r
  unfolding step_offers
  doing_step h g q = record {
    is = λ o p l x v y.
        q ∙ sym (doing-says (get_or t (k * 13) 0) refl o p l x y
        ∙ (ap (λ d. seen (step_offers p wait l i o k d) s) (doing-moves (get_or t (k * 13) 0) _ _ _ (variables_of x.own) (scope_at (numbers_of x.own) k x.within) h g)
        ∙ by-test o p l (eqb (get_or t (k * 13) 0) 4 || eqb (get_or t (k * 13) 0) 5)));
  }
    where
      by-test : (o : Order) (p : Plan) (l : List Letter) (b : Bool) → seen (step_offers p wait l i o k (cond b cuts moves)) s ≡ showing i k 0 s
      by-test o p l true = seen-show i k 0 s
      by-test o p l false = seen-show i k 0 s

  pub doing-none : {b c : Bool} → 7 < get_or t (k * 13) 0 → c ≡ is_send_code (get_or t (k * 13) 0) → c ≡ false → (get_or t (k * 13) 0 ≡ 18 → ⊥) → (get_or t (k * 13) 0 ≡ 255 → ⊥) → (get_or t (k * 13) 0 ≡ 13 → ⊥) → b ≡ is_scope_code (get_or t (k * 13) 0) → b ≡ false
      → Rows t k (Serving known bound values parts kept letters wait least) (doing_line wait i) s s
  unfolding step_offers
  doing-none h z d x18 x1 x13 x2 e = record {
    is = λ o p l x v y.
        sym (doing-says (get_or t (k * 13) 0) refl o p l x y
        ∙ (ap (λ d. seen (step_offers p wait l i o k d) s) (doing-nothing (get_or t (k * 13) 0) _ _ _ (variables_of x.own) (scope_at (numbers_of x.own) k x.within) h (sym z ∙ d) x18 x1 x13 (sym x2 ∙ e))
        ∙ seen_none s));
  }

-- `offer_row`
module _ {t picks marks : List ℕ} (known bound values parts : List ℕ) (kept i : ℕ) {k : ℕ} (letters : List ℕ) (wait : ℕ) (least : List ℕ) (s : Sight) {b : Bool}
    (w : AwaitsRow t picks marks k b) where
  ready-says : (o : Order) (x : Line) → Picks t picks → o.marks ≡ marks → Stands t o.marks k x → is_ready o.marks x ≡ b
  ready-says o x v e y = sym ((rw (← e) at w).is x v y)

  pub offer-idle : (cutting : Bool) → b ≡ false
      → Rows t k (Opening t picks marks known bound values parts kept letters wait least) (offer_line cutting wait i) s s
  unfolding offer_line
  offer-idle cutting e = record { is = λ o p l x g y. rw (ready-says o x g.picked g.marked y ∙ e) }

  module _ (e : b ≡ true) {cutting : Bool} where
    pub offer-free : {r : Sight} → cutting ≡ false → Rows t k (Serving known bound values parts kept letters wait least) (doing_line wait i) s r
        → Rows t k (Opening t picks marks known bound values parts kept letters wait least) (offer_line cutting wait i) s r
    unfolding offer_line
    offer-free z d = record { is = λ o p l x g y. rw (ready-says o x g.picked g.marked y ∙ e, z) (d.is o p l x g.serving y) }

    module _ (z : cutting ≡ true) {c : Bool} (v : CutRow t k c) where
      pub offer-cut : {r : Sight} → c ≡ true → Rows t k (Serving known bound values parts kept letters wait least) (doing_line wait i) s r
          → Rows t k (Opening t picks marks known bound values parts kept letters wait least) (offer_line cutting wait i) s r
      unfolding offer_line
      offer-cut q d = record {
        is = λ o p l x g y.
            rw (ready-says o x g.picked g.marked y ∙ e, z, sym (v.is o.marks x y) ∙ q) (d.is o p l x g.serving y);
      }

      pub offer-aside : c ≡ false → Rows t k (Opening t picks marks known bound values parts kept letters wait least) (offer_line cutting wait i) s s
      unfolding offer_line
      offer-aside q = record {
        is = λ o p l x g y. rw (ready-says o x g.picked g.marked y ∙ e, z, sym (v.is o.marks x y) ∙ q);
      }

-- `offer_rows`: of more than 64 messages nothing is known
pub offer-full : (t picks marks known bound values parts : List ℕ) (kept i n : ℕ) (cutting : Bool) (letters : List ℕ) {wait : ℕ} (least : List ℕ) (s : Sight) → 64 < wait
    → Wholes t n (Opening t picks marks known bound values parts kept letters wait least) (offer_line cutting wait i) s s
offer-full t picks marks known bound values parts kept i n cutting letters least s h = record { is = λ o p l g q. absurd (omega (arith, g.serving.heeding.told.few)) }

-- `row_sight`: of a row beyond the table, and of more than 64 messages, nothing is known
module _ (t picks marks known bound values parts : List ℕ) (kept i : ℕ) {k : ℕ} (cutting : Bool) (letters : List ℕ) {wait : ℕ} (least : List ℕ) (s : Sight) where
  pub row-beyond : 256 ≤ k → Rows t k (Opening t picks marks known bound values parts kept letters wait least) (offer_line cutting wait i) s s
  row-beyond h = record { is = λ o p l x g y. absurd (omega (arith, y.inside)) }

  pub row-full : 64 < wait → Rows t k (Opening t picks marks known bound values parts kept letters wait least) (offer_line cutting wait i) s s
  row-full h = record { is = λ o p l x g y. absurd (omega (arith, g.serving.heeding.told.few)) }
