-- The returns of the functions on what is open. Assumes nothing.
use Prim.Native.Nat.{ℕ, zero, suc, ◌+◌, ◌*◌, ◌-◌, ◌≤◌, ◌<◌, min, max}
use Rattle.std.specs.Prelude.{Option, Some, None}
use Rattle.std.specs.Bool.{MatchBool}
use mathlib.Core.Logic.{◌⊎◌, inl, inr}
use native.Mathlib.Decide.{ℕ_discrete}
use native.Mathlib.Omega.{arith}
use native.Mathlib.Numerals.{add-one}
use mathlib.Core.Path.{◌≡◌, refl, sym, ap, subst, ◌∙◌}
use mathlib.Core.Bool.{Bool, true, false, cond, ◌&&◌, ◌||◌, false≢true, or-true}
use mathlib.Core.List.{List, [], ◌∷◌, ◌++◌}
use lib.ListN.{length, get_or, set, take, drop, drop_of_length-le, length-set, length-take, length-drop, replicate, length-replicate}
use lib.Seq.{drop-cons, get_or-set_same, get_or-set_other, get_or-take, get_or-drop}
use lib.Dec.{eqb, ltb}
use lib.Pointwise.{pointwise, bytes_decides}
use borrow.Author.Tests.{eqb-true, eq-eqb, ne_eqb, ltb-true}
use Rattle.plan.specs.Spells.{Spells, variables_of}
use Rattle.plan.specs.Table.{row_of}
use Rattle.plan.specs.Tree.{to_partner, to_held, From, from_partner, from_asking, partner_from, Own, empty, send, receive, set as setting, raise, leave, choose, repeat, sequence, flow, pick, scope, arm, kind, act, Acts, none, Plan}
use Rattle.order.specs.declared.Order.{Order}
use Rattle.plan.proofs.TableSpells.{row-variables}
use Rattle.order.specs.Answering.{scope_kind, Spelled}
use Rattle.order.specs.Awaited.{takes, doing_of, awaits, Ready}
use Rattle.order.specs.Judging.{is_thing, is_second, Verdict, clash, clash_after, conflict}
use Rattle.order.specs.Lists.{alike, some, each}
use Rattle.order.proofs.Standing.{scope-kind, arm-kind}
use Rattle.fit.specs.Answering.{Exchange, open_pick, arms_from, ArmAt}
use Rattle.fit.specs.Lines.{Line, lines_of, is_ready, ready_at, ready_line, Stands, Tabled}
use Rattle.fit.specs.Receiving.{receives}
use Rattle.fit.proofs.Lines.{ready-lines, line-stands, plan-long, size-short}
use Rattle.fit.proofs.SearchReturns.{stands-kind}
use Rattle.settling.specs.Answering.{SameThing, Opened, opened-none, opened-other, opened-more, SeenRow, Beyond, Reaches, OpenRow, number_of, Clashes}
use Rattle.settling.proofs.Parts.{both, decide}

-- `same_thing`
alike-true : (vs ws : List ℕ) → alike vs ws ≡ true → vs ≡ ws
unfolding alike
alike-true [] [] e = refl
alike-true [] (y ∷ m) e = absurd (false≢true e)
alike-true (x ∷ l) [] e = absurd (false≢true e)
alike-true (x ∷ l) (y ∷ m) e = both (eqb x y) (alike l m) e (λ a b. rw (eqb-true x y a, alike-true l m b))

alike_same : (vs ws : List ℕ) → length vs ≡ length ws → ((i : ℕ) → i < length vs → get_or vs i 0 ≡ get_or ws i 0) → alike vs ws ≡ true
unfolding alike
alike_same [] [] e f = refl
alike_same [] (y ∷ m) e f = absurd (omega arith)
alike_same (x ∷ l) [] e f = absurd (omega arith)
alike_same (x ∷ l) (y ∷ m) e f =
    let a : x ≡ y = f 0 (omega arith) in
    rw (eq-eqb x y a) (alike_same l m (omega arith) (λ i h. f (suc i) (omega arith)))

-- two rows with the same partner, operation and variables have the same columns
columns : (t : List ℕ) (j k a b : ℕ) (vs : List ℕ) → Exchange a b vs k t → Exchange a b vs j t → (m : ℕ) → 1 ≤ m → m < 8 → get_or t (j * 13 + m) 0 ≡ get_or t (k * 13 + m) 0
columns t j k a b vs x y m h g =
    elim (ℕ_discrete m 1) [
      | yes e ↦ rw e (y.partner ∙ sym x.partner)
      | no e ↦ elim (ℕ_discrete m 2) [
        | yes d ↦ rw d (y.operation ∙ sym x.operation)
        | no d ↦ elim (ℕ_discrete m 3) [
          | yes c ↦ rw c (y.count ∙ sym x.count)
          | no c ↦
              later m (beyond m h e d c) g
        ]
      ]
    ]
  where
    beyond : (m : ℕ) → 1 ≤ m → (m ≡ 1 → ⊥) → (m ≡ 2 → ⊥) → (m ≡ 3 → ⊥) → 4 ≤ m
    beyond m h e d c = omega (arith, e, d, c)

    later : (m : ℕ) → 4 ≤ m → m < 8 → get_or t (j * 13 + m) 0 ≡ get_or t (k * 13 + m) 0
    later m h g =
        let e : 4 + (m - 4) ≡ m = omega arith in
        let u : j * 13 + (4 + (m - 4)) ≡ j * 13 + 4 + (m - 4) = omega arith in
        let v : k * 13 + (4 + (m - 4)) ≡ k * 13 + 4 + (m - 4) = omega arith in
        let l : m - 4 < 4 = omega arith in
        subst (λ (z : ℕ). get_or t (j * 13 + z) 0 ≡ get_or t (k * 13 + z) 0) e
        (ap (λ (z : ℕ). get_or t z 0) u ∙ (y.variables (m - 4) l ∙ (sym (x.variables (m - 4) l) ∙ sym (ap (λ (z : ℕ). get_or t z 0) v))))

-- the columns of a row that say what it names
abbrev thing : List ℕ → (k : ℕ) → List ℕ
thing t k = take (k * 13 + 8 - (k * 13 + 1)) (drop (k * 13 + 1) t)

column : (t : List ℕ) (k m : ℕ) → m < 7 → get_or (thing t k) m 0 ≡ get_or t (k * 13 + (m + 1)) 0
column t k m h =
    let e : k * 13 + 1 + m ≡ k * 13 + (m + 1) = omega arith in
    get_or-take (k * 13 + 8 - (k * 13 + 1)) (drop (k * 13 + 1) t) m 0 (omega arith) ∙ (get_or-drop (k * 13 + 1) t m 0 ∙ ap (λ (z : ℕ). get_or t z 0) e)

thing-long : (t : List ℕ) (k : ℕ) → length t ≡ 11584 → k < 256 → length (thing t k) ≡ 7
thing-long t k l h = omega (arith, length-take (k * 13 + 8 - (k * 13 + 1)) (drop (k * 13 + 1) t), length-drop (k * 13 + 1) t)

module _ (t : List ℕ) (j k : ℕ) (l : length t ≡ 11584) (g : j < 256) (h : k < 256) where
  same-columns : ((m : ℕ) → 1 ≤ m → m < 8 → get_or t (j * 13 + m) 0 ≡ get_or t (k * 13 + m) 0) → thing t j ≡ thing t k
  same-columns f =
      alike-true (thing t j) (thing t k)
      (alike_same (thing t j) (thing t k) (thing-long t j l g ∙ sym (thing-long t k l h))
      (λ i z. let y : i < 7 = omega (arith, thing-long t j l g) in column t j i y ∙ (f (i + 1) (omega arith) (omega arith) ∙ sym (column t k i y))))

  equal-thing : thing t j ≡ thing t k → SameThing t j k true
  unfolding is_thing
  equal-thing e = record {
    is = λ a b c' d vs ws x n y m.
        let c = at in
        let p : a ≡ c' = sym x.partner ∙ (sym (c 1 (omega arith) (omega arith)) ∙ y.partner) in
        let q : b ≡ d = sym x.operation ∙ (sym (c 2 (omega arith) (omega arith)) ∙ y.operation) in
        let n : length vs ≡ length ws = sym x.count ∙ (sym (c 3 (omega arith) (omega arith)) ∙ y.count) in
        let s : alike vs ws ≡ true =
        alike_same vs ws n (λ z g.
        let u : k * 13 + 4 + z ≡ k * 13 + (4 + z) = omega arith in
        let v : j * 13 + 4 + z ≡ j * 13 + (4 + z) = omega arith in
        sym (x.variables z (omega arith)) ∙ (ap (λ (w : ℕ). get_or t w 0) u ∙ (sym (c (4 + z) (omega arith) (omega arith)) ∙ (sym (ap (λ (w : ℕ). get_or t w 0) v) ∙ y.variables z (omega arith))))) in
        rw (eq-eqb a c' p, eq-eqb b d q, s);
  }
    where
      at : (m : ℕ) → 1 ≤ m → m < 8 → get_or t (j * 13 + m) 0 ≡ get_or t (k * 13 + m) 0
      at m f z =
          let i : m - 1 + 1 ≡ m = omega arith in
          rw i at (sym (column t j (m - 1) (omega arith)) ∙ (ap (λ (r : List ℕ). get_or r (m - 1) 0) e ∙ column t k (m - 1) (omega arith)))

  other-thing : (thing t j ≡ thing t k → ⊥) → SameThing t j k false
  unfolding is_thing
  other-thing f = record {
    is = λ a b c' d vs ws x n y m.
        decide (eqb a c' && (eqb b d && alike vs ws))
        (λ e. absurd (both (eqb a c') _ e (λ p q. both (eqb b d) _ q (λ u v.
        f (same-columns (columns t j k a b vs x
        (subst (λ (z : ℕ). Exchange z b vs j t) (sym (eqb-true a c' p)) (subst (λ (z : ℕ). Exchange c' z vs j t) (sym (eqb-true b d u)) (subst (λ (z : List ℕ). Exchange c' d z j t) (sym (alike-true vs ws v)) y)))))))))
        (λ e. sym e);
  }

  pub thing-is : (r : Bool) → r ≡ pointwise eqb (thing t j) (thing t k) → SameThing t j k r
  thing-is true e = equal-thing ((bytes_decides (thing t j) (thing t k)).0 (sym e))
  thing-is false e = other-thing (λ z. false≢true (e ∙ (bytes_decides (thing t j) (thing t k)).1 z))

-- `is_second`
seen-none : (t rows : List ℕ) (k : ℕ) → ((j : ℕ) → j < length rows → SameThing t (get_or rows j 0) k false) → SeenRow t rows k false
unfolding some is_thing
seen-none t rows k c = record { is = λ l o a b vs x f. go o (omega arith) a b vs x f }
  where
    go : {m : ℕ} {l : List Ready} → Opened t rows m l → m ≤ length rows → (a : From) (b : ℕ) (vs : List ℕ) → Exchange (partner_from a) b vs k t → length vs ≤ 4 → false ≡ some (λ y. is_thing a b vs y.step) l
    go opened-none g a b vs x f = refl
    go (opened-other q o) g a b vs x f = rw (q a b vs) (go o g a b vs x f)
    go (opened-more {n = m} {r = r} {l = l} a' b' ws y v e o) g a b vs x f =
        let z : is_thing a b vs r.step ≡ false = ap (is_thing a b vs) e ∙ sym ((c m (omega arith)).is (partner_from a) b (partner_from a') b' vs ws x f y v) in
        rw z (go o (omega arith) a b vs x f)

seen-one : (t rows : List ℕ) (k i : ℕ) → i < length rows → SameThing t (get_or rows i 0) k true → SeenRow t rows k true
unfolding some is_thing
seen-one t rows k i h s = record { is = λ l o a b vs x f. go o h a b vs x f }
  where
    go : {m : ℕ} {l : List Ready} → Opened t rows m l → i < m → (a : From) (b : ℕ) (vs : List ℕ) → Exchange (partner_from a) b vs k t → length vs ≤ 4 → true ≡ some (λ y. is_thing a b vs y.step) l
    go opened-none g a b vs x f = absurd (omega arith)
    go (opened-other {r = r} {l = l} u o) g a b vs x f = sym (ap (λ (z : Bool). is_thing a b vs r.step || z) (sym (go o g a b vs x f)) ∙ or-true (is_thing a b vs r.step))
    go (opened-more {n = m} {r = r} {l = l} a' b' ws y v d o) g a b vs x f =
        elim (ℕ_discrete m i) [
          | yes z ↦
              let w : SameThing t (get_or rows m 0) k true = rw z s in
              let u : is_thing a b vs r.step ≡ true = ap (is_thing a b vs) d ∙ sym (w.is (partner_from a) b (partner_from a') b' vs ws x f y v) in
              rw u
          | no z ↦ sym (ap (λ (q : Bool). is_thing a b vs r.step || q) (sym (go o (omega (arith, z)) a b vs x f)) ∙ or-true (is_thing a b vs r.step))
        ]

-- what comes of asking one after the other
abbrev pub Seen : List ℕ → List ℕ → (k : ℕ) → Bool → Type 0
Seen t rows k r =
    MatchBool r ((j : ℕ) × (j < length rows) × SameThing t (get_or rows j 0) k true) ((j : ℕ) → j < length rows → SameThing t (get_or rows j 0) k false)

pub seen-row : (t rows : List ℕ) (k : ℕ) (r : Bool) → Seen t rows k r → SeenRow t rows k r
seen-row t rows k true h = seen-one t rows k h.0 h.1 h.2
seen-row t rows k false h = seen-none t rows k h

-- `reach_at`
module _ (t ms : List ℕ) (reach k : ℕ) where
  pub reach-other : (get_or t (k * 13) 0 ≡ 10 → ⊥) → Reaches t ms reach k reach
  reach-other f = record { keeps = omega arith; covers = λ e. absurd (both (eqb (get_or t (k * 13) 0) 10) _ e (λ a b. f (eqb-true _ _ a))) }

  pub reach-still : (get_or ms k 0 ≡ 1 → ⊥) → Reaches t ms reach k reach
  reach-still f = record { keeps = omega arith; covers = λ e. absurd (both (eqb (get_or t (k * 13) 0) 10) _ e (λ a b. f (eqb-true _ _ b))) }

  pub reach-pick : {r : ℕ} → r ≡ max reach (get_or t (k * 13 + 11) 0) → Reaches t ms reach k r
  reach-pick e = record { keeps = omega arith; covers = λ _. omega arith }

-- `open_at`
and-true : (b : Bool) → b ≡ (b && true)
and-true true = refl
and-true false = refl

module _ (t ms : List ℕ) (reach k : ℕ) where
  pub open-receive : (get_or t (k * 13) 0 ≡ 2) ⊎ (get_or t (k * 13) 0 ≡ 18) → OpenRow t ms reach k (eqb (get_or ms k 0) 1)
  unfolding awaits scope_kind
  open-receive (inl z) = record { is = λ x y w. rw (arm-kind x.own, ← scope-kind x.own, sym (stands-kind y) ∙ z, y.activity) (and-true (eqb (get_or ms k 0) 1)) }
  open-receive (inr z) = record { is = λ x y w. rw (arm-kind x.own, ← scope-kind x.own, sym (stands-kind y) ∙ z, y.activity) (and-true (eqb (get_or ms k 0) 1)) }

  pub open-arm : {b : Bool} → get_or t (k * 13) 0 ≡ 255 → ArmAt t ms k b → OpenRow t ms reach k b
  unfolding awaits scope_kind
  open-arm {b} z q = record { is = λ x y w. rw (arm-kind x.own, ← scope-kind x.own, sym (stands-kind y) ∙ z) (q.is y.inside ∙ (sym y.arms ∙ and-true x.arms)) }

  -- where no active pick ends beyond, an arm is not open
  beyond-closed : Beyond t ms reach k → reach ≤ k → (j : ℕ) → j ≤ k → arms_from t ms k j ≡ false
  unfolding arms_from
  beyond-closed w h zero g = refl
  beyond-closed w h (suc j) g =
      decide (ltb k (get_or t (j * 13 + 11) 0))
      (λ e. rw e (decide (open_pick t ms j) (λ d. absurd (omega (arith, ltb-true k (get_or t (j * 13 + 11) 0) e, w.ends j (omega arith) d))) (λ d. d)))
      (λ e. rw e (beyond-closed w h j (omega arith)))

  pub open-beyond : get_or t (k * 13) 0 ≡ 255 → reach ≤ k → OpenRow t ms reach k false
  unfolding awaits scope_kind
  open-beyond z h = record { is = λ x y w. rw (arm-kind x.own, ← scope-kind x.own, sym (stands-kind y) ∙ z) (sym (beyond-closed w h k (omega arith)) ∙ (sym y.arms ∙ and-true x.arms)) }

  pub open-other : ((get_or t (k * 13) 0 ≡ 2) ⊎ (get_or t (k * 13) 0 ≡ 18) → ⊥) → (get_or t (k * 13) 0 ≡ 255 → ⊥) → OpenRow t ms reach k false
  open-other z v = record {
    is = λ x y w.
        let a : eqb (kind x.own) 2 ≡ false = ne_eqb _ _ (λ e. z (inl (stands-kind y ∙ e))) in
        let b : eqb (kind x.own) 18 ≡ false = ne_eqb _ _ (λ e. z (inr (stands-kind y ∙ e))) in
        let c : eqb (kind x.own) 255 ≡ false = ne_eqb _ _ (λ e. v (stands-kind y ∙ e)) in
        rw (a, b, c) (and_no (is_ready ms x));
  }
    where
      and_no : (b : Bool) → false ≡ (b && false)
      and_no true = refl
      and_no false = refl

-- `first_conflict`: a line that takes a message, and one that takes none
record TakenAt (t : List ℕ) (own : Own) (l : Acts) (k : ℕ) : Type 0 where
  from : From
  operation : ℕ
  variables : List ℕ
  is : doing_of own l k ≡ takes from operation variables
  row : Exchange (partner_from from) operation variables k t
  few : length variables ≤ 4

taken_at : (t : List ℕ) (own : Own) (l : Acts) (k at q : ℕ) → k < 256 → Spells (act own l) at k q t → length (variables_of own) ≤ 4 → receives own ≡ true → TakenAt t own l k
unfolding Spells doing_of variables_of row_of kind
taken_at t empty l k at q h s f e = absurd (false≢true e)
taken_at t (send (to_partner a) b vs) l k at q h s f e = absurd (false≢true e)
taken_at t (send (to_held v a) b vs) l k at q h s f e = absurd (false≢true e)
taken_at t (receive (from_partner a) b vs) l k at q h s f e =
    record {
      from = from_partner a;
      operation = b;
      variables = vs;
      is = refl;
      row = record { inside = h; partner = s.row.partner; operation = s.row.operation; count = s.row.count; variables = λ i g. s.row.variables i g ∙ row-variables (receive (from_partner a) b vs) q at i refl g };
      few = f;
    }
taken_at t (receive (from_asking a v) b vs) l k at q h s f e =
    record {
      from = from_asking a v;
      operation = b;
      variables = vs;
      is = refl;
      row = record { inside = h; partner = s.row.partner; operation = s.row.operation; count = s.row.count; variables = λ i g. s.row.variables i g ∙ row-variables (receive (from_asking a v) b vs) q at i refl g };
      few = f;
    }
taken_at t (setting v x) l k at q h s f e = absurd (false≢true e)
taken_at t (raise zero) l k at q h s f e = absurd (false≢true e)
taken_at t (raise (suc number)) l k at q h s f e = absurd (false≢true e)
taken_at t leave l k at q h s f e = absurd (false≢true e)
taken_at t (choose x) l k at q h s f e = absurd (false≢true e)
taken_at t (repeat x) l k at q h s f e = absurd (false≢true e)
taken_at t sequence l k at q h s f e = absurd (false≢true e)
taken_at t flow l k at q h s f e = absurd (false≢true e)
taken_at t pick l k at q h s f e = absurd (false≢true e)
taken_at t (scope [] true) l k at q h s f e = absurd (false≢true e)
taken_at t (scope [] false) l k at q h s f e = absurd (false≢true e)
taken_at t (scope (n ∷ ns) v) l k at q h s f e = absurd (false≢true e)
taken_at t (arm a b vs) l k at q h s f e =
    record {
      from = from_partner a;
      operation = b;
      variables = vs;
      is = refl;
      row = record { inside = h; partner = s.row.partner; operation = s.row.operation; count = s.row.count; variables = λ i g. s.row.variables i g ∙ row-variables (arm a b vs) q at i refl g };
      few = f;
    }

no-thing : (own : Own) (l : Acts) (k : ℕ) → receives own ≡ false → (a : From) (b : ℕ) (vs : List ℕ) → is_thing a b vs (doing_of own l k) ≡ false
unfolding is_thing doing_of kind
no-thing empty l k e a b vs = refl
no-thing (send x y ws) l k e a b vs = refl
no-thing (receive (from_partner x) y ws) l k e a b vs = absurd (false≢true (sym e))
no-thing (receive (from_asking x v) y ws) l k e a b vs = absurd (false≢true (sym e))
no-thing (setting v x) l k e a b vs = refl
no-thing (raise zero) l k e a b vs = refl
no-thing (raise (suc number)) l k e a b vs = refl
no-thing leave l k e a b vs = refl
no-thing (choose x) l k e a b vs = refl
no-thing (repeat x) l k e a b vs = refl
no-thing sequence l k e a b vs = refl
no-thing flow l k e a b vs = refl
no-thing pick l k e a b vs = refl
no-thing (scope ns v) l k e a b vs = refl
no-thing (arm x y ws) l k e a b vs = absurd (false≢true (sym e))

no_second : (own : Own) (l : Acts) (k : ℕ) → receives own ≡ false → (before : List Ready) → is_second before (doing_of own l k) ≡ false
unfolding is_second doing_of kind
no_second empty l k e before = refl
no_second (send x y ws) l k e before = refl
no_second (receive (from_partner x) y ws) l k e before = absurd (false≢true (sym e))
no_second (receive (from_asking x v) y ws) l k e before = absurd (false≢true (sym e))
no_second (setting v x) l k e before = refl
no_second (raise zero) l k e before = refl
no_second (raise (suc number)) l k e before = refl
no_second leave l k e before = refl
no_second (choose x) l k e before = refl
no_second (repeat x) l k e before = refl
no_second sequence l k e before = refl
no_second flow l k e before = refl
no_second pick l k e before = refl
no_second (scope ns v) l k e before = refl
no_second (arm x y ws) l k e before = absurd (false≢true (sym e))

-- what stands in the first n rows of a list stays there where the n-th is set
opened-set : {t rows : List ℕ} {n : ℕ} {l : List Ready} (m v : ℕ) → n ≤ m → Opened t rows n l → Opened t (set rows m v) n l
opened-set m v h opened-none = opened-none
opened-set m v h (opened-other q o) = opened-other q (opened-set m v h o)
opened-set {t} {rows} m v h (opened-more {n = n} a b vs x f e o) =
    opened-more a b vs (subst (λ (k : ℕ). Exchange (partner_from a) b vs k t) (sym (get_or-set_other rows m n v 0 (omega arith))) x) f e (opened-set m v (omega arith) o)

-- and in the first of them alone
opened-take : {t rows : List ℕ} {n : ℕ} {l : List Ready} (m : ℕ) → n ≤ m → Opened t rows n l → Opened t (take m rows) n l
opened-take m h opened-none = opened-none
opened-take m h (opened-other q o) = opened-other q (opened-take m h o)
opened-take {t} {rows} m h (opened-more {n = n} a b vs x f e o) =
    opened-more a b vs (subst (λ (k : ℕ). Exchange (partner_from a) b vs k t) (sym (get_or-take m rows n 0 (omega arith))) x) f e (opened-take m (omega arith) o)

some-same : {i j : ℕ} → i ≡ j → ◌≡◌ {A = Option ℕ} (Some i) (Some j)
some-same e = rw e

-- where the loop stands: of what is awaited, that of the rows before k was looked at
pub record Looked (t rows : List ℕ) (m k : ℕ) (p : Plan) (o : Order) : Type 0 where
  pub before : List Ready
  pub opened : Opened t rows m before
  pub same : conflict p o ≡ clash_after before (each (ready_line o.marks) (drop k (lines_of p o.marks)))

pub record Looking (t : List ℕ) (n : ℕ) (ms rows : List ℕ) (m reach k : ℕ) : Type 0 where
  pub within : k ≤ n
  pub few : m ≤ k
  pub long : length rows ≡ 256
  pub beyond : Beyond t ms reach k
  pub is : (p : Plan) → Spelled p n t → (o : Order) → o.marks ≡ ms → Looked t rows m k p o

pub looking-starts : (t : List ℕ) (n : ℕ) (ms : List ℕ) → Looking t n ms (replicate 256 0) 0 0 0
unfolding conflict
looking-starts t n ms =
    record {
      within = omega arith;
      few = omega arith;
      long = length-replicate {A = ℕ} 256 0;
      beyond = record { ends = λ j h. absurd (omega arith) };
      is = λ p s o e. record { before = []; opened = opened-none; same = ap (clash_after []) (ready-lines p o) };
    }

no_line : Line
no_line = record { activity = 0; own = empty; within = none; arms = false }

tabled : {p : Plan} {n : ℕ} {t : List ℕ} → Spelled p n t → Tabled p t n
tabled s = record { spells = s.spells; many = s.many; limited = s.within }

further : {t ms : List ℕ} {reach k next : ℕ} → Beyond t ms reach k → Reaches t ms reach k next → Beyond t ms next (k + 1)
further {t} {ms} {reach} {k} {next} b r =
    record {
      ends = λ j h e.
          elim (ℕ_discrete j k) [
            | yes z ↦ subst (λ (i : ℕ). get_or t (i * 13 + 11) 0 ≤ next) (sym z) (r.covers (subst (λ (i : ℕ). open_pick t ms i ≡ true) z e))
            | no z ↦ omega (arith, r.keeps, b.ends j (omega (arith, z)) e)
          ];
    }

-- what the line in row k awaits comes first
line_first : (p : Plan) (o : Order) (k : ℕ) → k < length (lines_of p o.marks)
    → each (ready_line o.marks) (drop k (lines_of p o.marks))
    ≡ ready_line o.marks (get_or (lines_of p o.marks) k no_line) ++ each (ready_line o.marks) (drop (k + 1) (lines_of p o.marks))
unfolding each
line_first p o k h = rw (add-one, drop-cons (lines_of p o.marks) k no_line h)

-- one more of what is awaited, by whether it awaits, and by whether it is for the same thing as one before it
line-is : (before rest : List Ready) (ms : List ℕ) (x : Line) (b : Bool) → is_ready ms x ≡ b
    → clash_after before (ready_line ms x ++ rest) ≡ elim b as (λ _. Verdict) [ true ↦ clash_after before (ready_at x ∷ rest) | false ↦ clash_after before rest ]
unfolding ready_line
line-is before rest ms x b e = ap (λ (z : Bool). clash_after before (cond z (ready_at x ∷ []) [] ++ rest)) e ∙ go b
  where
    go : (b : Bool) → clash_after before (cond b (ready_at x ∷ []) [] ++ rest) ≡ elim b as (λ _. Verdict) [ true ↦ clash_after before (ready_at x ∷ rest) | false ↦ clash_after before rest ]
    go true = refl
    go false = refl

second_is : (before rest : List Ready) (r : Ready) (b : Bool) → is_second before r.step ≡ b
    → clash_after before (r ∷ rest) ≡ elim b as (λ _. Verdict) [ true ↦ clash r.activity | false ↦ clash_after (r ∷ before) rest ]
unfolding clash_after
second_is before rest r b e =
    subst (λ (z : Bool). clash_after before (r ∷ rest) ≡ elim z as (λ _. Verdict) [ true ↦ clash r.activity | false ↦ clash_after (r ∷ before) rest ]) e refl

module _ {t : List ℕ} {n : ℕ} {ms rows : List ℕ} {m reach k : ℕ} (c : Looking t n ms rows m reach k) where
  long : (p : Plan) → Spelled p n t → (o : Order) → k < n → k < length (lines_of p o.marks)
  long p s o h = omega (arith, plan-long p o.marks, s.many)

  there : (p : Plan) → Spelled p n t → (o : Order) → o.marks ≡ ms → k < n → Stands t ms k (get_or (lines_of p o.marks) k no_line)
  there p s o e h = subst (λ (l : List ℕ). Stands t l k (get_or (lines_of p o.marks) k no_line)) e (line-stands o.marks no_line (tabled s) k h)

  -- what the rows after row k await
  abbrev rest : Plan → Order → List Ready
  rest p o = each (ready_line o.marks) (drop (k + 1) (lines_of p o.marks))

  -- row k is not open
  pub looking-passes : k < n → {b : Bool} → OpenRow t ms reach k b → b ≡ false → {next : ℕ} → Reaches t ms reach k next → Looking t n ms rows m next (k + 1)
  looking-passes h y' d r =
      record {
        within = omega arith;
        few = omega (arith, c.few);
        long = c.long;
        beyond = further c.beyond r;
        is = λ p s o e.
            let w = c.is p s o e in
            let x = get_or (lines_of p o.marks) k no_line in
            let y : OpenRow t ms reach k false = rw d at y' in
            let z = y.is x (there p s o e h) c.beyond in
            passes p o w h x refl (long p s o h) (subst (λ (l : List ℕ). (is_ready l x && receives x.own) ≡ false) (sym e) (sym z));
      }
    where
      passes : (p : Plan) (o : Order) → Looked t rows m k p o → k < n → (x : Line) → get_or (lines_of p o.marks) k no_line ≡ x → k < length (lines_of p o.marks)
          → (is_ready o.marks x && receives x.own) ≡ false → Looked t rows m (k + 1) p o
      passes p o w h x i g f =
          decide (is_ready o.marks x)
          (λ a. let b : receives x.own ≡ false = rw a at f in
          record {
            before = ready_at x ∷ w.before;
            opened = opened-other (no-thing x.own x.within x.activity b) w.opened;
            same = w.same ∙ (ap (clash_after w.before) (line_first p o k g) ∙ (ap (λ (y : Line). clash_after w.before (ready_line o.marks y ++ rest p o)) i
                ∙ (line-is w.before (rest p o) o.marks x true a ∙ second_is w.before (rest p o) (ready_at x) false (no_second x.own x.within x.activity b w.before))));
          })
          (λ a. record {
            before = w.before;
            opened = w.opened;
            same = w.same ∙ (ap (clash_after w.before) (line_first p o k g) ∙ (ap (λ (y : Line). clash_after w.before (ready_line o.marks y ++ rest p o)) i
                ∙ line-is w.before (rest p o) o.marks x false a));
          })

  -- it is open: what it takes, and what comes of it
  record Here (p : Plan) (o : Order) (b : Bool) : Type 0 where
    line : Line
    number : line.activity ≡ k
    taken : TakenAt t line.own line.within k
    looked : Looked t rows m k p o
    same : conflict p o
        ≡ elim b as (λ _. Verdict) [ true ↦ clash line.activity | false ↦ clash_after (ready_at line ∷ looked.before) (each (ready_line o.marks) (drop (k + 1) (lines_of p o.marks))) ]

  -- as many as there are
  seen : {p : Plan} {o : Order} (w : Looked t rows m k p o) → k ≤ 256 → Opened t (take m rows) (length (take m rows)) w.before
  seen w h = let e : length (take m rows) ≡ m = omega (arith, length-take m rows, c.few, c.long) in rw e (opened-take m (omega arith) w.opened)

  here : {b : Bool} → k < n → OpenRow t ms reach k true → SeenRow t (take m rows) k b → (p : Plan) → Spelled p n t → (o : Order) → o.marks ≡ ms → Here p o b
  unfolding is_second
  here {b} h y q p s o e =
      let x = get_or (lines_of p o.marks) k no_line in
      let st = there p s o e h in
      let z : (is_ready o.marks x && receives x.own) ≡ true = subst (λ (l : List ℕ). (is_ready l x && receives x.own) ≡ true) (sym e) (sym (y.is x st c.beyond)) in
      both (is_ready o.marks x) (receives x.own) z (λ u v.
      let ta = taken_at t x.own x.within k st.place st.node st.inside st.spelled st.few v in
      let w = c.is p s o e in
      let d : doing_of x.own x.within x.activity ≡ takes ta.from ta.operation ta.variables = ap (doing_of x.own x.within) st.activity ∙ ta.is in
      let i : is_second w.before (doing_of x.own x.within x.activity) ≡ b = ap (is_second w.before) d ∙ sym (q.is w.before (seen w (omega (arith, size-short p s.within, s.many))) ta.from ta.operation ta.variables ta.row ta.few) in
      record {
        line = x;
        number = st.activity;
        taken = ta;
        looked = w;
        same = w.same ∙ (ap (clash_after w.before) (line_first p o k (long p s o h)) ∙ (line-is w.before (rest p o) o.marks x true u ∙ second_is w.before (rest p o) (ready_at x) b i));
      })

  pub looking-opens : k < n → n ≤ 256 → {v : ℕ} → v ≡ k → {a b : Bool} → OpenRow t ms reach k a → a ≡ true → SeenRow t (take m rows) k b → b ≡ false → {next : ℕ} → Reaches t ms reach k next → Looking t n ms (set rows m v) (m + 1) next (k + 1)
  looking-opens h u {v} j y' d q' f r =
      record {
        within = omega arith;
        few = omega (arith, c.few);
        long = length-set rows m v ∙ c.long;
        beyond = further c.beyond r;
        is = λ p s o e.
            let y : OpenRow t ms reach k true = rw d at y' in
            let q : SeenRow t (take m rows) k false = rw f at q' in
            let z = here h y q p s o e in
            let ta = z.taken in
            let x : get_or (set rows m v) m 0 ≡ k = get_or-set_same rows m v 0 (omega (arith, c.few, c.long)) ∙ j in
            record {
              before = ready_at z.line ∷ z.looked.before;
              opened = opened-more ta.from ta.operation ta.variables (subst (λ (i : ℕ). Exchange (partner_from ta.from) ta.operation ta.variables i t) (sym x) ta.row) ta.few
                  (ap (doing_of z.line.own z.line.within) z.number ∙ ta.is) (opened-set m v (omega arith) z.looked.opened);
              same = z.same;
            };
      }

  module _ {a : ℕ} (u : n ≡ min a 256) where
    as-counted : {p : Plan} → Spelled p a t → Spelled p n t
    as-counted {p} s = let q : a ≡ n = omega (arith, size-short p s.within, s.many) in subst (λ (i : ℕ). Spelled p i t) q s

    pub looking-finds : k < n → {x z : Bool} → OpenRow t ms reach k x → x ≡ true → SeenRow t (take m rows) k z → z ≡ true → Clashes t a ms (Some k)
    looking-finds h y' d q' f = record { is = λ p s o e. let y : OpenRow t ms reach k true = rw d at y' in let q : SeenRow t (take m rows) k true = rw f at q' in let z = here h y q p (as-counted s) o e in sym (ap number_of z.same ∙ some-same z.number) }

    pub looking-done : n ≤ k → Clashes t a ms None
    unfolding clash_after each
    looking-done h = record {
      is = λ p s o e.
          let z = c.is p (as-counted s) o e in
          let l : length (lines_of p o.marks) ≤ k = omega (arith, plan-long p o.marks, (as-counted s).many) in
          sym (ap number_of (z.same ∙ ap (λ (x : List Line). clash_after z.before (each (ready_line o.marks) x)) (drop_of_length-le (lines_of p o.marks) l)));
    }
