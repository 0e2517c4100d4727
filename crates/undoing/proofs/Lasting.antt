-- What a scope and a stop log as begun is marked afterwards, where it lasts, and no other mark is set by them but a scope's own. Assumes nothing.
use Prim.Native.Nat.{ℕ, zero, suc, ◌+◌, ◌≤◌, ◌<◌}
use native.Mathlib.Omega.{arith}
use mathlib.Core.Path.{◌≡◌, refl, sym, ap, subst, ◌∙◌}
use mathlib.Core.Bool.{Bool, true, false, ◌&&◌, false≢true, or-true, cond}
use mathlib.Core.List.{List, [], ◌∷◌}
use lib.ListN.{length, length-set}
use lib.Dec.{eqb, ltb}
use Rattle.plan.specs.Tree.{Own, is_scope, Act, Acts, none, more, size, sizes, count, has_undo, numbers_of, undo_part, general_part}
use Rattle.order.specs.declared.Order.{Order}
use Rattle.order.specs.Lists.{some, without_last}
use Rattle.order.specs.State.{Name, root, inner, idle, active, done, faulty, undoing, handling, halted, withdrawing, closings, remembering, mark_at, marked, mark_of, marking, state_of, mark_with, choice_of}
use Rattle.order.specs.Begin.{Begun, begin, begin_in_turn, begin_after, part, part_at, begin_part, nothing_begun}
use Rattle.order.specs.declared.Way.{Way as Result}
use Rattle.order.specs.declared.Way.TheVariants.{Running as running, Over as over, Raising as raising, Leaving as leaving, Undone as undone, UndoRaising as undo_raising}
use Rattle.order.specs.Scope.{Outcome, runs, begun_in, where_over, Scope, scope_at, is_open, inner_runs, begin_undo, begin_undo_in, start_undo, undo, ends, handle, undoes, turns, remembered_for, untouched, withdraws, stop, stop_all, stop_first, also_stopped, looks_again, body_over, undo_over, part_over, is_for, begin_undo_first, chosen_part, chosen_at}
use Rattle.order.specs.Scope as definitions
use Rattle.order.specs.Acting.{finishes}
use Rattle.undoing.specs.Orderly.{is_began_of}
use Rattle.undoing.specs.Begun.{lasts, has_began, is_scope_kind}
use Rattle.undoing.proofs.Parts.{both, decide}
use Rattle.undoing.proofs.Choices.{chosen-each, general-there, undo-there}
use Rattle.undoing.proofs.Seats.{marking-length}
use Rattle.undoing.proofs.Truly.{began-in, began-neither, Up, up-other, Stay, stay-still, stay_then, stay-other, stay-idle, shifts, needs, Knows, knows, KnowsIn, knows-none, knows_more, Began, began-wider, begin-began, turn-list, nothing-began, scope-kind}

-- a fault came out
abbrev pub is_raising : Result → Bool
is_raising running = false
is_raising over = false
is_raising (raising x) = true
is_raising leaving = false
is_raising undone = false
is_raising (undo_raising x) = true

module _ (f : ℕ → ℕ) where
  -- the i-th within, where there is one
  pub part-knows : {l : Acts} {c : ℕ} → KnowsIn f l c → (i : ℕ) → i < count l → Knows f (part i l) (part_at i l c)
  unfolding part part_at count
  part-knows knows-none i h = absurd (omega arith)
  part-knows (knows_more x y) zero h = x
  part-knows (knows_more x y) (suc i) h = part-knows y i (omega arith)

  part-within : (l : Acts) (c i : ℕ) → i < count l → (c ≤ part_at i l c) × (part_at i l c + size (part i l) ≤ c + sizes l)
  unfolding part part_at count size
  part-within none c i h = absurd (omega arith)
  part-within (more a l) c zero h = (omega arith, omega arith)
  part-within (more a l) c (suc i) h = let r = part-within l (c + size a) i (omega arith) in (omega arith, omega arith)

  pub part-began : {l : Acts} {c : ℕ} → KnowsIn f l c → (i : ℕ) → i < count l → (ms : List ℕ) → c + sizes l ≤ length ms
      → Began f c (sizes l) ms (begin_part i l c ms)
  unfolding begin_part
  part-began {l} {c} y i h ms m = let r = part-within l c i h in began-wider f (begin-began f (part-knows y i h) ms (omega arith)) r.0 r.1

  -- what follows in a sequence
  pub after-began : {l : Acts} {c : ℕ} → KnowsIn f l c → (t : ℕ) (ms : List ℕ) → c + sizes l ≤ length ms → Began f c (sizes l) ms (begin_after l c t ms)
  unfolding begin_after size
  after-began (knows-none {c}) t ms h = nothing-began f c 0 ms
  after-began (knows_more {a} {l} {c} x y) t ms h =
      go (ltb t (c + size a)) (began-wider f (turn-list f y ms (omega arith)) (omega arith) (omega arith)) (began-wider f (after-began y t ms (omega arith)) (omega arith) (omega arith))
    where
      go : (v : Bool) → Began f c (size a + sizes l) ms (begin_in_turn l (c + size a) ms) → Began f c (size a + sizes l) ms (begin_after l (c + size a) t ms)
          → Began f c (size a + sizes l) ms (elim v [ true ↦ begin_in_turn l (c + size a) ms | false ↦ begin_after l (c + size a) t ms ])
      go true b d = b
      go false b d = d

  either-began : {k n : ℕ} {ms : List ℕ} (v : Bool) (x y z : Begun) → z ≡ elim v [ true ↦ x | false ↦ y ] → (v ≡ true → Began f k n ms x) → Began f k n ms y
      → Began f k n ms z
  either-began {k} {n} {ms} true x y z e b d = subst (λ (r : Begun). Began f k n ms r) (sym e) (b refl)
  either-began {k} {n} {ms} false x y z e b d = subst (λ (r : Begun). Began f k n ms r) (sym e) d

  pub scope-needs : (own : Own) (n : ℕ) → is_scope own ≡ true → needs own ≤ n → general_part (numbers_of own) < n
  unfolding needs
  scope-needs own n s h = general-there own n (rw s at h)

  undo-needs : (own : Own) (n : ℕ) → is_scope own ≡ true → has_undo own ≡ true → needs own ≤ n → undo_part (numbers_of own) < n
  unfolding needs
  undo-needs own n s u h = undo-there own n u (rw s at h)

  cond-began : {k n : ℕ} {ms : List ℕ} (v : Bool) (x y : Begun) → (v ≡ true → Began f k n ms x) → Began f k n ms y → Began f k n ms (cond v x y)
  cond-began true x y b d = b refl
  cond-began false x y b d = d

  -- an undo part
  mutual
    unfolding begin_undo size

    pub undo-began : {a : Act} {k : ℕ} → Knows f a k → (e : ℕ) (ms : List ℕ) → k + size a ≤ length ms → Began f k (size a) ms (begin_undo a k e ms)
    undo-began (knows {own} {within} {k} x n r y) e ms h =
        either-began (is_scope own) (cond (has_undo own) (cond (eqb k e) (begin_part (undo_part (numbers_of own)) within (k + 1) ms) (nothing_begun ms)) (begin_undo_first within (k + 1) e ms)) (begin_undo_in within (k + 1) e ms) _ refl
        (λ s. cond-began (has_undo own) (cond (eqb k e) (begin_part (undo_part (numbers_of own)) within (k + 1) ms) (nothing_begun ms)) (begin_undo_first within (k + 1) e ms)
        (λ u. cond-began (eqb k e) (begin_part (undo_part (numbers_of own)) within (k + 1) ms) (nothing_begun ms)
        (λ v. began-wider f (part-began y (undo_part (numbers_of own)) (undo-needs own (count within) s u n) ms (omega arith)) (omega arith) (omega arith)) (nothing-began f k (1 + sizes within) ms))
        (began-wider f (undo-first-began y e ms (omega arith)) (omega arith) (omega arith)))
        (began-wider f (undo-in-began y e ms (omega arith)) (omega arith) (omega arith))

    undo-first-began : {l : Acts} {c : ℕ} → KnowsIn f l c → (e : ℕ) (ms : List ℕ) → c + sizes l ≤ length ms → Began f c (sizes l) ms (begin_undo_first l c e ms)
    undo-first-began (knows-none {c}) e ms h = nothing-began f c 0 ms
    undo-first-began (knows_more {a} {l} {c} x y) e ms h = began-wider f (undo-began x e ms (omega arith)) (omega arith) (omega arith)

    undo-in-began : {l : Acts} {c : ℕ} → KnowsIn f l c → (e : ℕ) (ms : List ℕ) → c + sizes l ≤ length ms → Began f c (sizes l) ms (begin_undo_in l c e ms)
    undo-in-began (knows-none {c}) e ms h = nothing-began f c 0 ms
    undo-in-began (knows_more {a} {l} {c} x y) e ms h =
        either-began (ltb e (c + size a)) (begin_undo a c e ms) (begin_undo_in l (c + size a) e ms) _ refl
        (λ t. began-wider f (undo-began x e ms (omega arith)) (omega arith) (omega arith)) (began-wider f (undo-in-began y e ms (omega arith)) (omega arith) (omega arith))

  -- the number before b, if there is one, is a scope's own
  abbrev pub Owned : Name → (b : ℕ) → Type 0
  Owned root b = b ≡ 0
  Owned (inner k) b = (k + 1 ≡ b) × (is_scope_kind (f k) ≡ true)

  pub owned-scope : (n : Name) (b j : ℕ) → Owned n b → j + 1 ≡ b → is_scope_kind (f j) ≡ true
  owned-scope root b j h e = absurd (omega arith)
  owned-scope (inner k) b j h e = subst (λ (i : ℕ). is_scope_kind (f i) ≡ true) (omega (arith, h.0)) h.1

  -- so its mark is not one that stays
  pub owned-other : (n : Name) (b j : ℕ) → Owned n b → is_scope_kind (f j) ≡ false → j + 1 ≡ b → ⊥
  owned-other n b j h z e = false≢true (sym z ∙ owned-scope n b j h e)

  pub stay-marking : (n : Name) (b v : ℕ) (o : Order) (j : ℕ) → Owned n b → is_scope_kind (f j) ≡ false → Stay o.marks (marking n v o).marks j
  stay-marking root b v o j h z = stay-still o.marks j
  stay-marking (inner k) b v o j h z = stay-other o.marks k v j (λ d. owned-other (inner k) b j h z (ap (λ (i : ℕ). i + 1) d ∙ h.0))

  -- An outcome in which no mark that lasts is cleared but that of the number before b; what is logged stands from b to e and is marked; and what is not is set
  -- only where it was, but that of the number before b where that shifts.
  pub record Goes (b e : ℕ) (o : Order) (r : Outcome) : Type 0 where
    pub grows : (j : ℕ) → lasts (f j) ≡ true → (j + 1 ≡ b → ⊥) → Up o.marks j → Up r.order.marks j
    pub truly : (j : ℕ) → lasts (f j) ≡ true → has_began j r.log ≡ true → Up r.order.marks j
    pub range : (j : ℕ) → has_began j r.log ≡ true → (b ≤ j) × (j < e)
    pub stays : (j : ℕ) → (j + 1 ≡ b → shifts (f j) ≡ false) → has_began j r.log ≡ false → Stay o.marks r.order.marks j
    pub long : length r.order.marks ≡ length o.marks
    pub calm : is_raising r.result ≡ false

  pub goes-runs : (b e : ℕ) (o : Order) → Goes b e o (runs o)
  unfolding some
  goes-runs b e o = record { grows = λ j x h u. u; truly = λ j x h. absurd (false≢true h); range = λ j h. absurd (false≢true h); stays = λ j y h. stay-still o.marks j; long = refl; calm = refl }

  pub goes-where : {b e : ℕ} {o : Order} (g : Order → Outcome) (r : Outcome) → Goes b e o r
      → ((o₁ : Order) → length o₁.marks ≡ length o.marks → Goes b e o₁ (g o₁)) → Goes b e o (where_over g r)
  goes-where {b} {e} {o} g r w h = go r.result refl
    where
      same : (x : Result) → r.result ≡ x → Goes b e o (record { result = x; order = r.order; log = r.log })
      same x d = record { grows = w.grows; truly = w.truly; range = w.range; stays = w.stays; long = w.long; calm = ap is_raising (sym d) ∙ w.calm }

      go : (x : Result) → r.result ≡ x → Goes b e o (where_over g (record { result = x; order = r.order; log = r.log }))
      go running d = same running d
      go over d =
          let v = h r.order w.long in
          record {
            grows = λ j x y u. v.grows j x y (w.grows j x y u);
            truly = λ j x y. began-in j r.log (g r.order).log y (λ z. v.grows j x (λ d. let q = w.range j z in omega arith) (w.truly j x z)) (λ z. v.truly j x z);
            range = λ j y. began-in j r.log (g r.order).log y (λ z. w.range j z) (λ z. v.range j z);
            stays = λ j y n. let z = began-neither j r.log (g r.order).log n in stay_then (w.stays j y z.0) (v.stays j y z.1);
            long = v.long ∙ w.long;
            calm = v.calm;
          }
      go (raising x) d = same (raising x) d
      go leaving d = same leaving d
      go undone d = same undone d
      go (undo_raising x) d = same (undo_raising x) d

  pub goes-begun : {b e k n : ℕ} (o : Order) (r : Begun) → Began f k n o.marks r → b ≤ k → k + n ≤ e → Goes b e o (begun_in o r)
  goes-begun o r w h g =
      record {
        grows = λ j x y u. w.grows j x u;
        truly = w.truly;
        range = λ j y. let z = w.range j y in omega arith;
        stays = λ j y n. w.stays j n;
        long = w.long;
        calm = decide r.over (λ t. rw t) (λ t. rw t);
      }

  -- after a mark before b was set
  pub goes-marked : {b e : ℕ} (k v : ℕ) (o : Order) (r : Outcome) → k + 1 ≡ b → shifts (f k) ≡ true → Goes b e (marked k v o) r → Goes b e o r
  goes-marked k v o r h s w =
      record {
        grows = λ j x y u. w.grows j x y (up-other o.marks k v j (λ d. y (ap (λ (i : ℕ). i + 1) d ∙ h)) u);
        truly = w.truly;
        range = w.range;
        stays = λ j y n. stay_then (stay-other o.marks k v j (λ d. false≢true (sym (y (ap (λ (i : ℕ). i + 1) d ∙ h)) ∙ (ap (λ (i : ℕ). shifts (f i)) d ∙ s)))) (w.stays j y n);
        long = w.long ∙ length-set o.marks k v;
        calm = w.calm;
      }

  goes-marking : {b e : ℕ} (n : Name) (v : ℕ) (o : Order) (r : Outcome) → Owned n b → Goes b e (marking n v o) r → Goes b e o r
  goes-marking root v o r h w = record { grows = w.grows; truly = w.truly; range = w.range; stays = w.stays; long = w.long; calm = w.calm }
  goes-marking (inner k) v o r h w = goes-marked k v o r h.0 (rw (h.1, or-true)) w

  pub goes-either : {b e : ℕ} {o : Order} (v : Bool) (x y z : Outcome) → z ≡ elim v [ true ↦ x | false ↦ y ] → Goes b e o x → Goes b e o y → Goes b e o z
  goes-either {b} {e} {o} true x y z d h g = subst (λ (r : Outcome). Goes b e o r) (sym d) h
  goes-either {b} {e} {o} false x y z d h g = subst (λ (r : Outcome). Goes b e o r) (sym d) g

  pub finishes-goes : (k e : ℕ) (o : Order) → Goes (k + 1) e o (finishes k o)
  unfolding some
  finishes-goes k e o =
      record { grows = λ j x h u. up-other o.marks k idle j (λ d. h (ap (λ (i : ℕ). i + 1) d)) u; truly = λ j x h. absurd (false≢true h); range = λ j h. absurd (false≢true h); stays = λ j y n. stay-idle o.marks k j; long = length-set o.marks k idle; calm = refl }

  -- each fault part of a scope
  abbrev pub KnowsEach : Scope → Type 0
  KnowsEach s = (choice : ℕ) → Knows f (chosen_part choice s) (chosen_at choice s)

  pub each-knows : {within : Acts} (ns : List ℕ) (k : ℕ) → general_part ns < count within → KnowsIn f within (k + 1) → KnowsEach (scope_at ns k within)
  each-knows {within} ns k n y = chosen-each (λ a j. Knows f a j) ns k within (λ i x z. part-knows y i (omega arith))

  -- A scope whose parts stand from b to e, and its name before b.
  pub record Within (s : Scope) (b e : ℕ) : Type 0 where
    pub name : Owned s.name b
    pub body : Knows f s.body s.body_at
    pub fault : KnowsEach s
    pub body_from : b ≤ s.body_at
    pub body_to : s.body_at + size s.body ≤ e
    pub fault_from : (c : ℕ) → b ≤ chosen_at c s
    pub fault_to : (c : ℕ) → chosen_at c s + size (chosen_part c s) ≤ e

  module _ (s : Scope) (b e : ℕ) (h : Within s b e) where
    ends-goes : (o : Order) → Goes b e o (ends s o)
    unfolding some is_began_of
    ends-goes o =
        goes-marking s.name idle o (ends s o) h.name
        (record { grows = λ j x y u. u; truly = λ j x y. absurd (false≢true y); range = λ j y. absurd (false≢true y); stays = λ j y n. stay-still _ j; long = refl; calm = refl })

    undo-goes : (l : List ℕ) (o : Order) → e ≤ length o.marks → Goes b e o (undo l s o)
    unfolding undo start_undo some
    undo-goes [] o m = record { grows = λ j x y u. u; truly = λ j x y. absurd (false≢true y); range = λ j y. absurd (false≢true y); stays = λ j y n. stay-still o.marks j; long = refl; calm = refl }
    undo-goes (x ∷ l) o m =
        let o₁ = remembering (without_last (is_for s) (closings o)) o in
        let w = goes-begun {b = b} {e = e} o₁ (begin_undo s.body s.body_at x o.marks) (undo-began h.body x o.marks (omega (arith, h.body_to))) h.body_from h.body_to in
        goes-where (undo l s) (start_undo x s o) (record { grows = w.grows; truly = w.truly; range = w.range; stays = w.stays; long = w.long; calm = w.calm }) (λ o₂ d. undo-goes l o₂ (omega arith))

    handle-goes : (o : Order) → e ≤ length o.marks → Goes b e o (handle s o)
    unfolding handle
    handle-goes o m =
        let m₁ = mark_with (choice_of s.name o) handling in
        let o₁ = marking s.name m₁ o in
        let c = choice_of s.name o in
        goes-marking s.name m₁ o (handle s o) h.name
        (goes-where (ends s) (begun_in o₁ (begin (chosen_part c s) (chosen_at c s) o₁.marks))
        (goes-begun o₁ (begin (chosen_part c s) (chosen_at c s) o₁.marks) (begin-began f (h.fault c) o₁.marks (omega (arith, h.fault_to c, marking-length s.name m₁ o))) (h.fault_from c) (h.fault_to c))
        (λ o₂ d. ends-goes o₂))

    undoes-goes : (w : Bool) (o : Order) → e ≤ length o.marks → Goes b e o (undoes w s o)
    unfolding undoes
    undoes-goes true o m =
        let m₁ = mark_with (choice_of s.name o) undoing in
        let o₁ = marking s.name m₁ o in
        let n = marking-length s.name m₁ o in
        goes-marking s.name m₁ o (undoes true s o) h.name
        (goes-where (handle s) (undo (remembered_for s o₁) s o₁) (undo-goes (remembered_for s o₁) o₁ (omega arith)) (λ o₂ d. handle-goes o₂ (omega arith)))
    undoes-goes false o m =
        let o₁ = marking s.name withdrawing o in
        let n = marking-length s.name withdrawing o in
        goes-marking s.name withdrawing o (undoes false s o) h.name
        (goes-where (ends s) (undo (remembered_for s o₁) s o₁) (undo-goes (remembered_for s o₁) o₁ (omega arith)) (λ o₂ d. ends-goes o₂))

    pub turns-goes : (w : Bool) (o : Order) → e ≤ length o.marks → Goes b e o (turns w s o)
    unfolding turns
    turns-goes w o m = goes-either (inner_runs s.body s.body_at o.marks) (runs o) (undoes w s o) (turns w s o) refl (goes-runs b e o) (undoes-goes w o m)

    pub looks-goes : (o : Order) → e ≤ length o.marks → Goes b e o (looks_again s o)
    unfolding looks_again
    looks-goes o m =
        goes-either (eqb (state_of s.name o) faulty) (turns true s o) (elim (eqb (mark_of s.name o) halted) [ true ↦ turns false s o | false ↦ runs o ]) (looks_again s o) refl (turns-goes true o m)
        (goes-either (eqb (mark_of s.name o) halted) (turns false s o) (runs o) _ refl (turns-goes false o m) (goes-runs b e o))

    pub over-goes : (o : Order) → e ≤ length o.marks → Goes b e o (body_over s o)
    unfolding body_over
    over-goes o m =
        goes-either (eqb (mark_of s.name o) active) (runs (marking s.name done o)) (looks_again s o) (body_over s o) refl
        (goes-marking s.name done o (runs (marking s.name done o)) h.name (goes-runs b e (marking s.name done o))) (looks-goes o m)

    pub undone-goes : (o : Order) → e ≤ length o.marks → Goes b e o (undo_over s o)
    unfolding undo_over
    undone-goes o m =
        goes-either (eqb (state_of s.name o) undoing) (undoes true s o) (elim (eqb (mark_of s.name o) withdrawing) [ true ↦ undoes false s o | false ↦ runs o ]) (undo_over s o) refl (undoes-goes true o m)
        (goes-either (eqb (mark_of s.name o) withdrawing) (undoes false s o) (runs o) _ refl (undoes-goes false o m) (goes-runs b e o))

    pub part-goes : (o : Order) → Goes b e o (part_over s o)
    unfolding part_over
    part-goes o = goes-either (eqb (state_of s.name o) handling) (ends s o) (runs o) (part_over s o) refl (ends-goes o) (goes-runs b e o)

  -- A scope that stands at k has its parts beyond it.
  pub scope-within : {within : Acts} {k : ℕ} (ns : List ℕ) → is_scope_kind (f k) ≡ true → general_part ns < count within → KnowsIn f within (k + 1)
      → Within (scope_at ns k within) (k + 1) (k + 1 + sizes within)
  scope-within {within} {k} ns q n y =
      let b = part-within within (k + 1) 0 (omega arith) in
      record {
        name = (refl, q);
        body = part-knows y 0 (omega arith);
        fault = each-knows ns k n y;
        body_from = b.0;
        body_to = b.1;
        fault_from = chosen-each (λ a j. k + 1 ≤ j) ns k within (λ i x z. (part-within within (k + 1) i (omega arith)).0);
        fault_to = chosen-each (λ a j. j + size a ≤ k + 1 + sizes within) ns k within (λ i x z. (part-within within (k + 1) i (omega arith)).1);
      }

  -- Stopping: what is logged stands in its stretch and is marked; no mark before it that lasts is cleared; and what is no scope is set only where it was.
  pub record Halts (k n : ℕ) (o : Order) (r : definitions.Stopped) : Type 0 where
    pub below : (j : ℕ) → lasts (f j) ≡ true → j < k → Up o.marks j → Up r.order.marks j
    pub truly : (j : ℕ) → lasts (f j) ≡ true → has_began j r.log ≡ true → Up r.order.marks j
    pub range : (j : ℕ) → has_began j r.log ≡ true → (k ≤ j) × (j < k + n)
    pub stays : (j : ℕ) → is_scope_kind (f j) ≡ false → has_began j r.log ≡ false → Stay o.marks r.order.marks j
    pub long : length r.order.marks ≡ length o.marks

  untouched-halts : (k n : ℕ) (o : Order) → Halts k n o (untouched o)
  unfolding some
  untouched-halts k n o = record { below = λ j x h u. u; truly = λ j x h. absurd (false≢true h); range = λ j h. absurd (false≢true h); stays = λ j z h. stay-still o.marks j; long = refl }

  -- after a mark of its own was cleared
  halts-marked : {k n c m : ℕ} (o : Order) (r : definitions.Stopped) → k < c → c + m ≤ k + n → Halts c m (marked k idle o) r → Halts k n o r
  halts-marked {k} o r h g w =
      record {
        below = λ j x y u. w.below j x (omega arith) (up-other o.marks k idle j (λ d. omega arith) u);
        truly = w.truly;
        range = λ j y. let z = w.range j y in omega arith;
        stays = λ j z y. stay_then (stay-idle o.marks k j) (w.stays j z y);
        long = w.long ∙ length-set o.marks k idle;
      }

  -- a scope withdraws
  withdraws-halts : {k n : ℕ} (s : Scope) (o : Order) (r : definitions.Stopped) → is_scope_kind (f k) ≡ true → Within s (k + 1) (k + 1 + n)
      → k + 1 + n ≤ length o.marks
      → Halts (k + 1) n (marked k halted o) r → Halts k (1 + n) o (withdraws k s r)
  unfolding withdraws some is_began_of
  withdraws-halts {k} {n} s o r g h m w =
      let t = turns false s r.order in
      let v = turns-goes s (k + 1) (k + 1 + n) h false r.order (omega (arith, w.long, length-set o.marks k halted)) in
      record {
        below = λ j x y u. v.grows j x (λ d. omega arith) (w.below j x (omega arith) (up-other o.marks k halted j (λ d. omega arith) u));
        truly = λ j x y. began-in j r.log t.log y (λ z. v.grows j x (λ d. let q = w.range j z in omega arith) (w.truly j x z)) (λ z. v.truly j x z);
        range = λ j y. began-in j r.log t.log y (λ z. let q = w.range j z in omega arith) (λ z. let q = v.range j z in omega arith);
        stays = λ j z y.
            let n = began-neither j r.log t.log y in
            let d = owned-other (inner k) (k + 1) j (refl, g) z in
            stay_then (stay-marking (inner k) (k + 1) halted o j (refl, g) z) (stay_then (w.stays j z n.0) (v.stays j (λ e. absurd (d e)) n.1));
        long = v.long ∙ (w.long ∙ length-set o.marks k halted);
      }

  halts-either : {k n : ℕ} {o : Order} (v : Bool) (x y z : definitions.Stopped) → z ≡ elim v [ true ↦ x | false ↦ y ] → (v ≡ true → Halts k n o x)
      → (v ≡ false → Halts k n o y) → Halts k n o z
  halts-either {k} {n} {o} true x y z e h g = subst (λ (r : definitions.Stopped). Halts k n o r) (sym e) (h refl)
  halts-either {k} {n} {o} false x y z e h g = subst (λ (r : definitions.Stopped). Halts k n o r) (sym e) (g refl)

  -- one after the other
  also-halts : {c n m : ℕ} (o : Order) (g : Order → definitions.Stopped) (r : definitions.Stopped) → Halts c n o r → Halts (c + n) m r.order (g r.order)
      → Halts c (n + m) o (also_stopped g r)
  also-halts o g r w v =
      record {
        below = λ j x y u. v.below j x (omega arith) (w.below j x y u);
        truly = λ j x y. began-in j r.log (g r.order).log y (λ z. v.below j x (w.range j z).1 (w.truly j x z)) (λ z. v.truly j x z);
        range = λ j y. began-in j r.log (g r.order).log y (λ z. let q = w.range j z in omega arith) (λ z. let q = v.range j z in omega arith);
        stays = λ j z y. let n = began-neither j r.log (g r.order).log y in stay_then (w.stays j z n.0) (v.stays j z n.1);
        long = v.long ∙ w.long;
      }

  mutual
    unfolding stop size

    pub stop_halts : {a : Act} {k : ℕ} → Knows f a k → (o : Order) → k + size a ≤ length o.marks → Halts k (size a) o (stop a k o)
    stop_halts (knows {own} {within} {k} x n r y) o h =
        halts-either (is_scope own)
        (elim (is_open (mark_at k o)) [ true ↦ withdraws k (scope_at (numbers_of own) k within) (stop_first within (k + 1) (marked k halted o)) | false ↦ untouched o ])
        (stop_all within (k + 1) (marked k idle o)) _ refl
        (λ s. halts-either (is_open (mark_at k o)) (withdraws k (scope_at (numbers_of own) k within) (stop_first within (k + 1) (marked k halted o))) (untouched o) _ refl
        (λ v. withdraws-halts (scope_at (numbers_of own) k within) o (stop_first within (k + 1) (marked k halted o)) (ap is_scope_kind x ∙ (scope-kind own ∙ s)) (scope-within (numbers_of own) (ap is_scope_kind x ∙ (scope-kind own ∙ s)) (scope-needs own (count within) s n) y) (omega arith)
        (stop-first-halts y (marked k halted o) (omega (arith, length-set o.marks k halted))))
        (λ v. untouched-halts k _ o))
        (λ s. halts-marked {k = k} {c = k + 1} {m = sizes within} o (stop_all within (k + 1) (marked k idle o)) (omega arith) (omega arith) (stop-all-halts y (marked k idle o) (omega (arith, length-set o.marks k idle))))

    pub stop-all-halts : {l : Acts} {c : ℕ} → KnowsIn f l c → (o : Order) → c + sizes l ≤ length o.marks → Halts c (sizes l) o (stop_all l c o)
    stop-all-halts (knows-none {c}) o h = untouched-halts c 0 o
    stop-all-halts (knows_more {a} {l} {c} x y) o h =
        let w = stop_halts x o (omega arith) in
        also-halts o (stop_all l (c + size a)) (stop a c o) w (stop-all-halts y (stop a c o).order (omega (arith, w.long)))

    pub stop-first-halts : {l : Acts} {c : ℕ} → KnowsIn f l c → (o : Order) → c + sizes l ≤ length o.marks → Halts c (sizes l) o (stop_first l c o)
    stop-first-halts (knows-none {c}) o h = untouched-halts c 0 o
    stop-first-halts (knows_more {a} {l} {c} x y) o h =
        let w = stop_halts x o (omega arith) in
        record { below = w.below; truly = w.truly; range = λ j z. let q = w.range j z in omega arith; stays = w.stays; long = w.long }
