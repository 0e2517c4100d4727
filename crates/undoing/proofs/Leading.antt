-- What a step logs as begun begins with what it should: read off the logs alone. Assumes nothing.
use Prim.Native.Nat.{ℕ, zero, suc, ◌+◌, ◌≤◌, ◌<◌}
use native.Mathlib.Omega.{arith}
use mathlib.Core.Path.{◌≡◌, refl, sym, subst, ◌∙◌}
use mathlib.Core.Bool.{Bool, true, false, cond, ◌&&◌, ◌||◌, false≢true, or-true}
use mathlib.Core.List.{List, [], ◌∷◌, ◌++◌}
use lib.ListN.{set}
use lib.Dec.{eqb, ltb}
use borrow.Author.Tests.{eqb-true, eqb-false, eq-eqb, ltb-true, ltb-false, lt-ltb}
use Rattle.plan.specs.Tree.{Own, empty, send, receive, set as setting, raise, leave, choose, repeat, sequence, flow, pick, scope, arm, kind, is_scope, Act, act, Acts, none, more, Plan, size, sizes, count, has_undo, numbers_of, undo_part}
use Rattle.order.specs.declared.Order.{Order}
use Rattle.order.specs.declared.End.{End}
use Rattle.order.specs.declared.End.TheVariants.{None, Well, Handled, Failed, Left}
use Rattle.order.specs.Lists.{some}
use Rattle.order.specs.State.{root, idle, active, inside, faulty, undoing, handling, halted, withdrawing, done, with_marks, mark_at, marked, mark_of, marking, causing, state_of, going, mark_with, choice_of}
use Rattle.order.specs.Event.{Event, began, closed, faulted, stopped, raised, left, ended}
use Rattle.order.specs.Expression.{conflicting_receive, Value, fault, value, evaluate, is_true}
use Rattle.order.specs.Begin.{Begun, throughout, around, its_beginning, in_turn, begin, begin_in_turn, begin_all, begin_after, part, part_at, begin_part, cleared, quiet, nothing_begun}
use Rattle.order.specs.declared.Way.{Way as Result}
use Rattle.order.specs.declared.Way.TheVariants.{Running as running, Over as over, Raising as raising, Leaving as leaving, Undone as undone, UndoRaising as undo_raising}
use Rattle.order.specs.Scope.{Outcome, root_of, runs, begun_in, where_over, Scope, scope_at, is_open, inner_runs, closing, begin_undo, begin_undo_in, start_undo, undo, ends, handle, undoes, turns, remembered_for, untouched, withdraws, stop, stop_all, stop_first, faults, breaks, looks_again, body_over, body_raised, undo_over, undo_raised, from_body, part_over, part_raised, from_fault, from_undo, goes_through, begin_undo_first, choice_for, chosen_part, chosen_at}
use Rattle.order.specs.Scope as definitions
use Rattle.order.specs.Acting.{finishes, raises, or_raises, again, repeats, itself, arms, goes_on, joins, in_scope, combines, step_in, step_among, step_root, end_of, moved_to, Actor, replaces, performs, acted}
use Rattle.undoing.proofs.Stepping.{scope-performs}
use Rattle.undoing.specs.Orderly.{is_began_of}
use Rattle.undoing.specs.Begun.{has_began, Lead, alone, together, in_order, in_step, lead_of, may_lead}
use Rattle.undoing.proofs.Parts.{decide, some-append}
use Rattle.undoing.proofs.Choices.{chosen-each, root-chosen, general-there, undo-there}
use Rattle.undoing.proofs.Orders.{least}
use Rattle.undoing.proofs.Truly.{or_case, began-in}
use Rattle.plan.specs.Within.{scope_parts}
use Rattle.undoing.proofs.Sends.{by-send}

module _ (lead : ℕ → Lead) where
  -- a tree whose leads are known
  mutual
    pub data Leads : Act → ℕ → Type 0 where
      leads-part : {own : Own} {within : Acts} {k : ℕ} → is_scope own ≡ false → least own ≤ count within → LeadsIn within (k + 1) (lead_of own k)
          → Leads (act own within) k
      leads-scope : {xs : List ℕ} {v : Bool} {b : Act} {l : Acts} {k : ℕ} → lead (k + 1) ≡ together k → scope_parts xs v ≤ count (more b l)
          → Leads b (k + 1) → LeadsIn l (k + 1 + size b) alone → Leads (act (scope xs v) (more b l)) k

    pub data LeadsIn : Acts → ℕ → Lead → Type 0 where
      leads-none : {c : ℕ} {q : Lead} → LeadsIn none c q
      leads-more : {a : Act} {l : Acts} {c : ℕ} {q : Lead} → lead c ≡ q → Leads a c → LeadsIn l (c + size a) q → LeadsIn (more a l) c q

  module _ (t : ℕ) where
    -- with more events it may still
    lead-more : (q : Lead) (j : ℕ) (l m : List Event) → ((i : ℕ) → has_began i l ≡ true → has_began i m ≡ true) → may_lead q t j l ≡ true
        → may_lead q t j m ≡ true
    unfolding may_lead
    lead-more alone j l m f h = refl
    lead-more (together k) j l m f h = f k h
    lead-more (in_order k) j l m f h = or_case (has_began k l) (ltb k t && ltb t j) h (λ e. rw (f k e)) (λ e. rw (e, or-true))
    lead-more (in_step k) j l m f h = h

    began-left : (j : ℕ) (l m : List Event) → has_began j l ≡ true → has_began j (l ++ m) ≡ true
    began-left j l m h = some-append (is_began_of (eqb j)) l m ∙ rw h

    began-right : (j : ℕ) (l m : List Event) → has_began j m ≡ true → has_began j (l ++ m) ≡ true
    began-right j l m h = some-append (is_began_of (eqb j)) l m ∙ rw (h, or-true)

    -- what is begun stands from c on, and is led so or may begin
    data Fit (q : Lead) (j : ℕ) (l : List Event) : Type 0 where
      first : lead j ≡ q → Fit q j l
      fit : may_lead (lead j) t j l ≡ true → Fit q j l

    record Led (q : Lead) (c : ℕ) (l : List Event) : Type 0 where
      leads : (j : ℕ) → has_began j l ≡ true → Fit q j l
      from : (j : ℕ) → has_began j l ≡ true → c ≤ j

    -- all may begin
    pub record Fine (l : List Event) : Type 0 where
      pub may : (j : ℕ) → has_began j l ≡ true → may_lead (lead j) t j l ≡ true

    fit-more : {q : Lead} (j : ℕ) (l m : List Event) → ((i : ℕ) → has_began i l ≡ true → has_began i m ≡ true) → Fit q j l → Fit q j m
    fit-more j l m f (first e) = first e
    fit-more j l m f (fit h) = fit (lead-more (lead j) j l m f h)

    led-none : (q : Lead) (c : ℕ) → Led q c []
    unfolding some
    led-none q c = record { leads = λ j h. absurd (false≢true h); from = λ j h. absurd (false≢true h) }

    led-lower : {q : Lead} {c d : ℕ} {l : List Event} → c ≤ d → Led q d l → Led q c l
    led-lower h w = record { leads = w.leads; from = λ j b. let z = w.from j b in omega arith }

    led-append : {q : Lead} {c : ℕ} (l m : List Event) → Led q c l → Led q c m → Led q c (l ++ m)
    led-append l m w v =
        record {
          leads = λ j h. began-in j l m h (λ b. fit-more j l (l ++ m) (λ i. began-left i l m) (w.leads j b)) (λ b. fit-more j m (l ++ m) (λ i. began-right i l m) (v.leads j b));
          from = λ j h. began-in j l m h (λ b. w.from j b) (λ b. v.from j b);
        }

    -- an activity begins, and then what stands in it
    led-own : (k : ℕ) (q r : Lead) (l : List Event) → lead k ≡ q → ((j : ℕ) → may_lead r t j (began k ∷ l) ≡ true) → Led r (k + 1) l → Led q k (began k ∷ l)
    unfolding some is_began_of
    led-own k q r l e f w =
        record {
          leads = λ j h. or_case (eqb j k) (has_began j l) h (λ b. first (subst (λ (i : ℕ). lead i ≡ q) (sym (eqb-true j k b)) e)) (λ b. go j (w.leads j b));
          from = λ j h. or_case (eqb j k) (has_began j l) h (λ b. let z = eqb-true j k b in omega arith) (λ b. let z = w.from j b in omega arith);
        }
      where
        go : (j : ℕ) → Fit r j l → Fit q j (began k ∷ l)
        go j (first d) = fit (subst (λ (x : Lead). may_lead x t j (began k ∷ l) ≡ true) (sym d) (f j))
        go j (fit d) = fit (lead-more (lead j) j l (began k ∷ l) (λ i b. rw (b, or-true)) d)

    led-alone : (k : ℕ) (q : Lead) → lead k ≡ q → Led q k (began k ∷ [])
    unfolding may_lead
    led-alone k q e = led-own k q alone [] e (λ j. refl) (led-none alone (k + 1))

    led-through : (k : ℕ) (q r : Lead) (b : Begun) → lead k ≡ q → ((j : ℕ) (l : List Event) → may_lead r t j (began k ∷ l) ≡ true) → Led r (k + 1) b.log
        → Led q k (its_beginning k (throughout k b)).log
    led-through k q r b e f w = go b.over b.marks b.log w
      where
        go : (v : Bool) (ms : List ℕ) (l : List Event) → Led r (k + 1) l
            → Led q k (its_beginning k (throughout k (record { marks = ms; over = v; log = l }))).log
        go true ms l w = led-own k q r l e (λ j. f j l) w
        go false ms l w = led-own k q r l e (λ j. f j l) w

    led-around : (k : ℕ) (q : Lead) (b : Begun) → lead k ≡ q → Led (together k) (k + 1) b.log → Led q k (its_beginning k (around k b)).log
    unfolding may_lead some is_began_of
    led-around k q b e w = go b.over b.marks b.log w
      where
        go : (v : Bool) (ms : List ℕ) (l : List Event) → Led (together k) (k + 1) l
            → Led q k (its_beginning k (around k (record { marks = ms; over = v; log = l }))).log
        go true ms l w = led-own k q (together k) l e (λ j. rw (eq-eqb k k refl)) w
        go false ms l w = led-own k q (together k) l e (λ j. rw (eq-eqb k k refl)) w

    -- one after the other
    led-turn : {q : Lead} {c : ℕ} (later : List ℕ → Begun) (b : Begun) → Led q c b.log → Led q c (later b.marks).log → Led q c (in_turn later b).log
    led-turn {q} {c} later b w v = go b.over
      where
        go : (x : Bool) → Led q c (in_turn later (record { marks = b.marks; over = x; log = b.log })).log
        go true = led-append b.log (later b.marks).log w v
        go false = w

    own-led : (own : Own) (within : Acts) (k : ℕ) → is_scope own ≡ false → (q : Lead) → lead k ≡ q → (ms : List ℕ)
        → ((ns : List ℕ) → Led (lead_of own k) (k + 1) (begin_in_turn within (k + 1) ns).log)
        → ((ns : List ℕ) → Led (lead_of own k) (k + 1) (begin_all within (k + 1) ns).log) → Led q k (begin (act own within) k ms).log
    unfolding begin kind may_lead some is_began_of
    own-led empty within k s q e ms x y = led-alone k q e
    own-led (send p o vs) within k s q e ms x y = led-alone k q e
    own-led (receive p o vs) within k s q e ms x y = led-alone k q e
    own-led (setting v z) within k s q e ms x y = led-alone k q e
    own-led (raise zero) within k s q e ms x y = led-alone k q e
    own-led (raise (suc number)) within k s q e ms x y = led-alone k q e
    own-led leave within k s q e ms x y = led-alone k q e
    own-led (choose z) within k s q e ms x y = led-alone k q e
    own-led (repeat z) within k s q e ms x y = led-alone k q e
    own-led sequence within k s q e ms x y = led-through k q (in_order k) (begin_in_turn within (k + 1) (set ms k active)) e (λ j l. rw (eq-eqb k k refl)) (x (set ms k active))
    own-led flow within k s q e ms x y = led-through k q (together k) (begin_all within (k + 1) (set ms k active)) e (λ j l. rw (eq-eqb k k refl)) (y (set ms k active))
    own-led pick within k s q e ms x y = led-alone k q e
    own-led (scope xs v) within k s q e ms x y = absurd (false≢true (sym s))
    own-led (arm p o vs) within k s q e ms x y = led-none q k

    mutual
      unfolding begin kind size

      begin-led : {a : Act} {k : ℕ} → Leads a k → (q : Lead) → lead k ≡ q → (ms : List ℕ) → Led q k (begin a k ms).log
      begin-led (leads-part {own} {within} {k} s n y) q e ms = own-led own within k s q e ms (λ ns. turn-led y ns) (λ ns. all-led y ns)
      begin-led (leads-scope {b = b} {k = k} x n hb hl) q e ms = led-around k q (begin b (k + 1) (set ms k active)) e (begin-led hb (together k) x (set ms k active))

      turn-led : {l : Acts} {c : ℕ} {q : Lead} → LeadsIn l c q → (ms : List ℕ) → Led q c (begin_in_turn l c ms).log
      turn-led (leads-none {c} {q}) ms = led-none q c
      turn-led (leads-more {a} {l} {c} {q} e x y) ms =
          led-turn (begin_in_turn l (c + size a)) (begin a c ms) (begin-led x q e ms) (led-lower (omega arith) (turn-led y (begin a c ms).marks))

      all-led : {l : Acts} {c : ℕ} {q : Lead} → LeadsIn l c q → (ms : List ℕ) → Led q c (begin_all l c ms).log
      all-led (leads-none {c} {q}) ms = led-none q c
      all-led (leads-more {a} {l} {c} {q} e x y) ms =
          led-append (begin a c ms).log (begin_all l (c + size a) (begin a c ms).marks).log (begin-led x q e ms) (led-lower (omega arith) (all-led y (begin a c ms).marks))

    -- what follows in a sequence
    after-led : {l : Acts} {c : ℕ} {q : Lead} → LeadsIn l c q → (ms : List ℕ) → Led q (t + 1) (begin_after l c t ms).log
    unfolding begin_after size
    after-led (leads-none {c} {q}) ms = led-none q (t + 1)
    after-led (leads-more {a} {l} {c} {q} e x y) ms =
        decide (ltb t (c + size a)) (λ d. let z = ltb-true t (c + size a) d in rw (begin_after, d) (led-lower (omega arith) (turn-led y ms))) (λ d. rw (begin_after, d) (after-led y ms))

    -- the i-th within, where there is one
    part-led : {l : Acts} {c : ℕ} {q : Lead} → LeadsIn l c q → (i : ℕ) → i < count l → (ms : List ℕ) → Led q c (begin_part i l c ms).log
    unfolding begin_part part part_at count
    part-led leads-none i h ms = absurd (omega arith)
    part-led (leads-more {q = q} e x y) zero h ms = begin-led x q e ms
    part-led (leads-more e x y) (suc i) h ms = led-lower (omega arith) (part-led y i (omega arith) ms)

    -- What is led so, where those may begin.
    led-fine : {q : Lead} {c : ℕ} {l : List Event} → ((j : ℕ) → c ≤ j → may_lead q t j l ≡ true) → Led q c l → Fine l
    led-fine {q} {c} {l} f w = record { may = λ j h. go j (w.from j h) (w.leads j h) }
      where
        go : (j : ℕ) → c ≤ j → Fit q j l → may_lead (lead j) t j l ≡ true
        go j b (first e) = subst (λ (x : Lead). may_lead x t j l ≡ true) (sym e) (f j b)
        go j b (fit h) = h

    fine-alone : {c : ℕ} {l : List Event} → Led alone c l → Fine l
    unfolding may_lead
    fine-alone w = led-fine (λ j b. refl) w

    fine-none : Fine []
    unfolding some
    fine-none = record { may = λ j h. absurd (false≢true h) }

    pub fine-append : (l m : List Event) → Fine l → Fine m → Fine (l ++ m)
    fine-append l m w v =
        record { may = λ j h. began-in j l m h (λ b. lead-more (lead j) j l (l ++ m) (λ i. began-left i l m) (w.may j b)) (λ b. lead-more (lead j) j m (l ++ m) (λ i. began-right i l m) (v.may j b)) }

    -- any other event
    pub fine-event : (e : Event) (l : List Event) → ((j : ℕ) → is_began_of (eqb j) e ≡ false) → Fine l → Fine (e ∷ l)
    unfolding some
    fine-event e l n w =
        record {
          may = λ j h. or_case (is_began_of (eqb j) e) (has_began j l) h (λ b. absurd (false≢true (sym (n j) ∙ b))) (λ b. lead-more (lead j) j l (e ∷ l) (λ i c. rw (c, or-true)) (w.may j b));
        }

    pub begin-fine : {a : Act} {k : ℕ} → Leads a k → lead k ≡ alone → (ms : List ℕ) → Fine (begin a k ms).log
    begin-fine x e ms = fine-alone (begin-led x alone e ms)

    -- an undo part
    either-fine : (v : Bool) (x y z : Begun) → z ≡ elim v [ true ↦ x | false ↦ y ] → (v ≡ true → Fine x.log) → Fine y.log → Fine z.log
    either-fine true x y z e w v = subst (λ (r : Begun). Fine r.log) (sym e) (w refl)
    either-fine false x y z e w v = subst (λ (r : Begun). Fine r.log) (sym e) v

    cond-fine : (v : Bool) (x y : Begun) → Fine x.log → Fine y.log → Fine (cond v x y).log
    cond-fine true x y w v = w
    cond-fine false x y w v = v

    -- a part of a scope after its body
    later-fine : {l : Acts} (b : Act) (k : ℕ) → LeadsIn l (k + 1 + size b) alone → (i : ℕ) → 1 ≤ i → i < count (more b l) → (ms : List ℕ) → Fine (begin_part i (more b l) (k + 1) ms).log
    unfolding begin_part part part_at count
    later-fine b k y zero h n ms = absurd (omega arith)
    later-fine b k y (suc i) h n ms = fine-alone (part-led y i (omega arith) ms)

    mutual
      unfolding begin_undo begin_part part part_at kind

      undo-fine : {a : Act} {k : ℕ} → Leads a k → (e : ℕ) (ms : List ℕ) → Fine (begin_undo a k e ms).log
      undo-fine (leads-part {own} {within} {k} s n y) e ms =
          either-fine (is_scope own) (cond (has_undo own) (cond (eqb k e) (begin_part (undo_part (numbers_of own)) within (k + 1) ms) (nothing_begun ms)) (begin_undo_first within (k + 1) e ms)) (begin_undo_in within (k + 1) e ms) _ refl
          (λ v. absurd (false≢true (sym s ∙ v))) (undo-in-fine y e ms)
      undo-fine (leads-scope {xs} {v = true} {b} {l} {k} x n hb hl) e ms =
          cond-fine (eqb k e) (begin_part (undo_part xs) (more b l) (k + 1) ms) (nothing_begun ms) (later-fine b k hl (undo_part xs) (omega arith) (undo-there (scope xs true) (count (more b l)) refl n) ms) fine-none
      undo-fine (leads-scope {v = false} x n hb hl) e ms = undo-fine hb e ms

      undo-in-fine : {l : Acts} {c : ℕ} {q : Lead} → LeadsIn l c q → (e : ℕ) (ms : List ℕ) → Fine (begin_undo_in l c e ms).log
      undo-in-fine leads-none e ms = fine-none
      undo-in-fine (leads-more {a} {l} {c} d x y) e ms =
          either-fine (ltb e (c + size a)) (begin_undo a c e ms) (begin_undo_in l (c + size a) e ms) _ refl (λ v. undo-fine x e ms) (undo-in-fine y e ms)

    -- Outcomes.
    where-fine : (g : Order → Outcome) (r : Outcome) → Fine r.log → ((o : Order) → Fine (g o).log) → Fine (where_over g r).log
    where-fine g r w h = go r.result
      where
        go : (x : Result) → Fine (where_over g (record { result = x; order = r.order; log = r.log })).log
        go running = w
        go over = fine-append r.log (g r.order).log w (h r.order)
        go (raising x) = w
        go leaving = w
        go undone = w
        go (undo_raising x) = w

    choose-fine : (v : Bool) (x y z : Outcome) → z ≡ elim v [ true ↦ x | false ↦ y ] → Fine x.log → Fine y.log → Fine z.log
    choose-fine true x y z d w g = subst (λ (r : Outcome). Fine r.log) (sym d) w
    choose-fine false x y z d w g = subst (λ (r : Outcome). Fine r.log) (sym d) g

    -- a scope whose parts are so
    record Part (s : Scope) : Type 0 where
      body : Leads s.body s.body_at
      fault : (choice : ℕ) (ms : List ℕ) → Fine (begin (chosen_part choice s) (chosen_at choice s) ms).log

    module _ (s : Scope) (h : Part s) where
      ends-fine : (o : Order) → Fine (ends s o).log
      unfolding is_began_of
      ends-fine o = fine-event (ended s.name) [] (λ j. refl) fine-none

      list-fine : (l : List ℕ) (o : Order) → Fine (undo l s o).log
      unfolding undo start_undo
      list-fine [] o = fine-none
      list-fine (x ∷ l) o = where-fine (undo l s) (start_undo x s o) (undo-fine h.body x o.marks) (λ o₁. list-fine l o₁)

      handle-fine : (o : Order) → Fine (handle s o).log
      unfolding handle
      handle-fine o =
          let o₁ = going s.name handling o in
          let c = choice_of s.name o in
          where-fine (ends s) (begun_in o₁ (begin (chosen_part c s) (chosen_at c s) o₁.marks)) (h.fault c o₁.marks) (λ o₂. ends-fine o₂)

      undoes-fine : (w : Bool) (o : Order) → Fine (undoes w s o).log
      unfolding undoes
      undoes-fine true o = let o₁ = going s.name undoing o in where-fine (handle s) (undo (remembered_for s o₁) s o₁) (list-fine (remembered_for s o₁) o₁) (λ o₂. handle-fine o₂)
      undoes-fine false o = let o₁ = marking s.name withdrawing o in where-fine (ends s) (undo (remembered_for s o₁) s o₁) (list-fine (remembered_for s o₁) o₁) (λ o₂. ends-fine o₂)

      turns-fine : (w : Bool) (o : Order) → Fine (turns w s o).log
      unfolding turns
      turns-fine w o = choose-fine (inner_runs s.body s.body_at o.marks) (runs o) (undoes w s o) (turns w s o) refl fine-none (undoes-fine w o)

      looks-fine : (o : Order) → Fine (looks_again s o).log
      unfolding looks_again
      looks-fine o =
          choose-fine (eqb (state_of s.name o) faulty) (turns true s o) (elim (eqb (mark_of s.name o) halted) [ true ↦ turns false s o | false ↦ runs o ]) (looks_again s o) refl (turns-fine true o)
          (choose-fine (eqb (mark_of s.name o) halted) (turns false s o) (runs o) _ refl (turns-fine false o) fine-none)

      over-fine : (o : Order) → Fine (body_over s o).log
      unfolding body_over
      over-fine o = choose-fine (eqb (mark_of s.name o) active) (runs (marking s.name done o)) (looks_again s o) (body_over s o) refl fine-none (looks-fine o)

      undone-fine : (o : Order) → Fine (undo_over s o).log
      unfolding undo_over
      undone-fine o =
          choose-fine (eqb (state_of s.name o) undoing) (undoes true s o) (elim (eqb (mark_of s.name o) withdrawing) [ true ↦ undoes false s o | false ↦ runs o ]) (undo_over s o) refl (undoes-fine true o)
          (choose-fine (eqb (mark_of s.name o) withdrawing) (undoes false s o) (runs o) _ refl (undoes-fine false o) fine-none)

      breaks-fine : (number : ℕ) (o : Order) → Fine (breaks number s o).log
      unfolding breaks is_began_of
      breaks-fine number o = fine-event (ended s.name) [] (λ j. refl) fine-none

      part-fine : (o : Order) → Fine (part_over s o).log
      unfolding part_over
      part-fine o = choose-fine (eqb (state_of s.name o) handling) (ends s o) (runs o) (part_over s o) refl (ends-fine o) fine-none

    scope-part : {b : Act} {l : Acts} {k : ℕ} (xs : List ℕ) (v : Bool) → scope_parts xs v ≤ count (more b l) → Leads b (k + 1) → LeadsIn l (k + 1 + size b) alone
        → Part (scope_at xs k (more b l))
    unfolding begin_part part part_at
    scope-part {b} {l} {k} xs v n hb hl =
        record {
          body = hb;
          fault = chosen-each (λ a j. (ms : List ℕ) → Fine (begin a j ms).log) xs k (more b l)
              (λ i h e. later-fine b k hl i h (let z = general-there (scope xs v) (count (more b l)) n in omega arith));
        }

    -- stopping
    halt-fine : (v : Bool) (x y z : definitions.Stopped) → z ≡ elim v [ true ↦ x | false ↦ y ] → (v ≡ true → Fine x.log) → (v ≡ false → Fine y.log)
        → Fine z.log
    halt-fine true x y z e w v = subst (λ (r : definitions.Stopped). Fine r.log) (sym e) (w refl)
    halt-fine false x y z e w v = subst (λ (r : definitions.Stopped). Fine r.log) (sym e) (v refl)

    withdraws-fine : (k : ℕ) (s : Scope) (r : definitions.Stopped) → Part s → Fine r.log → Fine (withdraws k s r).log
    unfolding withdraws is_began_of
    withdraws-fine k s r h w = fine-event (stopped k) (r.log ++ (turns false s r.order).log) (λ j. refl) (fine-append r.log (turns false s r.order).log w (turns-fine s h false r.order))

    mutual
      unfolding stop kind

      stop-fine : {a : Act} {k : ℕ} → Leads a k → (o : Order) → Fine (stop a k o).log
      stop-fine (leads-part {own} {within} {k} s n y) o =
          halt-fine (is_scope own) (elim (is_open (mark_at k o)) [ true ↦ withdraws k (scope_at (numbers_of own) k within) (stop_first within (k + 1) (marked k halted o)) | false ↦ untouched o ]) (stop_all within (k + 1) (marked k idle o)) _ refl
          (λ v. absurd (false≢true (sym s ∙ v))) (λ v. stop-all-fine y (marked k idle o))
      stop-fine (leads-scope {xs} {v = v₀} {b} {l} {k} x n hb hl) o =
          halt-fine (is_open (mark_at k o)) (withdraws k (scope_at xs k (more b l)) (stop b (k + 1) (marked k halted o))) (untouched o) _ refl
          (λ v. withdraws-fine k (scope_at xs k (more b l)) (stop b (k + 1) (marked k halted o)) (scope-part xs v₀ n hb hl) (stop-fine hb (marked k halted o))) (λ v. fine-none)

      stop-all-fine : {l : Acts} {c : ℕ} {q : Lead} → LeadsIn l c q → (o : Order) → Fine (stop_all l c o).log
      stop-all-fine leads-none o = fine-none
      stop-all-fine (leads-more {a} {l} {c} e x y) o = fine-append (stop a c o).log (stop_all l (c + size a) (stop a c o).order).log (stop-fine x o) (stop-all-fine y (stop a c o).order)

    module _ (s : Scope) (h : Part s) where
      faults-fine : (number : ℕ) (o : Order) → Fine (faults number s o).log
      unfolding faults is_began_of
      faults-fine number o =
          let o₁ = causing s.name number (marking s.name (mark_with (choice_for number s) faulty) o) in
          let r = stop s.body s.body_at o₁ in
          fine-event (faulted s.name number) (r.log ++ (turns true s r.order).log) (λ j. refl)
          (fine-append r.log (turns true s r.order).log (stop-fine h.body o₁) (turns-fine s h true r.order))

      raised-fine : (number : ℕ) (o : Order) → Fine (body_raised number s o).log
      unfolding body_raised
      raised-fine number o = choose-fine (is_open (mark_of s.name o)) (faults number s o) (looks_again s o) (body_raised number s o) refl (faults-fine number o) (looks-fine s h o)

      undo-raised-fine : (number : ℕ) (o : Order) → Fine (undo_raised number s o).log
      unfolding undo_raised
      undo-raised-fine number o = choose-fine (eqb (state_of s.name o) undoing || eqb (mark_of s.name o) withdrawing) (breaks number s o) (runs o) (undo_raised number s o) refl (breaks-fine s h number o) fine-none

      part-raised-fine : (number : ℕ) (o : Order) → Fine (part_raised number s o).log
      unfolding part_raised
      part-raised-fine number o = choose-fine (eqb (state_of s.name o) handling) (breaks number s o) (runs o) (part_raised number s o) refl (breaks-fine s h number o) fine-none

      body-fine : (r : Outcome) → Fine r.log → Fine (from_body s r).log
      unfolding from_body
      body-fine r w = go r.result
        where
          later : (x : Outcome) → Fine x.log → Fine (r.log ++ x.log)
          later x v = fine-append r.log x.log w v

          go : (x : Result) → Fine (from_body s (record { result = x; order = r.order; log = r.log })).log
          go running = later (looks_again s r.order) (looks-fine s h r.order)
          go over = later (body_over s r.order) (over-fine s h r.order)
          go (raising x) = later (body_raised x s r.order) (raised-fine x r.order)
          go leaving = w
          go undone = later (undo_over s r.order) (undone-fine s h r.order)
          go (undo_raising x) = later (undo_raised x s r.order) (undo-raised-fine x r.order)

      fault-fine : (r : Outcome) → Fine r.log → Fine (from_fault s r).log
      unfolding from_fault
      fault-fine r w = go r.result
        where
          go : (x : Result) → Fine (from_fault s (record { result = x; order = r.order; log = r.log })).log
          go running = w
          go over = fine-append r.log (part_over s r.order).log w (part-fine s h r.order)
          go (raising x) = fine-append r.log (part_raised x s r.order).log w (part-raised-fine x r.order)
          go leaving = w
          go undone = w
          go (undo_raising x) = w

    -- Activities other than scopes.
    on_fine : (k v : ℕ) (x : Order → Outcome) (r : Outcome) → Fine r.log → ((o : Order) → Fine (x o).log) → Fine (goes_on k v x r).log
    unfolding goes_on
    on_fine k v x r w h =
        where-fine (λ o. elim (eqb (mark_at k o) v) [ true ↦ x o | false ↦ runs o ]) r w
        (λ o. choose-fine (eqb (mark_at k o) v) (x o) (runs o) _ refl (h o) fine-none)

    joins-fine : (k : ℕ) (within : Acts) (o : Order) → Fine (joins k within o).log
    unfolding joins
    joins-fine k within o = choose-fine (quiet (k + 1) (sizes within) o.marks) (finishes k o) (runs o) (joins k within o) refl fine-none fine-none

    combines-fine : (own : Own) (within : Acts) (k : ℕ) (r : Outcome) → is_scope own ≡ false → LeadsIn within (k + 1) (lead_of own k) → k + 1 ≤ t
        → Fine r.log → Fine (combines own within k t r).log
    unfolding combines kind may_lead
    combines-fine empty within k r s y n w = w
    combines-fine (send a b vs) within k r s y n w = w
    combines-fine (receive a b vs) within k r s y n w = w
    combines-fine (setting v x) within k r s y n w = w
    combines-fine (raise number) within k r s y n w = w
    combines-fine leave within k r s y n w = w
    combines-fine (choose x) within k r s y n w = on_fine k inside (finishes k) r w (λ o. fine-none)
    combines-fine (repeat x) within k r s y n w = on_fine k inside (again k) r w (λ o. fine-none)
    combines-fine sequence within k r s y n w =
        on_fine k active _ r w (λ o. where-fine (finishes k) (begun_in o (begin_after within (k + 1) t o.marks))
        (led-fine (λ j b. rw (lt-ltb k t (omega arith), lt-ltb t j (omega arith), or-true)) (after-led y o.marks)) (λ o₁. fine-none))
    combines-fine flow within k r s y n w = on_fine k active (joins k within) r w (λ o. joins-fine k within o)
    combines-fine pick within k r s y n w = on_fine k inside (finishes k) r w (λ o. fine-none)
    combines-fine (scope xs v) within k r s y n w = absurd (false≢true (sym s))
    combines-fine (arm a b vs) within k r s y n w = w

    or-fine : (k : ℕ) (o : Order) (x : ℕ → Outcome) (v : Value) → ((n : ℕ) → Fine (x n).log) → Fine (or_raises k o x v).log
    unfolding is_began_of
    or-fine k o x (fault n) h = fine-event (raised k n) [] (λ j. refl) fine-none
    or-fine k o x (value n) h = h n

    -- what begins in its step
    step_part : {within : Acts} {k : ℕ} → k ≡ t → LeadsIn within (k + 1) (in_step k) → (i : ℕ) → i < count within → (ms : List ℕ)
        → Fine (begin_part i within (k + 1) ms).log
    unfolding may_lead
    step_part {k = k} e y i n ms = led-fine (λ j b. eq-eqb k t e) (part-led y i n ms)

    itself-fine : (own : Own) (within : Acts) (q k : ℕ) (o : Order) → is_scope own ≡ false → least own ≤ count within → LeadsIn within (k + 1) (lead_of own k)
        → k ≡ t → Fine (itself own within q k o).log
    unfolding itself kind least is_began_of repeats
    itself-fine empty within q k o s n y e = fine-none
    itself-fine (send a b vs) within q k o s n y e = by-send (λ r. Fine r.log) a b vs within q k o fine-none (λ x. fine-event (raised k x) [] (λ j. refl) fine-none)
    itself-fine (receive a b vs) within q k o s n y e = fine-none
    itself-fine (setting v x) within q k o s n y e = or-fine k o _ (evaluate x o) (λ i. fine-none)
    itself-fine (raise number) within q k o s n y e = fine-event (raised k number) [] (λ j. refl) fine-none
    itself-fine leave within q k o s n y e = fine-event left [] (λ j. refl) fine-none
    itself-fine (choose x) within q k o s n y e = or-fine k o _ (evaluate x o) (λ z. let o₁ = marked k inside o in where-fine (finishes k) (begun_in o₁ (begin_part (cond (is_true z) 0 1) within (k + 1) o₁.marks)) (step_part e y (cond (is_true z) 0 1) (second (is_true z)) o₁.marks) (λ o₂. fine-none))
      where
        second : (b : Bool) → cond b 0 1 < count within
        second true = omega arith
        second false = omega arith
    itself-fine (repeat x) within q k o s n y e = or-fine k o _ (evaluate x o) (λ z. choose-fine (is_true z) (repeats k within o) (finishes k o) _ refl body fine-none)
      where
        body : Fine (repeats k within o).log
        body =
            let o₁ = marked k inside (with_marks (cleared (k + 1) (sizes within) o.marks) o) in
            where-fine (again k) (begun_in o₁ (begin_part 0 within (k + 1) o₁.marks)) (step_part e y 0 (omega arith) o₁.marks) (λ o₂. fine-none)
    itself-fine sequence within q k o s n y e = fine-none
    itself-fine flow within q k o s n y e = fine-none
    itself-fine pick within q k o s n y e = fine-none
    itself-fine (scope xs v) within q k o s n y e = absurd (false≢true (sym s))
    itself-fine (arm a b vs) within q k o s n y e = step_part e y 0 (omega arith) o.marks

    closing-fine : (v : Bool) (q k : ℕ) (s : Scope) (o : Order) → Fine (closing v q k s o).log
    unfolding closing is_began_of
    closing-fine v q k s o = fine-event (closed k) [] (λ j. refl) fine-none

    in-scope-fine : (xs : List ℕ) (v : Bool) (within : Acts) (k : ℕ) (r : Outcome) → Part (scope_at xs k within) → Fine r.log → Fine (in_scope xs v k t within r).log
    unfolding in_scope from_undo
    in-scope-fine xs v within k r h w =
        let s = scope_at xs k within in
        choose-fine (ltb t (part_at 1 within (k + 1))) (elim (goes_through v k r) [ true ↦ r | false ↦ from_body s r ]) (elim (ltb t (part_at (undo_part xs) within (k + 1))) [ true ↦ from_fault s r | false ↦ from_undo r ]) _ refl
        (choose-fine (goes_through v k r) r (from_body s r) _ refl w (body-fine s h r w))
        (choose-fine (ltb t (part_at (undo_part xs) within (k + 1))) (from_fault s r) (from_undo r) _ refl (fault-fine s h r w) w)

    case-fine : (v : Bool) (x y z : Outcome) → z ≡ elim v [ true ↦ x | false ↦ y ] → (v ≡ true → Fine x.log) → (v ≡ false → Fine y.log) → Fine z.log
    case-fine true x y z e w v = subst (λ (r : Outcome). Fine r.log) (sym e) (w refl)
    case-fine false x y z e w v = subst (λ (r : Outcome). Fine r.log) (sym e) (v refl)

    -- a raise in its place begins nothing
    performs-fine : (actor : Actor) (own : Own) (within : Acts) (q k : ℕ) (o : Order) → Fine (itself own within q k o).log → Fine (performs actor own within q k o).log
    unfolding performs is_began_of
    performs-fine actor own within q k o w =
        choose-fine (replaces actor (kind own)) (raises conflicting_receive k o) (itself own within q k o) _ refl (fine-event (raised k conflicting_receive) [] (λ j. refl) fine-none) w

    mutual
      unfolding step_in itself combines kind size

      step-fine : (actor : Actor) {a : Act} {k : ℕ} → Leads a k → (q : ℕ) (o : Order) → k ≤ t → Fine (step_in actor a q k t o).log
      step-fine actor (leads-part {own} {within} {k} s n y) q o m =
          case-fine (eqb k t) (performs actor own within q k o) (combines own within k t (step_among actor within (is_scope own) q (k + 1) t (arms own within k t o))) _ refl
          (λ e. performs-fine actor own within q k o (itself-fine own within q k o s n y (eqb-true k t e)))
          (λ e. combines-fine own within k (step_among actor within (is_scope own) q (k + 1) t (arms own within k t o)) s y (below e) (among-fine actor y (is_scope own) q (arms own within k t o) (below e)))
        where
          below : eqb k t ≡ false → k + 1 ≤ t
          below e = let z = eqb-false k t e in omega arith
      step-fine actor (leads-scope {xs} {v = v₀} {b} {l} {k} x n hb hl) q o m =
          case-fine (eqb k t) (performs actor (scope xs v₀) (more b l) q k o) (in_scope xs v₀ k t (more b l) (step_among actor (more b l) true q (k + 1) t (arms (scope xs v₀) (more b l) k t o))) _ refl
          (λ e. subst (λ (r : Outcome). Fine r.log) (sym (scope-performs actor xs v₀ (more b l) q k o)) (closing-fine v₀ q k (scope_at xs k (more b l)) o))
          (λ e. let o₁ = arms (scope xs v₀) (more b l) k t o in
          in-scope-fine xs v₀ (more b l) k (step_among actor (more b l) true q (k + 1) t o₁) (scope-part xs v₀ n hb hl)
          (case-fine (ltb t (k + 1 + size b)) (step_in actor b (k + 1) (k + 1) t o₁) (step_among actor l true q (k + 1 + size b) t o₁) _ refl
          (λ d. step-fine actor hb (k + 1) o₁ (let i = eqb-false k t e in omega arith))
          (λ d. among-fine actor hl true q o₁ (ltb-false t (k + 1 + size b) d))))

      among-fine : (actor : Actor) {l : Acts} {c : ℕ} {q : Lead} → LeadsIn l c q → (v : Bool) (r : ℕ) (o : Order) → c ≤ t → Fine (step_among actor l v r c t o).log
      among-fine actor leads-none v r o m = fine-none
      among-fine actor (leads-more {a} {l} {c} e x y) v r o m =
          case-fine (ltb t (c + size a)) (step_in actor a (cond v c r) c t o) (step_among actor l v r (c + size a) t o) _ refl (λ d. step-fine actor x (cond v c r) o m) (λ d. among-fine actor y v r o (ltb-false t (c + size a) d))

    -- A step of an order.
    pub order-fine : (actor : Actor) (p : Plan) → Leads p.body 0 → Leads p.fault (size p.body) → lead (size p.body) ≡ alone → (o : Order)
        → Fine (acted actor p t o).log
    unfolding acted step_root moved_to is_began_of
    order-fine actor p hb hf e o = go (end_of (step_root actor p t o))
      where
        h : Part (root_of p)
        h = record { body = hb; fault = root-chosen (λ a j. (ms : List ℕ) → Fine (begin a j ms).log) p (λ ms. begin-fine hf e ms) }

        w : Fine (step_root actor p t o).log
        w = case-fine (ltb t (size p.body)) (from_body (root_of p) (step_in actor p.body 0 0 t o)) (from_fault (root_of p) (step_in actor p.fault (size p.body) (size p.body) t o)) (step_root actor p t o) refl
            (λ d. body-fine (root_of p) h (step_in actor p.body 0 0 t o) (step-fine actor hb 0 o (omega arith)))
            (λ d. fault-fine (root_of p) h (step_in actor p.fault (size p.body) (size p.body) t o) (step-fine actor hf (size p.body) o (ltb-false t (size p.body) d)))

        go : (x : End) → Fine (moved_to (step_root actor p t o) x).log
        go None = w
        go Well = fine-append (step_root actor p t o).log (ended root ∷ []) w (fine-event (ended root) [] (λ j. refl) fine-none)
        go Handled = w
        go Failed = w
        go Left = w
