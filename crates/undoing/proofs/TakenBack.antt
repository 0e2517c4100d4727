-- What closed directly inside the root is taken back once for each closing, the latest first, by the answers alone, over any run. Assumes nothing.
use Prim.Native.Nat.{ℕ, zero, suc}
use native.Mathlib.Omega.{arith}
use mathlib.Core.Path.{◌≡◌, refl, sym, ap, subst, ◌∙◌}
use mathlib.Core.Bool.{Bool, true, false, cond, false≢true}
use mathlib.Core.List.{List, [], ◌∷◌, ◌++◌}
use lib.ListN.{get_or}
use lib.Dec.{eqb}
use borrow.Author.Tests.{eqb-true}
use Rattle.plan.specs.Found.{Found, found}
use Rattle.plan.specs.Read.{read_plan}
use Rattle.plan.specs.Tree.{Plan}
use Rattle.plan.proofs.Limits.{accepted-is-within}
use Rattle.order.specs.declared.Order.{Order}
use Rattle.order.specs.declared.End.{End}
use Rattle.order.specs.declared.End.TheVariants.{None, Well, Handled, Failed, Left}
use Rattle.machine.specs.declared.State.{State}
use Rattle.machine.specs.declared.Step.{Step}
use Rattle.machine.specs.declared.Tally.{Tally}
use Rattle.order.specs.Lists.{only}
use Rattle.order.specs.State.{root, done, is_live, no_order}
use Rattle.machine.specs.State.{fresh}
use Rattle.order.specs.Event.{Event, started}
use Rattle.order.specs.declared.Way.{Way as Result}
use Rattle.order.specs.declared.Way.TheVariants.{Running as running, Over as over, Raising as raising, Leaving as leaving, Undone as undone, UndoRaising as undo_raising}
use Rattle.order.specs.Scope.{Outcome, root_of}
use Rattle.order.specs.Acting.{Actor, its_own, in_place, step_root, end_of, Moved, moved_to, acted, begun_order, started_order}
use Rattle.order.specs.Judging.{Verdict, clear, clash, conflict, following, upon, judged, spare, settled, step_order}
use Rattle.machine.specs.Calls.{loaded_as, load, post, collect, drop_at, Stepped, doing_at, step, Call, posting, collecting, dropping, stepping}
use Rattle.undoing.specs.History.{log_of}
use Rattle.undoing.specs.Ties.{is_taken, end_list, end_by}
use Rattle.undoing.specs.Answered.{Book, nothing_due, noted, may_note, settles, turned, in_order, answered, TakenBackOnce}
use Rattle.undoing.proofs.Parts.{both}
use Rattle.undoing.proofs.Moves.{HoldsAt}
use Rattle.undoing.proofs.Orders.{moment_of, onto}
use Rattle.undoing.proofs.Scoping.{scope_live, scope-done, scope-turned, Running, StepsAs}
use Rattle.undoing.proofs.Roots.{Awaited, Standing, root-steps, EndedAs, Passed, passes_on, passes-end}
use Rattle.undoing.proofs.Planning.{Promised, promised}
use Rattle.undoing.proofs.Judged.{Fitting, root-mild, OnClash, Higher, conflict-awaited, passed-joined, passed-stands, passed-once}
use Rattle.undoing.proofs.Slots.{standing-live, fresh-order, Alike, taking-alike, alike-awaited, alike-stands, alike-holds, taken_step, order-starts, post-same, collect-same, drop-same, Sane, same-sane, fresh-sane}
use Rattle.undoing.proofs.Happening.{order_in, with_message, Happens, nothing-here, goes-here, starts-here, step-happens}
use Rattle.undoing.proofs.Demanded.{step_after}
use Rattle.undoing.proofs.Marks.{turned-not-open}
use Rattle.undoing.proofs.Owing.{undo_left_in, undo-run}
use Rattle.undoing.proofs.Booked.{none-owed, begun_mark, Agrees, SettledAs, Settled, written, May, root-right}

-- what the book says after a step that ended so
abbrev Next : Plan → End → Order → Book → Type 0
Next p None o b = Agrees p o b
Next p Well o b = Unit {0}
Next p Handled o b = Unit {0}
Next p Failed o b = Unit {0}
Next p Left o b = Unit {0}

-- an answer's end, by its list
abbrev pub end_in : List End → End
end_in [] = None
end_in (e ∷ l) = e

pub end-in : (e : End) → end_in (end_list e) ≡ e
end-in None = refl
end-in Well = refl
end-in Handled = refl
end-in Failed = refl
end-in Left = refl

-- what stands in a slot and the book that is kept of it
data Books (p : Plan) (o : Order) (a : Book) : Type 0 where
  books-free : is_live o ≡ false → a ≡ nothing_due → Books p o a
  books-live : is_live o ≡ true → Agrees p o a → Books p o a

-- what the step of an order comes to: no undo part is around the root
abbrev Ends : Result → Type 0
Ends running = Unit {0}
Ends over = Unit {0}
Ends (raising x) = Unit {0}
Ends leaving = Unit {0}
Ends undone = ⊥
Ends (undo_raising x) = ⊥

module _ (p : Plan) (h : Promised p) where
  not-undone : (l : List Event) (o o' : Order) (x : Result) → StepsAs p (root_of p) (Running (root_of p)) o l o' x → Ends x
  not-undone l o o' running c = tt
  not-undone l o o' over c = tt
  not-undone l o o' (raising x) c = tt
  not-undone l o o' leaving c = tt
  not-undone l o o' undone c = c
  not-undone l o o' (undo_raising x) c = c

  -- the outcome of a step, as the order's end
  settled-end : (b : Book) (r : Outcome) → Ends r.result → Settled p b.due b.begun r
      → (settles (moved_to r (end_of r)).end b ≡ true) × Next p (moved_to r (end_of r)).end (moved_to r (end_of r)).order b
  unfolding moved_to end_of settles
  settled-end b r v c = go r.result v c
    where
      ended-well : (z : Bool) → eqb r.order.root done ≡ z → SettledAs p b.due b.begun r.order running
          → (settles (moved_to (record { result = running; order = r.order; log = r.log }) (cond z Well None)).end b ≡ true)
          × Next p (moved_to (record { result = running; order = r.order; log = r.log }) (cond z Well None)).end (moved_to (record { result = running; order = r.order; log = r.log }) (cond z Well None)).order b
      ended-well true e c = (rw (c.1 (ap begun_mark (eqb-true r.order.root done e))), tt)
      ended-well false e c = (refl, record { due = c.0; calm = c.1 })

      go : (x : Result) → Ends x → SettledAs p b.due b.begun r.order x
          → (settles (moved_to (record { result = x; order = r.order; log = r.log }) (end_of (record { result = x; order = r.order; log = r.log }))).end b ≡ true)
          × Next p (moved_to (record { result = x; order = r.order; log = r.log }) (end_of (record { result = x; order = r.order; log = r.log }))).end (moved_to (record { result = x; order = r.order; log = r.log }) (end_of (record { result = x; order = r.order; log = r.log }))).order b
      go running v c = ended-well (eqb r.order.root done) refl c
      go over v c = (rw c, tt)
      go (raising x) v c = (refl, tt)
      go leaving v c = (refl, tt)
      go undone v c = absurd v
      go (undo_raising x) v c = absurd v

  -- an order that has taken its message agrees with the book as it did before
  agrees-so : (o o' : Order) (a : Book) → Alike p o o' → Agrees p o a → Agrees p o' a
  agrees-so o o' a e g =
      record {
        due = rw (e.marks, (e.everywhere root refl).1) g.due;
        calm = λ x. g.calm (ap begun_mark (sym e.root) ∙ x);
      }

  -- an order after a step or a raise in place of a receive, and what is written down of it then
  abbrev Kept : Book → Moved → Type 0
  Kept b m = (settles m.end b ≡ true) × Next p m.end m.order b

  -- once through the order
  acted-right : (actor : Actor) (t : ℕ) (o : Order) (past : List Event) (a : Book) → Fitting actor p t → Awaited p o.marks t → Standing p o → HoldsAt p (moment_of p o) past → Agrees p o a
      → May actor p t a × Kept (written actor p t a) (acted actor p t o)
  unfolding acted
  acted-right actor t o past a v w st g ag =
      let m = root-mild p o past g in
      let r = root-right p h actor t o past a v w st m.0 m.1 g ag in
      let y = not-undone (step_root actor p t o).log o (step_root actor p t o).order (step_root actor p t o).result (root-steps p actor h.seat t o w st m.0 m.1).comes in
      (r.0, settled-end (written actor p t a) (step_root actor p t o) y r.1)

  -- What is judged: nothing is written down of the raises.
  judged-right : (b : Book) (n : ℕ) (past : List Event) (m : Moved) → Passed p past m → Kept b m → Kept b (judged n p m)
  unfolding judged
  judged-right b zero past m w q = q
  judged-right b (suc n) past m w q = go (λ m' w' q'. judged-right b n past m' w' q') m.end refl
    where
      on : ((m' : Moved) → Passed p past m' → Kept b m' → Kept b (judged n p m')) → m.end ≡ None → (v : Verdict) → OnClash (Higher p m.order) v → Kept b (upon (judged n p) p m v)
      on f e clear c = q
      on f e (clash k) c =
          let s = passed-stands p past m e w in
          let l = onto m.log past in
          let m' = acted in_place p k m.order in
          f (following m.log m') (passed-joined p past m m' e w (passed-once p h in_place k m.order l c.0 s.0 s.1))
          (acted-right in_place k m.order l b c.1 c.0 s.0 s.1 (subst (λ (x : End). Next p x m.order b) e q.1)).1

      go : ((m' : Moved) → Passed p past m' → Kept b m' → Kept b (judged n p m')) → (e : End) → m.end ≡ e
          → Kept b (elim e [ None ↦ upon (judged n p) p m (conflict p m.order) | Well ↦ m | Handled ↦ m | Failed ↦ m | Left ↦ m ])
      go f None e = on f e (conflict p m.order) (conflict-awaited p m.order)
      go f Well e = q
      go f Handled e = q
      go f Failed e = q
      go f Left e = q

  step_right : (t : ℕ) (o o' : Order) (past : List Event) (a : Book) → Alike p o o' → Awaited p o.marks t → Standing p o → HoldsAt p (moment_of p o) past → Agrees p o a
      → (may_note p root t a ≡ true) × Kept (noted p root t a) (step_order p t o')
  unfolding step_order settled
  step_right t o o' past a e w st g ag =
      let w' = alike-awaited e t w in
      let st' = alike-stands p o o' e st in
      let g' = alike-holds e past g in
      let r = acted-right its_own t o' past a tt w' st' g' (agrees-so o o' a e ag) in
      (r.0, judged-right (noted p root t a) (spare p (acted its_own p t o').order) past (acted its_own p t o') (passed-once p h its_own t o' past w' st' g') r.1)

  -- the book afterwards
  book-after : (m : Moved) (past : List Event) (b : Book) → Passed p past m → Next p m.end m.order b → Books p m.order (turned m.end b)
  unfolding no_order
  book-after m past b (passes_on r d z y) n =
      subst (λ (e : End). Books p m.order (turned e b)) (sym d) (books-live (standing-live p m.order z) (subst (λ (e : End). Next p e m.order b) d n))
  book-after m past b (passes-end r d z) n = go m.end z
    where
      go : (e : End) → EndedAs p e (onto m.log past) → Books p m.order (turned e b)
      go None z = absurd z
      go Well z = books-free (ap is_live d) refl
      go Handled z = books-free (ap is_live d) refl
      go Failed z = books-free (ap is_live d) refl
      go Left z = books-free (ap is_live d) refl

  -- an order that starts agrees with a new book
  started-agrees : Standing p (started_order p) → Agrees p (started_order p) nothing_due
  unfolding started_order no_order only
  started-agrees st = record { due = none-owed p (started_order p) (go st.runs) refl; calm = λ x. refl }
    where
      go : Running (root_of p) (started_order p).marks (started_order p).root → undo_left_in p.body 0 (started_order p).marks ≡ []
      go (scope_live d r q) = undo-run h.seat.body r
      go (scope-done d r q) = absurd (let z : ◌≡◌ {A = ℕ} 1 3 = d in omega arith)
      go (scope-turned t) = absurd (false≢true (sym (turned-not-open t)))

  module _ (bytes : List ℕ) (next i : ℕ) (accepted : read_plan bytes ≡ found p next) where
    -- the answers of a step in the slot, if it is one, and the book after them
    abbrev Noted : State → Stepped → Book → Type 0
    Noted s r a = (rest : List Step) → ((b : Book) → Books p (order_in r.state i) b → in_order p b rest ≡ true) → in_order p a (cond (is_taken i r) (r.answer ∷ []) [] ++ rest) ≡ true

    taken-end : (r : Stepped) (e : End) → is_taken i r ≡ true → end_by i r ≡ end_list e → r.answer.end ≡ e
    taken-end r e q d =
        both (eqb r.answer.refusal 0) (eqb r.answer.slot i) q
        (λ x y. sym (end-in r.answer.end) ∙ (ap end_in (let z : end_list r.answer.end ≡ end_list e = rw y at d in z) ∙ end-in e))

    answer-noted : (s : State) (r : Stepped) (a : Book) (t : ℕ) (m : Moved) (past : List Event) → (is_taken i r ≡ true) × (r.answer.activity ≡ t) → end_by i r ≡ end_list m.end → order_in r.state i ≡ m.order
        → may_note p root t a ≡ true → settles m.end (noted p root t a) ≡ true → Next p m.end m.order (noted p root t a) → Passed p past m → Noted s r a
    unfolding in_order
    answer-noted s r a t m past q e d x y z w rest f =
        rw (q.0, q.1, taken-end r m.end q.0 e, x, y)
        (f (turned m.end (noted p root t a)) (subst (λ (o : Order). Books p o (turned m.end (noted p root t a))) (sym d) (book-after m past (noted p root t a) w z)))

    happens-noted : (s : State) (past : List Event) (r : Stepped) (a : Book) → Happens p i s past r → Books p (order_in s i) a → Noted s r a
    happens-noted s past r a (nothing-here n l e d) b rest f = rw n (f a (subst (λ (o : Order). Books p o a) (sym d) b))
    happens-noted s past r a (goes-here t m q w st k y l e d) (books-free n z) rest f = absurd (false≢true (sym n ∙ standing-live p (order_in s i) st))
    happens-noted s past r a (goes-here t m q w st k y l e d) (books-live n ag) rest f =
        let o = order_in s i in
        let v = taking-alike p (doing_at p t) m o in
        let x = step_right t o (with_message p t m o) past a v w st y ag in
        answer-noted s r a t (step_order p t (with_message p t m o)) past (q.0, q.1) e d x.0 x.1.0 x.1.1 (taken_step p h t o (with_message p t m o) past v w st y) rest f
    happens-noted s past r a (starts-here t m q w z n l e d) (books-live c ag) rest f = absurd (false≢true (sym z ∙ c))
    happens-noted s past r a (starts-here t m q w z n l e d) (books-free c y) rest f =
        let o = started_order p in
        let l₀ = started ∷ (begun_order p).log in
        let v = taking-alike p (doing_at p t) m o in
        let b = order-starts p h t past n w in
        let x = step_right t o (with_message p t m o) (onto l₀ past) a v w b.1 b.2 (subst (λ (a : Book). Agrees p o a) (sym y) (started-agrees b.1)) in
        answer-noted s r a t (step_order p t (with_message p t m o)) (onto l₀ past) (q.0, q.1) e d x.0 x.1.0 x.1.1 (taken_step p h t o (with_message p t m o) (onto l₀ past) v w b.1 b.2) rest f

    -- over any calls
    all_noted : (calls : List Call) (s : State) (t : Tally) (past : List Event) (a : Book) → Sane p bytes next i accepted h s past → Books p (order_in s i) a → in_order p a (answered calls i s t) ≡ true
    unfolding answered in_order
    all_noted [] s t past a g b = refl
    all_noted (posting m ∷ l) s t past a g b =
        all_noted l (post m s).state t past a (same-sane p bytes next i accepted h s (post m s).state past (post-same m s) g) (subst (λ (os : List Order). Books p (get_or os i no_order) a) (sym (post-same m s).orders) b)
    all_noted (collecting ∷ l) s t past a g b =
        all_noted l (collect s).state t past a (same-sane p bytes next i accepted h s (collect s).state past (collect-same s) g) (subst (λ (os : List Order). Books p (get_or os i no_order) a) (sym (collect-same s).orders) b)
    all_noted (dropping j ∷ l) s t past a g b =
        all_noted l (drop_at j s).state t past a (same-sane p bytes next i accepted h s (drop_at j s).state past (drop-same j s) g) (subst (λ (os : List Order). Books p (get_or os i no_order) a) (sym (drop-same j s).orders) b)
    all_noted (stepping c ∷ l) s t past a g b =
        let r = step c s t in
        happens-noted s past r a (step-happens p bytes next i accepted h c s t past g).happens b (answered l i r.state r.tally)
        (λ a₁ b₁. all_noted l r.state r.tally (onto (log_of i r) past) a₁ (step_after p bytes next i accepted h c s t past g).1 b₁)

-- nothing stands in a fresh slot
pub fresh-free : (bytes : List ℕ) (i : ℕ) → is_live (order_in (fresh bytes) i) ≡ false
unfolding no_order fresh
fresh-free bytes i = ap is_live (fresh-order i)

-- The answers alone.
pub taken-back-once : TakenBackOnce
unfolding TakenBackOnce load
taken-back-once bytes p next e calls slot t =
    subst (λ (f : Found Plan). in_order p nothing_due (answered calls slot (loaded_as bytes f).state t) ≡ true) (sym e)
    (let h = promised p (accepted-is-within bytes e) in
    all_noted p h bytes next slot e calls (fresh bytes) t [] nothing_due (fresh-sane p bytes next slot e h) (books-free (fresh-free bytes slot) refl))
