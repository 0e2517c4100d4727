-- What is left to finish is, over any run. Assumes nothing.
use Prim.Native.Nat.{ℕ, ◌+◌, ◌≤◌, ◌<◌}
use native.Mathlib.Omega.{arith}
use mathlib.Core.Path.{◌≡◌, refl, sym, ap, subst, ◌∙◌}
use mathlib.Core.Bool.{Bool, true, false, cond, not, ◌&&◌, ◌||◌, false≢true, or-true}
use mathlib.Core.List.{List, [], ◌∷◌, ◌++◌}
use lib.Dec.{eqb, ltb, leb}
use borrow.Author.Tests.{eqb-true, eq-eqb, lt-ltb, le-leb, ltb-true}
use Rattle.plan.specs.Found.{Found, found}
use Rattle.plan.specs.Read.{read_plan}
use Rattle.plan.specs.Tree.{Own, kind, Act, act, Acts, none, more, Plan, size, sizes, scope, undo_part, count}
use Rattle.plan.proofs.Limits.{accepted-is-within}
use Rattle.order.specs.declared.Order.{Order}
use Rattle.order.specs.declared.End.{End}
use Rattle.order.specs.declared.End.TheVariants.{None, Well, Handled, Failed, Left}
use Rattle.machine.specs.declared.State.{State}
use Rattle.machine.specs.declared.Tally.{Tally}
use Rattle.order.specs.Lists.{every, some}
use Rattle.order.specs.State.{Name, root, inner, no_order}
use Rattle.machine.specs.State.{fresh}
use Rattle.order.specs.Event.{Event, started, began, closed, faulted, stopped, ended, raised, left}
use Rattle.order.specs.Begin.{part, part_at, begin}
use Rattle.order.specs.Acting.{step_root, end_of, moved_to, begun_order, started_order, Actor, its_own, acted}
use Rattle.undoing.proofs.EachTime.{time, OfTimes, OfStarts, each-time}
use Rattle.machine.specs.Calls.{loaded_as, load, post, collect, Stepped, step, Call, posting, collecting, stepping}
use Rattle.undoing.specs.History.{log_of}
use Rattle.undoing.specs.Demand3.{Inner, scopes_in, scopes_among, scopes_of}
use Rattle.undoing.specs.Ties.{is_taken}
use Rattle.undoing.specs.Orderly.{is_began_of}
use Rattle.undoing.specs.Begun.{kind_at, has_began, Taken, taken_by, steps_taken}
use Rattle.undoing.specs.Entirely.{times, is_stop_of, is_local, LeftToFinish, in_parts, beyond_all}
use Rattle.undoing.proofs.Parts.{both, decide, every_append}
use Rattle.undoing.proofs.Choices.{general-is}
use Rattle.undoing.proofs.Landing.{at_last, at-end}
use Rattle.undoing.proofs.Orders.{onto, inner_at}
use Rattle.undoing.proofs.Planning.{Formed, formed-part, formed-scope, FormedIn, formed-none, formed-more, scopes-is, Promised, promised, whole, scopes-scope}
use Rattle.undoing.proofs.Waiting.{Waits, waits-itself, waits-within, WaitsIn, waits-first, waits-later}
use Rattle.undoing.proofs.Roots.{Awaited, in-body, in-fault}
use Rattle.undoing.proofs.Slots.{post-same, collect-same, Sane, same-sane, fresh-sane}
use Rattle.undoing.proofs.Happening.{order_in, with_message, Happens, nothing-here, goes-here, starts-here, step-happens}
use Rattle.undoing.proofs.Demanded.{step_after}
use Rattle.undoing.proofs.BegunTold.{body-knows, fault-knows}
use Rattle.undoing.proofs.Fitting.{waits-to}
use Rattle.undoing.proofs.Entire.{Two}
use Rattle.undoing.proofs.EntirelyTold.{formed-named}
use Rattle.undoing.proofs.Nearing.{Near, near-stands, near-began, near-stopped, near_none, Local, LocalIn, in-append, in-none, all, root-local, start-local}
use lib.ListN.{length}

-- what awaits has one of the numbers
pub awaited-to : {p : Plan} {ms : List ℕ} {t : ℕ} → Awaited p ms t → t < size p.body + size p.fault
awaited-to (in-body e w) = omega arith
awaited-to (in-fault e w) = waits-to w

-- none of which a test holds begins
none-some : (f : ℕ → Bool) (l : List Event) → ((j : ℕ) → f j ≡ true → times j l ≡ 0) → some (is_began_of f) l ≡ false
unfolding some times is_began_of
none-some f [] z = refl
none-some f (started ∷ l) z = none-some f l (λ j x. let e = z j x in omega arith)
none-some f (began i ∷ l) z =
    decide (f i)
    (λ e. absurd (let y = z i e in let w : 1 + times i l ≡ 0 = rw (eq-eqb i i refl) at y in omega arith))
    (λ e. rw e (none-some f l (λ j x. decide (eqb j i)
    (λ d. absurd (let v = z j x in let w : 1 + times j l ≡ 0 = rw d at v in omega arith))
    (λ d. let v = z j x in let w : 0 + times j l ≡ 0 = rw d at v in omega arith))))
none-some f (closed i ∷ l) z = none-some f l (λ j x. let e = z j x in omega arith)
none-some f (faulted n x ∷ l) z = none-some f l (λ j x. let e = z j x in omega arith)
none-some f (stopped i ∷ l) z = none-some f l (λ j x. let e = z j x in omega arith)
none-some f (ended n ∷ l) z = none-some f l (λ j x. let e = z j x in omega arith)
none-some f (raised i x ∷ l) z = none-some f l (λ j x. let e = z j x in omega arith)
none-some f (left ∷ l) z = none-some f l (λ j x. let e = z j x in omega arith)

-- where a scope ends
pub scope-end : (xs : List ℕ) (v : Bool) (b : Act) (l : Acts) → count l ≡ length xs + cond v 2 1 → (k : ℕ) (n : Name) (ns : List Name)
    → beyond_all (inner_at xs v k n ns (more b l)) ≡ k + (1 + sizes (more b l))
unfolding count
scope-end xs true b l many k n ns = omega (arith, at_last (undo_part xs) (more b l) (k + 1) (omega (arith, general-is xs)))
scope-end xs false b l many k n ns = omega (arith, at-end (undo_part xs) (more b l) (k + 1) (omega (arith, general-is xs)))

module _ (x : Taken) where
  near-told : (xs : List ℕ) (v : Bool) (b : Act) (l : Acts) → count l ≡ length xs + cond v 2 1 → (k : ℕ) (n : Name) (ns : List Name)
      → Near x.activity x.log v k (part_at 1 (more b l) (k + 1)) (part_at (undo_part xs) (more b l) (k + 1)) (k + size (act (scope xs v) (more b l)))
      → is_local x (inner_at xs v k n ns (more b l)) ≡ true
  unfolding is_local size
  near-told xs v b l r k n ns (near-stands h e) =
      rw (le-leb k x.activity h, lt-ltb x.activity (beyond_all (inner_at xs v k n ns (more b l))) (subst (λ (i : ℕ). x.activity < i) (sym (scope-end xs v b l r k n ns)) e))
  near-told xs v b l r k n ns (near-began h) = rw (h, or-true)
  near-told xs v b l r k n ns (near-stopped h) = rw (h, or-true, or-true)
  near-told xs v b l r k n ns (near_none h) =
      let u = part_at (undo_part xs) (more b l) (k + 1) in
      rw (
        none-some (in_parts (inner_at xs v k n ns (more b l))) x.log
            (λ j e. both (ltb k j && ltb j u) (v || (eqb j (k + 1) || leb (part_at 1 (more b l) (k + 1)) j)) e (λ c d. both (ltb k j) (ltb j u) c (λ y z. h j (ltb-true k j y) (ltb-true j u z) d))),
        or-true,
        or-true,
      )

  mutual
    unfolding Local scopes_in every kind

    local-told : {h r : Bool} {a : Act} → Formed h r a → (k : ℕ) (n : Name) (ns : List Name) → Local x.activity x.log a k → every (is_local x) (scopes_in a k n ns) ≡ true
    local-told (formed-part {own = own} {within = within} s i g y) k n ns w =
        subst (λ (l : List Inner). every (is_local x) l ≡ true) (sym (scopes-is own within k n ns false s)) (in_told y (k + 1) n ns w.other)
    local-told (formed-scope {xs = xs} {v = v} {b = b} {f = g} {u = u} few many fb fl) k n ns w =
        subst (λ (l : List Inner). every (is_local x) l ≡ true) (sym (scopes-scope xs v b fl k n ns))
        (rw (near-told xs v b (more g u) many k n ns (w.one refl)) (local-told fb (k + 1) (inner k) (cond v [] (n ∷ ns)) w.other.one))

    in_told : {h r : Bool} {l : Acts} → FormedIn h r l → (c : ℕ) (n : Name) (ns : List Name) → LocalIn x.activity x.log l c → every (is_local x) (scopes_among l c n ns) ≡ true
    in_told formed-none c n ns w = refl
    in_told (formed-more {a = a} {l = l} y z) c n ns w =
        every_append (is_local x) (scopes_in a c n ns) (scopes_among l (c + size a) n ns) (local-told y c n ns w.one) (in_told z (c + size a) n ns w.other)

module _ (p : Plan) (h : Promised p) where
  order-local : (actor : Actor) (t : ℕ) (o : Order) → t < size p.body + size p.fault → LocalIn t (acted actor p t o).log (more p.body (more p.fault none)) 0
  unfolding acted moved_to times is_began_of
  order-local actor t o n = go (end_of (step_root actor p t o))
    where
      w : LocalIn t (step_root actor p t o).log (more p.body (more p.fault none)) 0
      w = root-local t (kind_at p) p (body-knows p h) (fault-knows p h) (formed-named (kind_at p) h.fault) actor o n

      go : (e : End) → LocalIn t (moved_to (step_root actor p t o) e).log (more p.body (more p.fault none)) 0
      go None = w
      go Well = in-append t (step_root actor p t o).log (ended root ∷ []) _ 0 w (in-none t (ended root ∷ []) _ 0 (λ j. refl))
      go Handled = w
      go Failed = w
      go Left = w

  starts-local : (actor : Actor) (t : ℕ) (o : Order) → t < size p.body + size p.fault → LocalIn t ((started ∷ (begun_order p).log) ++ (acted actor p t o).log) (more p.body (more p.fault none)) 0
  unfolding begun_order times is_began_of
  starts-local actor t o n =
      in-append t (started ∷ (begin p.body 0 no_order.marks).log) (acted actor p t o).log _ 0
      (in-append t (started ∷ []) (begin p.body 0 no_order.marks).log _ 0 (in-none t (started ∷ []) _ 0 (λ j. refl))
      (start-local t (kind_at p) p (body-knows p h) (fault-knows p h) (formed-named (kind_at p) h.fault) (formed-named (kind_at p) h.body) no_order.marks))
      (order-local actor t o n)

  taken-local : (x : Taken) → LocalIn x.activity x.log (more p.body (more p.fault none)) 0 → every (is_local x) (scopes_of p) ≡ true
  unfolding Local
  taken-local x w = subst (λ (l : List Inner). every (is_local x) l ≡ true) (sym (whole p h.body h.fault)) (local-told x h.body 0 root [] w.one)

  near-time : OfTimes p (λ x. every (is_local x) (scopes_of p))
  near-time actor t o o' past like a st g = taken-local (time t o [] (acted actor p t o')) (order-local actor t o' (awaited-to a))

  near-start : OfStarts p (λ x. every (is_local x) (scopes_of p))
  near-start t m o past z n a =
      let o' = with_message p t m (started_order p) in
      taken-local (time t o (started ∷ (begun_order p).log) (acted its_own p t o')) (starts-local its_own t o' (awaited-to a))

-- Left to finish.
pub left-to-finish : LeftToFinish
unfolding LeftToFinish
left-to-finish = each-time (λ p x. every (is_local x) (scopes_of p)) near-time near-start
