-- "Its body stops": at every depth what is stopped stands so, and all that it logs is right. Assumes nothing.
use Prim.Native.Nat.{ℕ, ◌+◌, ◌≤◌}
use native.Mathlib.Omega.{arith}
use mathlib.Core.Path.{◌≡◌, refl, sym, ap, subst, ◌∙◌}
use mathlib.Core.Bool.{Bool, true, false, cond}
use mathlib.Core.List.{List, [], ◌∷◌, ◌++◌}
use lib.ListN.{length, length-set}
use lib.Seq.{get_or-set_same, get_or-set_other}
use borrow.Author.Tests.{ne_eqb}
use Rattle.plan.specs.Tree.{Own, kind, is_scope, numbers_of, Act, act, Acts, more, Plan, size, sizes, scope}
use Rattle.order.specs.declared.Order.{Order}
use Rattle.order.specs.declared.End.TheVariants.{None}
use Rattle.order.specs.State.{Name, root, inner, idle, halted, mark_at, marked, mark_of}
use Rattle.order.specs.Event.{stopped}
use Rattle.order.specs.Begin.{part, part_at}
use Rattle.order.specs.declared.Way.{Way as Result}
use Rattle.order.specs.declared.Way.TheVariants.{Running as running, Over as over, Raising as raising, Leaving as leaving, Undone as undone, UndoRaising as undo_raising}
use Rattle.order.specs.Scope.{Outcome, Scope, chosen_at, scope_at, is_open, turns, untouched, withdraws, stop, stop_all, stop_first}
use Rattle.order.specs.Scope as definitions
use Rattle.undoing.specs.Demand3.{inside_of}
use Rattle.undoing.specs.Ties.{Place, body_of, fault_of, undo_of, name_of}
use Rattle.undoing.proofs.Accounts.{waits, phase, Known}
use Rattle.undoing.proofs.Moves.{Spot, move-stop}
use Rattle.undoing.proofs.Marks.{trio, spread, Quiet, Kept, Stopped, stopped-part, stopped-quiet, stopped-scope, StoppedIn, stopped_none, stopped_more, Stoppable, StoppableIn, able-more, quiet-part, quiet-agree, quiet-join, agree-below, agree-above, kept-wider, kept_then, kept-itself, kept_set, stopped-agree, stoppable-agree, stoppable-in-agree, parts-stoppable, Found, found-quiet, found-open, found-turned, scope-found}
use Rattle.undoing.proofs.Orders.{moment_of, Does, does-then, does-nothing, does-one, plain-marked, marked-elsewhere, directs, inner_at, before_of, Faulty, Remedy, Healers, Sits, sits-part, sits-scope, SitsIn, sits-none, sits-more}
use Rattle.undoing.proofs.Remedies.{healer, healers-there, healers-names, chosen_on, chosen-most, chosen_is, chosen-at-is, choice-known, part-known}
use Rattle.undoing.proofs.Beginning.{quiet-set, quiet-cons}
use Rattle.undoing.proofs.Seats.{Seat, mark-kept}
use Rattle.undoing.proofs.Turning.{TurnsAs, Turns, turns-on}

pub record Stops (p : Plan) (S : List ℕ → Type 0) (k n : ℕ) (o : Order) (r : definitions.Stopped) : Type 0 where
  pub kept : Kept k n o.marks r.order.marks
  pub rooted : r.order.root ≡ o.root
  pub stands : S r.order.marks
  pub does : Does p None o r.log r.order

-- an inner scope in its plan
pub seat-of : {p : Plan} {xs : List ℕ} {v : Bool} {n c : Name} {ns : List Name} {b f : Act} {u : Acts} {k : ℕ} → Known p (inner_at xs v k n ns (trio b f u)) → Spot p (body_of n ns c) k
    → inside_of p (inner k) ≡ directs b (k + 1) (inner k) (cond v [] (n ∷ ns))
    → Sits p (body_of (inner k) (cond v [] (n ∷ ns)) (cond v n c)) b (k + 1)
    → Healers p (inner k) xs v (fault_of (inner k) (cond v [] (n ∷ ns)) (cond v n c)) (undo_of n ns c) (more f u) (k + 1 + size b) → Seat p (scope_at xs k (trio b f u))
unfolding part part_at
seat-of {p} {xs} {v} {n} {c} {ns} {b} {f} {u} {k} kn w i sb z =
    record {
      name = kn.name;
      beyond = cond v [] (n ∷ ns);
      around = cond v n c;
      inside = i;
      body = sb;
      faulty = λ y. subst (λ (j : ℕ). Faulty p (inner k) j) (sym (chosen-at-is xs k b f u y)) (healer z (chosen_on xs y) (chosen-most xs y)).0;
      fault = λ y.
          subst (λ (a : Act). Remedy p (fault_of (inner k) (cond v [] (n ∷ ns)) (cond v n c)) a (chosen_at y (scope_at xs k (trio b f u)))) (sym (chosen_is xs k b f u y))
          (subst (λ (j : ℕ). Remedy p (fault_of (inner k) (cond v [] (n ∷ ns)) (cond v n c)) (part (chosen_on xs y) (more f u)) j) (sym (chosen-at-is xs k b f u y)) (healer z (chosen_on xs y) (chosen-most xs y)).1);
      chosen = λ y. record { is = chosen_is xs k b f u y; at = chosen-at-is xs k b f u y; there = omega (arith, chosen-most xs y, healers-there z) };
      choice = λ x. sym (choice-known kn x);
      numbered = λ x. part-known b f u kn (healers-there z) x;
      bare = λ j x y. healers-names z j x y;
      after = refl;
      before = omega arith;
      at = refl;
    }

-- a stop, by whether an activity is a scope, and whether that is open
pub stop_is : (own : Own) (within : Acts) (k : ℕ) (o : Order) (x y : Bool) → is_scope own ≡ x → is_open (mark_at k o) ≡ y
    → stop (act own within) k o
    ≡ elim x [
      | true ↦ elim y [ true ↦ withdraws k (scope_at (numbers_of own) k within) (stop_first within (k + 1) (marked k halted o)) | false ↦ untouched o ]
      | false ↦ stop_all within (k + 1) (marked k idle o)
    ]
unfolding stop
stop_is own within k o x y e d =
    subst (λ (z : Bool). stop (act own within) k o
    ≡ elim x [
      | true ↦ elim z [ true ↦ withdraws k (scope_at (numbers_of own) k within) (stop_first within (k + 1) (marked k halted o)) | false ↦ untouched o ]
      | false ↦ stop_all within (k + 1) (marked k idle o)
    ]) d
    (subst (λ (z : Bool). stop (act own within) k o
    ≡ elim z [
      | true ↦ elim (is_open (mark_at k o)) [ true ↦ withdraws k (scope_at (numbers_of own) k within) (stop_first within (k + 1) (marked k halted o)) | false ↦ untouched o ]
      | false ↦ stop_all within (k + 1) (marked k idle o)
    ]) e refl)

module _ (p : Plan) where
  -- a scope that is open is stopped, its body having stopped so
  withdrawn : {n c : Name} {ns : List Name} {v : Bool} (xs : List ℕ) (x : Bool) (b f : Act) (u : Acts) (k : ℕ) (o : Order) → Known p (inner_at xs x k n ns (trio b f u)) → Spot p (body_of n ns c) k → phase (mark_of n o) ≡ waits v
      → Seat p (scope_at xs k (trio b f u))
      → is_open (mark_at k o) ≡ true → Quiet o.marks (k + 1 + size b) (size f + sizes u) → k + (spread b f u) ≤ length o.marks
      → (r : definitions.Stopped) → Stops p (λ ms. Stopped ms b (k + 1)) (k + 1) (size b) (marked k halted o) r
      → Stops p (λ ms. Stopped ms (act (scope xs x) (trio b f u)) k) k (spread b f u) o
      (withdraws k (scope_at xs k (trio b f u)) r)
  unfolding withdraws part part_at size
  withdrawn {n} xs x b f u k o kn y z h e q m r s = go t.result v.comes
    where
      s₁ : Scope
      s₁ = scope_at xs k (trio b f u)

      t : Outcome
      t = turns false s₁ r.order

      first : Does p None o (stopped k ∷ []) (marked k halted o)
      first =
          does-one (λ past g. move-stop p (moment_of p o) (moment_of p (marked k halted o)) past g k kn.name y z (rw e)
          (ap phase (get_or-set_same o.marks k halted 0 (omega arith))) refl (marked-elsewhere p k halted o))

      w : Quiet r.order.marks (k + 1 + size b) (size f + sizes u)
      w = quiet-agree (quiet-set halted q (omega arith)) (agree-above s.kept (omega arith))

      v : Turns p s₁ r.order t
      v = turns-on p false s₁ r.order h (λ z. refl)
          (ap phase (s.kept.below k (omega arith) ∙ get_or-set_same o.marks k halted 0 (omega arith)))
          s.stands w (omega (arith, s.kept.many, length-set o.marks k halted))

      kept₁ : Kept k (spread b f u) o.marks t.order.marks
      kept₁ =
          kept_then (kept_set k _ k halted o.marks (omega arith) (omega arith))
          (kept_then (kept-wider s.kept (omega arith) (omega arith))
          (record {
            many = v.apart.many;
            below = λ i x. v.apart.below i (omega arith) (ne_eqb i k (omega arith));
            above = λ i x. v.apart.above i (omega arith);
          }))

      go : (y : Result) → TurnsAs p s₁ r.order t.log t.order y
          → Stops p (λ ms. Stopped ms (act (scope xs x) (trio b f u)) k) k (spread b f u) o
          (record { order = t.order; log = stopped k ∷ (r.log ++ t.log) })
      go running c =
          record { kept = kept₁; rooted = v.apart.rooted refl ∙ s.rooted; stands = stopped-scope c.0; does = does-then first (does-then s.does c.1) }
      go over c =
          record {
            kept = kept₁;
            rooted = v.apart.rooted refl ∙ s.rooted;
            stands = stopped-quiet (quiet-cons c.0 (quiet-join c.1 c.2 refl));
            does = does-then first (does-then s.does c.3);
          }
      go (raising x) c = absurd c
      go leaving c = absurd c
      go undone c = absurd c
      go (undo_raising x) c = absurd c

  -- a scope is stopped, as it is found
  stopped-as : {n c : Name} {ns : List Name} {v : Bool} (xs : List ℕ) (x : Bool) (b f : Act) (u : Acts) (k : ℕ) (o : Order) → Known p (inner_at xs x k n ns (trio b f u)) → Spot p (body_of n ns c) k → phase (mark_of n o) ≡ waits v
      → Seat p (scope_at xs k (trio b f u))
      → Found o.marks xs b f u k → k + (spread b f u) ≤ length o.marks
      → (Stoppable (marked k halted o).marks b (k + 1) → Stops p (λ ms. Stopped ms b (k + 1)) (k + 1) (size b) (marked k halted o) (stop b (k + 1) (marked k halted o)))
      → Stops p (λ ms. Stopped ms (act (scope xs x) (trio b f u)) k) k (spread b f u) o
      (stop (act (scope xs x) (trio b f u)) k o)
  unfolding stop kind size
  stopped-as xs x b f u k o kn a d h (found-quiet q) m g =
      subst (λ (r : definitions.Stopped). Stops p (λ ms. Stopped ms (act (scope xs x) (trio b f u)) k) k (spread b f u) o r)
      (sym (stop_is (scope xs x) (trio b f u) k o true false refl (rw (q.at k (omega arith) (omega arith)))))
      (record { kept = kept-itself k _ o.marks; rooted = refl; stands = stopped-quiet q; does = does-nothing (λ n i. (refl, refl, refl)) })
  stopped-as xs x b f u k o kn a d h (found-open e y q) m g =
      subst (λ (r : definitions.Stopped). Stops p (λ ms. Stopped ms (act (scope xs x) (trio b f u)) k) k (spread b f u) o r)
      (sym (stop_is (scope xs x) (trio b f u) k o true true refl e))
      (withdrawn xs x b f u k o kn a d h e q m (stop b (k + 1) (marked k halted o))
      (g (stoppable-agree y (record { at = λ i x z. get_or-set_other o.marks k i halted 0 (omega arith) }))))
  stopped-as xs x b f u k o kn a d h (found-turned e t) m g =
      subst (λ (r : definitions.Stopped). Stops p (λ ms. Stopped ms (act (scope xs x) (trio b f u)) k) k (spread b f u) o r)
      (sym (stop_is (scope xs x) (trio b f u) k o true false refl e))
      (record { kept = kept-itself k _ o.marks; rooted = refl; stands = stopped-scope t; does = does-nothing (λ n i. (refl, refl, refl)) })

  -- What may be stopped stands stopped after it, at every depth.
  mutual
    unfolding stop size

    -- an activity
    pub stops : {x : Place} {v : Bool} {a : Act} {k : ℕ} → Sits p x a k → (o : Order) → phase (mark_of (name_of x) o) ≡ waits v → Stoppable o.marks a k → k + size a ≤ length o.marks
        → Stops p (λ ms. Stopped ms a k) k (size a) o (stop a k o)
    stops (sits-part {q = x} {own} {within} {k} s g v y l) o z t m =
        let o₁ = marked k idle o in
        let r = stops-all l o₁ (ap phase (mark-kept (name_of x) k o o₁ v.before.0 (omega arith) refl (kept_set k 1 k idle o.marks (omega arith) (omega arith))) ∙ z) (stoppable-in-agree (parts-stoppable s t) (record { at = λ i x z. get_or-set_other o.marks k i idle 0 (omega arith) }))
        (omega (arith, length-set o.marks k idle)) in
        subst (λ (r : definitions.Stopped). Stops p (λ ms. Stopped ms (act own within) k) k (1 + sizes within) o r)
        (sym (stop_is own within k o false (is_open (mark_at k o)) s refl))
        (record {
          kept = kept_then (kept_set k _ k idle o.marks (omega arith) (omega arith)) (kept-wider r.kept (omega arith) (omega arith));
          rooted = r.rooted;
          stands = stopped-part s (r.kept.below k (omega arith) ∙ get_or-set_same o.marks k idle 0 (omega arith)) r.stands;
          does = does-then (does-nothing (plain-marked p k idle o y.no_scope)) r.does;
        })
    stops (sits-scope {xs} {v = x} {n} {c} {ns} {b} {f} {u} {k} kn v i sb e) o z t m =
        stopped-as xs x b f u k o kn v z (seat-of kn v i sb e) (scope-found t) m
        (λ y. stops sb (marked k halted o) (ap phase (get_or-set_same o.marks k halted 0 (omega arith))) y (omega (arith, length-set o.marks k halted)))

    -- a list
    pub stops-all : {x : Place} {v : Bool} {l : Acts} {c : ℕ} → SitsIn p x l c → (o : Order) → phase (mark_of (name_of x) o) ≡ waits v → StoppableIn o.marks l c → c + sizes l ≤ length o.marks
        → Stops p (λ ms. StoppedIn ms l c) c (sizes l) o (stop_all l c o)
    stops-all (sits-none {q = x} {c}) o z t m =
        record { kept = kept-itself c 0 o.marks; rooted = refl; stands = stopped_none; does = does-nothing (λ n i. (refl, refl, refl)) }
    stops-all (sits-more {q = x} {a} {l} {c} s y) o z (able-more t w) m =
        let r = stops s o z t (omega arith) in
        let v = stops-all y (stop a c o).order (ap phase (mark-kept (name_of x) c o (stop a c o).order (before_of s).0 (omega arith) r.rooted r.kept) ∙ z) (stoppable-in-agree w (agree-above r.kept (omega arith))) (omega (arith, r.kept.many)) in
        record {
          kept = kept_then (kept-wider r.kept (omega arith) (omega arith)) (kept-wider v.kept (omega arith) (omega arith));
          rooted = v.rooted ∙ r.rooted;
          stands = stopped_more (stopped-agree r.stands (agree-below v.kept (omega arith))) v.stands;
          does = does-then r.does v.does;
        }
