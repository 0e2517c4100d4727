-- A scope that has turned, wherever it lies in a tree with all scopes around it up: it is loud, an inner scope runs, and a stop leaves it alone. Assumes nothing.
use Prim.Native.Nat.{ℕ, ◌+◌, ◌≤◌, ◌<◌}
use native.Mathlib.Omega.{arith}
use mathlib.Core.Path.{◌≡◌, refl, sym, ap, subst, ◌∙◌}
use mathlib.Core.Bool.{Bool, true, false, not, ◌||◌, false≢true, or-true}
use mathlib.Core.List.{List}
use lib.ListN.{length, get_or, length-set}
use lib.Seq.{get_or-set_same, get_or-set_other}
use lib.Dec.{eqb}
use borrow.Author.Tests.{eqb-false, ne_eqb}
use Rattle.plan.specs.Tree.{Own, scope, kind, is_scope, Act, act, Acts, none, more, Plan, size, sizes}
use Rattle.order.specs.declared.Order.{Order}
use Rattle.order.specs.State.{idle, faulty, halted, Name, inner, state_in, marked, mark_of}
use Rattle.order.specs.Begin.{part, part_at}
use Rattle.order.specs.Scope as definitions
use Rattle.order.specs.Scope.{Outcome, Scope, scope_at, is_open, inner_runs, inner_runs_in, runs, undoes, turns, looks_again, withdraws, stop, stop_all}
use Rattle.undoing.specs.Ties.{Place, name_of}
use Rattle.undoing.proofs.Parts.{decide}
use Rattle.undoing.proofs.Accounts.{waits, phase}
use Rattle.undoing.proofs.Marks.{trio, Agree, Quiet, Kept, Undoing, undoing-part, undoing-scope, undoing-through, UndoingIn, undoing-here, undoing-later, Stoppable, StoppableIn, able-more, quiet-part, agree-below, agree-above, stoppable-agree, stoppable-in-agree, parts-stoppable, Found, found-quiet, found-open, found-turned, scope-found, kept_set}
use Rattle.undoing.proofs.Orders.{before_of, Sits, sits-part, sits-scope, SitsIn, sits-none, sits-more}
use Rattle.undoing.proofs.Seats.{inner-is, mark-kept}
use Rattle.undoing.proofs.Scoping.{looks-is}
use Rattle.undoing.proofs.Stopping.{Stops, stops, stops-all, stop_is}

-- a scope that waits goes on waiting while an inner scope runs
pub turns-wait : (w : Bool) (s : Scope) (o : Order) → inner_runs s.body s.body_at o.marks ≡ true → turns w s o ≡ runs o
unfolding turns
turns-wait w s o e = ap (λ (b : Bool). elim b [ true ↦ runs o | false ↦ undoes w s o ]) e

pub looks-wait : (s : Scope) (o : Order) → inner_runs s.body s.body_at o.marks ≡ true → looks_again s o ≡ runs o
looks-wait s o e =
    let m = mark_of s.name o in
    looks-is s o m refl
    ∙ decide (eqb (state_in m) faulty)
    (λ d. rw d (turns-wait true s o e))
    (λ d. rw d (decide (eqb m halted) (λ c. rw c (turns-wait false s o e)) (λ c. rw c)))

-- scope j, of so many numbers, lies in this tree, has turned, and every scope around it there is up
mutual
  pub data Up (ms : List ℕ) (j many : ℕ) : Act → ℕ → Type 0 where
    up-here : {own : Own} {within : Acts} {k : ℕ} → is_scope own ≡ true → k ≡ j → size (act own within) ≡ many → eqb (get_or ms j 0) idle ≡ false → is_open (get_or ms j 0) ≡ false → Up ms j many (act own within) k
    up-part : {own : Own} {within : Acts} {k : ℕ} → is_scope own ≡ false → UpIn ms j many within (k + 1) → Up ms j many (act own within) k
    up-scope : {xs : List ℕ} {v : Bool} {b f : Act} {u : Acts} {k : ℕ} → eqb (get_or ms k 0) idle ≡ false → Up ms j many b (k + 1) → Up ms j many (act (scope xs v) (trio b f u)) k

  pub data UpIn (ms : List ℕ) (j many : ℕ) : Acts → ℕ → Type 0 where
    up_first : {a : Act} {l : Acts} {c : ℕ} → Up ms j many a c → UpIn ms j many (more a l) c
    up-later : {a : Act} {l : Acts} {c : ℕ} → UpIn ms j many l (c + size a) → UpIn ms j many (more a l) c

module _ {j many : ℕ} where
  mutual
    unfolding size

    pub up-range : {ms : List ℕ} {a : Act} {k : ℕ} → Up ms j many a k → (k ≤ j) × (j + many ≤ k + size a) × (1 ≤ many)
    up-range (up-here s e n x y) = (omega arith, omega arith, omega arith)
    up-range (up-part s l) = let r = up-range-in l in (omega arith, omega arith, omega arith)
    up-range (up-scope e b) = let r = up-range b in (omega arith, omega arith, omega arith)

    pub up-range-in : {ms : List ℕ} {l : Acts} {c : ℕ} → UpIn ms j many l c → (c ≤ j) × (j + many ≤ c + sizes l) × (1 ≤ many)
    up-range-in (up_first a) = let r = up-range a in (omega arith, omega arith, omega arith)
    up-range-in (up-later l) = let r = up-range-in l in (omega arith, omega arith, omega arith)

  mutual
    pub up-loud : {ms : List ℕ} {a : Act} {k : ℕ} → Up ms j many a k → eqb (get_or ms j 0) idle ≡ false
    up-loud (up-here s e n x y) = x
    up-loud (up-part s l) = up-loud-in l
    up-loud (up-scope e b) = up-loud b

    pub up-loud-in : {ms : List ℕ} {l : Acts} {c : ℕ} → UpIn ms j many l c → eqb (get_or ms j 0) idle ≡ false
    up-loud-in (up_first a) = up-loud a
    up-loud-in (up-later l) = up-loud-in l

  pub up-quiet : {ms : List ℕ} {a : Act} {k : ℕ} → Up ms j many a k → Quiet ms k (size a) → ⊥
  up-quiet {ms} u q = let r = up-range u in eqb-false (get_or ms j 0) idle (up-loud u) (q.at j (omega arith) (omega arith))

  pub up-quiet-in : {ms : List ℕ} {l : Acts} {c : ℕ} → UpIn ms j many l c → Quiet ms c (sizes l) → ⊥
  up-quiet-in {ms} u q = let r = up-range-in u in eqb-false (get_or ms j 0) idle (up-loud-in u) (q.at j (omega arith) (omega arith))

  -- in a body that undoes every scope is idle
  mutual
    unfolding size kind

    pub up-undoing : {ms : List ℕ} {a : Act} {k : ℕ} → Up ms j many a k → Undoing ms a k → ⊥
    up-undoing (up-part s l) (undoing-part _ e r) = up-undoing-in l r
    up-undoing (up-part s l) (undoing-scope e c r) = false≢true (sym s)
    up-undoing (up-part s l) (undoing-through e r q) = false≢true (sym s)
    up-undoing {ms} {k = k} (up-here s d n x y) (undoing-part z e r) = false≢true (sym z ∙ s)
    up-undoing {ms} {k = k} (up-here s d n x y) (undoing-scope e c r) = eqb-false (get_or ms j 0) idle x (subst (λ (i : ℕ). get_or ms i 0 ≡ idle) d e)
    up-undoing {ms} {k = k} (up-here s d n x y) (undoing-through e r q) = eqb-false (get_or ms j 0) idle x (subst (λ (i : ℕ). get_or ms i 0 ≡ idle) d e)
    up-undoing {ms} {k = k} (up-scope x b) (undoing-part z e r) = false≢true (sym z)
    up-undoing {ms} {k = k} (up-scope x b) (undoing-scope e c r) = eqb-false (get_or ms k 0) idle x e
    up-undoing {ms} {k = k} (up-scope x b) (undoing-through e r q) = eqb-false (get_or ms k 0) idle x e

    up-undoing-in : {ms : List ℕ} {l : Acts} {c : ℕ} → UpIn ms j many l c → UndoingIn ms l c → ⊥
    up-undoing-in (up_first a) (undoing-here r q) = up-undoing a r
    up-undoing-in (up_first a) (undoing-later q r) = up-quiet a q
    up-undoing-in (up-later l) (undoing-here r q) = up-quiet-in l q
    up-undoing-in (up-later l) (undoing-later q r) = up-undoing-in l r

  -- where the marks there are the same
  mutual
    unfolding size

    pub up-agree : {ms ns : List ℕ} {a : Act} {k : ℕ} → Up ms j many a k → Agree k (size a) ms ns → Up ns j many a k
    up-agree {ms} {ns} (up-here {own} {within} {k} s e n x y) g =
        let z : get_or ns j 0 ≡ get_or ms j 0 = g.at j (omega arith) (omega arith) in
        up-here s e n (ap (λ (i : ℕ). eqb i idle) z ∙ x) (ap is_open z ∙ y)
    up-agree (up-part s l) g = up-part s (up-agree-in l (record { at = λ i x y. g.at i (omega arith) (omega arith) }))
    up-agree (up-scope {xs} {v} {b} {f} {u} {k} x b₁) g =
        up-scope (ap (λ (i : ℕ). eqb i idle) (g.at k (omega arith) (omega arith)) ∙ x) (up-agree b₁ (record { at = λ i x y. g.at i (omega arith) (omega arith) }))

    pub up-agree-in : {ms ns : List ℕ} {l : Acts} {c : ℕ} → UpIn ms j many l c → Agree c (sizes l) ms ns → UpIn ns j many l c
    up-agree-in (up_first a) g = up_first (up-agree a (record { at = λ i x y. g.at i (omega arith) (omega arith) }))
    up-agree-in (up-later l) g = up-later (up-agree-in l (record { at = λ i x y. g.at i (omega arith) (omega arith) }))

  -- so an inner scope runs
  mutual
    unfolding inner_runs

    pub up-inner : {ms : List ℕ} {a : Act} {k : ℕ} → Up ms j many a k → inner_runs a k ms ≡ true
    up-inner {ms} {k = k} (up-here {own} {within} s e n x y) = let z : eqb (get_or ms k 0) idle ≡ false = subst (λ (i : ℕ). eqb (get_or ms i 0) idle ≡ false) (sym e) x in inner-is own within k ms true s ∙ rw z
    up-inner {ms} {k = k} (up-part {own} {within} s l) = inner-is own within k ms false s ∙ up-inner-in l
    up-inner (up-scope x b) = rw x

    up-inner-in : {ms : List ℕ} {l : Acts} {c : ℕ} → UpIn ms j many l c → inner_runs_in l c ms ≡ true
    up-inner-in (up_first a) = rw (up-inner a)
    up-inner-in (up-later l) = rw (up-inner-in l, or-true)

  -- A stop leaves it alone, and the scopes around it up.
  set_apart : (k v : ℕ) (o : Order) → (k < j) → Agree j many o.marks (marked k v o).marks
  set_apart k v o h = record { at = λ i x y. get_or-set_other o.marks k i v 0 (omega arith) }

  agree_then : {ms ns os : List ℕ} → Agree j many ms ns → Agree j many ns os → Agree j many ms os
  agree_then g h = record { at = λ i x y. h.at i x y ∙ g.at i x y }

  module _ (p : Plan) where
    mutual
      unfolding stop size kind part part_at withdraws

      pub stop-alone : {x : Place} {v : Bool} {a : Act} {k : ℕ} → Sits p x a k → (o : Order) → phase (mark_of (name_of x) o) ≡ waits v → Stoppable o.marks a k → k + size a ≤ length o.marks → Up o.marks j many a k
          → Agree j many o.marks (stop a k o).order.marks × Up (stop a k o).order.marks j many a k
      stop-alone (sits-part {q = x} {own} {within} {k} s g v y l) o z t m (up-here d e n b c) = absurd (false≢true (sym s ∙ d))
      stop-alone (sits-part {q = x} {own} {within} {k} s g v y l) o z t m (up-part d u) =
          let r₀ = up-range-in u in
          let o₁ = marked k idle o in
          let r = stop-alone-in l o₁ (ap phase (mark-kept (name_of x) k o o₁ v.before.0 (omega arith) refl (kept_set k 1 k idle o.marks (omega arith) (omega arith))) ∙ z)
          (stoppable-in-agree (parts-stoppable s t) (record { at = λ i x z. get_or-set_other o.marks k i idle 0 (omega arith) })) (omega (arith, length-set o.marks k idle))
          (up-agree-in u (record { at = λ i x y. get_or-set_other o.marks k i idle 0 (omega arith) })) in
          subst (λ (w : definitions.Stopped). Agree j many o.marks w.order.marks × Up w.order.marks j many (act own within) k) (sym (stop_is own within k o false (is_open (get_or o.marks k 0)) s refl))
          (agree_then (set_apart k idle o (omega arith)) r.0, up-part s r.1)
      stop-alone (sits-part s g v y l) o z t m (up-scope d u) = absurd (false≢true (sym s))
      stop-alone (sits-scope {xs} {v = x} {n} {c} {ns} {b} {f} {u} {k} kn v i sb e) o z t m (up-part d w) = absurd (false≢true (sym d))
      stop-alone (sits-scope {xs} {v = x} {n} {c} {ns} {b} {f} {u} {k} kn v i sb e) o z t m (up-here d q n₀ y w) =
          subst (λ (r : definitions.Stopped). Agree j many o.marks r.order.marks × Up r.order.marks j many (act (scope xs x) (trio b f u)) k)
          (sym (stop_is (scope xs x) (trio b f u) k o true false refl (subst (λ (g : ℕ). is_open (get_or o.marks g 0) ≡ false) (sym q) w)))
          (record { at = λ i x y. refl }, up-here d q n₀ y w)
      stop-alone (sits-scope {xs} {v = x} {n} {c} {ns} {b} {f} {u} {k} kn v i sb e) o z t m (up-scope y w) =
          go (scope-found t) (λ d g. stop-alone sb (marked k halted o) (ap phase (get_or-set_same o.marks k halted 0 (omega arith))) d (omega (arith, length-set o.marks k halted)) g)
        where
          o₁ : Order
          o₁ = marked k halted o

          go : Found o.marks xs b f u k
              → (Stoppable o₁.marks b (k + 1) → Up o₁.marks j many b (k + 1) → Agree j many o₁.marks (stop b (k + 1) o₁).order.marks × Up (stop b (k + 1) o₁).order.marks j many b (k + 1))
              → Agree j many o.marks (stop (act (scope xs x) (trio b f u)) k o).order.marks × Up (stop (act (scope xs x) (trio b f u)) k o).order.marks j many (act (scope xs x) (trio b f u)) k
          go (found-quiet q) g = absurd (up-quiet w (quiet-part q (omega arith) (omega arith)))
          go (found-turned d q) g =
              subst (λ (r : definitions.Stopped). Agree j many o.marks r.order.marks × Up r.order.marks j many (act (scope xs x) (trio b f u)) k)
              (sym (stop_is (scope xs x) (trio b f u) k o true false refl d)) (record { at = λ i x y. refl }, up-scope y w)
          go (found-open d q q₁) g =
              let r₀ = up-range w in
              let r = g (stoppable-agree q same-there) (up-agree w same-there) in
              let s = stops p sb o₁ at_once (stoppable-agree q same-there) (omega (arith, length-set o.marks k halted)) in
              let k₁ : get_or (stop b (k + 1) o₁).order.marks k 0 ≡ halted = s.kept.below k (omega arith) ∙ get_or-set_same o.marks k halted 0 (omega arith) in
              subst (λ (r : definitions.Stopped). Agree j many o.marks r.order.marks × Up r.order.marks j many (act (scope xs x) (trio b f u)) k)
              (sym (stop_is (scope xs x) (trio b f u) k o true true refl d))
              (subst (λ (a : Order). Agree j many o.marks a.marks × Up a.marks j many (act (scope xs x) (trio b f u)) k) (sym (waiting (stop b (k + 1) o₁) (up-inner r.1)))
              (agree_then (set_apart k halted o (omega arith)) r.0, up-scope (ap (λ (i : ℕ). eqb i idle) k₁) r.1))
            where
              same-there : Agree (k + 1) (size b) o.marks (marked k halted o).marks
              same-there = record { at = λ i x y. get_or-set_other o.marks k i halted 0 (omega arith) }

              at_once : phase (mark_of (inner k) o₁) ≡ waits false
              at_once = ap phase (get_or-set_same o.marks k halted 0 (omega arith))

              waiting : (r : definitions.Stopped) → inner_runs b (k + 1) r.order.marks ≡ true → (withdraws k (scope_at xs k (trio b f u)) r).order ≡ r.order
              waiting r h = ap (λ (z : Outcome). z.order) (turns-wait false (scope_at xs k (trio b f u)) r.order h)

      pub stop-alone-in : {x : Place} {v : Bool} {l : Acts} {c : ℕ} → SitsIn p x l c → (o : Order) → phase (mark_of (name_of x) o) ≡ waits v → StoppableIn o.marks l c → c + sizes l ≤ length o.marks → UpIn o.marks j many l c
          → Agree j many o.marks (stop_all l c o).order.marks × UpIn (stop_all l c o).order.marks j many l c
      stop-alone-in {v = v} (sits-none {q = q} {c = c}) o z _ m w = elim w [ ]
      stop-alone-in (sits-more {q = x} {a} {l} {c} s y) o z (able-more t w) m (up_first u) =
          let r₀ = up-range u in
          let q = stop-alone s o z t (omega arith) u in
          let r = stops p s o z t (omega arith) in
          let v = stops-all p y (stop a c o).order (ap phase (mark-kept (name_of x) c o (stop a c o).order (before_of s).0 (omega arith) r.rooted r.kept) ∙ z) (stoppable-in-agree w (agree-above r.kept (omega arith))) (omega (arith, r.kept.many)) in
          (agree_then q.0 (record { at = λ i x y. v.kept.below i (omega arith) }), up_first (up-agree q.1 (agree-below v.kept (omega arith))))
      stop-alone-in (sits-more {q = x} {a} {l} {c} s y) o z (able-more t w) m (up-later u) =
          let r₀ = up-range-in u in
          let r = stops p s o z t (omega arith) in
          let v = stop-alone-in y (stop a c o).order (ap phase (mark-kept (name_of x) c o (stop a c o).order (before_of s).0 (omega arith) r.rooted r.kept) ∙ z) (stoppable-in-agree w (agree-above r.kept (omega arith))) (omega (arith, r.kept.many))
          (up-agree-in u (agree-above r.kept (omega arith))) in
          (agree_then (record { at = λ i x y. r.kept.above i (omega arith) }) v.0, up-later v.1)
