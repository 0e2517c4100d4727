-- A raise in place of a receive comes out of the undo part that runs: no scope stands there that could take it. Assumes nothing.
use Prim.Native.Nat.{ℕ, zero, suc, ◌+◌, ◌≤◌, ◌<◌}
use native.Mathlib.Omega.{arith}
use mathlib.Core.Path.{◌≡◌, refl, sym, ap, ◌∙◌}
use mathlib.Core.Bool.{Bool, true, false, cond, not, false≢true}
use mathlib.Core.List.{List}
use lib.ListN.{length, get_or}
use lib.Dec.{eqb, ltb}
use borrow.Author.Tests.{ne_eqb, lt-ltb, le-ltb, not-true}
use Rattle.plan.specs.Tree.{Own, empty, send, receive, set as setting, raise, leave, choose, repeat, sequence, flow, pick, scope, arm, kind, Act, act, Acts, none, more, Plan, size, sizes, is_scope, undo_part, count}
use Rattle.order.specs.declared.Order.{Order}
use Rattle.order.specs.State.{Name, idle, active, inside, mark_at, mark_of}
use Rattle.order.specs.Expression.{conflicting_receive}
use Rattle.order.specs.Begin.{begin_after, part, part_at}
use Rattle.order.specs.declared.Way.{Way as Result}
use Rattle.order.specs.declared.Way.TheVariants.{Running as running, Over as over, Raising as raising, Leaving as leaving, Undone as undone, UndoRaising as undo_raising}
use Rattle.order.specs.Scope.{Outcome, runs, begun_in, where_over, from_undo}
use Rattle.order.specs.Acting.{finishes, again, goes_on, joins, combines, arms, in_place, performs, step_in, step_among}
use Rattle.order.specs.Awaited.{Doing, doing_of}
use Rattle.machine.specs.Calls.{doing_in, doing_among}
use Rattle.undoing.specs.Ties.{Place, undo_of, name_of, beyond_of, last_of}
use Rattle.undoing.proofs.Parts.{both}
use Rattle.undoing.proofs.Marks.{trio, Quiet, Undoing, undoing-part, undoing-scope, undoing-through, UndoingIn, undoing-here, undoing-later}
use Rattle.undoing.proofs.Orders.{Fit, bare, bare_in, Sits, sits-part, sits-scope, SitsIn, sits-more, remedy-bare, sits-none}
use Rattle.undoing.proofs.Remedies.{part-from, nth-there, undoer}
use Rattle.undoing.proofs.Moves.{runner_at}
use Rattle.undoing.proofs.Scoping.{Acted, UndoAs}
use Rattle.undoing.proofs.Waiting.{opens, Waits, waits-itself, waits-within, WaitsIn, waits-first, waits-later, opens-idle, quiet-waits, quiet-waits-in, nth-waits, undoing-waits}
use Rattle.undoing.proofs.Combining.{arms_none}
use Rattle.undoing.proofs.Stepping.{PartOf, through-is, steps-undoing, step_is, among-is, undo-step, undoing-part-not}
use Rattle.undoing.proofs.Judged.{is_take, doing-within, doing-among, doing-later}
use Rattle.undoing.proofs.Falling.{raised-receive}
use Rattle.undoing.proofs.Owing.{not-scope}

-- what ran is over
abbrev is_over : Result → Bool
is_over running = false
is_over over = true
is_over (raising x) = false
is_over leaving = false
is_over undone = false
is_over (undo_raising x) = false

-- what is not over goes up as it is
up-where : (f : Order → Outcome) (r : Outcome) → is_over r.result ≡ false → (where_over f r).result ≡ r.result
up-where f r n = go r.result n
  where
    go : (x : Result) → is_over x ≡ false → (where_over f (record { result = x; order = r.order; log = r.log })).result ≡ x
    go running n = refl
    go over n = absurd (false≢true (sym n))
    go (raising x) n = refl
    go leaving n = refl
    go undone n = refl
    go (undo_raising x) n = refl

up-goes : (k m : ℕ) (f : Order → Outcome) (r : Outcome) → is_over r.result ≡ false → (goes_on k m f r).result ≡ r.result
unfolding goes_on
up-goes k m f r n = up-where (λ o. elim (eqb (mark_at k o) m) [ true ↦ f o | false ↦ runs o ]) r n

up-combines : (own : Own) (within : Acts) (k t : ℕ) (r : Outcome) → is_scope own ≡ false → is_over r.result ≡ false → (combines own within k t r).result ≡ r.result
unfolding combines kind
up-combines empty within k t r s n = refl
up-combines (send x y vs) within k t r s n = refl
up-combines (receive x y vs) within k t r s n = refl
up-combines (setting v x) within k t r s n = refl
up-combines (raise zero) within k t r s n = refl
up-combines (raise (suc number)) within k t r s n = refl
up-combines leave within k t r s n = refl
up-combines (choose x) within k t r s n = up-goes k inside (finishes k) r n
up-combines (repeat x) within k t r s n = up-goes k inside (again k) r n
up-combines sequence within k t r s n = up-goes k active (λ o. where_over (finishes k) (begun_in o (begin_after within (k + 1) t o.marks))) r n
up-combines flow within k t r s n = up-goes k active (joins k within) r n
up-combines pick within k t r s n = up-goes k inside (finishes k) r n
up-combines (scope xs v) within k t r s n = absurd (false≢true (sym s))
up-combines (arm x y vs) within k t r s n = refl

-- by the same choice of what is done and what comes of it
raise-either : (b : Bool) (d d' : Doing) (x y : Outcome) → (is_take d ≡ true → x.result ≡ raising conflicting_receive) → (is_take d' ≡ true → y.result ≡ raising conflicting_receive)
    → is_take (elim b [ true ↦ d | false ↦ d' ]) ≡ true → (elim b as (λ _. Outcome) [ true ↦ x | false ↦ y ]).result ≡ raising conflicting_receive
raise-either true d d' x y f g h = f h
raise-either false d d' x y f g h = g h

-- A raise in place of a receive comes out of what has no scope in it.
mutual
  unfolding bare step_in doing_in is_take

  raise-out : (a : Act) (q k t : ℕ) (o : Order) → bare a ≡ true → is_take (doing_in a k t) ≡ true → (step_in in_place a q k t o).result ≡ raising conflicting_receive
  raise-out (act own within) q k t o b h =
      both (not (is_scope own)) (bare_in within) b (λ x y.
      raise-either (eqb k t) (doing_of own within k) (doing_among within (k + 1) t) (performs in_place own within q k o) (combines own within k t (step_among in_place within (is_scope own) q (k + 1) t (arms own within k t o)))
      (λ g. ap (λ (r : Outcome). r.result) (raised-receive own within q k o g))
      (λ g. let z = raise-out-in within (is_scope own) q (k + 1) t (arms own within k t o) y g in
      up-combines own within k t (step_among in_place within (is_scope own) q (k + 1) t (arms own within k t o)) (not-true (is_scope own) x) (ap is_over z) ∙ z) h)

  raise-out-in : (l : Acts) (v : Bool) (q c t : ℕ) (o : Order) → bare_in l ≡ true → is_take (doing_among l c t) ≡ true → (step_among in_place l v q c t o).result ≡ raising conflicting_receive
  raise-out-in none v q c t o b h = absurd (false≢true h)
  raise-out-in (more a l) v q c t o b h =
      both (bare a) (bare_in l) b (λ x y.
      raise-either (ltb t (c + size a)) (doing_in a c t) (doing_among l (c + size a) t) (step_in in_place a (cond v c q) c t o) (step_among in_place l v q (c + size a) t o)
      (λ g. raise-out a (cond v c q) c t o x g) (λ g. raise-out-in l v q (c + size a) t o y g) h)

up-raised : {x : ℕ} (r : Outcome) → r.result ≡ raising x → (from_undo r).result ≡ undo_raising x
unfolding from_undo
up-raised r e = rw e

no_less : {k t : ℕ} → k < t → k ≡ t → ⊥
no_less y z = omega arith

-- what is done in the i-th of a list
doing-nth : (i : ℕ) (l : Acts) (c t : ℕ) → i < count l → part_at i l c ≤ t → t < part_at i l c + size (part i l) → doing_among l c t ≡ doing_in (part i l) (part_at i l c) t
unfolding part part_at count
doing-nth i none c t n lo hi = absurd (omega arith)
doing-nth zero (more a l) c t n lo hi = doing-among a l c t hi
doing-nth (suc i) (more a l) c t n lo hi = doing-later a l c t (omega (arith, part-from i l (c + size a))) ∙ doing-nth i l (c + size a) t (omega arith) lo hi

-- In a body of which an undo part runs.
module _ (p : Plan) where
  scope-raises : {c : Bool} (xs : List ℕ) (b f : Act) (u : Acts) (q₀ k t : ℕ) (o : Order) → bare (part (undo_part xs) (trio b f u)) ≡ true → Waits o.marks (act (scope xs true) (trio b f u)) k t c → c ≡ false
      → Undoing o.marks (act (scope xs true) (trio b f u)) k
      → is_take (doing_in (act (scope xs true) (trio b f u)) k t) ≡ true → (step_in in_place (act (scope xs true) (trio b f u)) q₀ k t o).result ≡ undo_raising conflicting_receive
  scope-raises xs b f u q₀ k t o su (waits-itself e d) c r h = absurd (no_less (undoing-waits r (waits-itself e d) c) e)
  scope-raises xs b f u q₀ k t o su (waits-within e w) c (undoing-part s _ _) h = absurd (not-scope s)
  scope-raises xs b f u q₀ k t o su (waits-within e w) c (undoing-scope x y r) h =
      let z = nth-waits r w refl in
      let a = part (undo_part xs) (trio b f u) in
      let n = part_at (undo_part xs) (trio b f u) (k + 1) in
      let i : doing_in (act (scope xs true) (trio b f u)) k t ≡ doing_in a n t
      = doing-within (scope xs true) (trio b f u) k t e ∙ doing-nth (undo_part xs) (trio b f u) (k + 1) t (nth-there r) z.0 z.1 in
      ap (λ (r : Outcome). r.result) (undo-step p in_place xs b f u q₀ k t o (nth-there r) z.0 z.1)
      ∙ up-raised (step_in in_place a n n t o) (raise-out a n n t o su (ap is_take (sym i) ∙ h))

  -- looked through
  through-raises : {c : Bool} (xs : List ℕ) (b f : Act) (u : Acts) (q₀ k t : ℕ) (m₀ : Name) (o : Order) → Waits o.marks (act (scope xs false) (trio b f u)) k t c → c ≡ false
      → get_or o.marks k 0 ≡ idle → Undoing o.marks b (k + 1) → Quiet o.marks (k + 1 + size b) (size f + sizes u) → is_take (doing_in (act (scope xs false) (trio b f u)) k t) ≡ true
      → (Waits o.marks b (k + 1) t false → Acted (k + 1) (size b) o (UndoAs p m₀ b (k + 1) t o) (step_in in_place b (k + 1) (k + 1) t o))
      → (Waits o.marks b (k + 1) t false → is_take (doing_in b (k + 1) t) ≡ true → (step_in in_place b (k + 1) (k + 1) t o).result ≡ undo_raising conflicting_receive)
      → (step_in in_place (act (scope xs false) (trio b f u)) q₀ k t o).result ≡ undo_raising conflicting_receive
  unfolding size
  through-raises xs b f u q₀ k t m₀ o (waits-itself e d) c x r q h a g = absurd (no_less (undoing-waits (undoing-through {xs = xs} {f = f} {u = u} x r q) (waits-itself e d) c) e)
  through-raises xs b f u q₀ k t m₀ o (waits-within e (waits-first d w)) c x r q h a g =
      ap (λ (r : Outcome). r.result) (through-is p in_place xs b f u q₀ k t m₀ o x e d (a w))
      ∙ g w (ap is_take (sym (doing-within (scope xs false) (trio b f u) k t e ∙ doing-among b (more f u) (k + 1) t d)) ∙ h)
  through-raises xs b f u q₀ k t m₀ o (waits-within e (waits-later d w)) c x r q h a g = absurd (quiet-waits-in w refl q)

  mutual
    unfolding size part part_at

    pub undo-raises : {x : Place} {a : Act} {k : ℕ} → Sits p x a k → (q₀ t : ℕ) (o : Order) (b : Bool) → PartOf x q₀ → Waits o.marks a k t b → b ≡ false → Undoing o.marks a k
        → (m₀ : Name) → runner_at (λ n. mark_of n o) (name_of x) (beyond_of x) ≡ m₀ → Fit (undo_of (name_of x) (beyond_of x) (last_of x)) o → k + size a ≤ length o.marks
        → is_take (doing_in a k t) ≡ true → (step_in in_place a q₀ k t o).result ≡ undo_raising conflicting_receive
    undo-raises (sits-part {own = own} {within} {k} s g u y l) q₀ t o b q₁ (waits-itself z d) e r m₀ y₂ f m h = absurd (no_less (undoing-waits r (waits-itself z d) e) z)
    undo-raises (sits-part {own = own} {within} {k} s g u y l) q₀ t o b q₁ (waits-within v w) e (undoing-part s₁ z r) m₀ y₂ f m h =
        let i : opens own (get_or o.marks k 0) ≡ false = opens-idle own (get_or o.marks k 0) z in
        let j = step_among in_place within false q₀ (k + 1) t o in
        let d : j.result ≡ undo_raising conflicting_receive = undo-raises-in l q₀ t o _ q₁ w i r m₀ y₂ f (omega arith) (ap is_take (sym (doing-within own within k t v)) ∙ h) in
        ap (λ (r : Outcome). r.result)
        (step_is in_place own within q₀ k t o false s (ne_eqb k t (omega arith)) ∙ ap (λ (x : Order). combines own within k t (step_among in_place within false q₀ (k + 1) t x)) (arms_none own within k t o (undoing-part-not p in_place r w i)))
        ∙ (up-combines own within k t j s (ap is_over d) ∙ d)
    undo-raises (sits-part s g u y l) q₀ t o b q₁ (waits-within v w) e (undoing-scope _ _ _) m₀ y₂ f m h = absurd (not-scope s)
    undo-raises (sits-part s g u y l) q₀ t o b q₁ (waits-within v w) e (undoing-through _ _ _) m₀ y₂ f m h = absurd (not-scope s)
    undo-raises (sits-scope {xs = xs} {v = true} {b = b} {f = g} {u = u} {k = k} kn d i sb z) q₀ t o c q₁ w e r m₀ y₂ f m h = scope-raises xs b g u q₀ k t o (remedy-bare (undoer z)) w e r h
    undo-raises (sits-scope {v = false} kn d i sb z) q₀ t o c q₁ w e (undoing-part s _ _) m₀ y₂ f m h = absurd (not-scope s)
    undo-raises (sits-scope {xs = xs} {v = false} {b = b} {f = g} {u = u} {k = k} kn d i sb z) q₀ t o c q₁ w e (undoing-through x r q) m₀ y₂ f m h =
        through-raises xs b g u q₀ k t m₀ o w e x r q h (λ w₁. steps-undoing p in_place sb (k + 1) t o false refl w₁ refl r m₀ (rw x y₂) (rw x f) (omega arith))
        (λ w₁ h₁. undo-raises sb (k + 1) t o false refl w₁ refl r m₀ (rw x y₂) (rw x f) (omega arith) h₁)

    pub undo-raises-in : {x : Place} {l : Acts} {c : ℕ} → SitsIn p x l c → (q₀ t : ℕ) (o : Order) (b : Bool) → PartOf x q₀ → WaitsIn o.marks l c t b → b ≡ false → UndoingIn o.marks l c
        → (m₀ : Name) → runner_at (λ n. mark_of n o) (name_of x) (beyond_of x) ≡ m₀ → Fit (undo_of (name_of x) (beyond_of x) (last_of x)) o → c + sizes l ≤ length o.marks
        → is_take (doing_among l c t) ≡ true → (step_among in_place l false q₀ c t o).result ≡ undo_raising conflicting_receive
    undo-raises-in (sits-none {q = q} {c = c}) q₀ t o b q₁ z e _ m₀ y₂ f m h = elim z [ ]
    undo-raises-in (sits-more {a = a} {l} {c} s y) q₀ t o b q₁ (waits-first v w) e (undoing-here r q) m₀ y₂ f m h =
        ap (λ (r : Outcome). r.result) (among-is in_place a l q₀ c t o true (lt-ltb t (c + size a) v)) ∙ undo-raises s q₀ t o b q₁ w e r m₀ y₂ f (omega arith) (ap is_take (sym (doing-among a l c t v)) ∙ h)
    undo-raises-in (sits-more {a = a} {l} {c} s y) q₀ t o b q₁ (waits-later v w) e (undoing-here r q) m₀ y₂ f m h = absurd (quiet-waits-in w e q)
    undo-raises-in (sits-more {a = a} {l} {c} s y) q₀ t o b q₁ (waits-first v w) e (undoing-later q r) m₀ y₂ f m h = absurd (quiet-waits w e q)
    undo-raises-in (sits-more {a = a} {l} {c} s y) q₀ t o b q₁ (waits-later v w) e (undoing-later q r) m₀ y₂ f m h =
        ap (λ (r : Outcome). r.result) (among-is in_place a l q₀ c t o false (le-ltb t (c + size a) v)) ∙ undo-raises-in y q₀ t o b q₁ w e r m₀ y₂ f (omega arith) (ap is_take (sym (doing-later a l c t v)) ∙ h)
