-- What a scope, the root or an inner one, makes of a step in its body or in its fault part. Assumes nothing.
use Prim.Native.Nat.{ℕ, ◌+◌, ◌%◌, ◌≤◌, ◌<◌}
use native.Mathlib.Omega.{arith}
use mathlib.Core.Path.{◌≡◌, refl, sym, ap, subst, ◌∙◌}
use mathlib.Core.Bool.{Bool, true, false, not, ◌||◌, false≢true}
use mathlib.Core.List.{List, [], ◌∷◌, ◌++◌}
use lib.ListN.{length, get_or}
use lib.Dec.{eqb, ltb}
use borrow.Author.Tests.{eqb-true, ne_eqb, ltb-true, ltb-false}
use Rattle.plan.specs.Tree.{Act, Acts, Plan, size, sizes}
use Rattle.order.specs.declared.Order.{Order}
use Rattle.order.specs.declared.End.TheVariants.{None, Left}
use Rattle.order.specs.State.{Name, root, inner, same, idle, active, done, faulty, undoing, handling, halted, withdrawing, state_in, choice_in, mark_of, marking}
use Rattle.order.specs.Event.{Event, ended, faulted, raised}
use Rattle.order.specs.Begin.{part, part_at, cleared}
use Rattle.order.specs.declared.Way.{Way as Result}
use Rattle.order.specs.declared.Way.TheVariants.{Running as running, Over as over, Raising as raising, Leaving as leaving, Undone as undone, UndoRaising as undo_raising}
use Rattle.order.specs.Scope.{Outcome, runs, after, Scope, choice_for, is_open, inner_runs, ends, undoes, turns, stop, faults, breaks, looks_again, body_over, body_raised, undo_over, undo_raised, from_body, part_over, part_raised, from_fault, forgetting}
use Rattle.undoing.specs.Demand3.{is_root}
use Rattle.undoing.specs.Ties.{is_name}
use Rattle.undoing.specs.Standing.{choice_on}
use Rattle.order.proofs.Chosen.{choice-with}
use Rattle.undoing.proofs.Causing.{caused, caused-mark, chosen_mark, faults-is}
use Rattle.undoing.proofs.Parts.{decide}
use Rattle.undoing.proofs.Accounts.{Phase, rest, live, waits, heals, odd, phase, phase-faulty, is_hurt, tied-as}
use Rattle.undoing.proofs.Moves.{RunIn, unhurt, tied-from, move-fault}
use Rattle.undoing.proofs.Marks.{Quiet, Kept, Run, Nth, Turned, turned-undoes, turned-heals, Stopped, Undoing, Stoppable, agree-part, quiet-part, quiet-agree, agree-below, agree-above, stoppable-agree, not-open}
use Rattle.undoing.proofs.Orders.{end_as, fail_as, list_of, moment_of, Does, does-then, does-nothing, does-one, bare}
use Rattle.undoing.proofs.Remedies.{part-from, part-to, nth-there, nth-goes, nth-ends}
use Rattle.undoing.proofs.Seats.{Seat, mark-kept, marking-mark, faulting-elsewhere, marking-agree, marking-length, quiet-inner, inside-rest}
use Rattle.undoing.proofs.Turning.{Apart, apart-then, apart-kept, apart-marking, apart-faulting, TurnsAs, Turns, turns-after, does-phase, marking-list, does-healed, undoes-on, turns-on}
use Rattle.undoing.proofs.Stopping.{stops}
use Rattle.undoing.proofs.Breaking.{Owns, broken, OthersRest, broken-mark, cleared-kept, cleared-quiet, breaks-healed, breaks-raised}

-- What a step in a tree comes to: its marks, and how the tree stands after it.
pub record Acted (k n : ℕ) (o : Order) (C : List Event → Order → Result → Type 0) (r : Outcome) : Type 0 where
  pub kept : Kept k n o.marks r.order.marks
  pub rooted : r.order.root ≡ o.root
  pub comes : C r.log r.order r.result

-- in a tree that runs
abbrev pub RunAs : Plan → Act → (k t : ℕ) → Order → List Event → Order → Result → Type 0
RunAs p a k t o l o' running = Run o'.marks a k × Does p None o l o'
RunAs p a k t o l o' over = Quiet o'.marks k (size a) × Does p None o l o'
RunAs p a k t o l o' (raising x) = Stoppable o'.marks a k × Does p None o l o' × (bare a ≡ true → l ≡ raised t x ∷ [])
RunAs p a k t o l o' leaving = Does p Left o l o'
RunAs p a k t o l o' undone = ⊥
RunAs p a k t o l o' (undo_raising x) = ⊥

-- in a stopped body
abbrev pub StopAs : Plan → Act → (k : ℕ) → Order → List Event → Order → Result → Type 0
StopAs p a k o l o' running = Stopped o'.marks a k × Does p None o l o'
StopAs p a k o l o' over = Stopped o'.marks a k × Does p None o l o'
StopAs p a k o l o' (raising x) = Stopped o'.marks a k × Does p None o l o'
StopAs p a k o l o' leaving = Does p Left o l o'
StopAs p a k o l o' undone = ⊥
StopAs p a k o l o' (undo_raising x) = ⊥

-- every scope in a stretch is at rest
abbrev pub ScopesRest : Plan → Order → (k n : ℕ) → Type 0
ScopesRest p o k n = (j : ℕ) → is_name p (inner j) ≡ true → k ≤ j → j < k + n → get_or o.marks j 0 ≡ idle

-- in a body of which an undo part runs
abbrev pub UndoAs : Plan → Name → Act → (k t : ℕ) → Order → List Event → Order → Result → Type 0
UndoAs p n a k t o l o' running = Undoing o'.marks a k × Does p None o l o'
UndoAs p n a k t o l o' over = ⊥
UndoAs p n a k t o l o' (raising x) = ⊥
UndoAs p n a k t o l o' leaving = Does p Left o l o'
UndoAs p n a k t o l o' undone = Quiet o'.marks k (size a) × Does p None o l o'
UndoAs p n a k t o l o' (undo_raising x) =
    (l ≡ raised t x ∷ []) × RunIn p (λ z. mark_of z o') n t × (inner_runs a k o'.marks ≡ false) × ScopesRest p o' k (size a) × Does p None o l o'

-- a scope that runs
pub data ScopeRun (ms xs : List ℕ) (m : ℕ) (b : Act) (kb : ℕ) (l : Acts) (kf : ℕ) : Type 0 where
  scope_live : m ≡ active → Run ms b kb → Quiet ms kf (sizes l) → ScopeRun ms xs m b kb l kf
  scope-done : m ≡ done → Quiet ms kb (size b) → Quiet ms kf (sizes l) → ScopeRun ms xs m b kb l kf
  scope-turned : Turned ms xs m b kb l kf → ScopeRun ms xs m b kb l kf

-- it has turned
abbrev pub Turning : Scope → List ℕ → ℕ → Type 0
Turning s ms m = Turned ms s.numbers m s.body s.body_at s.parts s.parts_at

-- it runs
abbrev pub Running : Scope → List ℕ → ℕ → Type 0
Running s ms m = ScopeRun ms s.numbers m s.body s.body_at s.parts s.parts_at

-- what a step in a scope comes to; R holds while it runs
abbrev pub StepsAs : Plan → Scope → (List ℕ → ℕ → Type 0) → Order → List Event → Order → Result → Type 0
StepsAs p s R o l o' running = R o'.marks (mark_of s.name o') × Does p None o l o'
StepsAs p s R o l o' over =
    (mark_of s.name o' ≡ idle) × Quiet o'.marks s.body_at (size s.body) × Quiet o'.marks s.parts_at (sizes s.parts) × Does p (end_as s.name) o l o'
StepsAs p s R o l o' (raising x) =
    (mark_of s.name o' ≡ idle) × Quiet o'.marks s.body_at (size s.body) × Quiet o'.marks s.parts_at (sizes s.parts) × Does p (fail_as s.name) o l o'
StepsAs p s R o l o' leaving = Does p Left o l o'
StepsAs p s R o l o' undone = ⊥
StepsAs p s R o l o' (undo_raising x) = ⊥

pub record Steps (p : Plan) (s : Scope) (R : List ℕ → ℕ → Type 0) (o : Order) (r : Outcome) : Type 0 where
  pub apart : Apart s o r.order
  pub comes : StepsAs p s R o r.log r.order r.result

-- what turning comes to is a step
pub turns-steps : {p : Plan} {s : Scope} {o o' : Order} {l : List Event} {r : Outcome} (R : List ℕ → ℕ → Type 0)
    → ((ms : List ℕ) (m : ℕ) → Turning s ms m → R ms m) → Apart s o o' → Does p None o l o' → Turns p s o' r → Steps p s R o (after l r)
turns-steps {p} {s} {o} {o'} {l} {r} R f a d t = record { apart = apart-then a t.apart; comes = go r.result t.comes }
  where
    go : (x : Result) → TurnsAs p s o' r.log r.order x → StepsAs p s R o (l ++ r.log) r.order x
    go running c = (f r.order.marks (mark_of s.name r.order) c.0, does-then d c.1)
    go over c = (c.0, c.1, c.2, does-then d c.3)
    go (raising x) c = absurd c
    go leaving c = absurd c
    go undone c = absurd c
    go (undo_raising x) c = absurd c

-- the definitions, by a scope's mark
pub looks-is : (s : Scope) (o : Order) (m : ℕ) → mark_of s.name o ≡ m
    → looks_again s o ≡ elim (eqb (state_in m) faulty) [ true ↦ turns true s o | false ↦ elim (eqb m halted) [ true ↦ turns false s o | false ↦ runs o ] ]
unfolding looks_again
looks-is s o m e =
    subst (λ (z : ℕ). looks_again s o ≡ elim (eqb (state_in z) faulty) [ true ↦ turns true s o | false ↦ elim (eqb z halted) [ true ↦ turns false s o | false ↦ runs o ] ]) e refl

-- where the body is over
pub over-is : (s : Scope) (o : Order) (m : ℕ) → mark_of s.name o ≡ m
    → body_over s o ≡ elim (eqb m active) [ true ↦ runs (marking s.name done o) | false ↦ looks_again s o ]
unfolding body_over
over-is s o m e = subst (λ (z : ℕ). body_over s o ≡ elim (eqb z active) [ true ↦ runs (marking s.name done o) | false ↦ looks_again s o ]) e refl

-- where a fault came out of the body
pub raised_is : (x : ℕ) (s : Scope) (o : Order) (b : Bool) → is_open (mark_of s.name o) ≡ b → body_raised x s o ≡ elim b [ true ↦ faults x s o | false ↦ looks_again s o ]
unfolding body_raised
raised_is x s o b e = subst (λ (z : Bool). body_raised x s o ≡ elim z [ true ↦ faults x s o | false ↦ looks_again s o ]) e refl

-- one that faulted is not open
pub state-open : (m x : ℕ) → eqb (state_in m) x ≡ true → 4 ≤ x → (eqb m active || eqb m done) ≡ false
state-open m x t h = rw (ne_eqb m active (omega (arith, eqb-true (state_in m) x t)), ne_eqb m done (omega (arith, eqb-true (state_in m) x t)))

-- a scope that waits is faulty or halted, by whether it faulted
pub waits-mark : (m : ℕ) {w : Bool} → phase m ≡ waits w → (eqb (state_in m) faulty ≡ w) × (eqb m halted ≡ not w)
waits-mark m {w} h =
    decide (eqb (state_in m) faulty)
    (λ t. let z : waits true ≡ waits w = rw (state-open m faulty t (omega arith), t) at h in let x : true ≡ w = cc in (t ∙ x, ne_eqb m halted (omega (arith, eqb-true (state_in m) faulty t)) ∙ ap not x))
    (λ t. decide (eqb m halted)
    (λ u. let z : waits false ≡ waits w = sym (ap phase (eqb-true m halted u)) ∙ h in let x : false ≡ w = cc in (t ∙ x, u ∙ rw (← x)))
    (λ u. absurd (no-waits m t u h)))
  where
    no-waits : (m : ℕ) → eqb (state_in m) faulty ≡ false → eqb m halted ≡ false → {w : Bool} → phase m ≡ waits w → ⊥
    no-waits m e f {w} h =
        decide (eqb m active || eqb m done)
        (λ t. let z : live ≡ waits w = rw t at h in let x : ◌≡◌ {A = ℕ} 0 1 = cc in omega arith)
        (λ t. decide (eqb (state_in m) undoing || eqb m withdrawing)
        (λ u. let z : Phase.undoes (eqb (state_in m) undoing) ≡ waits w = rw (t, e, f, u) at h in let x : ◌≡◌ {A = ℕ} 0 1 = cc in omega arith)
        (λ u. decide (eqb (state_in m) handling)
        (λ v. let z : heals ≡ waits w = rw (t, e, f, u, v) at h in let x : ◌≡◌ {A = ℕ} 0 1 = cc in omega arith)
        (λ v. decide (eqb m idle)
        (λ x. let z : rest ≡ waits w = rw (t, e, f, u, v, x) at h in let y : ◌≡◌ {A = ℕ} 0 1 = cc in omega arith)
        (λ x. let z : odd ≡ waits w = rw (t, e, f, u, v, x) at h in let y : ◌≡◌ {A = ℕ} 0 1 = cc in omega arith))))

-- no mark but that of handling has its phase
pub no-heals : (m : ℕ) → eqb (state_in m) handling ≡ false → phase m ≡ heals → ⊥
no-heals m e h =
    decide (eqb m active || eqb m done)
    (λ t. let z : live ≡ heals = rw t at h in let x : ◌≡◌ {A = ℕ} 0 1 = cc in omega arith)
    (λ t. decide (eqb (state_in m) faulty || eqb m halted)
    (λ u. let z : waits (eqb (state_in m) faulty) ≡ heals = rw (t, u) at h in let x : ◌≡◌ {A = ℕ} 0 1 = cc in omega arith)
    (λ u. decide (eqb (state_in m) undoing || eqb m withdrawing)
    (λ v. let z : Phase.undoes (eqb (state_in m) undoing) ≡ heals = rw (t, u, v) at h in let x : ◌≡◌ {A = ℕ} 0 1 = cc in omega arith)
    (λ v. decide (eqb m idle)
    (λ w. let z : rest ≡ heals = rw (t, u, v, e, w) at h in let x : ◌≡◌ {A = ℕ} 0 1 = cc in omega arith)
    (λ w. let z : odd ≡ heals = rw (t, u, v, e, w) at h in let x : ◌≡◌ {A = ℕ} 0 1 = cc in omega arith))))

-- a scope that undoes is undoing or withdrawing, by whether it faulted
pub undoes-mark : (m : ℕ) {w : Bool} → phase m ≡ Phase.undoes w → (eqb (state_in m) undoing ≡ w) × (eqb m withdrawing ≡ not w)
undoes-mark m {w} h =
    decide (eqb (state_in m) undoing)
    (λ t. let d : m % 16 ≡ 5 = eqb-true (state_in m) undoing t in
    let z : Phase.undoes true ≡ Phase.undoes w = rw (state-open m undoing t (omega arith), ne_eqb (state_in m) faulty (omega arith), ne_eqb m halted (omega arith), t) at h in
    let x : true ≡ w = cc in (t ∙ x, ne_eqb m withdrawing (omega arith) ∙ ap not x))
    (λ t. decide (eqb m withdrawing)
    (λ u. let z : Phase.undoes false ≡ Phase.undoes w = sym (ap phase (eqb-true m withdrawing u)) ∙ h in let x : false ≡ w = cc in (t ∙ x, u ∙ rw (← x)))
    (λ u. absurd (no-undoes m t u h)))
  where
    no-undoes : (m : ℕ) → eqb (state_in m) undoing ≡ false → eqb m withdrawing ≡ false → {w : Bool} → phase m ≡ Phase.undoes w → ⊥
    no-undoes m e f {w} h =
        decide (eqb m active || eqb m done)
        (λ t. let z : live ≡ Phase.undoes w = rw t at h in let x : ◌≡◌ {A = ℕ} 0 1 = cc in omega arith)
        (λ t. decide (eqb (state_in m) faulty || eqb m halted)
        (λ u. let z : waits (eqb (state_in m) faulty) ≡ Phase.undoes w = rw (t, u) at h in let x : ◌≡◌ {A = ℕ} 0 1 = cc in omega arith)
        (λ u. decide (eqb (state_in m) handling)
        (λ v. let z : heals ≡ Phase.undoes w = rw (t, u, e, f, v) at h in let x : ◌≡◌ {A = ℕ} 0 1 = cc in omega arith)
        (λ v. decide (eqb m idle)
        (λ x. let z : rest ≡ Phase.undoes w = rw (t, u, e, f, v, x) at h in let y : ◌≡◌ {A = ℕ} 0 1 = cc in omega arith)
        (λ x. let z : odd ≡ Phase.undoes w = rw (t, u, e, f, v, x) at h in let y : ◌≡◌ {A = ℕ} 0 1 = cc in omega arith))))

-- the numbers of a scope: its own before its body, and no others before; its body and its other parts, and no others after
pub record Reach (s : Scope) : Type 0 where
  pub start : s.first ≤ s.body_at
  pub lone : (i : ℕ) → i < s.body_at → same (inner i) s.name ≡ false → i < s.first
  pub end : s.parts_at + sizes s.parts ≡ s.first + s.count
  pub owns : Owns s.name s.first s.count

module _ (p : Plan) where
  -- the scope faults, and chooses its fault part: its body stops, and it undoes as soon as it may
  pub faults-on : (x : ℕ) (s : Scope) (o : Order) → Seat p s → phase (mark_of s.name o) ≡ live → Stoppable o.marks s.body s.body_at
      → Quiet o.marks s.parts_at (sizes s.parts) → s.parts_at + sizes s.parts ≤ length o.marks → Turns p s o (faults x s o)
  faults-on x s o h q t y m =
      let c = choice_for x s in
      let v = chosen_mark x s in
      let o₁ = caused s.name x (marking s.name v o) in
      let n = marking-length s.name v o in
      let k : mark_of s.name o₁ ≡ v = caused-mark s.name s.name x (marking s.name v o) ∙ marking-mark s.name s.body_at v o h.before (omega (arith, h.after)) in
      let k₁ : phase (mark_of s.name o₁) ≡ waits true = ap phase k ∙ phase-faulty c in
      let y₁ : Quiet o₁.marks s.parts_at (sizes s.parts)
      = quiet-agree y (agree-part (marking-agree {c = s.body_at} {m = size s.body + sizes s.parts} s.name v o h.before) (omega (arith, h.after)) (omega (arith, h.after))) in
      let r = stops p h.body o₁ k₁ (stoppable-agree t (marking-agree s.name v o h.before)) (omega (arith, h.after, n)) in
      let o₂ = (stop s.body s.body_at o₁).order in
      let d : Does p None o (faulted s.name x ∷ []) o₁
      = does-one (λ past w. move-fault p (moment_of p o) (moment_of p o₁) past w s.name x h.name q k₁ (ap choice_in k ∙ (choice-with c faulty (omega arith) ∙ h.choice x))
      (marking-list p s.name s.name v o) (faulting-elsewhere p s.name x v o)) in
      subst (λ (z : Outcome). Turns p s o z) (sym (faults-is x s o))
      (turns-after (apart-then (apart-faulting s x v o h.before (omega (arith, h.after))) (apart-kept s o₁ o₂ r.kept (omega arith) (omega (arith, h.after)) r.rooted))
      (does-then d r.does)
      (turns-on p true s o₂ h (λ z. absurd (false≢true (sym z)))
      (ap phase (mark-kept s.name s.body_at o₁ o₂ h.before (omega arith) r.rooted r.kept) ∙ k₁) r.stands
      (quiet-agree y₁ (agree-above r.kept (omega (arith, h.after)))) (omega (arith, r.kept.many, n))))

  -- the other scopes of s are at rest, where those of its body are
  others-rest : (s : Scope) (o : Order) → Seat p s → Reach s → ScopesRest p o s.body_at (size s.body) → OthersRest p s o
  others-rest s o h c r j i t x y =
      decide (ltb j s.body_at)
      (λ u. absurd (lt_irrefl (c.lone j (ltb-true j s.body_at u) t) x))
      (λ u. decide (ltb j s.parts_at)
      (λ v. r j i (ltb-false j s.body_at u) (omega (arith, ltb-true j s.parts_at v, h.after)))
      (λ v. absurd (false≢true (sym (h.bare j (ltb-false j s.parts_at v) (omega (arith, c.end))) ∙ i))))
    where
      lt_irrefl : {a b : ℕ} → a < b → b ≤ a → ⊥
      lt_irrefl d e = omega arith

  -- what breaking leaves of a scope
  steps-broken : (R : List ℕ → ℕ → Type 0) (number : ℕ) (s : Scope) (o₀ o : Order) (l : List Event) → Seat p s → Reach s → Apart s o₀ o
      → Does p (fail_as s.name) o₀ l (broken s o)
      → Steps p s R o₀ (record { result = raising number; order = broken s o; log = l })
  unfolding forgetting
  steps-broken R number s o₀ o l h c a d =
      record {
        apart = apart-then a (record {
          many = w.many ∙ marking-length s.name idle o;
          below = λ i x y. w.below i (c.lone i x y) ∙ m.below i x y;
          above = λ i x. w.above i (omega (arith, c.end)) ∙ m.above i x;
          rooted = m.rooted;
        });
        comes = (idles s.name refl, quiet-part z c.start (omega (arith, h.after, c.end)), quiet-part z (omega (arith, h.after, c.start)) (omega (arith, c.end)), d);
      }
    where
      ms : List ℕ
      ms = (marking s.name idle o).marks

      w : Kept s.first s.count ms (cleared s.first s.count ms)
      w = cleared-kept s.count s.first ms

      z : Quiet (cleared s.first s.count ms) s.first s.count
      z = cleared-quiet s.count s.first ms

      m : Apart s o (marking s.name idle o)
      m = apart-marking s idle o h.before (omega (arith, h.after))

      idles : (n : Name) → s.name ≡ n → mark_of n (broken s o) ≡ idle
      idles n e = broken-mark p n s o e (subst (λ (x : Name). Owns x s.first s.count) e c.owns)

  -- A step in the body of a scope that is live.
  pub from-live : (s : Scope) (t : ℕ) (o : Order) (r : Outcome) → Seat p s → mark_of s.name o ≡ active → Quiet o.marks s.parts_at (sizes s.parts)
      → s.parts_at + sizes s.parts ≤ length o.marks → Acted s.body_at (size s.body) o (RunAs p s.body s.body_at t o) r
      → Steps p s (Running s) o (from_body s r)
  unfolding from_body
  from-live s t o r h e y m w = go r.result w.comes
    where
      o₁ : Order
      o₁ = r.order

      a₁ : Apart s o o₁
      a₁ = apart-kept s o o₁ w.kept (omega arith) (omega (arith, h.after)) w.rooted

      e₁ : mark_of s.name o₁ ≡ active
      e₁ = mark-kept s.name s.body_at o o₁ h.before (omega arith) w.rooted w.kept ∙ e

      y₁ : Quiet o₁.marks s.parts_at (sizes s.parts)
      y₁ = quiet-agree y (agree-above w.kept (omega (arith, h.after)))

      go : (x : Result) → RunAs p s.body s.body_at t o r.log o₁ x → Steps p s (Running s) o (from_body s (record { result = x; order = o₁; log = r.log }))
      go running c =
          subst (λ (z : Outcome). Steps p s (Running s) o (after r.log z)) (sym (looks-is s o₁ active e₁))
          (record { apart = a₁; comes = (scope_live e₁ c.0 y₁, does-then c.1 (does-nothing (λ n i. (refl, refl, refl)))) })
      go over c =
          let k : mark_of s.name (marking s.name done o₁) ≡ done = marking-mark s.name s.body_at done o₁ h.before (omega (arith, h.after, w.kept.many)) in
          subst (λ (z : Outcome). Steps p s (Running s) o (after r.log z)) (sym (over-is s o₁ active e₁))
          (record {
            apart = apart-then a₁ (apart-marking s done o₁ h.before (omega (arith, h.after)));
            comes = (
              scope-done k (quiet-agree c.0 (marking-agree s.name done o₁ h.before))
                  (quiet-agree y₁ (agree-part (marking-agree {c = s.body_at} {m = size s.body + sizes s.parts} s.name done o₁ h.before) (omega (arith, h.after)) (omega (arith, h.after)))),
              does-then c.1 (does-phase p s.name done o₁ (λ a d.
                  let d₁ = tied-as live (list_of p s.name o₁) a (mark_of s.name o₁) (ap phase e₁) d.0 in (
                    tied-from live _ a (mark_of s.name (marking s.name done o₁)) (ap phase k) (d₁.0, d₁.1, d₁.2, d₁.3 ∙ sym (marking-list p s.name s.name done o₁), d₁.4, d₁.5),
                    unhurt (mark_of s.name (marking s.name done o₁)) live (ap phase k) refl,
                  ))),
            );
          })
      go (raising x) c =
          subst (λ (z : Outcome). Steps p s (Running s) o (after r.log z)) (sym (raised_is x s o₁ true (rw e₁)))
          (turns-steps (Running s) (λ ms m. scope-turned) a₁ c.1 (faults-on x s o₁ h (ap phase e₁) c.0 y₁ (omega (arith, w.kept.many))))
      go leaving c = record { apart = a₁; comes = c }
      go undone c = absurd c
      go (undo_raising x) c = absurd c

  -- A step in the body of a scope that waits for its inner scopes: it looks again.
  looks_on : (v : Bool) (s : Scope) (o o₁ : Order) (l : List Event) → Seat p s → (v ≡ false → is_root s.name ≡ false) → phase (mark_of s.name o₁) ≡ waits v
      → Stopped o₁.marks s.body s.body_at → Quiet o₁.marks s.parts_at (sizes s.parts) → s.parts_at + sizes s.parts ≤ length o₁.marks
      → Apart s o o₁ → Does p None o l o₁ → Steps p s (Turning s) o (after l (looks_again s o₁))
  looks_on v s o o₁ l h x q t y m a d =
      subst (λ (z : Outcome). Steps p s (Turning s) o (after l z))
      (sym (looks-is s o₁ (mark_of s.name o₁) refl ∙ by-mark v (eqb (state_in (mark_of s.name o₁)) faulty) (eqb (mark_of s.name o₁) halted) (waits-mark (mark_of s.name o₁) q).0 (waits-mark (mark_of s.name o₁) q).1))
      (turns-steps (Turning s) (λ ms m z. z) a d (turns-on p v s o₁ h x q t y m))
    where
      by-mark : (v x z : Bool) → x ≡ v → z ≡ not v → elim x [ true ↦ turns true s o₁ | false ↦ elim z [ true ↦ turns false s o₁ | false ↦ runs o₁ ] ] ≡ turns v s o₁
      by-mark true x z e f = rw e
      by-mark false x z e f = rw (e, f)

  -- a step in a stopped body
  pub from-stopped : (v : Bool) (s : Scope) (o : Order) (r : Outcome) → Seat p s → (v ≡ false → is_root s.name ≡ false) → phase (mark_of s.name o) ≡ waits v
      → Quiet o.marks s.parts_at (sizes s.parts) → s.parts_at + sizes s.parts ≤ length o.marks
      → Acted s.body_at (size s.body) o (StopAs p s.body s.body_at o) r → Steps p s (Turning s) o (from_body s r)
  unfolding from_body
  from-stopped v s o r h x q y m w = go r.result w.comes
    where
      o₁ : Order
      o₁ = r.order

      a₁ : Apart s o o₁
      a₁ = apart-kept s o o₁ w.kept (omega arith) (omega (arith, h.after)) w.rooted

      e₁ : mark_of s.name o₁ ≡ mark_of s.name o
      e₁ = mark-kept s.name s.body_at o o₁ h.before (omega arith) w.rooted w.kept

      y₁ : Quiet o₁.marks s.parts_at (sizes s.parts)
      y₁ = quiet-agree y (agree-above w.kept (omega (arith, h.after)))

      looks : Stopped o₁.marks s.body s.body_at → Does p None o r.log o₁ → Steps p s (Turning s) o (after r.log (looks_again s o₁))
      looks t d = looks_on v s o o₁ r.log h x (ap phase e₁ ∙ q) t y₁ (omega (arith, w.kept.many)) a₁ d

      not-active : eqb (mark_of s.name o₁) active ≡ false
      not-active = decide (eqb (mark_of s.name o₁) active)
          (λ t. absurd (let z : live ≡ waits v = sym (ap phase (eqb-true (mark_of s.name o₁) active t)) ∙ (ap phase e₁ ∙ q) in let x : ◌≡◌ {A = ℕ} 0 1 = cc in omega arith))
          (λ t. t)

      go : (x : Result) → StopAs p s.body s.body_at o r.log o₁ x → Steps p s (Turning s) o (from_body s (record { result = x; order = o₁; log = r.log }))
      go running c = looks c.0 c.1
      go over c =
          subst (λ (z : Outcome). Steps p s (Turning s) o (after r.log z))
          (sym (over-is s o₁ (mark_of s.name o₁) refl ∙ ap (λ (b : Bool). elim b [ true ↦ runs (marking s.name done o₁) | false ↦ looks_again s o₁ ]) not-active))
          (looks c.0 c.1)
      go (raising x) c =
          subst (λ (z : Outcome). Steps p s (Turning s) o (after r.log z))
          (sym (raised_is x s o₁ false (not-open (mark_of s.name o₁) (waits v) (ap phase e₁ ∙ q) (λ d. let z : ◌≡◌ {A = ℕ} 0 1 = cc in omega arith))))
          (looks c.0 c.1)
      go leaving c = record { apart = a₁; comes = c }
      go undone c = absurd c
      go (undo_raising x) c = absurd c

  -- A step in an undo part that a scope is running.
  pub from-undoing : (v : Bool) (s : Scope) (t : ℕ) (o : Order) (r : Outcome) → Seat p s → Reach s → (v ≡ false → is_root s.name ≡ false)
      → phase (mark_of s.name o) ≡ Phase.undoes v → Quiet o.marks s.parts_at (sizes s.parts) → s.parts_at + sizes s.parts ≤ length o.marks
      → Acted s.body_at (size s.body) o (UndoAs p s.name s.body s.body_at t o) r → Steps p s (Turning s) o (from_body s r)
  unfolding from_body undo_over undo_raised breaks
  from-undoing v s t o r h c x q y m w = go r.result w.comes
    where
      o₁ : Order
      o₁ = r.order

      k : ℕ
      k = mark_of s.name o₁

      a₁ : Apart s o o₁
      a₁ = apart-kept s o o₁ w.kept (omega arith) (omega (arith, h.after)) w.rooted

      e₁ : k ≡ mark_of s.name o
      e₁ = mark-kept s.name s.body_at o o₁ h.before (omega arith) w.rooted w.kept

      q₁ : phase k ≡ Phase.undoes v
      q₁ = ap phase e₁ ∙ q

      y₁ : Quiet o₁.marks s.parts_at (sizes s.parts)
      y₁ = quiet-agree y (agree-above w.kept (omega (arith, h.after)))

      not-mark : (x : ℕ) → (phase x ≡ Phase.undoes v → ⊥) → eqb k x ≡ false
      not-mark x f = decide (eqb k x) (λ z. absurd (f (sym (ap phase (eqb-true k x z)) ∙ q₁))) (λ z. z)

      not-faulty : eqb (state_in k) faulty ≡ false
      not-faulty = decide (eqb (state_in k) faulty)
          (λ t. absurd (let z : waits true ≡ Phase.undoes v = rw (state-open k faulty t (omega arith), t) at q₁ in let x : ◌≡◌ {A = ℕ} 0 1 = cc in omega arith))
          (λ t. t)

      looks : looks_again s o₁ ≡ runs o₁
      looks =
          looks-is s o₁ k refl
          ∙ (ap (λ (x : Bool). elim x [ true ↦ turns true s o₁ | false ↦ elim (eqb k halted) [ true ↦ turns false s o₁ | false ↦ runs o₁ ] ]) not-faulty
          ∙ ap (λ (x : Bool). elim x [ true ↦ turns false s o₁ | false ↦ runs o₁ ]) (not-mark halted (λ d. let z : ◌≡◌ {A = ℕ} 0 1 = cc in omega arith)))

      is-mark : (eqb (state_in k) undoing || eqb k withdrawing) ≡ true
      is-mark = by_kind v (undoes-mark k q₁).0 (undoes-mark k q₁).1
        where
          by_kind : (v : Bool) → eqb (state_in k) undoing ≡ v → eqb k withdrawing ≡ not v → (eqb (state_in k) undoing || eqb k withdrawing) ≡ true
          by_kind true e d = rw e
          by_kind false e d = rw (e, d)

      next-is : (v a b : Bool) → a ≡ v → b ≡ not v → elim a [ true ↦ undoes true s o₁ | false ↦ elim b [ true ↦ undoes false s o₁ | false ↦ runs o₁ ] ] ≡ undoes v s o₁
      next-is true a b e d = rw e
      next-is false a b e d = rw (e, d)

      next : Quiet o₁.marks s.body_at (size s.body) → Does p None o r.log o₁
          → Steps p s (Turning s) o (after r.log (elim (eqb (state_in k) undoing) [ true ↦ undoes true s o₁ | false ↦ elim (eqb k withdrawing) [ true ↦ undoes false s o₁ | false ↦ runs o₁ ] ]))
      next u d =
          subst (λ (z : Outcome). Steps p s (Turning s) o (after r.log z)) (sym (next-is v (eqb (state_in k) undoing) (eqb k withdrawing) (undoes-mark k q₁).0 (undoes-mark k q₁).1))
          (turns-steps (Turning s) (λ ms m z. z) a₁ d (undoes-on p v s o₁ h x (ap is_hurt q₁) (λ a g. tied-as (Phase.undoes v) (list_of p s.name o₁) a k q₁ g) u y₁ (omega (arith, w.kept.many))))

      go : (x : Result) → UndoAs p s.name s.body s.body_at t o r.log o₁ x
          → Steps p s (Turning s) o (from_body s (record { result = x; order = o₁; log = r.log }))
      go running d =
          subst (λ (z : Outcome). Steps p s (Turning s) o (after r.log z)) (sym looks)
          (record { apart = a₁; comes = (turned-undoes q₁ d.0 y₁, does-then d.1 (does-nothing (λ n i. (refl, refl, refl)))) })
      go over d = absurd d
      go (raising x) d = absurd d
      go leaving d = record { apart = a₁; comes = d }
      go undone d = next d.0 d.1
      go (undo_raising n) d =
          subst (λ (z : Bool). Steps p s (Turning s) o (after r.log (elim z [ true ↦ breaks n s o₁ | false ↦ runs o₁ ]))) (sym is-mark)
          (steps-broken (Turning s) n s o o₁ (r.log ++ (ended s.name ∷ [])) h c a₁
          (subst (λ (l : List Event). Does p (fail_as s.name) o (l ++ (ended s.name ∷ [])) (broken s o₁)) (sym d.0)
          (breaks-raised p v s t n o o₁ h c.owns q₁ (inside-rest p s o₁ h d.2) (others-rest s o₁ h c d.3) d.1
          (subst (λ (l : List Event). Does p None o l o₁) d.0 d.4))))

  -- A step in the fault part that a scope is running.
  pub from-heals : (s : Scope) (t : ℕ) (o : Order) (r : Outcome) → Seat p s → Reach s → phase (mark_of s.name o) ≡ heals
      → Quiet o.marks s.body_at (size s.body) → Nth o.marks (choice_on s.numbers (mark_of s.name o)) s.parts s.parts_at
      → s.parts_at + sizes s.parts ≤ length o.marks
      → Acted (part_at (choice_on s.numbers (mark_of s.name o)) s.parts s.parts_at) (size (part (choice_on s.numbers (mark_of s.name o)) s.parts)) o
      (RunAs p (part (choice_on s.numbers (mark_of s.name o)) s.parts) (part_at (choice_on s.numbers (mark_of s.name o)) s.parts s.parts_at) t o) r
      → Steps p s (Turning s) o (from_fault s r)
  unfolding from_fault part_over part_raised breaks
  from-heals s t o r h c q u n m w = go r.result w.comes
    where
      o₁ : Order
      o₁ = r.order

      k : ℕ
      k = mark_of s.name o₁

      i : ℕ
      i = choice_on s.numbers (mark_of s.name o)

      from : s.parts_at ≤ part_at i s.parts s.parts_at
      from = part-from i s.parts s.parts_at

      a₁ : Apart s o o₁
      a₁ = apart-kept s o o₁ w.kept (omega (arith, h.after, from)) (part-to i s.parts s.parts_at (nth-there n)) w.rooted

      k₁ : k ≡ mark_of s.name o
      k₁ = mark-kept s.name s.body_at o o₁ h.before (omega (arith, h.after, from)) w.rooted w.kept

      q₁ : phase k ≡ heals
      q₁ = ap phase k₁ ∙ q

      u₁ : Quiet o₁.marks s.body_at (size s.body)
      u₁ = quiet-agree u (agree-below w.kept (omega (arith, h.after, from)))

      is-handling : eqb (state_in k) handling ≡ true
      is-handling = decide (eqb (state_in k) handling) (λ z. z) (λ z. absurd (no-heals k z q₁))

      go : (x : Result) → RunAs p (part i s.parts) (part_at i s.parts s.parts_at) t o r.log o₁ x → Steps p s (Turning s) o (from_fault s (record { result = x; order = o₁; log = r.log }))
      go running d = record { apart = a₁; comes = (turned-heals q₁ u₁ (subst (λ (j : ℕ). Nth o₁.marks j s.parts s.parts_at) (sym (ap (choice_on s.numbers) k₁)) (nth-goes n w.kept d.0)), d.1) }
      go over d =
          subst (λ (z : Bool). Steps p s (Turning s) o (after r.log (elim z [ true ↦ ends s o₁ | false ↦ runs o₁ ]))) (sym is-handling)
          (record {
            apart = apart-then a₁ (apart-marking s idle o₁ h.before (omega (arith, h.after)));
            comes = (
              marking-mark s.name s.body_at idle o₁ h.before (omega (arith, h.after, w.kept.many)),
              quiet-agree u₁ (marking-agree s.name idle o₁ h.before),
              quiet-agree (nth-ends n w.kept d.0) (agree-part (marking-agree {c = s.body_at} {m = size s.body + sizes s.parts} s.name idle o₁ h.before) (omega (arith, h.after)) (omega (arith, h.after))),
              does-then d.1 (does-healed p s.name s.body_at o₁ h.name h.before (omega (arith, h.after, w.kept.many)) q₁ (inside-rest p s o₁ h (quiet-inner s.body s.body_at u₁))),
            );
          })
      go (raising n) d =
          subst (λ (z : Bool). Steps p s (Turning s) o (after r.log (elim z [ true ↦ breaks n s o₁ | false ↦ runs o₁ ]))) (sym is-handling)
          (steps-broken (Turning s) n s o o₁ (r.log ++ (ended s.name ∷ [])) h c a₁
          (does-then d.1 (breaks-healed p s o₁ h c.owns q₁ (inside-rest p s o₁ h (quiet-inner s.body s.body_at u₁))
          (others-rest s o₁ h c (λ j i x z. u₁.at j x z)))))
      go leaving d = record { apart = a₁; comes = d }
      go undone d = absurd d
      go (undo_raising x) d = absurd d
