-- How an activity other than a scope goes on: where its step lets it, and where what ran in it is over. Assumes nothing.
use Prim.Native.Nat.{ℕ, zero, suc, ◌+◌, ◌≤◌, ◌<◌}
use native.Mathlib.Omega.{arith}
use mathlib.Core.Path.{◌≡◌, refl, sym, subst, ◌∙◌}
use mathlib.Core.Bool.{Bool, true, false, cond, false≢true}
use mathlib.Core.List.{List, [], ◌++◌}
use lib.ListN.{length, get_or, set, length-set}
use lib.Seq.{get_or-set_same}
use lib.Dec.{ltb}
use borrow.Author.Tests.{ltb-true, ltb-false}
use Rattle.plan.specs.Tree.{Exp, Own, empty, send, receive, set as setting, raise, leave, choose, repeat, sequence, flow, pick, scope, arm, kind, is_arm, is_scope, Act, act, Acts, more, Plan, size, sizes, count}
use Rattle.order.specs.declared.Order.{Order}
use Rattle.order.specs.declared.End.TheVariants.{None}
use Rattle.order.specs.State.{root, inner, idle, active, inside, with_marks, marked, binding}
use Rattle.order.specs.Event.{Event}
use Rattle.order.specs.Expression.{Value, fault, value, evaluate, is_true}
use Rattle.order.specs.Begin.{Begun, begin, begin_in_turn, begin_after, part, part_at, begin_part, cleared, quiet}
use Rattle.order.specs.declared.Way.{Way as Result}
use Rattle.order.specs.declared.Way.TheVariants.{Running as running, Over as over, Raising as raising, Leaving as leaving, Undone as undone, UndoRaising as undo_raising}
use Rattle.order.specs.Scope.{Outcome, runs, after, begun_in, where_over}
use Rattle.order.specs.Acting.{finishes, raises, leaves, or_raises, enters, again, repeats, itself}
use Rattle.undoing.specs.Ties.{is_name, Place, end_told}
use Rattle.undoing.proofs.Parts.{decide}
use Rattle.undoing.proofs.Moves.{Everywhere, unchanged, Fore, Spot, move-raise, order-left}
use Rattle.undoing.proofs.Marks.{is_doer, Quiet, Kept, holding, Run, run-awaits, run-one, One, one-here, one_later, able-part, quiet-part, quiet-agree, quiet-join, agree-below, agree-above, kept-wider, kept_then, kept-itself, kept_set, quiet-stoppable}
use Rattle.undoing.proofs.Orders.{moment_of, fair_after, Fit, fit-kept, fit-marked, Does, does-then, does-nothing, does-still, does-one, plain-marked, least, SitsIn, sits-none, sits-more}
use Rattle.undoing.proofs.Beginning.{Begins, begins, begins-in-turn, begins-nothing, quiet-set, quiet-cons}
use Rattle.undoing.proofs.Breaking.{cleared-kept, cleared-quiet}
use Rattle.undoing.proofs.Scoping.{Acted, RunAs}
use Rattle.undoing.proofs.Sends.{by-send}

-- it runs on or is over
abbrev pub GoAs : Plan → Act → (k : ℕ) → Order → List Event → Order → Result → Type 0
GoAs p a k o l o' running = Run o'.marks a k × Does p None o l o'
GoAs p a k o l o' over = Quiet o'.marks k (size a) × Does p None o l o'
GoAs p a k o l o' (raising x) = ⊥
GoAs p a k o l o' leaving = ⊥
GoAs p a k o l o' undone = ⊥
GoAs p a k o l o' (undo_raising x) = ⊥

-- what runs on or is over is one of the ways a step can end
pub go-run : {p : Plan} {a : Act} {k n : ℕ} (t : ℕ) {o : Order} {r : Outcome} → Acted k n o (GoAs p a k o) r → Acted k n o (RunAs p a k t o) r
go-run {p} {a} {k} {n} t {o} {r} w = record { kept = w.kept; rooted = w.rooted; comes = go r.result w.comes }
  where
    go : (x : Result) → GoAs p a k o r.log r.order x → RunAs p a k t o r.log r.order x
    go running c = c
    go over c = c
    go (raising x) c = absurd c
    go leaving c = absurd c
    go undone c = absurd c
    go (undo_raising x) c = absurd c

-- after what led there
pub go-after : {p : Plan} {a : Act} {k n : ℕ} {o o₁ : Order} {l : List Event} {r : Outcome} → Kept k n o.marks o₁.marks → o₁.root ≡ o.root
    → Does p None o l o₁
    → Acted k n o₁ (GoAs p a k o₁) r → Acted k n o (GoAs p a k o) (after l r)
go-after {p} {a} {k} {n} {o} {o₁} {l} {r} v e d w =
    record { kept = kept_then v w.kept; rooted = w.rooted ∙ e; comes = go r.result w.comes }
  where
    go : (x : Result) → GoAs p a k o₁ r.log r.order x → GoAs p a k o (l ++ r.log) r.order x
    go running c = (c.0, does-then d c.1)
    go over c = (c.0, does-then d c.1)
    go (raising x) c = absurd c
    go leaving c = absurd c
    go undone c = absurd c
    go (undo_raising x) c = absurd c

module _ (p : Plan) where
  -- the i-th within begins
  pub begins-at : {x : Place} {l : Acts} {c : ℕ} → SitsIn p x l c → (i : ℕ) → i < count l → (o : Order) → Quiet o.marks c (sizes l)
      → c + sizes l ≤ length o.marks → Fit x o
      → Begins p (λ ms. One ms l c) c (sizes l) o o (begin_part i l c o.marks)
  unfolding begin_part part part_at size count
  begins-at (sits-none) i h o q m f = absurd (omega arith)
  begins-at (sits-more {q = x} {a} {l} {c} s y) zero h o q m f =
      let b = begins p s o (quiet-part q (omega arith) (omega arith)) (omega arith) f in
      let z : Quiet (begin a c o.marks).marks (c + size a) (sizes l) = quiet-agree (quiet-part q (omega arith) (omega arith)) (agree-above b.kept (omega arith)) in
      record { kept = kept-wider b.kept (omega arith) (omega arith); quiet = λ e. quiet-join (b.quiet e) z refl; runs = λ e. one-here (b.runs e) z; does = b.does }
  begins-at (sits-more {q = x} {a} {l} {c} s y) (suc i) h o q m f =
      let b = begins-at y i (omega arith) o (quiet-part q (omega arith) (omega arith)) (omega arith) f in
      let z : Quiet (begin_part i l (c + size a) o.marks).marks c (size a) = quiet-agree (quiet-part q (omega arith) (omega arith)) (agree-below b.kept (omega arith)) in
      record { kept = kept-wider b.kept (omega arith) (omega arith); quiet = λ e. quiet-join z (b.quiet e) refl; runs = λ e. one_later z (b.runs e); does = b.does }

  -- what follows an activity in a sequence begins
  pub begins-after : {x : Place} {l : Acts} {c : ℕ} → SitsIn p x l c → (t : ℕ) (o : Order) → Quiet o.marks c (sizes l) → c + sizes l ≤ length o.marks → Fit x o
      → Begins p (λ ms. One ms l c) c (sizes l) o o (begin_after l c t o.marks)
  unfolding begin_after size
  begins-after (sits-none {q = x} {c}) t o q m f = begins-nothing p _ c 0 o q
  begins-after (sits-more {q = x} {a} {l} {c} s y) t o q m f = go (ltb t (c + size a)) (begins-in-turn p y o q₁ (omega arith) f) (begins-after y t o q₁ (omega arith) f)
    where
      q₁ : Quiet o.marks (c + size a) (sizes l)
      q₁ = quiet-part q (omega arith) (omega arith)

      later : {r : Begun} → Begins p (λ ms. One ms l (c + size a)) (c + size a) (sizes l) o o r → Begins p (λ ms. One ms (more a l) c) c (size a + sizes l) o o r
      later {r} b =
          let z : Quiet r.marks c (size a) = quiet-agree (quiet-part q (omega arith) (omega arith)) (agree-below b.kept (omega arith)) in
          record { kept = kept-wider b.kept (omega arith) (omega arith); quiet = λ e. quiet-join z (b.quiet e) refl; runs = λ e. one_later z (b.runs e); does = b.does }

      go : (x : Bool) → Begins p (λ ms. One ms l (c + size a)) (c + size a) (sizes l) o o (begin_in_turn l (c + size a) o.marks)
          → Begins p (λ ms. One ms l (c + size a)) (c + size a) (sizes l) o o (begin_after l (c + size a) t o.marks)
          → Begins p (λ ms. One ms (more a l) c) c (size a + sizes l) o o (elim x [ true ↦ begin_in_turn l (c + size a) o.marks | false ↦ begin_after l (c + size a) t o.marks ])
      go true b b₁ = later b
      go false b b₁ = later b₁

  -- activity k is over, with what stands within it
  pub go-finishes : (own : Own) (within : Acts) (k : ℕ) (o o₁ : Order) → o₁.marks ≡ o.marks → o₁.root ≡ o.root → Everywhere p (moment_of p o) (moment_of p o₁)
      → is_name p (inner k) ≡ false → Quiet o.marks (k + 1) (sizes within) → k < length o.marks
      → Acted k (1 + sizes within) o (GoAs p (act own within) k o) (finishes k o₁)
  unfolding size
  go-finishes own within k o o₁ e d w z q m =
      record {
        kept = subst (λ (ms : List ℕ). Kept k (1 + sizes within) o.marks (set ms k idle)) (sym e) (kept_set k (1 + sizes within) k idle o.marks (omega arith) (omega arith));
        rooted = d;
        comes = (
          subst (λ (ms : List ℕ). Quiet (set ms k idle) k (1 + sizes within)) (sym e)
              (quiet-cons (get_or-set_same o.marks k idle 0 m) (quiet-set idle q (omega arith))),
          does-then (does-nothing w) (does-nothing (plain-marked p k idle o₁ z)),
        );
      }

  -- what began within k, which has a mark meanwhile, and how k goes on where that is over
  pub go-begun : (own : Own) (within : Acts) (k : ℕ) (o : Order) (f : Order → Outcome) (ms : List ℕ) (v : Bool) (g : List Event) → is_scope own ≡ false
      → get_or o.marks k 0 ≡ holding own
      → Begins p (λ ns. One ns within (k + 1)) (k + 1) (sizes within) o o (record { marks = ms; over = v; log = g })
      → (Quiet ms (k + 1) (sizes within) → Acted k (1 + sizes within) (with_marks ms o) (GoAs p (act own within) k (with_marks ms o)) (f (with_marks ms o)))
      → Acted k (1 + sizes within) o (GoAs p (act own within) k o) (where_over f (begun_in o (record { marks = ms; over = v; log = g })))
  go-begun own within k o f ms true g s e b w =
      go-after (kept-wider b.kept (omega arith) (omega arith)) refl b.does (w (b.quiet refl))
  go-begun own within k o f ms false g s e b w =
      record {
        kept = kept-wider b.kept (omega arith) (omega arith);
        rooted = refl;
        comes = (run-one s (b.kept.below k (omega arith) ∙ e) (b.runs refl), b.does);
      }

  -- an activity whose step it is raises; lets the order leave; stays as it is
  pub acts-raises : {x : Place} (number : ℕ) (own : Own) (within : Acts) (k : ℕ) (o : Order) → Spot p x k → Fit x o → is_scope own ≡ false → is_name p (inner k) ≡ false → Quiet o.marks (k + 1) (sizes within)
      → Acted k (1 + sizes within) o (RunAs p (act own within) k k o) (raises number k o)
  acts-raises number own within k o u f s z q =
      record {
        kept = kept_set k (1 + sizes within) k idle o.marks (omega arith) (omega arith);
        rooted = refl;
        comes = (
          able-part s (quiet-stoppable within (k + 1) (quiet-set idle q (omega arith))),
          does-one (λ past x. move-raise p (moment_of p o) (moment_of p (marked k idle o)) past x k number u f (plain-marked p k idle o z)),
          λ e. refl,
        );
      }

  -- it lets the order leave
  acts-leaves : (own : Own) (within : Acts) (k : ℕ) (o : Order) → Acted k (1 + sizes within) o (RunAs p (act own within) k k o) (leaves k o)
  unfolding fair_after end_told
  acts-leaves own within k o =
      record {
        kept = kept_set k (1 + sizes within) k idle o.marks (omega arith) (omega arith);
        rooted = refl;
        comes = record { does = λ past x. (rw (order-left p (moment_of p o) (moment_of p o) past x), refl) };
      }

  -- it stays as it is
  pub acts-runs : (a : Act) (k n t : ℕ) (o : Order) → Run o.marks a k → Acted k n o (RunAs p a k t o) (runs o)
  acts-runs a k n t o r = record { kept = kept-itself k n o.marks; rooted = refl; comes = (r, does-nothing (λ s i. (refl, refl, refl))) }

  -- values are bound: no scope has a change
  bound-everywhere : (v x : ℕ) (o : Order) → Everywhere p (moment_of p o) (moment_of p (binding v x o))
  bound-everywhere v x o root i = (refl, refl, refl)
  bound-everywhere v x o (inner k) i = (refl, refl, refl)

  -- marks that were idle are cleared: no scope has a change
  cleared-everywhere : (k n : ℕ) (o : Order) → Quiet o.marks k n → Everywhere p (moment_of p o) (moment_of p (with_marks (cleared k n o.marks) o))
  cleared-everywhere k n o q root i = (refl, refl, refl)
  cleared-everywhere k n o q (inner j) i =
      unchanged (decide (ltb j k)
      (λ t. (cleared-kept n k o.marks).below j (ltb-true j k t))
      (λ t. decide (ltb j (k + n))
      (λ u. (cleared-quiet n k o.marks).at j (ltb-false j k t) (ltb-true j (k + n) u) ∙ sym (q.at j (ltb-false j k t) (ltb-true j (k + n) u)))
      (λ u. (cleared-kept n k o.marks).above j (ltb-false j (k + n) u)))) refl

  -- a repeat decides again
  pub go-again : (e : Exp) (within : Acts) (k : ℕ) (o : Order) → is_name p (inner k) ≡ false → Quiet o.marks (k + 1) (sizes within) → k < length o.marks
      → Acted k (1 + sizes within) o (GoAs p (act (repeat e) within) k o) (again k o)
  unfolding kind is_doer
  go-again e within k o z q m =
      record {
        kept = kept_set k (1 + sizes within) k active o.marks (omega arith) (omega arith);
        rooted = refl;
        comes = (run-awaits refl refl (get_or-set_same o.marks k active 0 m) (quiet-set active q (omega arith)), does-nothing (plain-marked p k active o z));
      }

  -- a repeat has another turn
  go-repeats : {x : Place} (e : Exp) (within : Acts) (k : ℕ) (o : Order) → Fore x k → Fit x o → SitsIn p x within (k + 1) → 1 ≤ count within → is_name p (inner k) ≡ false
      → Quiet o.marks (k + 1) (sizes within) → k + (1 + sizes within) ≤ length o.marks
      → Acted k (1 + sizes within) o (GoAs p (act (repeat e) within) k o) (repeats k within o)
  unfolding repeats kind
  go-repeats {x} e within k o d f l c z q m =
      go-after {l = []} (kept_then (kept-wider w (omega arith) (omega arith)) (kept_set k (1 + sizes within) k inside ms (omega arith) (omega arith))) refl
      (does-still (does-nothing (cleared-everywhere (k + 1) (sizes within) o q)) (plain-marked p k inside (with_marks ms o) z))
      (go-begun (repeat e) within k o₁ (again k) _ _ _ refl (get_or-set_same ms k inside 0 (omega (arith, w.many))) b
      (λ q₁. go-again e within k (with_marks (begin_part 0 within (k + 1) o₁.marks).marks o₁) z q₁ (omega (arith, w.many, length-set ms k inside, b.kept.many))))
    where
      ms : List ℕ
      ms = cleared (k + 1) (sizes within) o.marks

      w : Kept (k + 1) (sizes within) o.marks ms
      w = cleared-kept (sizes within) (k + 1) o.marks

      o₁ : Order
      o₁ = marked k inside (with_marks ms o)

      b : Begins p (λ ns. One ns within (k + 1)) (k + 1) (sizes within) o₁ o₁ (begin_part 0 within (k + 1) o₁.marks)
      b = begins-at l 0 c o₁ (quiet-set inside (cleared-quiet (sizes within) (k + 1) o.marks) (omega arith)) (omega (arith, w.many, length-set ms k inside))
          (fit-marked x k inside (with_marks ms o) d (fit-kept x k o (with_marks ms o) d (omega arith) refl w f))

  -- a choose enters one of its two
  go-enters : {x : Place} (e : Exp) (within : Acts) (k i : ℕ) (o : Order) → Fore x k → Fit x o → SitsIn p x within (k + 1) → i < count within → is_name p (inner k) ≡ false
      → Quiet o.marks (k + 1) (sizes within) → k + (1 + sizes within) ≤ length o.marks
      → Acted k (1 + sizes within) o (GoAs p (act (choose e) within) k o) (enters k o (begin_part i within (k + 1) (marked k inside o).marks))
  unfolding kind
  go-enters {x} e within k i o d f l c z q m =
      go-after {l = []} (kept_set k (1 + sizes within) k inside o.marks (omega arith) (omega arith)) refl (does-nothing (plain-marked p k inside o z))
      (go-begun (choose e) within k o₁ (finishes k) _ _ _ refl (get_or-set_same o.marks k inside 0 (omega arith)) b
      (λ q₁. let o₂ = with_marks (begin_part i within (k + 1) o₁.marks).marks o₁ in
      go-finishes (choose e) within k o₂ o₂ refl refl (λ s j. (refl, refl, refl)) z q₁ (omega (arith, length-set o.marks k inside, b.kept.many))))
    where
      o₁ : Order
      o₁ = marked k inside o

      b : Begins p (λ ns. One ns within (k + 1)) (k + 1) (sizes within) o₁ o₁ (begin_part i within (k + 1) o₁.marks)
      b = begins-at l i c o₁ (quiet-set inside q (omega arith)) (omega (arith, length-set o.marks k inside)) (fit-marked x k inside o d f)

  -- its step, by what its expression comes to
  acts-or-raises : {x : Place} (own : Own) (within : Acts) (k : ℕ) (o : Order) (f : ℕ → Outcome) (v : Value) → Spot p x k → Fit x o → is_scope own ≡ false → is_name p (inner k) ≡ false
      → Quiet o.marks (k + 1) (sizes within)
      → ((n : ℕ) → Acted k (1 + sizes within) o (RunAs p (act own within) k k o) (f n))
      → Acted k (1 + sizes within) o (RunAs p (act own within) k k o) (or_raises k o f v)
  acts-or-raises own within k o f (fault x) u i s z q g = acts-raises x own within k o u i s z q
  acts-or-raises own within k o f (value n) u i s z q g = g n

  -- An activity other than a scope or an arm has its step.
  pub acts-itself : {x : Place} (own : Own) (within : Acts) (q₀ k : ℕ) (o : Order) → is_scope own ≡ false → is_arm own ≡ false → is_doer own ≡ true → least own ≤ count within
      → is_name p (inner k) ≡ false
      → Spot p x k → Fit x o → SitsIn p x within (k + 1) → get_or o.marks k 0 ≡ active → Quiet o.marks (k + 1) (sizes within) → k + (1 + sizes within) ≤ length o.marks
      → Acted k (1 + sizes within) o (RunAs p (act own within) k k o) (itself own within q₀ k o)
  unfolding itself kind least is_doer
  acts-itself empty within q₀ k o s a i c z u f l e q m = absurd (false≢true i)
  acts-itself (send x y vs) within q₀ k o s a i c z u f l e q m =
      by-send (Acted k (1 + sizes within) o (RunAs p (act (send x y vs) within) k k o)) x y vs within q₀ k o
      (go-run k (go-finishes (send x y vs) within k o o refl refl (λ s j. (refl, refl, refl)) z q (omega arith)))
      (λ n. acts-raises n (send x y vs) within k o u f s z q)
  acts-itself (receive x y vs) within q₀ k o s a i c z u f l e q m = go-run k (go-finishes (receive x y vs) within k o o refl refl (λ s j. (refl, refl, refl)) z q (omega arith))
  acts-itself (setting v x) within q₀ k o s a i c z u f l e q m =
      acts-or-raises (setting v x) within k o _ (evaluate x o) u f s z q
      (λ n. go-run k (go-finishes (setting v x) within k o (binding v n o) refl refl (bound-everywhere v n o) z q (omega arith)))
  acts-itself (raise zero) within q₀ k o s a i c z u f l e q m = acts-raises 0 (raise zero) within k o u f s z q
  acts-itself (raise (suc number)) within q₀ k o s a i c z u f l e q m = acts-raises (suc number) (raise (suc number)) within k o u f s z q
  acts-itself leave within q₀ k o s a i c z u f l e q m = acts-leaves leave within k o
  acts-itself (choose x) within q₀ k o s a i c z u f l e q m =
      acts-or-raises (choose x) within k o _ (evaluate x o) u f s z q (λ n. go-run k (go-enters x within k (cond (is_true n) 0 1) o u.before f l (omega (arith, first_two (is_true n))) z q m))
    where
      first_two : (b : Bool) → cond b 0 1 < 2
      first_two true = omega arith
      first_two false = omega arith
  acts-itself (repeat x) within q₀ k o s a i c z u f l e q m = acts-or-raises (repeat x) within k o _ (evaluate x o) u f s z q (λ n. go (is_true n))
    where
      go : (b : Bool) → Acted k (1 + sizes within) o (RunAs p (act (repeat x) within) k k o) (elim b [ true ↦ repeats k within o | false ↦ finishes k o ])
      go true = go-run k (go-repeats x within k o u.before f l c z q m)
      go false = go-run k (go-finishes (repeat x) within k o o refl refl (λ s j. (refl, refl, refl)) z q (omega arith))
  acts-itself sequence within q₀ k o s a i c z u f l e q m = absurd (false≢true i)
  acts-itself flow within q₀ k o s a i c z u f l e q m = absurd (false≢true i)
  acts-itself pick within q₀ k o s a i c z u f l e q m = acts-runs (act pick within) k _ k o (run-awaits s i e q)
  acts-itself (scope xs v) within q₀ k o s a i c z u f l e q m = absurd (false≢true (sym s))
  acts-itself (arm x y vs) within q₀ k o s a i c z u f l e q m = absurd (false≢true (sym a))
