-- A step in a tree that runs, without scopes: it is no longer among the sure steps that are still to come, all the others are; and if it is a sure step it was
-- among them. Assumes nothing.
use Prim.Native.Nat.{ℕ, zero, suc, ◌+◌, ◌≤◌, ◌<◌}
use native.Mathlib.Omega.{arith}
use mathlib.Core.Path.{◌≡◌, refl, sym, ap, subst, ◌∙◌}
use mathlib.Core.Bool.{Bool, true, false, cond, not, ◌||◌, false≢true, or-false, or-true}
use mathlib.Core.List.{List, [], ◌∷◌, ◌++◌}
use lib.ListN.{length, get_or, length-set}
use lib.Seq.{get_or-set_same}
use lib.Dec.{eqb}
use borrow.Author.Tests.{eqb-true, eq-eqb, ne_eqb, lt-ltb, le-ltb}
use Rattle.plan.specs.Tree.{Own, empty, send, receive, set as setting, raise, leave, choose, repeat, sequence, flow, pick, scope, arm, kind, Act, act, Acts, more, Plan, size, sizes, count, is_pick, is_scope, none}
use Rattle.order.specs.declared.Order.{Order}
use Rattle.order.specs.Lists.{some, only}
use Rattle.order.specs.State.{active, inside, binding, mark_at, marked}
use Rattle.order.specs.Expression.{Value, fault, value, evaluate, is_true}
use Rattle.order.specs.Begin.{begin_after, begin_part, quiet}
use Rattle.order.specs.declared.Way.{Way as Result}
use Rattle.order.specs.declared.Way.TheVariants.{Running as running, Over as over, Raising as raising, Leaving as leaving, Undone as undone, UndoRaising as undo_raising}
use Rattle.order.specs.Scope.{Outcome, runs, after, begun_in, where_over}
use Rattle.order.specs.Acting.{finishes, raises, or_raises, enters, itself, goes_on, joins, combines, arms, its_own, replaces, performs, step_in, step_among}
use Rattle.machine.specs.Fit.{awaits}
use Rattle.undoing.specs.Ties.{Place}
use Rattle.undoing.specs.Answered.{is_sure, has_all, surely, surely_among, without}
use Rattle.undoing.proofs.Parts.{decide, only-append, some-append}
use Rattle.undoing.proofs.Marks.{trio, is_doer, run-loud, Quiet, Kept, holding, Run, run-awaits, run-one, run-all, run-body, run-done, run-turned, One, one-here, one_later, All, all-run, all_quiet, quiet-agree, agree-below, agree-above}
use Rattle.undoing.proofs.Orders.{Fit, fit-kept, fit-marked, least, fore-on, Sits, sits-part, sits-scope, SitsIn, sits-more, Remedy, remedy, sits-none}
use Rattle.undoing.proofs.Moves.{Fore}
use Rattle.undoing.proofs.Beginning.{quiet-set, quiet_all}
use Rattle.undoing.proofs.Waiting.{opens, Waits, waits-itself, waits-within, WaitsIn, waits-first, waits-later, quiet-waits, quiet-waits-in}
use Rattle.undoing.proofs.Scoping.{RunAs}
use Rattle.undoing.proofs.Goings.{begins-at}
use Rattle.undoing.proofs.Combining.{OneAs, quiet_told, quiet-found, arms-held}
use Rattle.undoing.proofs.Stepping.{PartOf, step_is, among-is, steps, steps-one, steps_all}
use Rattle.undoing.proofs.Sure.{left_in, left_in_turn, left_of_all, off-below, off-above, surely-off-in, surely-none, surely-none-in, left-off, turn-off, all-off, left-quiet, left-agree, all_same, surely_after, Comes, after-comes}
use Rattle.undoing.proofs.Sure as sure
use Rattle.undoing.proofs.Sends.{by-send}

-- the definition, by where the step is, of a step that is an activity's own
pub own_is : (own : Own) (within : Acts) (y₀ k t : ℕ) (o : Order) (b : Bool) → is_scope own ≡ false → eqb k t ≡ b
    → step_in its_own (act own within) y₀ k t o ≡ elim b [ true ↦ itself own within y₀ k o | false ↦ combines own within k t (step_among its_own within false y₀ (k + 1) t (arms own within k t o)) ]
unfolding performs replaces
own_is own within y₀ k t o b s e = step_is its_own own within y₀ k t o b s e

-- What is left of a tree after a step t in it, of which it was so much before.
abbrev pub LessAs : (left : List ℕ → List ℕ) (t : ℕ) (ms ns : List ℕ) → Result → Type 0
LessAs left t ms ns running = left ns ≡ without t (left ms)
LessAs left t ms ns over = without t (left ms) ≡ []
LessAs left t ms ns (raising x) = Unit {0}
LessAs left t ms ns leaving = Unit {0}
LessAs left t ms ns undone = Unit {0}
LessAs left t ms ns (undo_raising x) = Unit {0}

abbrev pub Lessens : Act → (k t : ℕ) → List ℕ → Outcome → Type 0
Lessens a k t ms r = LessAs (left_in a k) t ms r.order.marks r.result

-- in a list one of which runs: where that one is over, those after it are left
abbrev TurnAs : Acts → (c t : ℕ) (ms ns : List ℕ) → Result → Type 0
TurnAs l c t ms ns running = left_in_turn l c ns ≡ without t (left_in_turn l c ms)
TurnAs l c t ms ns over = without t (left_in_turn l c ms) ≡ surely_after l c t
TurnAs l c t ms ns (raising x) = Unit {0}
TurnAs l c t ms ns leaving = Unit {0}
TurnAs l c t ms ns undone = Unit {0}
TurnAs l c t ms ns (undo_raising x) = Unit {0}

-- in a list each of which runs or is quiet
abbrev AllLessAs : Acts → (c t : ℕ) (ms ns : List ℕ) → Result → Type 0
AllLessAs l c t ms ns running = left_of_all l c ns ≡ without t (left_of_all l c ms)
AllLessAs l c t ms ns over = left_of_all l c ns ≡ without t (left_of_all l c ms)
AllLessAs l c t ms ns (raising x) = Unit {0}
AllLessAs l c t ms ns leaving = Unit {0}
AllLessAs l c t ms ns undone = Unit {0}
AllLessAs l c t ms ns (undo_raising x) = Unit {0}

-- of what never has anything left
nothing-less : (left : List ℕ → List ℕ) (t : ℕ) (ms ns : List ℕ) (x : Result) → ((ms : List ℕ) → left ms ≡ []) → LessAs left t ms ns x
unfolding only
nothing-less left t ms ns running f = rw (f ns, f ms)
nothing-less left t ms ns over f = rw (f ms)
nothing-less left t ms ns (raising x) f = tt
nothing-less left t ms ns leaving f = tt
nothing-less left t ms ns undone f = tt
nothing-less left t ms ns (undo_raising x) f = tt

-- what is left of an activity that is sure to have its step
sure-left : (own : Own) (within : Acts) (k : ℕ) (ms : List ℕ) → is_sure own ≡ true → left_in (act own within) k ms ≡ cond (eqb (get_or ms k 0) active) (k ∷ []) []
unfolding is_sure left_in
sure-left empty within k ms s = absurd (false≢true s)
sure-left (send x y vs) within k ms s = refl
sure-left (receive x y vs) within k ms s = refl
sure-left (setting v x) within k ms s = refl
sure-left (raise zero) within k ms s = refl
sure-left (raise (suc number)) within k ms s = refl
sure-left leave within k ms s = refl
sure-left (choose x) within k ms s = refl
sure-left (repeat x) within k ms s = absurd (false≢true s)
sure-left sequence within k ms s = absurd (false≢true s)
sure-left flow within k ms s = absurd (false≢true s)
sure-left pick within k ms s = absurd (false≢true s)
sure-left (scope xs u) within k ms s = absurd (false≢true s)
sure-left (arm x y vs) within k ms s = absurd (false≢true s)

-- what it is not while it awaits its step, and while something runs in it
record Surely (own : Own) : Type 0 where
  plain : is_scope own ≡ false
  shut : is_pick own ≡ false
  held : eqb (holding own) active ≡ false
  awaits-so : (m : ℕ) → awaits own false m ≡ eqb m active

surely-so : (own : Own) → is_sure own ≡ true → Surely own
unfolding is_sure kind awaits
surely-so empty s = absurd (false≢true s)
surely-so (send x y vs) s = record { plain = refl; shut = refl; held = refl; awaits-so = λ m. refl }
surely-so (receive x y vs) s = record { plain = refl; shut = refl; held = refl; awaits-so = λ m. refl }
surely-so (setting v x) s = record { plain = refl; shut = refl; held = refl; awaits-so = λ m. refl }
surely-so (raise zero) s = record { plain = refl; shut = refl; held = refl; awaits-so = λ m. refl }
surely-so (raise (suc number)) s = record { plain = refl; shut = refl; held = refl; awaits-so = λ m. refl }
surely-so leave s = record { plain = refl; shut = refl; held = refl; awaits-so = λ m. refl }
surely-so (choose x) s = record { plain = refl; shut = refl; held = refl; awaits-so = λ m. refl }
surely-so (repeat x) s = absurd (false≢true s)
surely-so sequence s = absurd (false≢true s)
surely-so flow s = absurd (false≢true s)
surely-so pick s = absurd (false≢true s)
surely-so (scope xs u) s = absurd (false≢true s)
surely-so (arm x y vs) s = absurd (false≢true s)

-- it makes of a step within it what leaves its mark, or it is over
abbrev KeepsAs : (k : ℕ) (ms ns : List ℕ) → Result → Type 0
KeepsAs k ms ns running = get_or ns k 0 ≡ get_or ms k 0
KeepsAs k ms ns over = Unit {0}
KeepsAs k ms ns (raising x) = Unit {0}
KeepsAs k ms ns leaving = Unit {0}
KeepsAs k ms ns undone = Unit {0}
KeepsAs k ms ns (undo_raising x) = Unit {0}

keeps-itself : (k : ℕ) (ms : List ℕ) (x : Result) → KeepsAs k ms ms x
keeps-itself k ms running = refl
keeps-itself k ms over = tt
keeps-itself k ms (raising x) = tt
keeps-itself k ms leaving = tt
keeps-itself k ms undone = tt
keeps-itself k ms (undo_raising x) = tt

sure-keeps : (own : Own) (within : Acts) (k t : ℕ) (r : Outcome) → is_sure own ≡ true → KeepsAs k r.order.marks (combines own within k t r).order.marks (combines own within k t r).result
unfolding is_sure combines goes_on
sure-keeps empty within k t r s = absurd (false≢true s)
sure-keeps (send x y vs) within k t r s = keeps-itself k r.order.marks r.result
sure-keeps (receive x y vs) within k t r s = keeps-itself k r.order.marks r.result
sure-keeps (setting v x) within k t r s = keeps-itself k r.order.marks r.result
sure-keeps (raise zero) within k t r s = keeps-itself k r.order.marks r.result
sure-keeps (raise (suc number)) within k t r s = keeps-itself k r.order.marks r.result
sure-keeps leave within k t r s = keeps-itself k r.order.marks r.result
sure-keeps (choose x) within k t r s = go r.result
  where
    ended : (b : Bool) → KeepsAs k r.order.marks (after r.log (elim b [ true ↦ finishes k r.order | false ↦ runs r.order ])).order.marks (after r.log (elim b [ true ↦ finishes k r.order | false ↦ runs r.order ])).result
    ended true = tt
    ended false = refl

    go : (z : Result) → KeepsAs k r.order.marks
        (where_over (λ o. elim (eqb (mark_at k o) inside) [ true ↦ finishes k o | false ↦ runs o ]) (record { result = z; order = r.order; log = r.log })).order.marks
        (where_over (λ o. elim (eqb (mark_at k o) inside) [ true ↦ finishes k o | false ↦ runs o ]) (record { result = z; order = r.order; log = r.log })).result
    go running = refl
    go over = ended (eqb (mark_at k r.order) inside)
    go (raising x) = tt
    go leaving = tt
    go undone = tt
    go (undo_raising x) = tt
sure-keeps (repeat x) within k t r s = absurd (false≢true s)
sure-keeps sequence within k t r s = absurd (false≢true s)
sure-keeps flow within k t r s = absurd (false≢true s)
sure-keeps pick within k t r s = absurd (false≢true s)
sure-keeps (scope xs u) within k t r s = absurd (false≢true s)
sure-keeps (arm x y vs) within k t r s = absurd (false≢true s)

-- so that nothing is left of it, where its mark was no active one
kept_less : (left : List ℕ → List ℕ) (k t : ℕ) (ms₀ ms ns : List ℕ) (x : Result) → ((ms : List ℕ) → left ms ≡ cond (eqb (get_or ms k 0) active) (k ∷ []) [])
    → eqb (get_or ms₀ k 0) active ≡ false → get_or ms k 0 ≡ get_or ms₀ k 0 → KeepsAs k ms ns x → LessAs left t ms₀ ns x
unfolding only
kept_less left k t ms₀ ms ns running f e d g = rw (f ns, f ms₀, e, g, d, e)
kept_less left k t ms₀ ms ns over f e d g = rw (f ms₀, e)
kept_less left k t ms₀ ms ns (raising x) f e d g = tt
kept_less left k t ms₀ ms ns leaving f e d g = tt
kept_less left k t ms₀ ms ns undone f e d g = tt
kept_less left k t ms₀ ms ns (undo_raising x) f e d g = tt

-- one number, and without it
one-without : (k : ℕ) → without k (k ∷ []) ≡ []
unfolding only
one-without k = rw (eq-eqb k k refl)

module _ (p : Plan) where
  -- an activity that is sure to have its step has it: it is over, or raises, or leaves; or, a choose, it goes inside
  abbrev DoneAs : (k : ℕ) (ns : List ℕ) → Result → Type 0
  DoneAs k ns running = get_or ns k 0 ≡ inside
  DoneAs k ns over = Unit {0}
  DoneAs k ns (raising x) = Unit {0}
  DoneAs k ns leaving = Unit {0}
  DoneAs k ns undone = Unit {0}
  DoneAs k ns (undo_raising x) = Unit {0}

  choose-done : {x : Place} (within : Acts) (k i : ℕ) (o : Order) → Fore x k → Fit x o → SitsIn p x within (k + 1) → i < count within → Quiet o.marks (k + 1) (sizes within)
      → k + (1 + sizes within) ≤ length o.marks
      → DoneAs k (enters k o (begin_part i within (k + 1) (marked k inside o).marks)).order.marks (enters k o (begin_part i within (k + 1) (marked k inside o).marks)).result
  choose-done {x} within k i o d f l c q m =
      go (begin_part i within (k + 1) (marked k inside o).marks).over
      ((begins-at p l i c (marked k inside o) (quiet-set inside q (omega arith)) (omega (arith, length-set o.marks k inside)) (fit-marked x k inside o d f)).kept.below k (omega arith)
      ∙ get_or-set_same o.marks k inside 0 (omega arith))
    where
      go : (v : Bool) → get_or (begin_part i within (k + 1) (marked k inside o).marks).marks k 0 ≡ inside
          → DoneAs k
          (where_over (finishes k) (begun_in (marked k inside o) (record { marks = (begin_part i within (k + 1) (marked k inside o).marks).marks; over = v; log = (begin_part i within (k + 1) (marked k inside o).marks).log }))).order.marks
          (where_over (finishes k) (begun_in (marked k inside o) (record { marks = (begin_part i within (k + 1) (marked k inside o).marks).marks; over = v; log = (begin_part i within (k + 1) (marked k inside o).marks).log }))).result
      go true e = tt
      go false e = e

  sure-done : {x : Place} (own : Own) (within : Acts) (y₀ k : ℕ) (o : Order) → is_sure own ≡ true → least own ≤ count within → Fore x k → Fit x o → SitsIn p x within (k + 1)
      → Quiet o.marks (k + 1) (sizes within) → k + (1 + sizes within) ≤ length o.marks → DoneAs k (itself own within y₀ k o).order.marks (itself own within y₀ k o).result
  unfolding is_sure itself least kind
  sure-done empty within y₀ k o s g d f l q m = absurd (false≢true s)
  sure-done (send x y vs) within y₀ k o s g d f l q m = by-send (λ r. DoneAs k r.order.marks r.result) x y vs within y₀ k o tt (λ n. tt)
  sure-done (receive x y vs) within y₀ k o s g d f l q m = tt
  sure-done (setting v x) within y₀ k o s g d f l q m = go (evaluate x o)
    where
      go : (z : Value) → DoneAs k (or_raises k o (λ n. finishes k (binding v n o)) z).order.marks (or_raises k o (λ n. finishes k (binding v n o)) z).result
      go (fault x) = tt
      go (value n) = tt
  sure-done (raise number) within y₀ k o s g d f l q m = tt
  sure-done leave within y₀ k o s g d f l q m = tt
  sure-done (choose x) within y₀ k o s g d f l q m = go (evaluate x o) (λ i h. choose-done within k i o d f l h q m)
    where
      first_two : (b : Bool) → cond b 0 1 < 2
      first_two true = omega arith
      first_two false = omega arith

      go : (z : Value) → ((i : ℕ) → i < count within → DoneAs k (enters k o (begin_part i within (k + 1) (marked k inside o).marks)).order.marks (enters k o (begin_part i within (k + 1) (marked k inside o).marks)).result)
          → DoneAs k (or_raises k o (λ n. enters k o (begin_part (cond (is_true n) 0 1) within (k + 1) (marked k inside o).marks)) z).order.marks
          (or_raises k o (λ n. enters k o (begin_part (cond (is_true n) 0 1) within (k + 1) (marked k inside o).marks)) z).result
      go (fault x) h = tt
      go (value n) h = h (cond (is_true n) 0 1) (omega (arith, first_two (is_true n)))
  sure-done (repeat x) within y₀ k o s g d f l q m = absurd (false≢true s)
  sure-done sequence within y₀ k o s g d f l q m = absurd (false≢true s)
  sure-done flow within y₀ k o s g d f l q m = absurd (false≢true s)
  sure-done pick within y₀ k o s g d f l q m = absurd (false≢true s)
  sure-done (scope xs u) within y₀ k o s g d f l q m = absurd (false≢true s)
  sure-done (arm x y vs) within y₀ k o s g d f l q m = absurd (false≢true s)

  done-less : (left : List ℕ → List ℕ) (k : ℕ) (ms ns : List ℕ) (x : Result) → ((ms : List ℕ) → left ms ≡ cond (eqb (get_or ms k 0) active) (k ∷ []) [])
      → get_or ms k 0 ≡ active → DoneAs k ns x → LessAs left k ms ns x
  done-less left k ms ns running f e d = rw (f ns, d, f ms, e) (sym (one-without k))
  done-less left k ms ns over f e d = rw (f ms, e) (one-without k)
  done-less left k ms ns (raising x) f e d = tt
  done-less left k ms ns leaving f e d = tt
  done-less left k ms ns undone f e d = tt
  done-less left k ms ns (undo_raising x) f e d = tt

  -- What a sequence makes of a step in it, and a flow.
  module _ {x : Place} (within : Acts) (k t : ℕ) (o : Order) (r : Outcome) (f : Fit x o) (d : Fore x k) (l : SitsIn p x within (k + 1)) (m : k + (1 + sizes within) ≤ length o.marks)
      (w : Kept (k + 1) (sizes within) o.marks r.order.marks) (rooted : r.order.root ≡ o.root) (e : get_or o.marks k 0 ≡ active) where
    mark-after : eqb (get_or r.order.marks k 0) active ≡ true
    mark-after = eq-eqb (get_or r.order.marks k 0) active (w.below k (omega arith) ∙ e)

    abbrev goes_so : Bool → Outcome
    goes_so b = after r.log (elim b [ true ↦ where_over (finishes k) (begun_in r.order (begin_after within (k + 1) t r.order.marks)) | false ↦ runs r.order ])

    abbrev begun_so : Bool → Outcome
    begun_so v =
        after r.log (where_over (finishes k) (begun_in r.order (record { marks = (begin_after within (k + 1) t r.order.marks).marks; over = v; log = (begin_after within (k + 1) t r.order.marks).log })))

    begun-less : without t (left_in_turn within (k + 1) o.marks) ≡ surely_after within (k + 1) t → Comes (left_in_turn within (k + 1)) (surely_after within (k + 1) t) (begin_after within (k + 1) t r.order.marks)
        → (v : Bool) → (begin_after within (k + 1) t r.order.marks).over ≡ v → LessAs (left_in_turn within (k + 1)) t o.marks (begun_so v).order.marks (begun_so v).result
    begun-less y c true z = y ∙ c.over z
    begun-less y c false z = c.runs z ∙ sym y

    turn-less : (z : Result) → (z ≡ over → Quiet r.order.marks (k + 1) (sizes within)) → TurnAs within (k + 1) t o.marks r.order.marks z
        → LessAs (left_in_turn within (k + 1)) t o.marks (combines sequence within k t (record { result = z; order = r.order; log = r.log })).order.marks (combines sequence within k t (record { result = z; order = r.order; log = r.log })).result
    unfolding combines goes_on
    turn-less running q y = y
    turn-less over q y =
        subst (λ (b : Bool). LessAs (left_in_turn within (k + 1)) t o.marks (goes_so b).order.marks (goes_so b).result) (sym mark-after)
        (begun-less y (after-comes p l t r.order (q refl) (omega (arith, w.many)) (fit-kept x (k + 1) o r.order (fore-on x d (omega arith)) (omega arith) rooted w f)) (begin_after within (k + 1) t r.order.marks).over refl)
    turn-less (raising x) q y = tt
    turn-less leaving q y = tt
    turn-less undone q y = tt
    turn-less (undo_raising x) q y = tt

    abbrev joins_so : Bool → Outcome
    joins_so b = after r.log (elim b [ true ↦ joins k within r.order | false ↦ runs r.order ])

    abbrev joined_so : Bool → Outcome
    joined_so b = after r.log (elim b [ true ↦ finishes k r.order | false ↦ runs r.order ])

    joined-less : left_of_all within (k + 1) r.order.marks ≡ without t (left_of_all within (k + 1) o.marks) → (b : Bool) → quiet (k + 1) (sizes within) r.order.marks ≡ b
        → LessAs (left_of_all within (k + 1)) t o.marks (joined_so b).order.marks (joined_so b).result
    joined-less y true z = sym y ∙ sure.all_quiet within (k + 1) r.order.marks (quiet-found (sizes within) (k + 1) r.order.marks z)
    joined-less y false z = y

    flow-less : (z : Result) → AllLessAs within (k + 1) t o.marks r.order.marks z
        → LessAs (left_of_all within (k + 1)) t o.marks (combines flow within k t (record { result = z; order = r.order; log = r.log })).order.marks (combines flow within k t (record { result = z; order = r.order; log = r.log })).result
    unfolding combines goes_on joins
    flow-less running y = y
    flow-less over y =
        subst (λ (b : Bool). LessAs (left_of_all within (k + 1)) t o.marks (joins_so b).order.marks (joins_so b).result) (sym mark-after)
        (joined-less y (quiet (k + 1) (sizes within) r.order.marks) refl)
    flow-less (raising x) y = tt
    flow-less leaving y = tt
    flow-less undone y = tt
    flow-less (undo_raising x) y = tt

-- one that runs is not found quiet
loud-told : (a : Act) (c : ℕ) (ms : List ℕ) → Run ms a c → quiet c (size a) ms ≡ false
loud-told a c ms r = decide (quiet c (size a) ms) (λ e. absurd (run-loud r (quiet-found (size a) c ms e))) (λ e. e)

-- one of which one runs is one of which each runs or is quiet
pub one_each : {ms : List ℕ} {l : Acts} {c : ℕ} → One ms l c → All ms l c
one_each (one-here {a} {l} {c} r q) = all-run r (quiet_all l (c + size a) q)
one_each (one_later q r) = all_quiet q (one_each r)

-- neither a flow nor a scope is sure to have a step of its own
no_flow : is_sure flow ≡ true → ⊥
unfolding is_sure
no_flow y = false≢true y

no-scope : (xs : List ℕ) (u : Bool) → is_sure (scope xs u) ≡ true → ⊥
unfolding is_sure
no-scope xs u y = false≢true y

-- how one that is sure to have its step runs: it awaits it, or one within it runs
data SureRun (ms : List ℕ) (own : Own) (within : Acts) (k : ℕ) : Type 0 where
  sure-awaits : get_or ms k 0 ≡ active → Quiet ms (k + 1) (sizes within) → SureRun ms own within k
  sure-one : get_or ms k 0 ≡ holding own → One ms within (k + 1) → SureRun ms own within k

sure-runs : {ms : List ℕ} (own : Own) (within : Acts) (k : ℕ) → is_sure own ≡ true → Run ms (act own within) k → SureRun ms own within k
sure-runs own within k y (run-awaits _ _ c q) = sure-awaits c q
sure-runs own within k y (run-one _ c q) = sure-one c q
sure-runs flow within k y (run-all _ _ _) = absurd (no_flow y)
sure-runs (scope xs u) within k y (run-body _ _ _) = absurd (no-scope xs u y)
sure-runs (scope xs u) within k y (run-done _ _) = absurd (no-scope xs u y)
sure-runs (scope xs u) within k y (run-turned _) = absurd (no-scope xs u y)

module _ (p : Plan) where
  -- An activity other than a scope that runs, by what stands within it.
  module _ {x : Place} (within : Acts) (y₀ k t : ℕ) (o : Order) (b : Bool) (y₁ : PartOf x y₀) (d : Fore x k) (f : Fit x o) (l : SitsIn p x within (k + 1)) (m : k + (1 + sizes within) ≤ length o.marks) (e : b ≡ false)
      (i : (c : Bool) → WaitsIn o.marks within (k + 1) t c → c ≡ false → One o.marks within (k + 1) → TurnAs within (k + 1) t o.marks (step_among its_own within false y₀ (k + 1) t o).order.marks (step_among its_own within false y₀ (k + 1) t o).result)
      (j : (c : Bool) → WaitsIn o.marks within (k + 1) t c → c ≡ false → All o.marks within (k + 1) → AllLessAs within (k + 1) t o.marks (step_among its_own within false y₀ (k + 1) t o).order.marks (step_among its_own within false y₀ (k + 1) t o).result) where
    -- one that is sure to have its step
    sure-less : (own : Own) → is_sure own ≡ true → least own ≤ count within → Waits o.marks (act own within) k t b → SureRun o.marks own within k → Lessens (act own within) k t o.marks (step_in its_own (act own within) y₀ k t o)
    sure-less own y g (waits-itself z a) (sure-awaits c q) =
        subst (λ (v : Outcome). Lessens (act own within) k t o.marks v) (sym (own_is own within y₀ k t o true (surely-so own y).plain (eq-eqb k t z)))
        (subst (λ (v : ℕ). Lessens (act own within) k v o.marks (itself own within y₀ k o)) z
        (done-less p (left_in (act own within) k) k o.marks (itself own within y₀ k o).order.marks (itself own within y₀ k o).result (λ ms. sure-left own within k ms y) c (sure-done p own within y₀ k o y g d f l q m)))
    sure-less own y g (waits-itself z a) (sure-one c q) =
        absurd (false≢true (sym (surely-so own y).held ∙ (sym ((surely-so own y).awaits-so (holding own)) ∙ subst (λ (v : ℕ). awaits own false v ≡ true) c (subst (λ (v : Bool). awaits own v (get_or o.marks k 0) ≡ true) e a))))
    sure-less own y g (waits-within h z) (sure-awaits c q) = absurd (quiet-waits-in z (rw (surely-so own y).shut) q)
    sure-less own y g (waits-within h z) (sure-one c q) =
        let v : opens own (get_or o.marks k 0) ≡ false = rw (surely-so own y).shut in
        let a = steps-one p its_own l y₀ t o (opens own (get_or o.marks k 0)) y₁ z v q f (omega arith) in
        subst (λ (u : Outcome). Lessens (act own within) k t o.marks u)
        (sym (own_is own within y₀ k t o false (surely-so own y).plain (ne_eqb k t (omega arith)) ∙ ap (λ (u : Order). combines own within k t (step_among its_own within false y₀ (k + 1) t u)) (arms-held own within k t o c)))
        (kept_less (left_in (act own within) k) k t o.marks (step_among its_own within false y₀ (k + 1) t o).order.marks (combines own within k t (step_among its_own within false y₀ (k + 1) t o)).order.marks (combines own within k t (step_among its_own within false y₀ (k + 1) t o)).result (λ ms. sure-left own within k ms y)
        (ap (λ (u : ℕ). eqb u active) c ∙ (surely-so own y).held) (a.kept.below k (omega arith)) (sure-keeps own within k t (step_among its_own within false y₀ (k + 1) t o) y))

    -- a sequence
    one-over : (z : Result) → z ≡ over → OneAs p within (k + 1) t o (step_among its_own within false y₀ (k + 1) t o).log (step_among its_own within false y₀ (k + 1) t o).order z → Quiet (step_among its_own within false y₀ (k + 1) t o).order.marks (k + 1) (sizes within)
    one-over running v c = absurd (let z : ◌≡◌ {A = ℕ} 0 1 = cc in omega arith)
    one-over over v c = c.0
    one-over (raising x) v c = absurd (let z : ◌≡◌ {A = ℕ} 0 1 = cc in omega arith)
    one-over leaving v c = absurd (let z : ◌≡◌ {A = ℕ} 0 1 = cc in omega arith)
    one-over undone v c = absurd c
    one-over (undo_raising x) v c = absurd c

    in-sequence : Waits o.marks (act sequence within) k t b → Run o.marks (act sequence within) k → Lessens (act sequence within) k t o.marks (step_in its_own (act sequence within) y₀ k t o)
    unfolding left_in itself is_doer kind
    in-sequence (waits-itself z a) q =
        subst (λ (v : Outcome). Lessens (act sequence within) k t o.marks v) (sym (own_is sequence within y₀ k t o true refl (eq-eqb k t z)))
        (sym (turn-off within (k + 1) t o.marks (off-below t (k + 1) (sizes within) (omega arith))))
    in-sequence (waits-within h z) (run-awaits _ y _ _) = absurd (false≢true y)
    in-sequence (waits-within h z) (run-one s₁ c q) =
        let a = steps-one p its_own l y₀ t o _ y₁ z refl q f (omega arith) in
        subst (λ (u : Outcome). Lessens (act sequence within) k t o.marks u)
        (sym (own_is sequence within y₀ k t o false refl (ne_eqb k t (omega arith)) ∙ ap (λ (u : Order). combines sequence within k t (step_among its_own within false y₀ (k + 1) t u)) (arms-held sequence within k t o c)))
        (turn-less p within k t o (step_among its_own within false y₀ (k + 1) t o) f d l m a.kept a.rooted c (step_among its_own within false y₀ (k + 1) t o).result
        (λ v. one-over (step_among its_own within false y₀ (k + 1) t o).result v a.comes) (i _ z refl q))

    -- a flow
    beside : {v : Bool} → k < t → WaitsIn o.marks within (k + 1) t v → v ≡ false → get_or o.marks k 0 ≡ active → All o.marks within (k + 1) → Lessens (act flow within) k t o.marks (step_in its_own (act flow within) y₀ k t o)
    unfolding left_in
    beside {v} h z u c q =
        let a = steps_all p its_own l y₀ t o v y₁ z u q f (omega arith) in
        subst (λ (u : Outcome). Lessens (act flow within) k t o.marks u)
        (sym (own_is flow within y₀ k t o false refl (ne_eqb k t (omega arith)) ∙ ap (λ (u : Order). combines flow within k t (step_among its_own within false y₀ (k + 1) t u)) (arms-held flow within k t o c)))
        (flow-less p within k t o (step_among its_own within false y₀ (k + 1) t o) f d l m a.kept a.rooted c (step_among its_own within false y₀ (k + 1) t o).result (j v z u q))

    in-flow : Waits o.marks (act flow within) k t b → Run o.marks (act flow within) k → Lessens (act flow within) k t o.marks (step_in its_own (act flow within) y₀ k t o)
    unfolding left_in itself is_doer kind
    in-flow (waits-itself z a) q =
        subst (λ (v : Outcome). Lessens (act flow within) k t o.marks v) (sym (own_is flow within y₀ k t o true refl (eq-eqb k t z)))
        (sym (all-off within (k + 1) t o.marks (off-below t (k + 1) (sizes within) (omega arith))))
    in-flow (waits-within h z) (run-awaits _ y _ _) = absurd (false≢true y)
    in-flow (waits-within h z) (run-one s₁ c q) = beside h z refl c (one_each q)
    in-flow (waits-within h z) (run-all c q _) = beside h z refl c q

    part-less : (own : Own) → least own ≤ count within → Waits o.marks (act own within) k t b → Run o.marks (act own within) k → Lessens (act own within) k t o.marks (step_in its_own (act own within) y₀ k t o)
    unfolding is_sure left_in
    part-less empty g w r = nothing-less (left_in (act empty within) k) t o.marks (step_in its_own (act empty within) y₀ k t o).order.marks (step_in its_own (act empty within) y₀ k t o).result (λ ms. refl)
    part-less (send y z vs) g w r = sure-less (send y z vs) refl g w (sure-runs (send y z vs) within k refl r)
    part-less (receive y z vs) g w r = sure-less (receive y z vs) refl g w (sure-runs (receive y z vs) within k refl r)
    part-less (setting v y) g w r = sure-less (setting v y) refl g w (sure-runs (setting v y) within k refl r)
    part-less (raise zero) g w r = sure-less (raise zero) refl g w (sure-runs (raise zero) within k refl r)
    part-less (raise (suc number)) g w r = sure-less (raise (suc number)) refl g w (sure-runs (raise (suc number)) within k refl r)
    part-less leave g w r = sure-less leave refl g w (sure-runs leave within k refl r)
    part-less (choose y) g w r = sure-less (choose y) refl g w (sure-runs (choose y) within k refl r)
    part-less (repeat y) g w r = nothing-less (left_in (act (repeat y) within) k) t o.marks (step_in its_own (act (repeat y) within) y₀ k t o).order.marks (step_in its_own (act (repeat y) within) y₀ k t o).result (λ ms. refl)
    part-less sequence g w r = in-sequence w r
    part-less flow g w r = in-flow w r
    part-less pick g w r = nothing-less (left_in (act pick within) k) t o.marks (step_in its_own (act pick within) y₀ k t o).order.marks (step_in its_own (act pick within) y₀ k t o).result (λ ms. refl)
    part-less (scope xs u) g w r = nothing-less (left_in (act (scope xs u) within) k) t o.marks (step_in its_own (act (scope xs u) within) y₀ k t o).order.marks (step_in its_own (act (scope xs u) within) y₀ k t o).result (λ ms. refl)
    part-less (arm y z vs) g w r = nothing-less (left_in (act (arm y z vs) within) k) t o.marks (step_in its_own (act (arm y z vs) within) y₀ k t o).order.marks (step_in its_own (act (arm y z vs) within) y₀ k t o).result (λ ms. refl)

  -- in a list, where the one that runs has the step
  module _ (a : Act) (l : Acts) (c t : ℕ) (o : Order) (r : Outcome) where
    first-turn : t < c + size a → Run o.marks a c
        → (x : Result) → RunAs p a c t o r.log r.order x → LessAs (left_in a c) t o.marks r.order.marks x → TurnAs (more a l) c t o.marks r.order.marks x
    unfolding left_in surely_after
    first-turn h q running d y =
        rw (loud-told a c r.order.marks d.0, loud-told a c o.marks q, y, only-append (λ i. not (eqb t i)) (left_in a c o.marks) (surely_among l (c + size a)), surely-off-in l (c + size a) t (off-below t (c + size a) (sizes l) h))
    first-turn h q over d y =
        rw (loud-told a c o.marks q, lt-ltb t (c + size a) h, only-append (λ i. not (eqb t i)) (left_in a c o.marks) (surely_among l (c + size a)), y, surely-off-in l (c + size a) t (off-below t (c + size a) (sizes l) h))
    first-turn h q (raising x) d y = tt
    first-turn h q leaving d y = tt
    first-turn h q undone d y = tt
    first-turn h q (undo_raising x) d y = tt

    later-turn : c + size a ≤ t → Quiet o.marks c (size a) → Quiet r.order.marks c (size a)
        → (x : Result) → TurnAs l (c + size a) t o.marks r.order.marks x → TurnAs (more a l) c t o.marks r.order.marks x
    unfolding left_in surely_after
    later-turn h q z running y = rw (quiet_told (size a) c r.order.marks z, quiet_told (size a) c o.marks q) y
    later-turn h q z over y = rw (quiet_told (size a) c o.marks q, le-ltb t (c + size a) h) y
    later-turn h q z (raising x) y = tt
    later-turn h q z leaving y = tt
    later-turn h q z undone y = tt
    later-turn h q z (undo_raising x) y = tt

    first-all-less : t < c + size a → left_of_all l (c + size a) r.order.marks ≡ left_of_all l (c + size a) o.marks
        → (x : Result) → RunAs p a c t o r.log r.order x → LessAs (left_in a c) t o.marks r.order.marks x → AllLessAs (more a l) c t o.marks r.order.marks x
    unfolding left_in
    first-all-less h g running d y =
        rw (y, g, only-append (λ i. not (eqb t i)) (left_in a c o.marks) (left_of_all l (c + size a) o.marks), all-off l (c + size a) t o.marks (off-below t (c + size a) (sizes l) h))
    first-all-less h g over d y =
        rw (left-quiet a c r.order.marks d.0, g, only-append (λ i. not (eqb t i)) (left_in a c o.marks) (left_of_all l (c + size a) o.marks), y, all-off l (c + size a) t o.marks (off-below t (c + size a) (sizes l) h))
    first-all-less h g (raising x) d y = tt
    first-all-less h g leaving d y = tt
    first-all-less h g undone d y = tt
    first-all-less h g (undo_raising x) d y = tt

    later-all-less : c + size a ≤ t → left_in a c r.order.marks ≡ left_in a c o.marks
        → (x : Result) → AllLessAs l (c + size a) t o.marks r.order.marks x → AllLessAs (more a l) c t o.marks r.order.marks x
    unfolding left_in
    later-all-less h g running y = rw (g, y, only-append (λ i. not (eqb t i)) (left_in a c o.marks) (left_of_all l (c + size a) o.marks), left-off a c t o.marks (off-above t c (size a) h))
    later-all-less h g over y = rw (g, y, only-append (λ i. not (eqb t i)) (left_in a c o.marks) (left_of_all l (c + size a) o.marks), left-off a c t o.marks (off-above t c (size a) h))
    later-all-less h g (raising x) y = tt
    later-all-less h g leaving y = tt
    later-all-less h g undone y = tt
    later-all-less h g (undo_raising x) y = tt

  -- a scope has no sure step of its own
  scope-less : (xs : List ℕ) (z₀ : Bool) (within : Acts) (y₀ k t : ℕ) (o : Order) → Lessens (act (scope xs z₀) within) k t o.marks (step_in its_own (act (scope xs z₀) within) y₀ k t o)
  unfolding left_in
  scope-less xs z₀ within y₀ k t o = nothing-less (left_in (act (scope xs z₀) within) k) t o.marks (step_in its_own (act (scope xs z₀) within) y₀ k t o).order.marks (step_in its_own (act (scope xs z₀) within) y₀ k t o).result (λ ms. refl)

  -- Every step in a tree that runs.
  mutual
    unfolding size

    less : {x : Place} {a : Act} {k : ℕ} → Sits p x a k → (y₀ t : ℕ) (o : Order) (b : Bool) → PartOf x y₀ → Waits o.marks a k t b → b ≡ false → Run o.marks a k
        → Fit x o → k + size a ≤ length o.marks → Lessens a k t o.marks (step_in its_own a y₀ k t o)
    less (sits-part {q = x} {own} {within} {k} s g u y l) y₀ t o b y₁ w e r v m =
        part-less within y₀ k t o b y₁ u.before v l m e (λ c w₁ e₁ r₁. less_one l y₀ t o c y₁ w₁ e₁ r₁ v (omega arith)) (λ c w₁ e₁ r₁. less-all l y₀ t o c y₁ w₁ e₁ r₁ v (omega arith)) own g w r
    less (sits-scope {xs = xs} {v = z₀} {b = b} {f = f} {u = u} {k = k} kn d i sb z) y₀ t o b' y₁ w e r v m = scope-less xs z₀ (trio b f u) y₀ k t o

    less_one : {x : Place} {l : Acts} {c : ℕ} → SitsIn p x l c → (y₀ t : ℕ) (o : Order) (b : Bool) → PartOf x y₀ → WaitsIn o.marks l c t b → b ≡ false → One o.marks l c
        → Fit x o → c + sizes l ≤ length o.marks → TurnAs l c t o.marks (step_among its_own l false y₀ c t o).order.marks (step_among its_own l false y₀ c t o).result
    less_one (sits-none {q = q} {c = c}) y₀ t o b y₁ z e _ v m = elim z [ ]
    less_one (sits-more {q = x} {a} {l} {c} s y) y₀ t o b y₁ (waits-first h w) e (one-here r q) v m =
        subst (λ (z : Outcome). TurnAs (more a l) c t o.marks z.order.marks z.result) (sym (among-is its_own a l y₀ c t o true (lt-ltb t (c + size a) h)))
        (first-turn a l c t o (step_in its_own a y₀ c t o) h r (step_in its_own a y₀ c t o).result (steps p its_own s y₀ t o b y₁ w e r v (omega arith)).comes (less s y₀ t o b y₁ w e r v (omega arith)))
    less_one (sits-more {q = x} {a} {l} {c} s y) y₀ t o b y₁ (waits-later h w) e (one-here r q) v m = absurd (quiet-waits-in w e q)
    less_one (sits-more {q = x} {a} {l} {c} s y) y₀ t o b y₁ (waits-first h w) e (one_later q r) v m = absurd (quiet-waits w e q)
    less_one (sits-more {q = x} {a} {l} {c} s y) y₀ t o b y₁ (waits-later h w) e (one_later q r) v m =
        subst (λ (z : Outcome). TurnAs (more a l) c t o.marks z.order.marks z.result) (sym (among-is its_own a l y₀ c t o false (le-ltb t (c + size a) h)))
        (later-turn a l c t o (step_among its_own l false y₀ (c + size a) t o) h q (quiet-agree q (agree-below (steps-one p its_own y y₀ t o b y₁ w e r v (omega arith)).kept (omega arith))) (step_among its_own l false y₀ (c + size a) t o).result
        (less_one y y₀ t o b y₁ w e r v (omega arith)))

    less-all : {x : Place} {l : Acts} {c : ℕ} → SitsIn p x l c → (y₀ t : ℕ) (o : Order) (b : Bool) → PartOf x y₀ → WaitsIn o.marks l c t b → b ≡ false → All o.marks l c
        → Fit x o → c + sizes l ≤ length o.marks → AllLessAs l c t o.marks (step_among its_own l false y₀ c t o).order.marks (step_among its_own l false y₀ c t o).result
    less-all (sits-none {q = q} {c = c}) y₀ t o b y₁ z e _ v m = elim z [ ]
    less-all (sits-more {q = x} {a} {l} {c} s y) y₀ t o b y₁ (waits-first h w) e (all-run r q) v m =
        let z = steps p its_own s y₀ t o b y₁ w e r v (omega arith) in
        subst (λ (z : Outcome). AllLessAs (more a l) c t o.marks z.order.marks z.result) (sym (among-is its_own a l y₀ c t o true (lt-ltb t (c + size a) h)))
        (first-all-less a l c t o (step_in its_own a y₀ c t o) h (all_same l (c + size a) o.marks (step_in its_own a y₀ c t o).order.marks (agree-above z.kept (omega arith))) (step_in its_own a y₀ c t o).result z.comes (less s y₀ t o b y₁ w e r v (omega arith)))
    less-all (sits-more {q = x} {a} {l} {c} s y) y₀ t o b y₁ (waits-first h w) e (all_quiet q r) v m = absurd (quiet-waits w e q)
    less-all (sits-more {q = x} {a} {l} {c} s y) y₀ t o b y₁ (waits-later h w) e (all-run r q) v m =
        subst (λ (z : Outcome). AllLessAs (more a l) c t o.marks z.order.marks z.result) (sym (among-is its_own a l y₀ c t o false (le-ltb t (c + size a) h)))
        (later-all-less a l c t o (step_among its_own l false y₀ (c + size a) t o) h (left-agree a c o.marks (step_among its_own l false y₀ (c + size a) t o).order.marks (agree-below (steps_all p its_own y y₀ t o b y₁ w e q v (omega arith)).kept (omega arith)))
        (step_among its_own l false y₀ (c + size a) t o).result (less-all y y₀ t o b y₁ w e q v (omega arith)))
    less-all (sits-more {q = x} {a} {l} {c} s y) y₀ t o b y₁ (waits-later h w) e (all_quiet q r) v m =
        subst (λ (z : Outcome). AllLessAs (more a l) c t o.marks z.order.marks z.result) (sym (among-is its_own a l y₀ c t o false (le-ltb t (c + size a) h)))
        (later-all-less a l c t o (step_among its_own l false y₀ (c + size a) t o) h (left-agree a c o.marks (step_among its_own l false y₀ (c + size a) t o).order.marks (agree-below (steps_all p its_own y y₀ t o b y₁ w e r v (omega arith)).kept (omega arith)))
        (step_among its_own l false y₀ (c + size a) t o).result (less-all y y₀ t o b y₁ w e r v (omega arith)))

  -- in an undo part
  pub remedy-less : {x : Place} {a : Act} {k : ℕ} → Remedy p x a k → (y₀ t : ℕ) (o : Order) (b : Bool) → PartOf x y₀ → Waits o.marks a k t b → b ≡ false → Run o.marks a k
      → Fit x o → k + size a ≤ length o.marks → Lessens a k t o.marks (step_in its_own a y₀ k t o)
  unfolding size
  remedy-less (remedy {q = x} {own} {within} {k} s a g u z l d) y₀ t o b y₁ w e r v m =
      part-less within y₀ k t o b y₁ u.before v l m e (λ c w₁ e₁ r₁. less_one l y₀ t o c y₁ w₁ e₁ r₁ v (omega arith)) (λ c w₁ e₁ r₁. less-all l y₀ t o c y₁ w₁ e₁ r₁ v (omega arith)) own g w r

-- of two lists the one that has a number
first_some : (t : ℕ) (x y : List ℕ) → some (eqb t) (x ++ y) ≡ true → some (eqb t) y ≡ false → some (eqb t) x ≡ true
first_some t x y h e = sym (or-false (some (eqb t) x)) ∙ (ap (λ (b : Bool). some (eqb t) x || b) (sym e) ∙ (sym (some-append (eqb t) x y) ∙ h))

later-some : (t : ℕ) (x y : List ℕ) → some (eqb t) (x ++ y) ≡ true → some (eqb t) x ≡ false → some (eqb t) y ≡ true
later-some t x y h e = ap (λ (b : Bool). b || some (eqb t) y) (sym e) ∙ (sym (some-append (eqb t) x y) ∙ h)

-- one that is sure to have its step, and awaits it
sure-due : {ms : List ℕ} (own : Own) (within : Acts) (k t : ℕ) (b : Bool) → Waits ms (act own within) k t b → b ≡ false → is_sure own ≡ true → some (eqb t) (k ∷ []) ≡ true
    → some (eqb t) (cond (eqb (get_or ms k 0) active) (k ∷ []) []) ≡ true
unfolding some
sure-due {ms} own within k t b (waits-itself z a) e s h =
    rw (sym ((surely-so own s).awaits-so (get_or ms k 0)) ∙ subst (λ (v : Bool). awaits own v (get_or ms k 0) ≡ true) e a) h
sure-due own within k t b (waits-within z w) e s h = absurd (let y : k ≡ t = sym (eqb-true t k (sym (or-false (eqb t k)) ∙ h)) in omega arith)

-- A sure step that awaits is still to come.
mutual
  unfolding size surely left_in is_sure has_all awaits kind is_doer some

  pub due-left : {ms : List ℕ} (a : Act) (k t : ℕ) (b : Bool) → Waits ms a k t b → b ≡ false → Run ms a k → some (eqb t) (surely a k) ≡ true → some (eqb t) (left_in a k ms) ≡ true
  due-left (act empty within) k t b w e r h = absurd (false≢true h)
  due-left (act (send x y vs) within) k t b w e r h = sure-due (send x y vs) within k t b w e refl h
  due-left (act (receive x y vs) within) k t b w e r h = sure-due (receive x y vs) within k t b w e refl h
  due-left (act (setting v x) within) k t b w e r h = sure-due (setting v x) within k t b w e refl h
  due-left (act (raise zero) within) k t b w e r h = sure-due (raise zero) within k t b w e refl h
  due-left (act (raise (suc number)) within) k t b w e r h = sure-due (raise (suc number)) within k t b w e refl h
  due-left (act leave within) k t b w e r h = sure-due leave within k t b w e refl h
  due-left (act (choose x) within) k t b w e r h = sure-due (choose x) within k t b w e refl h
  due-left (act (repeat x) within) k t b w e r h = absurd (false≢true h)
  due-left (act sequence within) k t b (waits-itself z a) e r h = absurd (false≢true (sym (surely-none-in within (k + 1) t (off-below t (k + 1) (sizes within) (omega arith))) ∙ h))
  due-left (act sequence within) k t b (waits-within z w) e (run-awaits _ y _ _) h = absurd (false≢true y)
  due-left (act sequence within) k t b (waits-within z w) e (run-one _ y q) h = due-turn within (k + 1) t _ w refl q h
  due-left (act flow within) k t b (waits-itself z a) e r h = absurd (false≢true (sym (surely-none-in within (k + 1) t (off-below t (k + 1) (sizes within) (omega arith))) ∙ h))
  due-left (act flow within) k t b (waits-within z w) e (run-awaits _ y _ _) h = absurd (false≢true y)
  due-left (act flow within) k t b (waits-within z w) e (run-one _ y q) h = due_all within (k + 1) t _ w refl (one_each q) h
  due-left (act flow within) k t b (waits-within z w) e (run-all _ q _) h = due_all within (k + 1) t _ w refl q h
  due-left (act pick within) k t b w e r h = absurd (false≢true h)
  due-left (act (scope xs u) within) k t b w e r h = absurd (false≢true h)
  due-left (act (arm x y vs) within) k t b w e r h = absurd (false≢true h)

  due-turn : {ms : List ℕ} (l : Acts) (c t : ℕ) (b : Bool) → WaitsIn ms l c t b → b ≡ false → One ms l c → some (eqb t) (surely_among l c) ≡ true → some (eqb t) (left_in_turn l c ms) ≡ true
  due-turn {ms = ms} none c t b z e _ h = elim z [ ]
  due-turn {ms} (more a l) c t b (waits-first z w) e (one-here r q) h =
      rw (
        loud-told a c ms r,
        some-append (eqb t) (left_in a c ms) (surely_among l (c + size a)),
        due-left a c t b w e r (first_some t (surely a c) (surely_among l (c + size a)) h (surely-none-in l (c + size a) t (off-below t (c + size a) (sizes l) z))),
      )
  due-turn (more a l) c t b (waits-later z w) e (one-here r q) h = absurd (quiet-waits-in w e q)
  due-turn (more a l) c t b (waits-first z w) e (one_later q r) h = absurd (quiet-waits w e q)
  due-turn {ms} (more a l) c t b (waits-later z w) e (one_later q r) h =
      rw (quiet_told (size a) c ms q) (due-turn l (c + size a) t b w e r (later-some t (surely a c) (surely_among l (c + size a)) h (surely-none a c t (off-above t c (size a) z))))

  due_all : {ms : List ℕ} (l : Acts) (c t : ℕ) (b : Bool) → WaitsIn ms l c t b → b ≡ false → All ms l c → some (eqb t) (surely_among l c) ≡ true → some (eqb t) (left_of_all l c ms) ≡ true
  due_all {ms = ms} none c t b z e _ h = elim z [ ]
  due_all {ms} (more a l) c t b (waits-first z w) e (all-run r q) h =
      rw (
        some-append (eqb t) (left_in a c ms) (left_of_all l (c + size a) ms),
        due-left a c t b w e r (first_some t (surely a c) (surely_among l (c + size a)) h (surely-none-in l (c + size a) t (off-below t (c + size a) (sizes l) z))),
      )
  due_all (more a l) c t b (waits-first z w) e (all_quiet q r) h = absurd (quiet-waits w e q)
  due_all {ms} (more a l) c t b (waits-later z w) e (all-run r q) h =
      rw (
        some-append (eqb t) (left_in a c ms) (left_of_all l (c + size a) ms),
        due_all l (c + size a) t b w e q (later-some t (surely a c) (surely_among l (c + size a)) h (surely-none a c t (off-above t c (size a) z))),
        or-true,
      )
  due_all {ms} (more a l) c t b (waits-later z w) e (all_quiet q r) h =
      rw (
        some-append (eqb t) (left_in a c ms) (left_of_all l (c + size a) ms),
        due_all l (c + size a) t b w e r (later-some t (surely a c) (surely_among l (c + size a)) h (surely-none a c t (off-above t c (size a) z))),
        or-true,
      )
