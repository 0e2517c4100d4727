-- The parts of a scope one by one, beyond what the plan says of them: which of them runs, in which a step is, and that its undo part is quiet unless it is the one
-- that runs. Assumes nothing.
use Prim.Native.Nat.{ℕ, zero, suc, ◌+◌, ◌≤◌, ◌<◌}
use native.Mathlib.Omega.{arith}
use mathlib.Core.Path.{◌≡◌, refl, sym, ap, ◌∙◌}
use mathlib.Core.Bool.{Bool, true, false, cond}
use mathlib.Core.List.{List}
use lib.ListN.{length}
use lib.Dec.{eqb}
use borrow.Author.Tests.{eqb-true}
use Rattle.plan.specs.Tree.{empty, general_part, Act, act, Acts, none, more, Plan, size, sizes, count}
use Rattle.order.specs.State.{Name, choice_in}
use Rattle.order.specs.Begin.{part, part_at}
use Rattle.undoing.specs.Ties.{Place}
use Rattle.undoing.specs.Standing.{choice_on}
use Rattle.undoing.proofs.Parts.{decide}
use Rattle.undoing.proofs.Accounts.{Phase, phase}
use Rattle.undoing.proofs.Marks.{Quiet, Run, Nth, nth_here, nth-later, Turned, turned-waits, turned-undoes, turned-heals, quiet-part}
use Rattle.undoing.proofs.Orders.{bare, bare_in, remedy-bare, Healers, heals-by, heals-all, rest-undo, rest-none}
use Rattle.undoing.proofs.Waiting.{Waits, WaitsIn, waits-first, waits-later}
use Rattle.undoing.proofs.Choices.{general-is}
use Rattle.undoing.proofs.Remedies.{part-from, part-to, healers-many, chosen-most, choice-on}

-- a mark of one phase is none of another
pub other-mark : (m v : ℕ) (q : Phase) → phase m ≡ q → (phase v ≡ q → ⊥) → eqb m v ≡ false
other-mark m v q e f = decide (eqb m v) (λ t. absurd (f (ap phase (sym (eqb-true m v t)) ∙ e))) (λ t. t)

-- where the i-th of a list runs each other is quiet
pub nth-quiet : {ms : List ℕ} {i : ℕ} {l : Acts} {c : ℕ} → Nth ms i l c → (j : ℕ) → (j ≡ i → ⊥) → j < count l → Quiet ms (part_at j l c) (size (part j l))
unfolding part part_at count size
nth-quiet (nth_here r q) zero f h = absurd (f refl)
nth-quiet (nth_here {a} {l} {c} r q) (suc j) f h = quiet-part q (part-from j l (c + size a)) (part-to j l (c + size a) (omega arith))
nth-quiet (nth-later q r) zero f h = q
nth-quiet (nth-later q r) (suc j) f h = nth-quiet r j (λ e. f (ap suc e)) (omega arith)

-- the fault part that a scope chose is none after the general one
pub choice-least : (xs : List ℕ) (m : ℕ) → choice_on xs m < general_part xs
choice-least xs m = omega (arith, general-is xs, chosen-most xs (choice_in m), choice-on xs m (choice_in m) refl)

-- a step that stands in the i-th of a list is awaited there
pub waits-at : {ms : List ℕ} {l : Acts} {c t : ℕ} {b : Bool} → WaitsIn ms l c t b → (i : ℕ) → i < count l → part_at i l c ≤ t → t < part_at i l c + size (part i l) → Waits ms (part i l) (part_at i l c) t b
unfolding part part_at count
waits-at (waits-first h w) zero n lo hi = w
waits-at (waits-first {a} {l} {c} h w) (suc i) n lo hi = absurd (omega (arith, part-from i l (c + size a)))
waits-at (waits-later h w) zero n lo hi = absurd (omega arith)
waits-at (waits-later h w) (suc i) n lo hi = waits-at w i (omega arith) lo hi

-- a scope with no undo part has nothing after its general fault part
pub healers-none : {p : Plan} {s : Name} {xs : List ℕ} {q w : Place} {l : Acts} {c : ℕ} → Healers p s xs false q w l c → part (general_part xs) l ≡ act empty none
unfolding part
healers-none (heals-by f r h) = healers-none h
healers-none (heals-all f r rest-none) = refl

-- no scope stands in them
pub healers-bare : {p : Plan} {s : Name} {xs : List ℕ} {v : Bool} {q w : Place} {l : Acts} {c : ℕ} → Healers p s xs v q w l c → bare_in l ≡ true
unfolding bare
healers-bare (heals-by f r h) = rw (remedy-bare r, healers-bare h)
healers-bare (heals-all f r (rest-undo u)) = rw (remedy-bare r, remedy-bare u)
healers-bare (heals-all f r rest-none) = rw (remedy-bare r)

-- one with an undo part has it there
pub undo-there : {p : Plan} {s : Name} {xs : List ℕ} {v : Bool} {q w : Place} {l : Acts} {c : ℕ} → Healers p s xs v q w l c → v ≡ true → general_part xs < count l
undo-there {xs = xs} {v} {l = l} h e =
    let n : count l ≡ length xs + cond v 2 1 = healers-many h in let m : count l ≡ length xs + 2 = rw e at n in omega (arith, general-is xs)

-- which is quiet where all of them are, and where the scope has turned
pub undo-all : {p : Plan} {s : Name} {xs ms : List ℕ} {v : Bool} {q w : Place} {l : Acts} {c : ℕ} → Healers p s xs v q w l c → v ≡ true → Quiet ms c (sizes l)
    → Quiet ms (part_at (general_part xs) l c) (size (part (general_part xs) l))
undo-all {xs = xs} {l = l} {c} h e z = quiet-part z (part-from (general_part xs) l c) (part-to (general_part xs) l c (undo-there h e))

pub undo-turned : {p : Plan} {s : Name} {xs ms : List ℕ} {v : Bool} {q w : Place} {b : Act} {l : Acts} {m kb c : ℕ} → Healers p s xs v q w l c → v ≡ true → Turned ms xs m b kb l c
    → Quiet ms (part_at (general_part xs) l c) (size (part (general_part xs) l))
undo-turned h e (turned-waits x y n z) = undo-all h e z
undo-turned h e (turned-undoes x y z) = undo-all h e z
undo-turned {xs = xs} h e (turned-heals {m = m} x y r) = nth-quiet r (general_part xs) (λ d. omega (arith, choice-least xs m)) (undo-there h e)

-- The root has one part after its body: it runs where one of its parts does, and is quiet where they are.
pub only-runs : {ms : List ℕ} {i c : ℕ} {f : Act} → Nth ms i (more f none) c → i ≡ 0 → Run ms f c
only-runs (nth_here r q) e = r
only-runs (nth-later q r) e = absurd (omega arith)

pub one-quiet : {ms : List ℕ} (f : Act) {c : ℕ} → Quiet ms c (sizes (more f none)) → Quiet ms c (size f)
unfolding size
one-quiet f q = quiet-part q (omega arith) (omega arith)

pub quiet_one : {ms : List ℕ} (f : Act) {c : ℕ} → Quiet ms c (size f) → Quiet ms c (sizes (more f none))
unfolding size
quiet_one f q = quiet-part q (omega arith) (omega arith)
