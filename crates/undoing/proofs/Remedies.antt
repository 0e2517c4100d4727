-- The parts of a scope after its body, one by one: where each stands, what its plan says of it, and which is the one for a number. Assumes nothing.
use Prim.Native.Nat.{ℕ, zero, suc, ◌+◌, ◌-◌, ◌≤◌, ◌<◌}
use native.Mathlib.Omega.{arith}
use mathlib.Core.Path.{◌≡◌, refl, sym, ap, subst, ◌∙◌}
use mathlib.Core.Bool.{Bool, true, false, cond, ◌&&◌, false≢true}
use mathlib.Core.List.{List, [], ◌∷◌, map}
use lib.ListN.{length, get_or}
use lib.Dec.{eqb, ltb, leb}
use borrow.Author.Tests.{eq-eqb, ltb-true, ltb-false, leb-true, lt-ltb, le-leb}
use Rattle.plan.specs.Tree.{general_part, undo_part, Act, act, Acts, none, more, Plan, size, sizes, count}
use Rattle.order.specs.Lists.{some, only, each}
use Rattle.order.specs.State.{Name, root, inner, choice_in}
use Rattle.order.specs.Begin.{part, part_at}
use Rattle.order.specs.Scope.{Scope, scope_at, root_of, general_for, part_for, choice_for, chosen_part, chosen_at}
use Rattle.undoing.specs.Demand3.{Inner, firsts, scopes_of}
use Rattle.undoing.specs.Ties.{is_name, Place}
use Rattle.undoing.specs.Orderly.{part_by, is_part_for}
use Rattle.undoing.specs.Standing.{choice_on}
use Rattle.undoing.proofs.Parts.{both, decide, one-some}
use Rattle.undoing.proofs.Choices.{named}
use Rattle.undoing.proofs.Accounts.{choice_by, Known}
use Rattle.undoing.proofs.Marks.{trio, Quiet, Kept, Run, Nth, nth_here, nth-later, quiet-part, quiet-agree, quiet-join, agree-below, agree-above}
use Rattle.undoing.proofs.Orders.{inner_at, Faulty, Remedy, remedy-names, Healers, heals-by, heals-all, Rest, rest-undo, rest-none}

-- Where the i-th of a list stands.
pub part-from : (i : ℕ) (l : Acts) (c : ℕ) → c ≤ part_at i l c
unfolding part_at
part-from i none c = omega arith
part-from zero (more a l) c = omega arith
part-from (suc i) (more a l) c = omega (arith, part-from i l (c + size a))

pub first-at : (l : Acts) (c : ℕ) → part_at 0 l c ≡ c
unfolding part_at
first-at none c = refl
first-at (more a l) c = refl

pub part-to : (i : ℕ) (l : Acts) (c : ℕ) → i < count l → part_at i l c + size (part i l) ≤ c + sizes l
unfolding part part_at count size
part-to i none c h = absurd (omega arith)
part-to zero (more a l) c h = omega arith
part-to (suc i) (more a l) c h = omega (arith, part-to i l (c + size a) (omega arith))

-- the undo part stands behind the body
pub undo-from : (xs : List ℕ) (b f : Act) (u : Acts) (k : ℕ) → k + 1 + size b ≤ part_at (undo_part xs) (trio b f u) (k + 1)
unfolding part_at
undo-from xs b f u k = part-from (general_part xs) (more f u) (k + 1 + size b)

-- it alone had a change, and runs; or is quiet
pub nth-begun : {ms ns : List ℕ} (i : ℕ) (l : Acts) (c : ℕ) → i < count l → Quiet ms c (sizes l) → Kept (part_at i l c) (size (part i l)) ms ns → Run ns (part i l) (part_at i l c) → Nth ns i l c
unfolding part part_at count size
nth-begun i none c h q w r = absurd (omega arith)
nth-begun zero (more a l) c h q w r = nth_here {l = l} r (quiet-agree (quiet-part q (omega arith) (omega arith)) (agree-above w (omega arith)))
nth-begun (suc i) (more a l) c h q w r =
    nth-later {a = a} {c = c} (quiet-agree (quiet-part q (omega arith) (omega arith)) (agree-below w (omega (arith, part-from i l (c + size a)))))
    (nth-begun i l (c + size a) (omega arith) (quiet-part q (omega arith) (omega arith)) w r)

pub nth-over : {ms ns : List ℕ} (i : ℕ) (l : Acts) (c : ℕ) → i < count l → Quiet ms c (sizes l) → Kept (part_at i l c) (size (part i l)) ms ns → Quiet ns (part_at i l c) (size (part i l)) → Quiet ns c (sizes l)
unfolding part part_at count size
nth-over i none c h q w r = absurd (omega arith)
nth-over zero (more a l) c h q w r = quiet-join r (quiet-agree (quiet-part q (omega arith) (omega arith)) (agree-above w (omega arith))) refl
nth-over (suc i) (more a l) c h q w r =
    quiet-join (quiet-agree (quiet-part q (omega arith) (omega arith)) (agree-below w (omega (arith, part-from i l (c + size a)))))
    (nth-over i l (c + size a) (omega arith) (quiet-part q (omega arith) (omega arith)) w r) refl

-- one that runs, and goes on so or ends
pub nth-there : {ms : List ℕ} {i : ℕ} {l : Acts} {c : ℕ} → Nth ms i l c → i < count l
unfolding count
nth-there (nth_here r q) = omega arith
nth-there (nth-later q r) = omega (arith, nth-there r)

pub nth-run : {ms : List ℕ} {i : ℕ} {l : Acts} {c : ℕ} → Nth ms i l c → Run ms (part i l) (part_at i l c)
unfolding part part_at
nth-run (nth_here r q) = r
nth-run (nth-later q r) = nth-run r

pub nth-goes : {ms ns : List ℕ} {i : ℕ} {l : Acts} {c : ℕ} → Nth ms i l c → Kept (part_at i l c) (size (part i l)) ms ns → Run ns (part i l) (part_at i l c) → Nth ns i l c
unfolding part part_at
nth-goes (nth_here {a} {l} {c} r q) w z = nth_here {l = l} z (quiet-agree q (agree-above w (omega arith)))
nth-goes (nth-later {i} {a} {l} {c} q r) w z = nth-later {a = a} {c = c} (quiet-agree q (agree-below w (part-from i l (c + size a)))) (nth-goes r w z)

pub nth-ends : {ms ns : List ℕ} {i : ℕ} {l : Acts} {c : ℕ} → Nth ms i l c → Kept (part_at i l c) (size (part i l)) ms ns → Quiet ns (part_at i l c) (size (part i l)) → Quiet ns c (sizes l)
unfolding part part_at size
nth-ends (nth_here r q) w z = quiet-join z (quiet-agree q (agree-above w (omega arith))) refl
nth-ends (nth-later {i} {a} {l} {c} q r) w z = quiet-join (quiet-agree q (agree-below w (part-from i l (c + size a)))) (nth-ends r w z) refl

-- the others are quiet
pub nth-first : {ms : List ℕ} {i : ℕ} {a : Act} {l : Acts} {c : ℕ} → Nth ms (suc i) (more a l) c → Quiet ms c (size a)
nth-first (nth-later q r) = q

pub nth-rest : {ms : List ℕ} {i : ℕ} {a : Act} {l : Acts} {c : ℕ} → Nth ms (suc i) (more a l) c → Nth ms i l (c + size a)
nth-rest (nth-later q r) = r

pub nth-below : {ms : List ℕ} {i : ℕ} {l : Acts} {c : ℕ} → Nth ms i l c → (j : ℕ) → c ≤ j → j < part_at i l c → get_or ms j 0 ≡ 0
unfolding part_at
nth-below (nth_here r q) j h e = absurd (omega arith)
nth-below (nth-later {i} {a} {l} {c} q r) j h e =
    decide (ltb j (c + size a)) (λ t. q.at j h (ltb-true j (c + size a) t)) (λ t. nth-below r j (ltb-false j (c + size a) t) e)

pub nth-above : {ms : List ℕ} {i : ℕ} {l : Acts} {c : ℕ} → Nth ms i l c → (j : ℕ) → part_at i l c + size (part i l) ≤ j → j < c + sizes l → get_or ms j 0 ≡ 0
unfolding part part_at size
nth-above (nth_here r q) j h e = q.at j h (omega arith)
nth-above (nth-later q r) j h e = nth-above r j h (omega arith)

-- one stands before the next
pub part-order : (i j : ℕ) (l : Acts) (c : ℕ) → i < j → i < count l → part_at i l c + size (part i l) ≤ part_at j l c
unfolding part part_at count
part-order i j none c h e = absurd (omega arith)
part-order i zero (more a l) c h e = absurd (omega arith)
part-order zero (suc j) (more a l) c h e = part-from j l (c + size a)
part-order (suc i) (suc j) (more a l) c h e = part-order i j l (c + size a) (omega arith) (omega arith)

-- What the plan says of each.
pub healer : {p : Plan} {s : Name} {xs : List ℕ} {v : Bool} {q u : Place} {l : Acts} {c : ℕ} → Healers p s xs v q u l c → (i : ℕ) → i ≤ length xs
    → Faulty p s (part_at i l c) × Remedy p q (part i l) (part_at i l c)
unfolding part part_at
healer (heals-by z r h) zero e = (z, r)
healer (heals-by z r h) (suc i) e = healer h i (omega arith)
healer (heals-all z r h) zero e = (z, r)
healer (heals-all z r h) (suc i) e = absurd (omega arith)

-- there are as many
pub healers-many : {p : Plan} {s : Name} {xs : List ℕ} {v : Bool} {q u : Place} {l : Acts} {c : ℕ} → Healers p s xs v q u l c → count l ≡ length xs + cond v 2 1
unfolding count
healers-many (heals-by z r h) = omega (arith, healers-many h)
healers-many (heals-all z r (rest-undo y)) = refl
healers-many (heals-all z r rest-none) = refl

pub healers-there : {p : Plan} {s : Name} {xs : List ℕ} {v : Bool} {q u : Place} {l : Acts} {c : ℕ} → Healers p s xs v q u l c → length xs < count l
unfolding count
healers-there (heals-by z r h) = omega (arith, healers-there h)
healers-there (heals-all z r h) = omega arith

-- no scope stands in them
pub healers-names : {p : Plan} {s : Name} {xs : List ℕ} {v : Bool} {q u : Place} {l : Acts} {c : ℕ} → Healers p s xs v q u l c → (j : ℕ) → c ≤ j → j < c + sizes l → is_name p (inner j) ≡ false
unfolding size
healers-names (heals-by {f} {l} {c} z r h) j e d = decide (ltb j (c + size f)) (λ t. remedy-names r j e (ltb-true j (c + size f) t)) (λ t. healers-names h j (ltb-false j (c + size f) t) (omega arith))
healers-names (heals-all {f} {l} {c} z r h) j e d = decide (ltb j (c + size f)) (λ t. remedy-names r j e (ltb-true j (c + size f) t)) (λ t. later c h (ltb-false j (c + size f) t) d)
  where
    later : {p : Plan} {v : Bool} {u : Place} {l : Acts} (i : ℕ) → Rest p v u l (i + size f) → i + size f ≤ j → j < i + (size f + sizes l) → is_name p (inner j) ≡ false
    later i (rest-undo y) e d = remedy-names y j e (omega arith)
    later i rest-none e d = absurd (omega arith)

-- and the last is the undo part, where there is one
pub undoer : {p : Plan} {s : Name} {xs : List ℕ} {q u : Place} {l : Acts} {c : ℕ} → Healers p s xs true q u l c → Remedy p u (part (general_part xs) l) (part_at (general_part xs) l c)
unfolding part part_at
undoer (heals-by z r h) = undoer h
undoer (heals-all z r (rest-undo y)) = y

-- Which part it is, for a choice; of those after the body, the first being 0.
abbrev pub chosen_on : (numbers : List ℕ) → (choice : ℕ) → ℕ
chosen_on xs c = cond (named c xs) (c - 1) (length xs)

pub chosen-most : (xs : List ℕ) (c : ℕ) → chosen_on xs c ≤ length xs
chosen-most xs c =
    decide (named c xs)
    (λ e. rw e (both (ltb 0 c) _ e (λ x y. both (ltb c 9) _ y (λ z w. omega (arith, leb-true c (length xs) w)))))
    (λ e. rw e (omega arith))

pub choice-on : (xs : List ℕ) (m c : ℕ) → choice_in m ≡ c → choice_on xs m ≡ chosen_on xs c
unfolding choice_on
choice-on xs m c e = ap (chosen_on xs) e

pub general-suc : (xs : List ℕ) → general_part xs ≡ suc (length xs)
general-suc [] = refl
general-suc (x ∷ xs) = ap suc (general-suc xs)

-- the part, and its number
pub chosen_is : (xs : List ℕ) (k : ℕ) (b f : Act) (u : Acts) (c : ℕ) → chosen_part c (scope_at xs k (trio b f u)) ≡ part (chosen_on xs c) (more f u)
unfolding chosen_part part
chosen_is xs k b f u c = decide (named c xs) (λ e. rw e) (λ e. rw (e, general-suc xs))

pub chosen-at-is : (xs : List ℕ) (k : ℕ) (b f : Act) (u : Acts) (c : ℕ) → chosen_at c (scope_at xs k (trio b f u)) ≡ part_at (chosen_on xs c) (more f u) (k + 1 + size b)
unfolding chosen_at part_at
chosen-at-is xs k b f u c = decide (named c xs) (λ e. rw e) (λ e. rw (e, general-suc xs))

-- The part for a number: the first that has it, or the general one.
unfoldable pub place_for : (number : ℕ) → (numbers : List ℕ) → ℕ
place_for x [] = 0
place_for x (y ∷ ys) = cond (eqb x y) 0 (suc (place_for x ys))

part_by_lem : (x : ℕ) (xs : List ℕ) (l : Acts) (c : ℕ) → length xs < count l → part_by x xs (firsts (general_part xs) l c) ≡ part_at (place_for x xs) l c
unfolding part_by firsts part_at place_for count
part_by_lem x xs none c h = absurd (omega arith)
part_by_lem x [] (more a l) c h = refl
part_by_lem x (y ∷ ys) (more a l) c h = decide (eqb x y) (λ e. rw e) (λ e. rw e (part_by_lem x ys l (c + size a) (omega arith)))

data Found (x i : ℕ) (xs : List ℕ) : Type 0 where
  found-by : place_for x xs < length xs → part_for x i xs ≡ i + place_for x xs → Found x i xs
  found_none : place_for x xs ≡ length xs → part_for x i xs ≡ general_for x → Found x i xs

found_at : (x i : ℕ) (xs : List ℕ) → Found x i xs
unfolding part_for place_for
found_at x i [] = found_none refl refl
found_at x i (y ∷ ys) = decide (eqb x y) (λ e. found-by (rw e (omega arith)) (rw e (omega arith))) (λ e. later e (found_at x (i + 1) ys))
  where
    later : eqb x y ≡ false → Found x (i + 1) ys → Found x i (y ∷ ys)
    later e (found-by h d) = found-by (rw e (omega arith)) (rw (e, d) (omega arith))
    later e (found_none h d) = found_none (rw (e, h)) (rw (e, d))

general-beyond : (x : ℕ) → 9 ≤ general_for x
general-beyond x = decide (leb x 5) (λ e. rw e (omega arith)) (λ e. rw e (omega arith))

-- by the choice of its scope
pub chosen-for : (x : ℕ) (xs : List ℕ) → length xs ≤ 8 → chosen_on xs (part_for x 1 xs) ≡ place_for x xs
chosen-for x xs h = go (found_at x 1 xs)
  where
    go : Found x 1 xs → chosen_on xs (part_for x 1 xs) ≡ place_for x xs
    go (found-by e d) = rw (d, lt-ltb 0 (1 + place_for x xs) (omega arith), lt-ltb (1 + place_for x xs) 9 (omega arith), le-leb (1 + place_for x xs) (length xs) (omega arith)) (omega arith)
    go (found_none e d) =
        decide (named (part_for x 1 xs) xs)
        (λ n. absurd (both (ltb 0 (part_for x 1 xs)) _ n (λ y z. both (ltb (part_for x 1 xs) 9) _ z (λ w v. omega (arith, ltb-true (part_for x 1 xs) 9 w, d, general-beyond x)))))
        (λ n. rw n (sym e))

-- what each gives where a test holds of it
each-cond : {A B : Type 0} (f : A → Bool) (g : A → B) (l : List A) → each (λ x. cond (f x) (g x ∷ []) []) l ≡ map g (only f l)
unfolding each only
each-cond f g [] = refl
each-cond f g (x ∷ l) = decide (f x) (λ e. rw (e, each-cond f g l)) (λ e. rw (e, each-cond f g l))

-- A scope of the plan chooses so, and the part is the one for the number.
pub choice-known : {p : Plan} {y : Inner} → Known p y → (x : ℕ) → choice_by p (inner y.number) x ≡ part_for x 1 y.numbers
unfolding choice_by
choice-known {p} {y} k x =
    ap (λ (l : List ℕ). get_or l 0 0) (each-cond (λ (z : Inner). eqb z.number y.number) (λ (z : Inner). part_for x 1 z.numbers) (scopes_of p) ∙ ap (map (λ (z : Inner). part_for x 1 z.numbers)) k.by_number)

pub part-known : {p : Plan} {xs : List ℕ} {v : Bool} {k : ℕ} {n : Name} {ns : List Name} (b f : Act) (u : Acts) → Known p (inner_at xs v k n ns (trio b f u)) → length xs < count (more f u) → (x : ℕ)
    → is_part_for p (inner k) x (chosen_at (part_for x 1 xs) (scope_at xs k (trio b f u))) ≡ true
unfolding is_part_for part_at
part-known {p} {xs} {v} {k} {n} {ns} b f u kn h x =
    let y : Inner = inner_at xs v k n ns (trio b f u) in
    let j = chosen_at (part_for x 1 xs) (scope_at xs k (trio b f u)) in
    let e : j ≡ part_at (place_for x xs) (more f u) (k + 1 + size b) = chosen-at-is xs k b f u (part_for x 1 xs) ∙ ap (λ (i : ℕ). part_at i (more f u) (k + 1 + size b)) (chosen-for x xs kn.few) in
    one-some (λ z. eqb z.number k && eqb (part_by x z.numbers z.parts) j) (λ z. eqb z.number k) y (scopes_of p) kn.by_number
    (rw (eq-eqb k k refl, eq-eqb (part_by x xs (firsts (general_part xs) (more f u) (k + 1 + size b))) j (part_by_lem x xs (more f u) (k + 1 + size b) h ∙ sym e)))
