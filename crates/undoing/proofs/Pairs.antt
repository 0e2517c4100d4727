-- The pair that a raise answers to: the one whose higher number is least. Assumes nothing.
use Prim.Native.Nat.{ℕ, ◌+◌, ◌≤◌, ◌<◌}
use native.Mathlib.Omega.{arith}
use mathlib.Core.Path.{◌≡◌, refl, sym, ap, subst, ◌∙◌}
use mathlib.Core.Bool.{Bool, true, false, not, ◌&&◌, ◌||◌, false≢true, or-true, and-false}
use mathlib.Core.List.{List, [], ◌∷◌, ◌++◌}
use lib.ListN.{get_or}
use lib.Dec.{leb, ltb, eqb}
use borrow.Author.Tests.{eq-eqb, lt-ltb, le-ltb, le-leb}
use Rattle.plan.specs.Tree.{Act, act, Acts, none, more, Plan, size, sizes}
use Rattle.order.specs.declared.Order.{Order}
use Rattle.order.specs.Lists.{every, some}
use Rattle.order.specs.Awaited.{Doing, no_step, sends, takes, moves, cuts, closes, doing_of, awaits, Ready, ready_in, ready_among, ready_of}
use Rattle.order.specs.Judging.{is_thing, is_second, Verdict, clear, clash, clash_after, conflict}
use Rattle.undoing.specs.Ties.{for_one, is_higher, PairAs, PairTold}
use Rattle.undoing.proofs.Parts.{decide, every-so}
use Rattle.undoing.proofs.Waiting.{opens}

-- what is awaited is ascending, from n on and before e
data Asc : (n e : ℕ) → List Ready → Type 0 where
  asc-none : {n e : ℕ} → n ≤ e → Asc n e []
  asc-more : {n e : ℕ} {r : Ready} {l : List Ready} → n ≤ r.activity → Asc (r.activity + 1) e l → Asc n e (r ∷ l)

asc-from : {n m e : ℕ} {l : List Ready} → m ≤ n → Asc n e l → Asc m e l
asc-from {n} {m} {e} h (asc-none x) = asc-none {n = m} {e = e} (omega arith)
asc-from {n} {m} {e} h (asc-more {r = r} x y) = asc-more {n = m} {r = r} (omega arith) y

asc-low : {n e : ℕ} {l : List Ready} → Asc n e l → n ≤ e
asc-low (asc-none x) = x
asc-low (asc-more x y) = omega (arith, x, asc-low y)

asc-append : {n m e : ℕ} {l k : List Ready} → Asc n m l → Asc m e k → Asc n e (l ++ k)
asc-append (asc-none x) y = asc-from x y
asc-append (asc-more x l) y = asc-more x (asc-append l y)

mutual
  unfolding ready_in size

  ready-asc : (a : Act) (k : ℕ) (b : Bool) (ms : List ℕ) → Asc k (k + size a) (ready_in a k b ms)
  ready-asc (act own within) k b ms = go (awaits own b (get_or ms k 0)) (among-asc within (k + 1) (opens own (get_or ms k 0)) ms)
    where
      go : (x : Bool) → Asc (k + 1) (k + 1 + sizes within) (ready_among within (k + 1) (opens own (get_or ms k 0)) ms)
          → Asc k (k + (1 + sizes within))
          (elim x [ true ↦ record { activity = k; step = doing_of own within k } ∷ ready_among within (k + 1) (opens own (get_or ms k 0)) ms | false ↦ ready_among within (k + 1) (opens own (get_or ms k 0)) ms ])
      go true y = asc-more {n = k} {e = k + (1 + sizes within)} {r = record { activity = k; step = doing_of own within k }} (omega arith) (subst (λ (e : ℕ). Asc (k + 1) e (ready_among within (k + 1) (opens own (get_or ms k 0)) ms)) (omega arith) y)
      go false y = asc-from (omega arith) (subst (λ (e : ℕ). Asc (k + 1) e (ready_among within (k + 1) (opens own (get_or ms k 0)) ms)) (omega arith) y)

  among-asc : (l : Acts) (c : ℕ) (b : Bool) (ms : List ℕ) → Asc c (c + sizes l) (ready_among l c b ms)
  among-asc none c b ms = asc-none {n = c} {e = c + 0} (omega arith)
  among-asc (more a l) c b ms =
      asc-append (ready-asc a c b ms) (subst (λ (e : ℕ). Asc (c + size a) e (ready_among l (c + size a) b ms)) (omega arith) (among-asc l (c + size a) b ms))

plan-asc : (p : Plan) (o : Order) → Asc 0 (size p.body + size p.fault) (ready_of p o)
unfolding ready_of
plan-asc p o = asc-append (subst (λ (e : ℕ). Asc 0 e (ready_in p.body 0 false o.marks)) (omega arith) (ready-asc p.body 0 false o.marks)) (ready-asc p.fault (size p.body) false o.marks)

-- one of these has a lower number and is for the same thing
abbrev low : Ready → Ready → Bool
low r q = ltb q.activity r.activity && for_one q.step r.step

-- none of those behind is lower
behind-none : {n e : ℕ} {l : List Ready} (r : Ready) → r.activity ≤ n → Asc n e l → some (low r) l ≡ false
unfolding some
behind-none r h (asc-none x) = refl
behind-none r h (asc-more {r = q} x y) = rw (le-ltb q.activity r.activity (omega (arith, x)), behind-none r (omega (arith, x)) y)

-- all of those before are
data Before (n : ℕ) : List Ready → Type 0 where
  before-none : Before n []
  before_more : {r : Ready} {l : List Ready} → r.activity < n → Before n l → Before n (r ∷ l)

before-later : {n m : ℕ} {l : List Ready} → n ≤ m → Before n l → Before m l
before-later h before-none = before-none
before-later h (before_more {r = r} x y) = before_more {r = r} (omega arith) (before-later h y)

before-low : {n : ℕ} {l : List Ready} (r : Ready) → n ≤ r.activity → Before n l → some (low r) l ≡ some (λ q. for_one q.step r.step) l
unfolding some
before-low r h before-none = refl
before-low r h (before_more {r = q} x y) = rw (lt-ltb q.activity r.activity (omega arith), before-low r h y)

-- what is for the same thing as one before it
some-never : (l : List Ready) → some (λ (q : Ready). false) l ≡ false
unfolding some
some-never [] = refl
some-never (q ∷ l) = some-never l

second_is : (before : List Ready) (d : Doing) → is_second before d ≡ some (λ q. for_one q.step d) before
unfolding is_second for_one
second_is before no_step = sym (some-never before)
second_is before (sends p o vs) = sym (some-never before)
second_is before (takes p o vs) = refl
second_is before moves = sym (some-never before)
second_is before cuts = sym (some-never before)
second_is before (closes undo s) = sym (some-never before)

-- of those before and those to come
abbrev higher : List Ready → List Ready → Ready → Bool
higher before l r = some (low r) before || some (low r) l

or-move : (a b c : Bool) → ((b || a) || c) ≡ (a || (b || c))
or-move true true c = refl
or-move true false c = refl
or-move false true c = refl
or-move false false c = refl

higher-move : (before : List Ready) (q : Ready) (l : List Ready) (r : Ready) → higher (q ∷ before) l r ≡ higher before (q ∷ l) r
unfolding some
higher-move before q l r = or-move (some (low r) before) (low r q) (some (low r) l)

-- the first of those to come
higher-first : {n e : ℕ} (before : List Ready) (r : Ready) (l : List Ready) → n ≤ r.activity → Before n before → Asc (r.activity + 1) e l
    → higher before (r ∷ l) r ≡ is_second before r.step
unfolding some
higher-first before r l h b a =
    rw (before-low r h b, le-ltb r.activity r.activity (omega arith), behind-none r (omega arith) a) (or-false (some (λ q. for_one q.step r.step) before)) ∙ sym (second_is before r.step)
  where
    or-false : (x : Bool) → (x || false) ≡ x
    or-false true = refl
    or-false false = refl

-- as it is told, of those to come
abbrev Pair : List Ready → List Ready → Verdict → Type 0
Pair before l clear = every (λ r. not (higher before l r)) l ≡ true
Pair before l (clash k) =
    (some (λ r. eqb r.activity k && higher before l r) l ≡ true) × (every (λ r. not (higher before l r) || leb k r.activity) l ≡ true)

-- the least has none below it
all-behind : {n e : ℕ} {l : List Ready} (g : Ready → Bool) (k : ℕ) → k ≤ n → Asc n e l → every (λ r. not (g r) || leb k r.activity) l ≡ true
unfolding every
all-behind g k h (asc-none x) = refl
all-behind g k h (asc-more {r = r} x y) = rw (le-leb k r.activity (omega (arith, x)), or-true, all-behind g k (omega (arith, x)) y)

some-so : (f g : Ready → Bool) → ((r : Ready) → f r ≡ g r) → (l : List Ready) → some f l ≡ true → some g l ≡ true
unfolding some
some-so f g e [] h = h
some-so f g e (r ∷ l) h = decide (f r) (λ t. rw (sym (e r) ∙ t)) (λ t. rw (sym (e r) ∙ t) (some-so f g e l (rw t at h)))

pair : {n e : ℕ} (before l : List Ready) → Before n before → Asc n e l → Pair before l (clash_after before l)
unfolding clash_after every some
pair before [] b (asc-none x) = refl
pair {n} {e} before (r ∷ l) b (asc-more x y) =
    go (is_second before r.step) refl (pair {n = r.activity + 1} (r ∷ before) l (before_more (omega arith) (before-later (omega (arith, x)) b)) y)
  where
    first : higher before (r ∷ l) r ≡ is_second before r.step
    first = higher-first before r l x b y

    rest : (v : Verdict) → is_second before r.step ≡ false → Pair (r ∷ before) l v → Pair before (r ∷ l) v
    rest clear f z =
        rw (first ∙ f) (every-so (λ q. not (higher (r ∷ before) l q)) (λ q. not (higher before (r ∷ l) q)) (λ q h. ap not (sym (higher-move before r l q)) ∙ h) l z)
    rest (clash k) f z = (
      rw (first ∙ f, and-false) (some-so (λ q. eqb q.activity k && higher (r ∷ before) l q) (λ q. eqb q.activity k && higher before (r ∷ l) q) (λ q. ap (λ (v : Bool). eqb q.activity k && v) (higher-move before r l q)) l z.0),
      rw (first ∙ f) (every-so (λ q. not (higher (r ∷ before) l q) || leb k q.activity) (λ q. not (higher before (r ∷ l) q) || leb k q.activity) (λ q h. ap (λ (v : Bool). not v || leb k q.activity) (sym (higher-move before r l q)) ∙ h) l z.1),
    )

    go : (v : Bool) → is_second before r.step ≡ v → Pair (r ∷ before) l (clash_after (r ∷ before) l)
        → Pair before (r ∷ l) (elim v [ true ↦ clash r.activity | false ↦ clash_after (r ∷ before) l ])
    go true f z = (rw (eq-eqb r.activity r.activity refl, first ∙ f), all-behind (higher before (r ∷ l)) r.activity (omega arith) (asc-more {n = r.activity} {r = r} (omega arith) y))
    go false f z = rest (clash_after (r ∷ before) l) f z

-- Which pair it is.
pub pair-told : PairTold
unfolding PairTold conflict is_higher some
pair-told p o = go (clash_after [] (ready_of p o)) (pair [] (ready_of p o) before-none (plan-asc p o))
  where
    go : (v : Verdict) → Pair [] (ready_of p o) v → PairAs (ready_of p o) v
    go clear z = z
    go (clash k) z = z
