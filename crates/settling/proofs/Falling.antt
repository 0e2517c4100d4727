-- A raise in place of an open receive lowers the first rank that it changes. Of every order, whether it stands or not. Assumes nothing.
use Prim.Native.Nat.{ℕ, zero, suc, ◌+◌, ◌≤◌, ◌<◌}
use native.Mathlib.Omega.{arith}
use mathlib.Core.Path.{◌≡◌, refl, sym, ap, subst, ◌∙◌}
use mathlib.Core.Bool.{Bool, true, false, cond, ◌&&◌, ◌||◌, false≢true, or-true}
use mathlib.Core.List.{List, [], ◌∷◌, ◌++◌}
use lib.ListN.{get_or, set}
use lib.Seq.{get_or-set_other}
use lib.Dec.{eqb, ltb}
use borrow.Author.Tests.{eqb-true, eqb-false, eq-eqb, ne_eqb, lt-ltb, le-ltb, ltb-true, ltb-false}
use Rattle.plan.specs.Tree.{Exp, from_partner, from_asking, Own, empty, send, receive, set as setting, raise, leave, choose, repeat, sequence, flow, pick, scope, arm, kind, undo_part, is_scope, is_pick, is_arm, Act, act, Acts, none, more, Plan, size, sizes}
use Rattle.order.specs.declared.Order.{Order}
use Rattle.order.specs.declared.Way.{Way as Result}
use Rattle.order.specs.declared.Way.TheVariants.{Running as running, Over as over, Raising as raising, Leaving as leaving, Undone as undone, UndoRaising as undo_raising}
use Rattle.order.specs.State.{idle, active, inside, done, undoing, handling, withdrawing, Name, root, inner, with_marks, marked, mark_at, mark_of, state_of}
use Rattle.order.specs.Event.{Event}
use Rattle.order.specs.Expression.{conflicting_receive}
use Rattle.order.specs.Begin.{Begun, begin_after, part, part_at, quiet, cleared}
use Rattle.order.specs.Scope.{Outcome, runs, after, begun_in, where_over, Scope, scope_at, root_of, breaks, looks_again, body_over, body_raised, undo_raised, from_body, part_raised, from_fault, goes_through, from_undo}
use Rattle.order.specs.Acting.{finishes, raises, again, is_part, arms, goes_on, joins, in_scope, combines, in_place, replaces, performs, step_in, step_among}
use Rattle.order.specs.Awaited.{Doing, doing_of, awaits}
use Rattle.order.specs.Judging.{rank}
use Rattle.machine.specs.Calls.{doing_in, doing_among}
use Rattle.plan.proofs.ByKind.{kind-pick}
use Rattle.order.proofs.Standing.{first-at}
use Rattle.laws.proofs.Numbers.{is_calm, Calm, calm-looks, calm-body-over, calm-body-raised}
use Rattle.settling.proofs.Parts.{both, decide, first-of, second-of}
use Rattle.settling.proofs.Formed.{Formed, formed-part, formed-scope, FormedIn, formed-none, formed-more}
use Rattle.settling.proofs.Waiting.{opens, Waits, waits-itself, waits-within, WaitsIn, waits-first, waits-later}
use Rattle.settling.proofs.Knowing.{Arms, Knows, knows, KnowsIn, knows-none, knows_more, part-from, arm-open}
use Rattle.settling.proofs.Clashing.{is_take, doing-here, doing-within, doing-among, doing-later}
use Rattle.settling.proofs.Lower.{Same, same-itself, same_then, same-less, same_set, end_with, same_after, same-cleared, rank-set, rank-above, Low, low-itself, low-then, low-less, Owns, own_at, own_root, Under, Lowered, stays, lowers, again-lowered, over-lowered, breaks-lowered, raised-lowered}

-- the first mark that changes falls, from b on and before e
pub record Falls (f : ℕ → ℕ) (b e : ℕ) (ms ns : List ℕ) : Type 0 where
  pub at : ℕ
  pub from : b ≤ at
  pub to : at < e
  pub same : Same at ms ns
  pub less : rank (f at) (get_or ns at 0) < rank (f at) (get_or ms at 0)

pub falls-wider : {f : ℕ → ℕ} {b c d e : ℕ} {ms ns : List ℕ} → c ≤ b → e ≤ d → Falls f b e ms ns → Falls f c d ms ns
falls-wider x y z = record { at = z.at; from = omega (arith, z.from); to = omega (arith, z.to); same = z.same; less = z.less }

-- then something behind it
pub falls-behind : {f : ℕ → ℕ} {b e : ℕ} {ms ns qs : List ℕ} → Falls f b e ms ns → Same e ns qs → Falls f b e ms qs
falls-behind {f} {b} {e} {ms} {ns} {qs} x y =
    record {
      at = x.at;
      from = x.from;
      to = x.to;
      same = same_then x.same (same-less (omega (arith, x.to)) y);
      less = subst (λ (m : ℕ). rank (f x.at) m < rank (f x.at) (get_or ms x.at 0)) (sym (y.at x.at x.to)) x.less;
    }

-- nothing before b changes
pub falls_below : {f : ℕ → ℕ} {b e : ℕ} {ms ns : List ℕ} → Falls f b e ms ns → Same b ms ns
falls_below x = same-less x.from x.same

-- it is none of the two ways that a part of a plan does not end in here
abbrev pub is_plain : Result → Bool
is_plain running = true
is_plain over = true
is_plain (raising x) = true
is_plain leaving = false
is_plain undone = false
is_plain (undo_raising x) = true

-- what a raise in a tree comes to; in a handler, h, it comes out of it
pub record Fell (f : ℕ → ℕ) (h : Bool) (b e : ℕ) (o : Order) (r : Outcome) : Type 0 where
  pub falls : Falls f b e o.marks r.order.marks
  pub root : r.order.root ≡ o.root
  pub plain : is_plain r.result ≡ true
  pub out : h ≡ true → r.result ≡ raising conflicting_receive

pub fell-wider : {f : ℕ → ℕ} {h : Bool} {b c d e : ℕ} {o : Order} {r : Outcome} → c ≤ b → e ≤ d → Fell f h b e o r → Fell f h c d o r
fell-wider x y z = record { falls = falls-wider x y z.falls; root = z.root; plain = z.plain; out = z.out }

-- ranks that are not 0
inside-some : (n : ℕ) → 0 < rank n inside
unfolding rank
inside-some n = decide (eqb n 7) (λ e. rw (e, rank) (omega arith)) (λ e. rw (e, rank) (omega arith))

active-some : (n : ℕ) → 0 < rank n active
unfolding rank
active-some n = omega arith

-- How an activity k goes on where what ran in it, and ends at e, is over: its own rank falls, or something happens behind that.
data Goes (f : ℕ → ℕ) (k e : ℕ) (o : Order) (r : Outcome) : Type 0 where
  goes_down : rank (f k) (get_or r.order.marks k 0) < rank (f k) (get_or o.marks k 0) → Low k o r.order → is_plain r.result ≡ true → Goes f k e o r
  goes-behind : Low e o r.order → is_plain r.result ≡ true → Goes f k e o r

goes-finishes : (f : ℕ → ℕ) (k e m : ℕ) (o : Order) → 0 < rank (f k) m → mark_at k o ≡ m → Goes f k e o (finishes k o)
unfolding rank
goes-finishes f k e m o s d =
    goes_down (subst (λ (x : ℕ). rank (f k) (get_or (set o.marks k idle) k 0) < rank (f k) x) (sym d) (omega (arith, rank-set (f k) k idle o.marks, s)))
    (record { root = refl; marks = same_set k k idle o.marks (omega arith) }) refl

fell-goes : (f : ℕ → ℕ) (h : Bool) (k m c d : ℕ) (o : Order) (g : Order → Outcome) (r : Outcome) → c ≤ d → k < d → ((o₁ : Order) → mark_at k o₁ ≡ m → Goes f k c o₁ (g o₁))
    → Fell f h (k + 1) c o r → Fell f h k d o (goes_on k m g r)
unfolding goes_on
fell-goes f h k m c d o g r i v j w = go r.result w.plain w.out
  where
    r₁ : Result → Outcome
    r₁ x = record { result = x; order = r.order; log = r.log }

    same : (x : Result) → is_plain x ≡ true → (h ≡ true → x ≡ raising conflicting_receive) → Fell f h k d o (r₁ x)
    same x y z = record { falls = falls-wider (omega arith) i w.falls; root = w.root; plain = y; out = z }

    on : (b : Bool) → eqb (mark_at k r.order) m ≡ b → (h ≡ true → over ≡ raising conflicting_receive)
        → Fell f h k d o (record { result = (elim b as (λ _. Outcome) [ true ↦ g r.order | false ↦ runs r.order ]).result; order = (elim b as (λ _. Outcome) [ true ↦ g r.order | false ↦ runs r.order ]).order; log = r.log ++ (elim b as (λ _. Outcome) [ true ↦ g r.order | false ↦ runs r.order ]).log })
    on true e z = by (j r.order (eqb-true (mark_at k r.order) m e))
      where
        never : {A : Type 0} → h ≡ true → A
        never y = let q : ◌≡◌ {A = ℕ} 0 1 = let p = z y in cc in absurd (omega arith)

        by : Goes f k c r.order (g r.order) → Fell f h k d o (record { result = (g r.order).result; order = (g r.order).order; log = r.log ++ (g r.order).log })
        by (goes_down a b y) =
            record {
              falls = record {
                at = k;
                from = omega arith;
                to = v;
                same = same_then (same-less (omega arith) (falls_below w.falls)) b.marks;
                less = subst (λ (x : ℕ). rank (f k) (get_or (g r.order).order.marks k 0) < rank (f k) x) ((falls_below w.falls).at k (omega arith)) a;
              };
              root = b.root ∙ w.root;
              plain = y;
              out = never;
            }
        by (goes-behind b y) =
            record { falls = falls-wider (omega arith) i (falls-behind w.falls b.marks); root = b.root ∙ w.root; plain = y; out = never }
    on false e z = record { falls = falls-wider (omega arith) i w.falls; root = w.root; plain = refl; out = λ y. let q : ◌≡◌ {A = ℕ} 0 1 = let p = z y in cc in absurd (omega arith) }

    go : (x : Result) → is_plain x ≡ true → (h ≡ true → x ≡ raising conflicting_receive) → Fell f h k d o (where_over (λ o₁. elim (eqb (mark_at k o₁) m) [ true ↦ g o₁ | false ↦ runs o₁ ]) (r₁ x))
    go running y z = same running y z
    go over y z = on (eqb (mark_at k r.order) m) refl z
    go (raising n) y z = same (raising n) y z
    go leaving y z = absurd (false≢true y)
    go undone y z = absurd (false≢true y)
    go (undo_raising n) y z = same (undo_raising n) y z

-- a sequence goes on
goes-sequence : (f : ℕ → ℕ) (k t : ℕ) (within : Acts) (o : Order) → k < end_with within (k + 1) t → mark_at k o ≡ active
    → Goes f k (end_with within (k + 1) t) o (where_over (finishes k) (begun_in o (begin_after within (k + 1) t o.marks)))
unfolding rank
goes-sequence f k t within o e d = go b.over
  where
    b : Begun
    b = begin_after within (k + 1) t o.marks

    s : Same (end_with within (k + 1) t) o.marks b.marks
    s = same_after within (k + 1) t o.marks

    go : (v : Bool) → Goes f k (end_with within (k + 1) t) o (where_over (finishes k) (begun_in o (record { marks = b.marks; over = v; log = b.log })))
    go true =
        goes_down (subst (λ (x : ℕ). rank (f k) (get_or (set b.marks k idle) k 0) < rank (f k) x) (sym d) (omega (arith, rank-set (f k) k idle b.marks, active-some (f k))))
        (record { root = refl; marks = same_then (same-less (omega arith) s) (same_set k k idle b.marks (omega arith)) }) refl
    go false = goes-behind (record { root = refl; marks = s }) refl

-- a flow
goes-flow : (f : ℕ → ℕ) (k e : ℕ) (within : Acts) (o : Order) → mark_at k o ≡ active → Goes f k e o (joins k within o)
unfolding joins
goes-flow f k e within o d = go (quiet (k + 1) (sizes within) o.marks)
  where
    go : (v : Bool) → Goes f k e o (elim v [ true ↦ finishes k o | false ↦ runs o ])
    go true = goes-finishes f k e active o (active-some (f k)) d
    go false = goes-behind (low-itself e o) refl

-- a repeat
goes-again : (f : ℕ → ℕ) (k e : ℕ) (o : Order) → f k ≡ 7 → mark_at k o ≡ inside → Goes f k e o (again k o)
unfolding rank
goes-again f k e o n d =
    goes_down (subst (λ (i : ℕ). rank i (get_or (set o.marks k active) k 0) < rank i (get_or o.marks k 0)) (sym n)
    (subst (λ (x : ℕ). rank 7 (get_or (set o.marks k active) k 0) < rank 7 x) (sym d) (omega (arith, rank-set 7 k active o.marks))))
    (record { root = refl; marks = same_set k k active o.marks (omega arith) }) refl

-- what ends in an activity ends before the activity
end-within : (l : Acts) (c t : ℕ) → (c ≤ end_with l c t) × (end_with l c t ≤ c + sizes l)
unfolding end_with size
end-within none c t = (omega arith, omega arith)
end-within (more a l) c t = go (ltb t (c + size a)) (end-within l (c + size a) t)
  where
    go : (v : Bool) → (c + size a ≤ end_with l (c + size a) t) × (end_with l (c + size a) t ≤ c + size a + sizes l)
        → (c ≤ elim v as (λ _. ℕ) [ true ↦ c + size a | false ↦ end_with l (c + size a) t ]) × (elim v as (λ _. ℕ) [ true ↦ c + size a | false ↦ end_with l (c + size a) t ] ≤ c + (size a + sizes l))
    go true x = (omega arith, omega arith)
    go false x = (omega (arith, x.0), omega (arith, x.1))

-- what an activity other than a scope makes of it
fell-combines : (f : ℕ → ℕ) (h : Bool) (own : Own) (within : Acts) (k t : ℕ) (o : Order) (r : Outcome) → is_scope own ≡ false → f k ≡ kind own
    → Fell f h (k + 1) (end_with within (k + 1) t) o r → Fell f h k (k + (1 + sizes within)) o (combines own within k t r)
unfolding combines kind
fell-combines f h own within k t o r s n w = go own s n
  where
    z : (k + 1 ≤ end_with within (k + 1) t) × (end_with within (k + 1) t ≤ k + 1 + sizes within)
    z = end-within within (k + 1) t

    plainly : Fell f h k (k + (1 + sizes within)) o r
    plainly = fell-wider (omega arith) (omega (arith, z.1)) w

    goes : (m : ℕ) (g : Order → Outcome) → ((o₁ : Order) → mark_at k o₁ ≡ m → Goes f k (end_with within (k + 1) t) o₁ (g o₁)) → Fell f h k (k + (1 + sizes within)) o (goes_on k m g r)
    goes m g j = fell-goes f h k m (end_with within (k + 1) t) (k + (1 + sizes within)) o g r (omega (arith, z.1)) (omega arith) j w

    go : (own : Own) → is_scope own ≡ false → f k ≡ kind own → Fell f h k (k + (1 + sizes within)) o (combines own within k t r)
    go empty s n = plainly
    go (send a b vs) s n = plainly
    go (receive a b vs) s n = plainly
    go (setting v x) s n = plainly
    go (raise number) s n = plainly
    go leave s n = plainly
    go (choose x) s n = goes inside (finishes k) (λ o₁ d. goes-finishes f k _ inside o₁ (inside-some (f k)) d)
    go (repeat x) s n = goes inside (again k) (λ o₁ d. goes-again f k _ o₁ n d)
    go sequence s n =
        goes active (λ o₁. where_over (finishes k) (begun_in o₁ (begin_after within (k + 1) t o₁.marks))) (λ o₁ d. goes-sequence f k t within o₁ (omega (arith, z.0)) d)
    go flow s n = goes active (joins k within) (λ o₁ d. goes-flow f k _ within o₁ d)
    go pick s n = goes inside (finishes k) (λ o₁ d. goes-finishes f k _ inside o₁ (inside-some (f k)) d)
    go (scope ns v) s n = absurd (false≢true (sym s))
    go (arm a b vs) s n = plainly

-- Scopes.

-- the results of what a scope does of itself
plain-calm : (r : Outcome) → Calm r → is_plain r.result ≡ true
plain-calm r x = go r.result x
  where
    go : (z : Result) → is_calm z ≡ true → is_plain z ≡ true
    go running x = refl
    go over x = refl
    go (raising n) x = refl
    go leaving x = absurd (false≢true x)
    go undone x = absurd (false≢true x)
    go (undo_raising n) x = refl

-- a scope that a raise in a part ends, or that lets it be
part-lowered : (x : ℕ) (s : Scope) (b : ℕ) → Owns s b
    → ((o₁ : Order) → rank 11 (mark_of s.name (with_marks (cleared s.first s.count o₁.marks) o₁)) ≤ rank 11 (mark_of s.name o₁))
    → (o : Order) → Lowered s b o (part_raised x s o) × (is_plain (part_raised x s o).result ≡ true)
unfolding part_raised breaks rank
part-lowered x s b h f o =
    decide (eqb (state_of s.name o) handling)
    (λ e. rw (e, part_raised) (breaks-lowered s b h x o (rank-above 11 (mark_of s.name o) handling 0 e (omega arith) (omega arith)) f, refl))
    (λ e. rw (e, part_raised) (stays refl, refl))

undo-lowered : (x : ℕ) (s : Scope) (b : ℕ) → Owns s b
    → ((o₁ : Order) → rank 11 (mark_of s.name (with_marks (cleared s.first s.count o₁.marks) o₁)) ≤ rank 11 (mark_of s.name o₁))
    → (o : Order) → Lowered s b o (undo_raised x s o) × (is_plain (undo_raised x s o).result ≡ true)
unfolding undo_raised breaks rank
undo-lowered x s b h f o =
    decide (eqb (state_of s.name o) undoing)
    (λ e. rw (e, undo_raised) (breaks-lowered s b h x o (rank-above 11 (mark_of s.name o) undoing 0 e (omega arith) (omega arith)) f, refl))
    (λ e. decide (eqb (mark_of s.name o) withdrawing)
    (λ d. rw (e, undo_raised, d) (breaks-lowered s b h x o (subst (λ (m : ℕ). 0 < rank 11 m) (sym (eqb-true (mark_of s.name o) withdrawing d)) (omega arith)) f, refl))
    (λ d. rw (e, undo_raised, d) (stays refl, refl)))

-- what a scope makes of a raise in its body, and of one in its fault part: from the order that the raise left
module _ (s : Scope) (b : ℕ) (h : Owns s b)
    (f : (o₁ : Order) → rank 11 (mark_of s.name (with_marks (cleared s.first s.count o₁.marks) o₁)) ≤ rank 11 (mark_of s.name o₁)) where
  lowered-after : (l : List Event) (o : Order) (r : Outcome) → Lowered s b o r → Lowered s b o (after l r)
  lowered-after l o r (stays e) = stays e
  lowered-after l o r (lowers i u) = lowers i u

  pub body-lowered : (r : Outcome) → is_plain r.result ≡ true → Lowered s b r.order (from_body s r) × (is_plain (from_body s r).result ≡ true)
  unfolding from_body
  body-lowered r x = go r.result x
    where
      go : (z : Result) → is_plain z ≡ true
          → Lowered s b r.order (from_body s (record { result = z; order = r.order; log = r.log })) × (is_plain (from_body s (record { result = z; order = r.order; log = r.log })).result ≡ true)
      go running x = (lowered-after r.log r.order (looks_again s r.order) (again-lowered s b h r.order), plain-calm (looks_again s r.order) (calm-looks s r.order))
      go over x = (lowered-after r.log r.order (body_over s r.order) (over-lowered s b h r.order), plain-calm (body_over s r.order) (calm-body-over s r.order))
      go (raising n) x = (lowered-after r.log r.order (body_raised n s r.order) (raised-lowered n s b h r.order), plain-calm (body_raised n s r.order) (calm-body-raised n s r.order))
      go leaving x = absurd (false≢true x)
      go undone x = absurd (false≢true x)
      go (undo_raising n) x = let u = undo-lowered n s b h f r.order in (lowered-after r.log r.order (undo_raised n s r.order) u.0, u.1)

  pub fault-lowered : {n : ℕ} (r : Outcome) → r.result ≡ raising n → Lowered s b r.order (from_fault s r) × (is_plain (from_fault s r).result ≡ true)
  unfolding from_fault
  fault-lowered {n} r x = subst (λ (z : Result). Lowered s b r.order (from_fault s (record { result = z; order = r.order; log = r.log })) × (is_plain (from_fault s (record { result = z; order = r.order; log = r.log })).result ≡ true)) (sym x)
      (let u = part-lowered n s b h f r.order in (lowered-after r.log r.order (part_raised n s r.order) u.0, u.1))

-- a scope with a number: what fell in it still does, or it does itself
fell-scope : (f : ℕ → ℕ) (ns : List ℕ) (k d : ℕ) (within : Acts) (o : Order) (h : Bool) (r r₁ : Outcome) → ((m : ℕ) → rank (f k) m ≡ rank 11 m) → k < d → Fell f h (k + 1) d o r
    → Lowered (scope_at ns k within) k r.order r₁ → is_plain r₁.result ≡ true → Fell f false k d o r₁
fell-scope f ns k d within o h r r₁ n v w (stays e) y =
    record {
      falls = subst (λ (x : Order). Falls f k d o.marks x.marks) (sym e) (falls-wider (omega arith) (omega arith) w.falls);
      root = ap (λ (x : Order). x.root) e ∙ w.root;
      plain = y;
      out = λ z. absurd (false≢true z);
    }
fell-scope f ns k d within o h r r₁ n v w (lowers i u) y =
    record {
      falls = record {
        at = k;
        from = omega arith;
        to = v;
        same = same_then (same-less (omega arith) (falls_below w.falls)) u.marks;
        less = rw (n (get_or r₁.order.marks k 0), n (get_or o.marks k 0))
            (subst (λ (x : ℕ). rank 11 (get_or r₁.order.marks k 0) < rank 11 x) ((falls_below w.falls).at k (omega arith)) (omega (arith, i, u.rank)));
      };
      root = u.root.same ∙ w.root;
      plain = y;
      out = λ z. absurd (false≢true z);
    }

-- clearing its numbers does not raise its own rank
cleared-rank : (n k : ℕ) (ms : List ℕ) → rank 11 (get_or (cleared k n ms) k 0) ≤ rank 11 (get_or ms k 0)
unfolding cleared rank
cleared-rank zero k ms = omega arith
cleared-rank (suc n) k ms =
    let x = (same-cleared n (k + 1) (k + 1) (set ms k idle) (omega arith)).at k (omega arith) in
    subst (λ (m : ℕ). rank 11 m ≤ rank 11 (get_or ms k 0)) (sym x) (omega (arith, rank-set 11 k idle ms))

-- what acts in a raise's place, and what an arm does then
raised-receive : (own : Own) (within : Acts) (q k : ℕ) (o : Order) → is_take (doing_of own within k) ≡ true → performs in_place own within q k o ≡ raises conflicting_receive k o
unfolding is_take doing_of performs replaces kind
raised-receive empty within q k o h = absurd (false≢true h)
raised-receive (send x y vs) within q k o h = absurd (false≢true h)
raised-receive (receive (from_partner x) y vs) within q k o h = refl
raised-receive (receive (from_asking x v) y vs) within q k o h = refl
raised-receive (setting v x) within q k o h = absurd (false≢true h)
raised-receive (raise zero) within q k o h = absurd (false≢true h)
raised-receive (raise (suc number)) within q k o h = absurd (false≢true h)
raised-receive leave within q k o h = absurd (false≢true h)
raised-receive (choose x) within q k o h = absurd (false≢true h)
raised-receive (repeat x) within q k o h = absurd (false≢true h)
raised-receive sequence within q k o h = absurd (false≢true h)
raised-receive flow within q k o h = absurd (false≢true h)
raised-receive pick within q k o h = absurd (false≢true h)
raised-receive (scope ns u) within q k o h = absurd (false≢true h)
raised-receive (arm x y vs) within q k o h = refl

-- a receive that awaits its step is active
receive-active : (own : Own) (within : Acts) (k : ℕ) (b : Bool) (m : ℕ) → is_take (doing_of own within k) ≡ true → is_arm own ≡ false → awaits own b m ≡ true → m ≡ active
unfolding is_take doing_of awaits
receive-active empty within k b m h a w = absurd (false≢true h)
receive-active (send x y vs) within k b m h a w = absurd (false≢true h)
receive-active (receive x y vs) within k b m h a w = eqb-true m active w
receive-active (setting v x) within k b m h a w = absurd (false≢true h)
receive-active (raise zero) within k b m h a w = absurd (false≢true h)
receive-active (raise (suc number)) within k b m h a w = absurd (false≢true h)
receive-active leave within k b m h a w = absurd (false≢true h)
receive-active (choose x) within k b m h a w = absurd (false≢true h)
receive-active (repeat x) within k b m h a w = absurd (false≢true h)
receive-active sequence within k b m h a w = absurd (false≢true h)
receive-active flow within k b m h a w = absurd (false≢true h)
receive-active pick within k b m h a w = absurd (false≢true h)
receive-active (scope ns u) within k b m h a w = absurd (false≢true h)
receive-active (arm x y vs) within k b m h a w = absurd (false≢true (sym a))

-- the definitions, by where the step is
here : (own : Own) (within : Acts) (q k t : ℕ) (o : Order) → k ≡ t → step_in in_place (act own within) q k t o ≡ performs in_place own within q k o
unfolding step_in
here own within q k t o e =
    first-of (eqb k t) (performs in_place own within q k o) (combines own within k t (step_among in_place within (is_scope own) q (k + 1) t (arms own within k t o)))
    (step_in in_place (act own within) q k t o) refl (eq-eqb k t e)

deeper : (own : Own) (within : Acts) (q k t : ℕ) (o : Order) → k < t
    → step_in in_place (act own within) q k t o ≡ combines own within k t (step_among in_place within (is_scope own) q (k + 1) t (arms own within k t o))
unfolding step_in
deeper own within q k t o e =
    second-of (eqb k t) (performs in_place own within q k o) (combines own within k t (step_among in_place within (is_scope own) q (k + 1) t (arms own within k t o)))
    (step_in in_place (act own within) q k t o) refl (ne_eqb k t (omega arith))

module _ (p : Bool) (q : ℕ) where
  first-among : (a : Act) (l : Acts) (c t : ℕ) (o : Order) → t < c + size a → step_among in_place (more a l) p q c t o ≡ step_in in_place a (cond p c q) c t o
  unfolding step_in
  first-among a l c t o e =
      first-of (ltb t (c + size a)) (step_in in_place a (cond p c q) c t o) (step_among in_place l p q (c + size a) t o) (step_among in_place (more a l) p q c t o) refl (lt-ltb t (c + size a) e)

  later-among : (a : Act) (l : Acts) (c t : ℕ) (o : Order) → c + size a ≤ t → step_among in_place (more a l) p q c t o ≡ step_among in_place l p q (c + size a) t o
  unfolding step_in
  later-among a l c t o e =
      second-of (ltb t (c + size a)) (step_in in_place a (cond p c q) c t o) (step_among in_place l p q (c + size a) t o) (step_among in_place (more a l) p q c t o) refl (le-ltb t (c + size a) e)

first-end : (a : Act) (l : Acts) (c t : ℕ) → t < c + size a → end_with (more a l) c t ≡ c + size a
unfolding end_with
first-end a l c t e = first-of (ltb t (c + size a)) (c + size a) (end_with l (c + size a) t) (end_with (more a l) c t) refl (lt-ltb t (c + size a) e)

later-end : (a : Act) (l : Acts) (c t : ℕ) → c + size a ≤ t → end_with (more a l) c t ≡ end_with l (c + size a) t
unfolding end_with
later-end a l c t e = second-of (ltb t (c + size a)) (c + size a) (end_with l (c + size a) t) (end_with (more a l) c t) refl (le-ltb t (c + size a) e)

-- an arm of an open pick raises
arm-raises : (l : Acts) (p : Bool) (q c t : ℕ) (o : Order) → is_part l c t ≡ true → is_take (doing_among l c t) ≡ true → step_among in_place l p q c t o ≡ raises conflicting_receive t o
unfolding is_part size
arm-raises none p q c t o e h = absurd (false≢true e)
arm-raises (more (act own within) l) p q c t o e h =
    decide (eqb c t)
    (λ d. let z = eqb-true c t d in
    first-among p q (act own within) l c t o (omega arith)
    ∙ (here own within (cond p c q) c t o z
    ∙ (raised-receive own within (cond p c q) c o (subst (λ (x : Doing). is_take x ≡ true) (doing-among (act own within) l c t (omega arith) ∙ (ap (λ (j : ℕ). doing_in (act own within) c j) (sym z) ∙ doing-here own within c)) h)
    ∙ ap (λ (j : ℕ). raises conflicting_receive j o) z)))
    (λ d. let z = part-from l (c + (1 + sizes within)) t (rw d at e) in
    later-among p q (act own within) l c t o (omega (arith, z))
    ∙ arm-raises l p q (c + (1 + sizes within)) t o (rw d at e) (subst (λ (x : Doing). is_take x ≡ true) (doing-later (act own within) l c t (omega (arith, z))) h))

-- not an arm itself
abbrev Deep : Act → (k t : ℕ) → Type 0
Deep (act own within) k t = is_arm own ≡ true → k ≡ t → ⊥

pub no_arm : {h : Bool} {a : Act} (k t : ℕ) → Formed h false a → Deep a k t
no_arm k t (formed-part s n l) = λ e d. false≢true (sym n ∙ e)
no_arm k t (formed-scope hb hl) = λ e d. false≢true e

deep-first : {h : Bool} (r : Bool) {a : Act} (l : Acts) (c t : ℕ) → Formed h r a → (r && is_part (more a l) c t) ≡ false → Deep a c t
unfolding is_part
deep-first r l c t (formed-part s n y) d = λ e q. false≢true (sym d ∙ rw (sym n ∙ e, eq-eqb c t q))
deep-first r l c t (formed-scope hb hl) d = λ e q. false≢true e

deep-later : (r x y : Bool) → (r && (x || y)) ≡ false → (r && y) ≡ false
deep-later true true y d = absurd (false≢true (sym d))
deep-later true false y d = d
deep-later false x y d = refl

deep-rest : (r : Bool) (a : Act) (l : Acts) (c t : ℕ) → (r && is_part (more a l) c t) ≡ false → (r && is_part l (c + size a) t) ≡ false
unfolding is_part
deep-rest r a l c t d = deep-later r (eqb c t) (is_part l (c + size a) t) d

-- a raise goes through what is no scope
raise-through : (own : Own) (within : Acts) (k t : ℕ) (o : Order) → is_scope own ≡ false → combines own within k t (raises conflicting_receive t o) ≡ raises conflicting_receive t o
unfolding combines goes_on
raise-through empty within k t o s = refl
raise-through (send x y vs) within k t o s = refl
raise-through (receive x y vs) within k t o s = refl
raise-through (setting v x) within k t o s = refl
raise-through (raise zero) within k t o s = refl
raise-through (raise (suc number)) within k t o s = refl
raise-through leave within k t o s = refl
raise-through (choose x) within k t o s = refl
raise-through (repeat x) within k t o s = refl
raise-through sequence within k t o s = refl
raise-through flow within k t o s = refl
raise-through pick within k t o s = refl
raise-through (scope ns v) within k t o s = absurd (false≢true (sym s))
raise-through (arm x y vs) within k t o s = refl

-- what a pick is when one of its arms acts
arms-so : (own : Own) (within : Acts) (k t : ℕ) (o : Order) (b : Bool) → (is_pick own && is_part within (k + 1) t) ≡ b → arms own within k t o ≡ cond b (marked k inside o) o
unfolding arms
arms-so own within k t o b e = rw e

pick_is : (own : Own) → is_pick own ≡ true → kind own ≡ 10
pick_is own e = eqb-true (kind own) 10 (kind-pick own ∙ e)

-- an activity other than a scope, where the raise is within it
part_falls : (f : ℕ → ℕ) (h : Bool) (own : Own) (within : Acts) (q k t : ℕ) (o : Order) → is_scope own ≡ false → f k ≡ kind own → Arms (is_pick own) within → k < t
    → WaitsIn o.marks within (k + 1) t (opens own (get_or o.marks k 0)) → is_take (doing_among within (k + 1) t) ≡ true
    → ((is_pick own && is_part within (k + 1) t) ≡ false → Fell f h (k + 1) (end_with within (k + 1) t) o (step_among in_place within (is_scope own) q (k + 1) t o))
    → Fell f h k (k + (1 + sizes within)) o (step_in in_place (act own within) q k t o)
unfolding rank
part_falls f h own within q k t o s x z e y i g =
    subst (λ (r : Outcome). Fell f h k (k + (1 + sizes within)) o r) (sym (deeper own within q k t o e)) (go (is_pick own && is_part within (k + 1) t) refl)
  where
    go : (b : Bool) → (is_pick own && is_part within (k + 1) t) ≡ b
        → Fell f h k (k + (1 + sizes within)) o (combines own within k t (step_among in_place within (is_scope own) q (k + 1) t (arms own within k t o)))
    go true d =
        both (is_pick own) (is_part within (k + 1) t) d (λ u v.
        both (is_pick own) (eqb (get_or o.marks k 0) active) (arm-open t 0 (subst (λ (w : Bool). Arms w within) u z) y v) (λ _ w.
        subst (λ (o₁ : Order). Fell f h k (k + (1 + sizes within)) o (combines own within k t (step_among in_place within (is_scope own) q (k + 1) t o₁))) (sym (arms-so own within k t o true d))
        (subst (λ (r : Outcome). Fell f h k (k + (1 + sizes within)) o r)
        (sym (ap (combines own within k t) (arm-raises within (is_scope own) q (k + 1) t (marked k inside o) v i) ∙ raise-through own within k t (marked k inside o) s))
        (record {
          falls = record {
            at = k;
            from = omega arith;
            to = omega arith;
            same = same_then (same_set k k inside o.marks (omega arith)) (same_set k t idle (set o.marks k inside) (omega arith));
            less = subst (λ (n : ℕ). rank n (get_or (set (set o.marks k inside) t idle) k 0) < rank n (get_or o.marks k 0)) (sym (x ∙ pick_is own u))
                (subst (λ (m : ℕ). rank 10 (get_or (set (set o.marks k inside) t idle) k 0) < rank 10 m) (sym (eqb-true (get_or o.marks k 0) active w))
                (subst (λ (m : ℕ). rank 10 m < 7) (sym (get_or-set_other (set o.marks k inside) t k idle 0 (omega arith))) (omega (arith, rank-set 10 k inside o.marks))));
          };
          root = refl;
          plain = refl;
          out = λ y. refl;
        }))))
    go false d =
        subst (λ (o₁ : Order). Fell f h k (k + (1 + sizes within)) o (combines own within k t (step_among in_place within (is_scope own) q (k + 1) t o₁))) (sym (arms-so own within k t o false d))
        (fell-combines f h own within k t o (step_among in_place within (is_scope own) q (k + 1) t o) s x (g d))

-- in which part of a scope: its body, or one after it
module _ (ns : List ℕ) (v : Bool) (b : Act) (l : Acts) (k t : ℕ) (r : Outcome) where
  abbrev around-it : Scope
  around-it = scope_at ns k (more b l)

  abbrev in-it : Outcome
  in-it = elim (goes_through v k r) [ true ↦ r | false ↦ from_body around-it r ]

  abbrev after-it : Outcome
  after-it = elim (ltb t (part_at (undo_part ns) (more b l) (k + 1))) [ true ↦ from_fault around-it r | false ↦ from_undo r ]

  behind-body : part_at 1 (more b l) (k + 1) ≡ k + 1 + size b
  unfolding part_at
  behind-body = first-at l (k + 1 + size b)

  scope-body : t < k + 1 + size b → in_scope ns v k t (more b l) r ≡ in-it
  unfolding in_scope
  scope-body e =
      first-of (ltb t (part_at 1 (more b l) (k + 1))) in-it after-it (in_scope ns v k t (more b l) r) refl (lt-ltb t (part_at 1 (more b l) (k + 1)) (omega (arith, behind-body)))

  scope-rest : k + 1 + size b ≤ t → in_scope ns v k t (more b l) r ≡ after-it
  unfolding in_scope
  scope-rest e =
      second-of (ltb t (part_at 1 (more b l) (k + 1))) in-it after-it (in_scope ns v k t (more b l) r) refl (le-ltb t (part_at 1 (more b l) (k + 1)) (omega (arith, behind-body)))

-- clearing a scope's numbers
clears : (k : ℕ) (within : Acts) (o : Order)
    → rank 11 (mark_of (inner k) (with_marks (cleared k (1 + sizes within) o.marks) o)) ≤ rank 11 (mark_of (inner k) o)
clears k within o = cleared-rank (1 + sizes within) k o.marks

-- a scope has one rank, whatever its parts
scope-rank : (ns : List ℕ) (v : Bool) (n : ℕ) → n ≡ kind (scope ns v) → (m : ℕ) → rank n m ≡ rank 11 m
unfolding rank kind
scope-rank [] true n e m = rw e
scope-rank [] false n e m = rw e
scope-rank (x ∷ ns) v n e m = rw e

-- a scope, by where the raise is
module _ (f : ℕ → ℕ) (ns : List ℕ) (v : Bool) (b : Act) (l : Acts) (q k t : ℕ) (o : Order) (n : f k ≡ kind (scope ns v)) where
  abbrev Whole : ℕ
  Whole = k + (1 + sizes (more b l))

  fell-body : t < k + 1 + size b → Fell f false (k + 1) (k + 1 + size b) o (step_in in_place b (k + 1) (k + 1) t o)
      → Fell f false k Whole o (in_scope ns v k t (more b l) (step_among in_place (more b l) true q (k + 1) t o))
  unfolding size
  fell-body e w =
      subst (λ (x : Outcome). Fell f false k (k + (1 + sizes (more b l))) o x)
      (sym (ap (in_scope ns v k t (more b l)) (first-among true q b l (k + 1) t o e) ∙ scope-body ns v b l k t r e))
      (go (goes_through v k r))
    where
      r : Outcome
      r = step_in in_place b (k + 1) (k + 1) t o

      -- what goes through a scope leaves it as it is
      go : (x : Bool) → Fell f false k (k + (1 + sizes (more b l))) o (elim x as (λ _. Outcome) [ true ↦ r | false ↦ from_body (scope_at ns k (more b l)) r ])
      go true = fell-wider (omega arith) (omega arith) w
      go false =
          let z = body-lowered (scope_at ns k (more b l)) k (own_at ns k (more b l)) (clears k (more b l)) r w.plain in
          fell-scope f ns k (k + (1 + sizes (more b l))) (more b l) o false r (from_body (scope_at ns k (more b l)) r) (scope-rank ns v (f k) n) (omega arith) (fell-wider (omega arith) (omega arith) w) z.0 z.1

  -- in a fault part, or in the undo part
  fell-rest : k + 1 + size b ≤ t → Fell f true (k + 1 + size b) (end_with l (k + 1 + size b) t) o (step_among in_place l true q (k + 1 + size b) t o)
      → Fell f false k Whole o (in_scope ns v k t (more b l) (step_among in_place (more b l) true q (k + 1) t o))
  unfolding size from_undo
  fell-rest e w =
      subst (λ (x : Outcome). Fell f false k (k + (1 + sizes (more b l))) o x)
      (sym (ap (in_scope ns v k t (more b l)) (later-among true q b l (k + 1) t o e) ∙ scope-rest ns v b l k t r e))
      (go (ltb t (part_at (undo_part ns) (more b l) (k + 1))))
    where
      r : Outcome
      r = step_among in_place l true q (k + 1 + size b) t o

      wide : Fell f true (k + 1) (k + (1 + sizes (more b l))) o r
      wide = fell-wider (omega arith) (omega (arith, (end-within l (k + 1 + size b) t).1)) w

      go : (x : Bool) → Fell f false k (k + (1 + sizes (more b l))) o (elim x as (λ _. Outcome) [ true ↦ from_fault (scope_at ns k (more b l)) r | false ↦ from_undo r ])
      go true =
          let z = fault-lowered (scope_at ns k (more b l)) k (own_at ns k (more b l)) (clears k (more b l)) r (w.out refl) in
          fell-scope f ns k (k + (1 + sizes (more b l))) (more b l) o true r (from_fault (scope_at ns k (more b l)) r) (scope-rank ns v (f k) n) (omega arith) wide z.0 z.1
      go false =
          record {
            falls = falls-wider (omega arith) (omega arith) wide.falls;
            root = w.root;
            plain = subst (λ (x : Result). is_plain (from_undo (record { result = x; order = r.order; log = r.log })).result ≡ true) (sym (w.out refl)) refl;
            out = λ y. absurd (false≢true y);
          }

-- a scope takes no message
scope-no-take : (ns : List ℕ) (v : Bool) (within : Acts) (k : ℕ) → is_take (doing_of (scope ns v) within k) ≡ false
unfolding is_take doing_of
scope-no-take ns v within k = refl

-- by other names
take-as : {x y : Doing} → x ≡ y → is_take x ≡ true → is_take y ≡ true
take-as e h = subst (λ (v : Doing). is_take v ≡ true) e h

among-as : (f : ℕ → ℕ) (h : Bool) (l : Acts) (p : Bool) (q c t : ℕ) (o : Order) {e : ℕ} {r : Outcome} → end_with l c t ≡ e → step_among in_place l p q c t o ≡ r → Fell f h c e o r
    → Fell f h c (end_with l c t) o (step_among in_place l p q c t o)
among-as f h l p q c t o {e} {r} x y w =
    subst (λ (z : Outcome). Fell f h c (end_with l c t) o z) (sym y) (subst (λ (z : ℕ). Fell f h c z o r) (sym x) w)

in_scope_lem : (ns : List ℕ) (v : Bool) (l : Acts) (q k t : ℕ) (o : Order) → k < t
    → step_in in_place (act (scope ns v) l) q k t o ≡ in_scope ns v k t l (step_among in_place l true q (k + 1) t o)
unfolding combines arms
in_scope_lem ns v l q k t o e = deeper (scope ns v) l q k t o e

mutual
  unfolding size rank

  pub step_falls : {f : ℕ → ℕ} {h r b : Bool} {a : Act} {k : ℕ} → Formed h r a → Knows f a k → (q t : ℕ) (o : Order) → Waits o.marks a k t b → is_take (doing_in a k t) ≡ true → Deep a k t
      → Fell f h k (k + size a) o (step_in in_place a q k t o)
  step_falls {f} {h} (formed-part {own = own} {within = within} s g l) (knows {k = k} x z w) q t o (waits-itself {b = b} e y) i d =
      subst (λ (r : Outcome). Fell f h k (k + (1 + sizes within)) o r) (sym (here own within q k t o e ∙ raised-receive own within q k o j))
      (record { falls = record { at = k; from = omega arith; to = omega arith; same = same_set k k idle o.marks (omega arith); less = down }; root = refl; plain = refl; out = λ u. refl })
    where
      j : is_take (doing_of own within k) ≡ true
      j = subst (λ (u : Doing). is_take u ≡ true) (ap (λ (v : ℕ). doing_in (act own within) k v) (sym e) ∙ doing-here own within k) i

      not-arm : is_arm own ≡ false
      not-arm = decide (is_arm own) (λ u. absurd (d u e)) (λ u. u)

      down : rank (f k) (get_or (set o.marks k idle) k 0) < rank (f k) (get_or o.marks k 0)
      down =
          subst (λ (m : ℕ). rank (f k) (get_or (set o.marks k idle) k 0) < rank (f k) m) (sym (receive-active own within k b (get_or o.marks k 0) j not-arm y))
          (omega (arith, rank-set (f k) k idle o.marks, active-some (f k)))
  step_falls {f} {h} (formed-part {own = own} {within = within} s g l) (knows {k = k} x z w) q t o (waits-within e y) i d =
      part_falls f h own within q k t o s x z e y (subst (λ (u : Doing). is_take u ≡ true) (doing-within own within k t e) i)
      (λ c. among-falls l w (is_scope own) q t o y (subst (λ (u : Doing). is_take u ≡ true) (doing-within own within k t e) i) c)
  step_falls {f} {h} (formed-scope {ns = ns} {v = v} {b = b} {l = l} hb hl) (knows {k = k} x z (knows_more kb kl)) q t o (waits-itself e y) i d =
      absurd (false≢true (sym (scope-no-take ns v (more b l) k)
      ∙ subst (λ (v : Doing). is_take v ≡ true) (ap (λ (j : ℕ). doing_in (act (scope ns v) (more b l)) k j) (sym e) ∙ doing-here (scope ns v) (more b l) k) i))
  step_falls {f} {h} (formed-scope {ns = ns} {v = v} {b = b} {l = l} hb hl) (knows {k = k} x z (knows_more kb kl)) q t o (waits-within e (waits-first u w)) i d =
      subst (λ (r : Outcome). Fell f false k (k + (1 + sizes (more b l))) o r) (sym (in_scope_lem ns v (more b l) q k t o e))
      (fell-body f ns v b l q k t o x u (step_falls hb kb (k + 1) t o w (take-as (doing-within (scope ns v) (more b l) k t e ∙ doing-among b l (k + 1) t u) i) (no_arm (k + 1) t hb)))
  step_falls {f} {h} (formed-scope {ns = ns} {v = v} {b = b} {l = l} hb hl) (knows {k = k} x z (knows_more kb kl)) q t o (waits-within e (waits-later u w)) i d =
      subst (λ (r : Outcome). Fell f false k (k + (1 + sizes (more b l))) o r) (sym (in_scope_lem ns v (more b l) q k t o e))
      (fell-rest f ns v b l q k t o x u (among-falls hl kl true q t o w (take-as (doing-within (scope ns v) (more b l) k t e ∙ doing-later b l (k + 1) t u) i) refl))

  among-falls : {f : ℕ → ℕ} {h r b : Bool} {l : Acts} {c : ℕ} → FormedIn h r l → KnowsIn f l c → (p : Bool) (q t : ℕ) (o : Order) → WaitsIn o.marks l c t b → is_take (doing_among l c t) ≡ true
      → (r && is_part l c t) ≡ false
      → Fell f h c (end_with l c t) o (step_among in_place l p q c t o)
  among-falls {f = f} {b = b} {c = c} (formed-none {h = h} {r = r}) _ p q t o x i d = elim x [ ]
  among-falls {f} {h} {r} (formed-more {a = a} {l = l} x y) (knows_more {c = c} kx ky) p q t o (waits-first u w) i d =
      among-as f h (more a l) p q c t o (first-end a l c t u) (first-among p q a l c t o u) (step_falls x kx (cond p c q) t o w (take-as (doing-among a l c t u) i) (deep-first r l c t x d))
  among-falls {f} {h} {r} (formed-more {a = a} {l = l} x y) (knows_more {c = c} kx ky) p q t o (waits-later u w) i d =
      among-as f h (more a l) p q c t o (later-end a l c t u) (later-among p q a l c t o u)
      (fell-wider (omega arith) (omega arith) (among-falls y ky p q t o w (take-as (doing-later a l c t u) i) (deep-rest r a l c t d)))
