-- A raise in place of an open receive lowers the first rank that it changes. Of every order, whether it stands or not. Assumes nothing.
use Prim.Native.Nat.{ℕ, zero, suc, ◌+◌, ◌≤◌, ◌<◌}
use native.Mathlib.Omega.{arith}
use mathlib.Core.Path.{◌≡◌, refl, sym, ap, subst, ◌∙◌}
use mathlib.Core.Bool.{Bool, true, false, cond, ◌&&◌, ◌||◌, false≢true}
use mathlib.Core.List.{List, [], ◌∷◌, ◌++◌}
use lib.ListN.{get_or, set}
use lib.Seq.{get_or-set_other}
use lib.Dec.{eqb, ltb}
use borrow.Author.Tests.{eqb-true, eq-eqb, ne_eqb, lt-ltb, le-ltb}
use Rattle.plan.specs.Tree.{Own, empty, send, receive, set as setting, raise, leave, choose, repeat, sequence, flow, pick, scope, arm, kind, is_scope, is_arm, is_pick, Act, act, Acts, none, more, size, sizes, undo_part, from_partner, from_asking}
use Rattle.order.specs.declared.Order.{Order}
use Rattle.order.specs.declared.Way.{Way as Result}
use Rattle.order.specs.declared.Way.TheVariants.{Running as running, Over as over, Raising as raising, Leaving as leaving, Undone as undone, UndoRaising as undo_raising}
use Rattle.order.specs.State.{idle, active, inside, faulty, undoing, handling, halted, withdrawing, root, inner, with_marks, marked, mark_at, mark_of, marking, closings, remembering, causing, state_of, choice_of, going, mark_with}
use Rattle.order.specs.Lists.{without_last}
use Rattle.order.specs.Expression.{conflicting_receive}
use Rattle.order.specs.Event.{Event}
use Rattle.order.specs.Begin.{Begun, begin, begin_after, part, part_at, quiet, cleared}
use Rattle.order.specs.Scope.{Outcome, runs, after, begun_in, where_over, Scope, scope_at, is_for, is_open, inner_runs, remembered_for, begin_undo, start_undo, undo, stop, ends, handle, undoes, turns, faults, breaks, looks_again, body_over, body_raised, undo_raised, from_body, part_raised, from_fault, from_undo, goes_through, choice_for, chosen_part, chosen_at}
use Rattle.order.specs.Acting.{finishes, raises, again, is_part, arms, goes_on, joins, in_scope, combines, in_place, replaces, performs, step_in, step_among}
use Rattle.order.specs.Awaited.{Doing, doing_of, awaits}
use Rattle.order.specs.Judging.{rank}
use Rattle.machine.specs.Calls.{doing_in, doing_among}
use Rattle.undoing.proofs.Parts.{both, decide}
use Rattle.undoing.proofs.Places.{first-of, second-of}
use Rattle.undoing.proofs.Planning.{Formed, formed-part, formed-scope, FormedIn, formed-more, formed-none}
use Rattle.undoing.proofs.Waiting.{opens, Waits, waits-itself, waits-within, WaitsIn, waits-first, waits-later}
use Rattle.undoing.proofs.Truly.{Arms, Knows, knows, KnowsIn, knows_more}
use Rattle.undoing.proofs.Marks.{trio}
use Rattle.undoing.proofs.Keeping.{pick-kind, part-from, arm-open}
use Rattle.undoing.proofs.Stepping.{in_parts}
use Rattle.undoing.proofs.Judged.{is_take, doing-here, doing-within, doing-among, doing-later}
use Rattle.undoing.proofs.Lower.{Same, same_then, same-less, same_set, end_with, same_after, same-cleared, rank-set, rank-by, Low, low-itself, Owns, own_at, Lowered, stays, lowers, again-lowered, over-lowered, breaks-lowered, raised-lowered}

-- the first mark that changes falls, from b on and before e
pub record Falls (f : ℕ → ℕ) (b e : ℕ) (ms ns : List ℕ) : Type 0 where
  pub at : ℕ
  pub from : b ≤ at
  pub to : at < e
  pub same : Same at ms ns
  pub less : rank (f at) (get_or ns at 0) < rank (f at) (get_or ms at 0)

pub falls-wider : {f : ℕ → ℕ} {b c d e : ℕ} {ms ns : List ℕ} → c ≤ b → e ≤ d → Falls f b e ms ns → Falls f c d ms ns
falls-wider x y z = record { at = z.at; from = omega (arith, z.from); to = omega (arith, z.to); same = z.same; less = z.less }

-- then something behind it
pub falls-behind : {f : ℕ → ℕ} {b e : ℕ} {ms ns qs : List ℕ} → Falls f b e ms ns → Same e ns qs → Falls f b e ms qs
falls-behind {f} {b} {e} {ms} {ns} {qs} x y =
    record {
      at = x.at;
      from = x.from;
      to = x.to;
      same = same_then x.same (same-less (omega (arith, x.to)) y);
      less = subst (λ (m : ℕ). rank (f x.at) m < rank (f x.at) (get_or ms x.at 0)) (sym (y.at x.at x.to)) x.less;
    }

-- nothing before b changes
pub falls_below : {f : ℕ → ℕ} {b e : ℕ} {ms ns : List ℕ} → Falls f b e ms ns → Same b ms ns
falls_below x = same-less x.from x.same

-- it is none of the two ways that a part of a plan does not end in here
abbrev pub is_plain : Result → Bool
is_plain running = true
is_plain over = true
is_plain (raising x) = true
is_plain leaving = false
is_plain undone = false
is_plain (undo_raising x) = true

-- what a raise in a tree comes to; in a handler, h, it comes out of it
pub record Fell (f : ℕ → ℕ) (h : Bool) (b e : ℕ) (o : Order) (r : Outcome) : Type 0 where
  pub falls : Falls f b e o.marks r.order.marks
  pub root : r.order.root ≡ o.root
  pub plain : is_plain r.result ≡ true
  pub out : h ≡ true → r.result ≡ raising conflicting_receive

pub fell-wider : {f : ℕ → ℕ} {h : Bool} {b c d e : ℕ} {o : Order} {r : Outcome} → c ≤ b → e ≤ d → Fell f h b e o r → Fell f h c d o r
fell-wider x y z = record { falls = falls-wider x y z.falls; root = z.root; plain = z.plain; out = z.out }

-- ranks that are not 0
inside-some : (n : ℕ) → 0 < rank n inside
unfolding rank
inside-some n = decide (eqb n 7) (λ e. rw (e, rank) (omega arith)) (λ e. rw (e, rank) (omega arith))

active-some : (n : ℕ) → 0 < rank n active
unfolding rank
active-some n = omega arith

-- How an activity k goes on where what ran in it, and ends at e, is over: its own rank falls, or something happens behind that.
data Goes (f : ℕ → ℕ) (k e : ℕ) (o : Order) (r : Outcome) : Type 0 where
  goes_down : rank (f k) (get_or r.order.marks k 0) < rank (f k) (get_or o.marks k 0) → Low k o r.order → is_plain r.result ≡ true → Goes f k e o r
  goes-behind : Low e o r.order → is_plain r.result ≡ true → Goes f k e o r

goes-finishes : (f : ℕ → ℕ) (k e m : ℕ) (o : Order) → 0 < rank (f k) m → mark_at k o ≡ m → Goes f k e o (finishes k o)
unfolding rank
goes-finishes f k e m o s d =
    goes_down (subst (λ (x : ℕ). rank (f k) (get_or (set o.marks k idle) k 0) < rank (f k) x) (sym d) (omega (arith, rank-set (f k) k idle o.marks, s)))
    (record { root = refl; marks = same_set k k idle o.marks (omega arith) }) refl

fell-goes : (f : ℕ → ℕ) (h : Bool) (k m c d : ℕ) (o : Order) (g : Order → Outcome) (r : Outcome) → c ≤ d → k < d → ((o₁ : Order) → mark_at k o₁ ≡ m → Goes f k c o₁ (g o₁))
    → Fell f h (k + 1) c o r → Fell f h k d o (goes_on k m g r)
unfolding goes_on
fell-goes f h k m c d o g r i v j w = go r.result w.plain w.out
  where
    r₁ : Result → Outcome
    r₁ x = record { result = x; order = r.order; log = r.log }

    same : (x : Result) → is_plain x ≡ true → (h ≡ true → x ≡ raising conflicting_receive) → Fell f h k d o (r₁ x)
    same x y z = record { falls = falls-wider (omega arith) i w.falls; root = w.root; plain = y; out = z }

    on : (b : Bool) → eqb (mark_at k r.order) m ≡ b → (h ≡ true → over ≡ raising conflicting_receive)
        → Fell f h k d o (record { result = (elim b as (λ _. Outcome) [ true ↦ g r.order | false ↦ runs r.order ]).result; order = (elim b as (λ _. Outcome) [ true ↦ g r.order | false ↦ runs r.order ]).order; log = r.log ++ (elim b as (λ _. Outcome) [ true ↦ g r.order | false ↦ runs r.order ]).log })
    on true e z = by (j r.order (eqb-true (mark_at k r.order) m e))
      where
        never : {A : Type 0} → h ≡ true → A
        never y = let q : ◌≡◌ {A = ℕ} 0 1 = let p = z y in cc in absurd (omega arith)

        by : Goes f k c r.order (g r.order) → Fell f h k d o (record { result = (g r.order).result; order = (g r.order).order; log = r.log ++ (g r.order).log })
        by (goes_down a b y) =
            record {
              falls = record {
                at = k;
                from = omega arith;
                to = v;
                same = same_then (same-less (omega arith) (falls_below w.falls)) b.marks;
                less = subst (λ (x : ℕ). rank (f k) (get_or (g r.order).order.marks k 0) < rank (f k) x) ((falls_below w.falls).at k (omega arith)) a;
              };
              root = b.root ∙ w.root;
              plain = y;
              out = never;
            }
        by (goes-behind b y) =
            record { falls = falls-wider (omega arith) i (falls-behind w.falls b.marks); root = b.root ∙ w.root; plain = y; out = never }
    on false e z = record { falls = falls-wider (omega arith) i w.falls; root = w.root; plain = refl; out = λ y. let q : ◌≡◌ {A = ℕ} 0 1 = let p = z y in cc in absurd (omega arith) }

    go : (x : Result) → is_plain x ≡ true → (h ≡ true → x ≡ raising conflicting_receive) → Fell f h k d o (where_over (λ o₁. elim (eqb (mark_at k o₁) m) [ true ↦ g o₁ | false ↦ runs o₁ ]) (r₁ x))
    go running y z = same running y z
    go over y z = on (eqb (mark_at k r.order) m) refl z
    go (raising x) y z = same (raising x) y z
    go leaving y z = absurd (false≢true y)
    go undone y z = absurd (false≢true y)
    go (undo_raising x) y z = same (undo_raising x) y z

-- a sequence goes on
goes-sequence : (f : ℕ → ℕ) (k t : ℕ) (within : Acts) (o : Order) → k < end_with within (k + 1) t → mark_at k o ≡ active
    → Goes f k (end_with within (k + 1) t) o (where_over (finishes k) (begun_in o (begin_after within (k + 1) t o.marks)))
unfolding rank
goes-sequence f k t within o e d = go b.over
  where
    b : Begun
    b = begin_after within (k + 1) t o.marks

    s : Same (end_with within (k + 1) t) o.marks b.marks
    s = same_after within (k + 1) t o.marks

    go : (v : Bool) → Goes f k (end_with within (k + 1) t) o (where_over (finishes k) (begun_in o (record { marks = b.marks; over = v; log = b.log })))
    go true =
        goes_down (subst (λ (x : ℕ). rank (f k) (get_or (set b.marks k idle) k 0) < rank (f k) x) (sym d) (omega (arith, rank-set (f k) k idle b.marks, active-some (f k))))
        (record { root = refl; marks = same_then (same-less (omega arith) s) (same_set k k idle b.marks (omega arith)) }) refl
    go false = goes-behind (record { root = refl; marks = s }) refl

-- a flow
goes-flow : (f : ℕ → ℕ) (k e : ℕ) (within : Acts) (o : Order) → mark_at k o ≡ active → Goes f k e o (joins k within o)
unfolding joins
goes-flow f k e within o d = go (quiet (k + 1) (sizes within) o.marks)
  where
    go : (v : Bool) → Goes f k e o (elim v [ true ↦ finishes k o | false ↦ runs o ])
    go true = goes-finishes f k e active o (active-some (f k)) d
    go false = goes-behind (low-itself e o) refl

-- a repeat
goes-again : (f : ℕ → ℕ) (k e : ℕ) (o : Order) → f k ≡ 7 → mark_at k o ≡ inside → Goes f k e o (again k o)
unfolding rank
goes-again f k e o n d =
    goes_down (subst (λ (i : ℕ). rank i (get_or (set o.marks k active) k 0) < rank i (get_or o.marks k 0)) (sym n)
    (subst (λ (x : ℕ). rank 7 (get_or (set o.marks k active) k 0) < rank 7 x) (sym d) (omega (arith, rank-set 7 k active o.marks))))
    (record { root = refl; marks = same_set k k active o.marks (omega arith) }) refl

-- what ends in an activity ends before the activity
end-within : (l : Acts) (c t : ℕ) → (c ≤ end_with l c t) × (end_with l c t ≤ c + sizes l)
unfolding end_with size
end-within none c t = (omega arith, omega arith)
end-within (more a l) c t = go (ltb t (c + size a)) (end-within l (c + size a) t)
  where
    go : (v : Bool) → (c + size a ≤ end_with l (c + size a) t) × (end_with l (c + size a) t ≤ c + size a + sizes l)
        → (c ≤ elim v as (λ _. ℕ) [ true ↦ c + size a | false ↦ end_with l (c + size a) t ]) × (elim v as (λ _. ℕ) [ true ↦ c + size a | false ↦ end_with l (c + size a) t ] ≤ c + (size a + sizes l))
    go true x = (omega arith, omega arith)
    go false x = (omega (arith, x.0), omega (arith, x.1))

-- what an activity other than a scope makes of it
fell-combines : (f : ℕ → ℕ) (h : Bool) (own : Own) (within : Acts) (k t : ℕ) (o : Order) (r : Outcome) → is_scope own ≡ false → f k ≡ kind own
    → Fell f h (k + 1) (end_with within (k + 1) t) o r → Fell f h k (k + (1 + sizes within)) o (combines own within k t r)
unfolding combines kind
fell-combines f h own within k t o r s n w = go own s n
  where
    z : (k + 1 ≤ end_with within (k + 1) t) × (end_with within (k + 1) t ≤ k + 1 + sizes within)
    z = end-within within (k + 1) t

    plainly : Fell f h k (k + (1 + sizes within)) o r
    plainly = fell-wider (omega arith) (omega (arith, z.1)) w

    goes : (m : ℕ) (g : Order → Outcome) → ((o₁ : Order) → mark_at k o₁ ≡ m → Goes f k (end_with within (k + 1) t) o₁ (g o₁)) → Fell f h k (k + (1 + sizes within)) o (goes_on k m g r)
    goes m g j = fell-goes f h k m (end_with within (k + 1) t) (k + (1 + sizes within)) o g r (omega (arith, z.1)) (omega arith) j w

    go : (own : Own) → is_scope own ≡ false → f k ≡ kind own → Fell f h k (k + (1 + sizes within)) o (combines own within k t r)
    go empty s n = plainly
    go (send a b vs) s n = plainly
    go (receive a b vs) s n = plainly
    go (setting v x) s n = plainly
    go (raise number) s n = plainly
    go leave s n = plainly
    go (choose x) s n = goes inside (finishes k) (λ o₁ d. goes-finishes f k _ inside o₁ (inside-some (f k)) d)
    go (repeat x) s n = goes inside (again k) (λ o₁ d. goes-again f k _ o₁ n d)
    go sequence s n =
        goes active (λ o₁. where_over (finishes k) (begun_in o₁ (begin_after within (k + 1) t o₁.marks))) (λ o₁ d. goes-sequence f k t within o₁ (omega (arith, z.0)) d)
    go flow s n = goes active (joins k within) (λ o₁ d. goes-flow f k _ within o₁ d)
    go pick s n = goes inside (finishes k) (λ o₁ d. goes-finishes f k _ inside o₁ (inside-some (f k)) d)
    go (scope xs v) s n = absurd (false≢true (sym s))
    go (arm a b vs) s n = plainly

-- Scopes.

-- the results of what a scope does of itself
plain-where : (g : Order → Outcome) (r : Outcome) → is_plain r.result ≡ true → ((o₁ : Order) → is_plain (g o₁).result ≡ true) → is_plain (where_over g r).result ≡ true
plain-where g r x f = go r.result x
  where
    go : (z : Result) → is_plain z ≡ true → is_plain (where_over g (record { result = z; order = r.order; log = r.log })).result ≡ true
    go running x = x
    go over x = f r.order
    go (raising n) x = x
    go leaving x = x
    go undone x = x
    go (undo_raising n) x = x

plain-begun : (o : Order) (b : Begun) → is_plain (begun_in o b).result ≡ true
plain-begun o b = go b.over
  where
    go : (v : Bool) → is_plain (cond v over running) ≡ true
    go true = refl
    go false = refl

plain-undo : (l : List ℕ) (s : Scope) (o : Order) → is_plain (undo l s o).result ≡ true
unfolding undo start_undo
plain-undo [] s o = refl
plain-undo (e ∷ l) s o =
    let o' = remembering (without_last (is_for s) (closings o)) o in
    plain-where (undo l s) (start_undo e s o) (plain-begun o' (begin_undo s.body s.body_at e o'.marks)) (λ o₁. plain-undo l s o₁)

plain-handle : (s : Scope) (o : Order) → is_plain (handle s o).result ≡ true
unfolding handle
plain-handle s o =
    let o' = going s.name handling o in
    let c = choice_of s.name o in
    let b = begin (chosen_part c s) (chosen_at c s) o'.marks in
    plain-where (ends s) (begun_in o' b) (plain-begun o' b) (λ o₁. refl)

plain-undoes : (w : Bool) (s : Scope) (o : Order) → is_plain (undoes w s o).result ≡ true
unfolding undoes
plain-undoes true s o =
    let o' = going s.name undoing o in
    plain-where (handle s) (undo (remembered_for s o') s o') (plain-undo (remembered_for s o') s o') (λ o₁. plain-handle s o₁)
plain-undoes false s o =
    let o' = marking s.name withdrawing o in
    plain-where (ends s) (undo (remembered_for s o') s o') (plain-undo (remembered_for s o') s o') (λ o₁. refl)

plain-turns : (w : Bool) (s : Scope) (o : Order) → is_plain (turns w s o).result ≡ true
unfolding turns
plain-turns w s o = go (inner_runs s.body s.body_at o.marks)
  where
    go : (v : Bool) → is_plain (elim v as (λ _. Outcome) [ true ↦ runs o | false ↦ undoes w s o ]).result ≡ true
    go true = refl
    go false = plain-undoes w s o

plain-again : (s : Scope) (o : Order) → is_plain (looks_again s o).result ≡ true
unfolding looks_again
plain-again s o =
    decide (eqb (state_of s.name o) faulty) (λ e. rw (e, looks_again) (plain-turns true s o))
    (λ e. decide (eqb (mark_of s.name o) halted) (λ d. rw (e, looks_again, d) (plain-turns false s o)) (λ d. rw (e, looks_again, d) refl))

plain_over : (s : Scope) (o : Order) → is_plain (body_over s o).result ≡ true
unfolding body_over
plain_over s o = decide (eqb (mark_of s.name o) active) (λ e. rw (e, body_over) refl) (λ e. rw (e, body_over) (plain-again s o))

plain-raised : (s : Scope) (number : ℕ) (o : Order) → is_plain (body_raised number s o).result ≡ true
unfolding body_raised faults
plain-raised s number o = decide (is_open (mark_of s.name o)) (λ e. rw (e, body_raised) (plain-turns true s (stop s.body s.body_at (causing s.name number (marking s.name (mark_with (choice_for number s) faulty) o))).order)) (λ e. rw (e, body_raised) (plain-again s o))

-- a scope that a raise in a part ends, or that lets it be
part-lowered : (s : Scope) (b : ℕ) → Owns s b
    → ((o₁ : Order) → rank 11 (mark_of s.name (with_marks (cleared s.first s.count o₁.marks) o₁)) ≤ rank 11 (mark_of s.name o₁))
    → (number : ℕ) (o : Order) → Lowered s b o (part_raised number s o) × (is_plain (part_raised number s o).result ≡ true)
unfolding part_raised breaks rank
part-lowered s b h f number o =
    decide (eqb (state_of s.name o) handling)
    (λ e. rw (e, part_raised) (breaks-lowered s b h number o (subst (λ (n : ℕ). 0 < n) (sym (rank-by 11 (mark_of s.name o) handling e (omega arith))) (omega arith)) f, refl))
    (λ e. rw (e, part_raised) (stays refl, refl))

undo-lowered : (s : Scope) (b : ℕ) → Owns s b
    → ((o₁ : Order) → rank 11 (mark_of s.name (with_marks (cleared s.first s.count o₁.marks) o₁)) ≤ rank 11 (mark_of s.name o₁))
    → (number : ℕ) (o : Order) → Lowered s b o (undo_raised number s o) × (is_plain (undo_raised number s o).result ≡ true)
unfolding undo_raised breaks rank
undo-lowered s b h f number o =
    decide (eqb (state_of s.name o) undoing)
    (λ e. rw (e, undo_raised) (breaks-lowered s b h number o (subst (λ (n : ℕ). 0 < n) (sym (rank-by 11 (mark_of s.name o) undoing e (omega arith))) (omega arith)) f, refl))
    (λ e. decide (eqb (mark_of s.name o) withdrawing)
    (λ d. rw (e, undo_raised, d) (breaks-lowered s b h number o (subst (λ (m : ℕ). 0 < rank 11 m) (sym (eqb-true (mark_of s.name o) withdrawing d)) (omega arith)) f, refl))
    (λ d. rw (e, undo_raised, d) (stays refl, refl)))

-- what a scope makes of a raise in its body, and of one in its fault part: from the order that the raise left
module _ (s : Scope) (b : ℕ) (h : Owns s b)
    (f : (o₁ : Order) → rank 11 (mark_of s.name (with_marks (cleared s.first s.count o₁.marks) o₁)) ≤ rank 11 (mark_of s.name o₁)) where
  lowered-after : (l : List Event) (o : Order) (r : Outcome) → Lowered s b o r → Lowered s b o (after l r)
  lowered-after l o r (stays e) = stays e
  lowered-after l o r (lowers i u) = lowers i u

  pub body-lowered : (r : Outcome) → is_plain r.result ≡ true → Lowered s b r.order (from_body s r) × (is_plain (from_body s r).result ≡ true)
  unfolding from_body
  body-lowered r x = go r.result x
    where
      go : (z : Result) → is_plain z ≡ true
          → Lowered s b r.order (from_body s (record { result = z; order = r.order; log = r.log })) × (is_plain (from_body s (record { result = z; order = r.order; log = r.log })).result ≡ true)
      go running x = (lowered-after r.log r.order (looks_again s r.order) (again-lowered s b h r.order), plain-again s r.order)
      go over x = (lowered-after r.log r.order (body_over s r.order) (over-lowered s b h r.order), plain_over s r.order)
      go (raising n) x = (lowered-after r.log r.order (body_raised n s r.order) (raised-lowered s b h n r.order), plain-raised s n r.order)
      go leaving x = absurd (false≢true x)
      go undone x = absurd (false≢true x)
      go (undo_raising n) x = let u = undo-lowered s b h f n r.order in (lowered-after r.log r.order (undo_raised n s r.order) u.0, u.1)

  pub fault-lowered : {number : ℕ} (r : Outcome) → r.result ≡ raising number → Lowered s b r.order (from_fault s r) × (is_plain (from_fault s r).result ≡ true)
  unfolding from_fault
  fault-lowered {number} r x = subst (λ (z : Result). Lowered s b r.order (from_fault s (record { result = z; order = r.order; log = r.log })) × (is_plain (from_fault s (record { result = z; order = r.order; log = r.log })).result ≡ true)) (sym x)
      (let u = part-lowered s b h f number r.order in (lowered-after r.log r.order (part_raised number s r.order) u.0, u.1))

-- all scopes have the same ranks
rank-scope : (xs : List ℕ) (z : Bool) (m : ℕ) → rank (kind (scope xs z)) m ≡ rank 11 m
unfolding rank kind
rank-scope [] true m = refl
rank-scope [] false m = refl
rank-scope (x ∷ xs) z m = refl

-- a scope with a number: what fell in it still does, or it does itself
fell-scope : (f : ℕ → ℕ) (xs : List ℕ) (z : Bool) (k d : ℕ) (within : Acts) (o : Order) (h : Bool) (r r₁ : Outcome) → f k ≡ kind (scope xs z) → k < d → Fell f h (k + 1) d o r
    → Lowered (scope_at xs k within) k r.order r₁ → is_plain r₁.result ≡ true → Fell f false k d o r₁
fell-scope f xs z k d within o h r r₁ n v w (stays e) y =
    record {
      falls = subst (λ (x : Order). Falls f k d o.marks x.marks) (sym e) (falls-wider (omega arith) (omega arith) w.falls);
      root = ap (λ (x : Order). x.root) e ∙ w.root;
      plain = y;
      out = λ z. absurd (false≢true z);
    }
fell-scope f xs z k d within o h r r₁ n v w (lowers i u) y =
    record {
      falls = record {
        at = k;
        from = omega arith;
        to = v;
        same = same_then (same-less (omega arith) (falls_below w.falls)) u.marks;
        less = subst (λ (j : ℕ). rank j (get_or r₁.order.marks k 0) < rank j (get_or o.marks k 0)) (sym n)
            (subst (λ (x : ℕ). x < rank (kind (scope xs z)) (get_or o.marks k 0)) (sym (rank-scope xs z (get_or r₁.order.marks k 0)))
            (subst (λ (x : ℕ). rank 11 (get_or r₁.order.marks k 0) < x) (sym (rank-scope xs z (get_or o.marks k 0)))
            (subst (λ (x : ℕ). rank 11 (get_or r₁.order.marks k 0) < rank 11 x) ((falls_below w.falls).at k (omega arith)) (omega (arith, i, u.rank)))));
      };
      root = u.root.same ∙ w.root;
      plain = y;
      out = λ z. absurd (false≢true z);
    }

-- clearing its numbers does not raise its own rank
cleared-rank : (n k : ℕ) (ms : List ℕ) → rank 11 (get_or (cleared k n ms) k 0) ≤ rank 11 (get_or ms k 0)
unfolding cleared rank
cleared-rank zero k ms = omega arith
cleared-rank (suc n) k ms =
    let x = (same-cleared n (k + 1) (k + 1) (set ms k idle) (omega arith)).at k (omega arith) in
    subst (λ (m : ℕ). rank 11 m ≤ rank 11 (get_or ms k 0)) (sym x) (omega (arith, rank-set 11 k idle ms))

-- what acts in a raise's place, and what an arm does then
pub raised-receive : (own : Own) (within : Acts) (q k : ℕ) (o : Order) → is_take (doing_of own within k) ≡ true → performs in_place own within q k o ≡ raises conflicting_receive k o
unfolding is_take doing_of performs replaces kind
raised-receive empty within q k o h = absurd (false≢true h)
raised-receive (send x y vs) within q k o h = absurd (false≢true h)
raised-receive (receive (from_partner x) y vs) within q k o h = refl
raised-receive (receive (from_asking x kept) y vs) within q k o h = refl
raised-receive (setting v x) within q k o h = absurd (false≢true h)
raised-receive (raise zero) within q k o h = absurd (false≢true h)
raised-receive (raise (suc number)) within q k o h = absurd (false≢true h)
raised-receive leave within q k o h = absurd (false≢true h)
raised-receive (choose x) within q k o h = absurd (false≢true h)
raised-receive (repeat x) within q k o h = absurd (false≢true h)
raised-receive sequence within q k o h = absurd (false≢true h)
raised-receive flow within q k o h = absurd (false≢true h)
raised-receive pick within q k o h = absurd (false≢true h)
raised-receive (scope xs v) within q k o h = absurd (false≢true h)
raised-receive (arm x y vs) within q k o h = refl

-- a receive that awaits its step is active
receive-active : (own : Own) (within : Acts) (k : ℕ) (b : Bool) (m : ℕ) → is_take (doing_of own within k) ≡ true → is_arm own ≡ false → awaits own b m ≡ true → m ≡ active
unfolding is_take doing_of awaits kind
receive-active empty within k b m h a w = absurd (false≢true h)
receive-active (send x y vs) within k b m h a w = absurd (false≢true h)
receive-active (receive x y vs) within k b m h a w = eqb-true m active w
receive-active (setting v x) within k b m h a w = absurd (false≢true h)
receive-active (raise zero) within k b m h a w = absurd (false≢true h)
receive-active (raise (suc number)) within k b m h a w = absurd (false≢true h)
receive-active leave within k b m h a w = absurd (false≢true h)
receive-active (choose x) within k b m h a w = absurd (false≢true h)
receive-active (repeat x) within k b m h a w = absurd (false≢true h)
receive-active sequence within k b m h a w = absurd (false≢true h)
receive-active flow within k b m h a w = absurd (false≢true h)
receive-active pick within k b m h a w = absurd (false≢true h)
receive-active (scope xs v) within k b m h a w = absurd (false≢true h)
receive-active (arm x y vs) within k b m h a w = absurd (false≢true (sym a))

-- the definitions, by where the step is
here : (own : Own) (within : Acts) (q k t : ℕ) (o : Order) → k ≡ t → step_in in_place (act own within) q k t o ≡ performs in_place own within q k o
unfolding step_in
here own within q k t o e =
    first-of (eqb k t) (performs in_place own within q k o) (combines own within k t (step_among in_place within (is_scope own) q (k + 1) t (arms own within k t o))) (step_in in_place (act own within) q k t o) refl (eq-eqb k t e)

deeper : (own : Own) (within : Acts) (q k t : ℕ) (o : Order) → k < t
    → step_in in_place (act own within) q k t o ≡ combines own within k t (step_among in_place within (is_scope own) q (k + 1) t (arms own within k t o))
unfolding step_in
deeper own within q k t o e =
    second-of (eqb k t) (performs in_place own within q k o) (combines own within k t (step_among in_place within (is_scope own) q (k + 1) t (arms own within k t o))) (step_in in_place (act own within) q k t o) refl (ne_eqb k t (omega arith))

first-among : (a : Act) (l : Acts) (w : Bool) (q c t : ℕ) (o : Order) → t < c + size a → step_among in_place (more a l) w q c t o ≡ step_in in_place a (cond w c q) c t o
unfolding step_in
first-among a l w q c t o e =
    first-of (ltb t (c + size a)) (step_in in_place a (cond w c q) c t o) (step_among in_place l w q (c + size a) t o) (step_among in_place (more a l) w q c t o) refl (lt-ltb t (c + size a) e)

later-among : (a : Act) (l : Acts) (w : Bool) (q c t : ℕ) (o : Order) → c + size a ≤ t → step_among in_place (more a l) w q c t o ≡ step_among in_place l w q (c + size a) t o
unfolding step_in
later-among a l w q c t o e =
    second-of (ltb t (c + size a)) (step_in in_place a (cond w c q) c t o) (step_among in_place l w q (c + size a) t o) (step_among in_place (more a l) w q c t o) refl (le-ltb t (c + size a) e)

first-end : (a : Act) (l : Acts) (c t : ℕ) → t < c + size a → end_with (more a l) c t ≡ c + size a
unfolding end_with
first-end a l c t e = first-of (ltb t (c + size a)) (c + size a) (end_with l (c + size a) t) (end_with (more a l) c t) refl (lt-ltb t (c + size a) e)

later-end : (a : Act) (l : Acts) (c t : ℕ) → c + size a ≤ t → end_with (more a l) c t ≡ end_with l (c + size a) t
unfolding end_with
later-end a l c t e = second-of (ltb t (c + size a)) (c + size a) (end_with l (c + size a) t) (end_with (more a l) c t) refl (le-ltb t (c + size a) e)

-- an arm of an open pick raises
arm-raises : (l : Acts) (w : Bool) (y c t : ℕ) (o : Order) → is_part l c t ≡ true → is_take (doing_among l c t) ≡ true → step_among in_place l w y c t o ≡ raises conflicting_receive t o
unfolding is_part size
arm-raises none w y c t o e h = absurd (false≢true e)
arm-raises (more (act own within) l) w y c t o e h =
    decide (eqb c t)
    (λ d. let q = eqb-true c t d in
    first-among (act own within) l w y c t o (omega arith)
    ∙ (here own within (cond w c y) c t o q
    ∙ (raised-receive own within (cond w c y) c o (subst (λ (x : Doing). is_take x ≡ true) (doing-among (act own within) l c t (omega arith) ∙ (ap (λ (j : ℕ). doing_in (act own within) c j) (sym q) ∙ doing-here own within c)) h)
    ∙ ap (λ (j : ℕ). raises conflicting_receive j o) q)))
    (λ d. let q = part-from l (c + (1 + sizes within)) t (rw d at e) in
    later-among (act own within) l w y c t o (omega (arith, q))
    ∙ arm-raises l w y (c + (1 + sizes within)) t o (rw d at e) (subst (λ (x : Doing). is_take x ≡ true) (doing-later (act own within) l c t (omega (arith, q))) h))

-- not an arm itself
abbrev Deep : Act → (k t : ℕ) → Type 0
Deep (act own within) k t = is_arm own ≡ true → k ≡ t → ⊥

pub no_arm : {h : Bool} {a : Act} (k t : ℕ) → Formed h false a → Deep a k t
unfolding kind
no_arm k t (formed-part s n g l) = λ e d. false≢true (sym n ∙ e)
no_arm k t (formed-scope few many hb hl) = λ e d. false≢true e

deep-first : {h : Bool} (r : Bool) {a : Act} (l : Acts) (c t : ℕ) → Formed h r a → (r && is_part (more a l) c t) ≡ false → Deep a c t
unfolding is_part kind
deep-first r l c t (formed-part s n g y) d = λ e q. false≢true (sym d ∙ rw (sym n ∙ e, eq-eqb c t q))
deep-first r l c t (formed-scope few many hb hl) d = λ e q. false≢true e

deep-later : (r x y : Bool) → (r && (x || y)) ≡ false → (r && y) ≡ false
deep-later true true y d = absurd (false≢true (sym d))
deep-later true false y d = d
deep-later false x y d = refl

deep-rest : (r : Bool) (a : Act) (l : Acts) (c t : ℕ) → (r && is_part (more a l) c t) ≡ false → (r && is_part l (c + size a) t) ≡ false
unfolding is_part
deep-rest r a l c t d = deep-later r (eqb c t) (is_part l (c + size a) t) d

-- a raise goes through what is no scope
raise-through : (own : Own) (within : Acts) (k t : ℕ) (o : Order) → is_scope own ≡ false → combines own within k t (raises conflicting_receive t o) ≡ raises conflicting_receive t o
unfolding combines goes_on kind
raise-through empty within k t o s = refl
raise-through (send x y vs) within k t o s = refl
raise-through (receive x y vs) within k t o s = refl
raise-through (setting v x) within k t o s = refl
raise-through (raise zero) within k t o s = refl
raise-through (raise (suc number)) within k t o s = refl
raise-through leave within k t o s = refl
raise-through (choose x) within k t o s = refl
raise-through (repeat x) within k t o s = refl
raise-through sequence within k t o s = refl
raise-through flow within k t o s = refl
raise-through pick within k t o s = refl
raise-through (scope xs v) within k t o s = absurd (false≢true (sym s))
raise-through (arm x y vs) within k t o s = refl

-- what a pick is when one of its arms acts
arms-so : (own : Own) (within : Acts) (k t : ℕ) (o : Order) (b : Bool) → (is_pick own && is_part within (k + 1) t) ≡ b → arms own within k t o ≡ cond b (marked k inside o) o
unfolding arms
arms-so own within k t o b e = rw e

-- an activity other than a scope, where the raise is within it
part_falls : (f : ℕ → ℕ) (h : Bool) (own : Own) (within : Acts) (y k t : ℕ) (o : Order) → is_scope own ≡ false → f k ≡ kind own → Arms (is_pick own) within → k < t
    → WaitsIn o.marks within (k + 1) t (opens own (get_or o.marks k 0)) → is_take (doing_among within (k + 1) t) ≡ true
    → ((is_pick own && is_part within (k + 1) t) ≡ false → Fell f h (k + 1) (end_with within (k + 1) t) o (step_among in_place within (is_scope own) y (k + 1) t o))
    → Fell f h k (k + (1 + sizes within)) o (step_in in_place (act own within) y k t o)
unfolding rank
part_falls f h own within y k t o s x z e q i g =
    subst (λ (r : Outcome). Fell f h k (k + (1 + sizes within)) o r) (sym (deeper own within y k t o e)) (go (is_pick own && is_part within (k + 1) t) refl)
  where
    go : (b : Bool) → (is_pick own && is_part within (k + 1) t) ≡ b → Fell f h k (k + (1 + sizes within)) o (combines own within k t (step_among in_place within (is_scope own) y (k + 1) t (arms own within k t o)))
    go true d =
        both (is_pick own) (is_part within (k + 1) t) d (λ u v.
        both (is_pick own) (eqb (get_or o.marks k 0) active) (arm-open t 0 (subst (λ (w : Bool). Arms w within) u z) q v) (λ _ w.
        subst (λ (o₁ : Order). Fell f h k (k + (1 + sizes within)) o (combines own within k t (step_among in_place within (is_scope own) y (k + 1) t o₁))) (sym (arms-so own within k t o true d))
        (subst (λ (r : Outcome). Fell f h k (k + (1 + sizes within)) o r)
        (sym (ap (combines own within k t) (arm-raises within (is_scope own) y (k + 1) t (marked k inside o) v i) ∙ raise-through own within k t (marked k inside o) s))
        (record {
          falls = record {
            at = k;
            from = omega arith;
            to = omega arith;
            same = same_then (same_set k k inside o.marks (omega arith)) (same_set k t idle (set o.marks k inside) (omega arith));
            less = subst (λ (n : ℕ). rank n (get_or (set (set o.marks k inside) t idle) k 0) < rank n (get_or o.marks k 0)) (sym (x ∙ pick-kind own u))
                (subst (λ (m : ℕ). rank 10 (get_or (set (set o.marks k inside) t idle) k 0) < rank 10 m) (sym (eqb-true (get_or o.marks k 0) active w))
                (subst (λ (m : ℕ). rank 10 m < 7) (sym (get_or-set_other (set o.marks k inside) t k idle 0 (omega arith))) (omega (arith, rank-set 10 k inside o.marks))));
          };
          root = refl;
          plain = refl;
          out = λ _. refl;
        }))))
    go false d =
        subst (λ (o₁ : Order). Fell f h k (k + (1 + sizes within)) o (combines own within k t (step_among in_place within (is_scope own) y (k + 1) t o₁))) (sym (arms-so own within k t o false d))
        (fell-combines f h own within k t o (step_among in_place within (is_scope own) y (k + 1) t o) s x (g d))

-- clearing a scope's numbers
clears : (k : ℕ) (within : Acts) (o : Order)
    → rank 11 (mark_of (inner k) (with_marks (cleared k (1 + sizes within) o.marks) o)) ≤ rank 11 (mark_of (inner k) o)
clears k within o = cleared-rank (1 + sizes within) k o.marks

-- a scope, by where the raise is
module _ (f : ℕ → ℕ) (xs : List ℕ) (z : Bool) (b g : Act) (u : Acts) (y k t : ℕ) (o : Order) (n : f k ≡ kind (scope xs z)) where
  abbrev Whole : ℕ
  Whole = k + (1 + sizes (trio b g u))

  fell-body : t < k + 1 + size b → Fell f false (k + 1) (k + 1 + size b) o (step_in in_place b (k + 1) (k + 1) t o)
      → Fell f false k Whole o (in_scope xs z k t (trio b g u) (step_among in_place (trio b g u) true y (k + 1) t o))
  unfolding size
  fell-body e w =
      subst (λ (x : Outcome). Fell f false k (k + (1 + sizes (trio b g u))) o x)
      (sym (ap (in_scope xs z k t (trio b g u)) (first-among b (more g u) true y (k + 1) t o e) ∙ in_parts xs z b g u k t r true _ (lt-ltb t (k + 1 + size b) e) refl))
      (go (goes_through z k r))
    where
      r : Outcome
      r = step_in in_place b (k + 1) (k + 1) t o

      go : (v : Bool) → Fell f false k (k + (1 + sizes (trio b g u))) o (elim v [ true ↦ r | false ↦ from_body (scope_at xs k (trio b g u)) r ])
      go true = fell-wider (omega arith) (omega arith) w
      go false =
          let x = body-lowered (scope_at xs k (trio b g u)) k (own_at xs k (trio b g u)) (clears k (trio b g u)) r w.plain in
          fell-scope f xs z k (k + (1 + sizes (trio b g u))) (trio b g u) o false r (from_body (scope_at xs k (trio b g u)) r) n (omega arith) (fell-wider (omega arith) (omega arith) w) x.0 x.1

  fell-later : k + 1 + size b ≤ t → Fell f true (k + 1 + size b) (end_with (more g u) (k + 1 + size b) t) o (step_among in_place (more g u) true y (k + 1 + size b) t o)
      → Fell f false k Whole o (in_scope xs z k t (trio b g u) (step_among in_place (trio b g u) true y (k + 1) t o))
  unfolding size from_undo
  fell-later e w = go (ltb t (part_at (undo_part xs) (trio b g u) (k + 1))) refl
    where
      r : Outcome
      r = step_among in_place (more g u) true y (k + 1 + size b) t o

      last : end_with (more g u) (k + 1 + size b) t ≤ k + (1 + (size b + (size g + sizes u)))
      last = omega (arith, (end-within (more g u) (k + 1 + size b) t).1)

      as-it-is : (v : Bool) → ltb t (part_at (undo_part xs) (trio b g u) (k + 1)) ≡ v
          → in_scope xs z k t (trio b g u) (step_among in_place (trio b g u) true y (k + 1) t o) ≡ elim v [ true ↦ from_fault (scope_at xs k (trio b g u)) r | false ↦ from_undo r ]
      as-it-is v d = ap (in_scope xs z k t (trio b g u)) (later-among b (more g u) true y (k + 1) t o e) ∙ in_parts xs z b g u k t r false v (le-ltb t (k + 1 + size b) e) d

      go : (v : Bool) → ltb t (part_at (undo_part xs) (trio b g u) (k + 1)) ≡ v → Fell f false k Whole o (in_scope xs z k t (trio b g u) (step_among in_place (trio b g u) true y (k + 1) t o))
      go true d =
          let x = fault-lowered (scope_at xs k (trio b g u)) k (own_at xs k (trio b g u)) (clears k (trio b g u)) r (w.out refl) in
          subst (λ (x : Outcome). Fell f false k (k + (1 + sizes (trio b g u))) o x) (sym (as-it-is true d))
          (fell-scope f xs z k (k + (1 + sizes (trio b g u))) (trio b g u) o true r (from_fault (scope_at xs k (trio b g u)) r) n (omega arith) (fell-wider (omega arith) (omega (arith, last)) w) x.0 x.1)
      go false d =
          subst (λ (x : Outcome). Fell f false k (k + (1 + sizes (trio b g u))) o x) (sym (as-it-is false d))
          (record {
            falls = falls-wider (omega arith) (omega (arith, last)) w.falls;
            root = w.root;
            plain = subst (λ (x : Result). is_plain (from_undo (record { result = x; order = r.order; log = r.log })).result ≡ true) (sym (w.out refl)) refl;
            out = λ y. absurd (false≢true y);
          })

-- a scope takes no message
scope-no-take : (xs : List ℕ) (z : Bool) (within : Acts) (k : ℕ) → is_take (doing_of (scope xs z) within k) ≡ false
unfolding is_take doing_of
scope-no-take xs z within k = refl

-- by other names
take-as : {x y : Doing} → x ≡ y → is_take x ≡ true → is_take y ≡ true
take-as e h = subst (λ (v : Doing). is_take v ≡ true) e h

among-as : (f : ℕ → ℕ) (h : Bool) (l : Acts) (w : Bool) (q c t : ℕ) (o : Order) {e : ℕ} {r : Outcome} → end_with l c t ≡ e → step_among in_place l w q c t o ≡ r → Fell f h c e o r
    → Fell f h c (end_with l c t) o (step_among in_place l w q c t o)
among-as f h l w q c t o {e} {r} x y z =
    subst (λ (i : Outcome). Fell f h c (end_with l c t) o i) (sym y) (subst (λ (i : ℕ). Fell f h c i o r) (sym x) z)

in_scope_lem : (xs : List ℕ) (z : Bool) (b g : Act) (u : Acts) (q k t : ℕ) (o : Order) → k < t
    → step_in in_place (act (scope xs z) (trio b g u)) q k t o ≡ in_scope xs z k t (trio b g u) (step_among in_place (trio b g u) true q (k + 1) t o)
unfolding combines arms kind
in_scope_lem xs z b g u q k t o e = deeper (scope xs z) (trio b g u) q k t o e

mutual
  unfolding size kind rank

  pub step_falls : {f : ℕ → ℕ} {h r b : Bool} {a : Act} {k : ℕ} → Formed h r a → Knows f a k → (y t : ℕ) (o : Order) → Waits o.marks a k t b → is_take (doing_in a k t) ≡ true → Deep a k t
      → Fell f h k (k + size a) o (step_in in_place a y k t o)
  step_falls {f} {h} (formed-part {own = own} {within = within} s g n l) (knows {k = k} x y z w) y₀ t o (waits-itself {b = b} e q) i d =
      subst (λ (r : Outcome). Fell f h k (k + (1 + sizes within)) o r) (sym (here own within y₀ k t o e ∙ raised-receive own within y₀ k o j))
      (record { falls = record { at = k; from = omega arith; to = omega arith; same = same_set k k idle o.marks (omega arith); less = down }; root = refl; plain = refl; out = λ u. refl })
    where
      j : is_take (doing_of own within k) ≡ true
      j = subst (λ (u : Doing). is_take u ≡ true) (ap (λ (v : ℕ). doing_in (act own within) k v) (sym e) ∙ doing-here own within k) i

      not-arm : is_arm own ≡ false
      not-arm = decide (is_arm own) (λ u. absurd (d u e)) (λ u. u)

      down : rank (f k) (get_or (set o.marks k idle) k 0) < rank (f k) (get_or o.marks k 0)
      down =
          subst (λ (m : ℕ). rank (f k) (get_or (set o.marks k idle) k 0) < rank (f k) m) (sym (receive-active own within k b (get_or o.marks k 0) j not-arm q))
          (omega (arith, rank-set (f k) k idle o.marks, active-some (f k)))
  step_falls {f} {h} (formed-part {own = own} {within = within} s g n l) (knows {k = k} x y z w) y₀ t o (waits-within e q) i d =
      part_falls f h own within y₀ k t o s x z e q (subst (λ (u : Doing). is_take u ≡ true) (doing-within own within k t e) i)
      (λ c. among-falls l w (is_scope own) y₀ t o q (subst (λ (u : Doing). is_take u ≡ true) (doing-within own within k t e) i) c)
  step_falls {f} {h} (formed-scope {xs} {v = v₀} {b = b} {f = g} {u = u} few many hb hl) (knows {k = k} x y z (knows_more kb kl)) y₀ t o (waits-itself e q) i d =
      absurd (false≢true (sym (scope-no-take xs v₀ (trio b g u) k) ∙ subst (λ (v : Doing). is_take v ≡ true) (ap (λ (v : ℕ). doing_in (act (scope xs v₀) (trio b g u)) k v) (sym e) ∙ doing-here (scope xs v₀) (trio b g u) k) i))
  step_falls {f} {h} (formed-scope {xs} {v = v₀} {b = b} {f = g} {u = u} few many hb hl) (knows {k = k} x y z (knows_more kb kl)) y₀ t o (waits-within e (waits-first v w)) i d =
      subst (λ (r : Outcome). Fell f false k (k + (1 + sizes (trio b g u))) o r) (sym (in_scope_lem xs v₀ b g u y₀ k t o e))
      (fell-body f xs v₀ b g u y₀ k t o x v (step_falls hb kb (k + 1) t o w (take-as (doing-within (scope xs v₀) (trio b g u) k t e ∙ doing-among b (more g u) (k + 1) t v) i) (no_arm (k + 1) t hb)))
  step_falls {f} {h} (formed-scope {xs} {v = v₀} {b = b} {f = g} {u = u} few many hb hl) (knows {k = k} x y z (knows_more kb kl)) y₀ t o (waits-within e (waits-later v w)) i d =
      subst (λ (r : Outcome). Fell f false k (k + (1 + sizes (trio b g u))) o r) (sym (in_scope_lem xs v₀ b g u y₀ k t o e))
      (fell-later f xs v₀ b g u y₀ k t o x v (among-falls hl kl true y₀ t o w (take-as (doing-within (scope xs v₀) (trio b g u) k t e ∙ doing-later b (more g u) (k + 1) t v) i) refl))

  among-falls : {f : ℕ → ℕ} {h r b : Bool} {l : Acts} {c : ℕ} → FormedIn h r l → KnowsIn f l c → (z : Bool) (y₀ t : ℕ) (o : Order) → WaitsIn o.marks l c t b → is_take (doing_among l c t) ≡ true
      → (r && is_part l c t) ≡ false
      → Fell f h c (end_with l c t) o (step_among in_place l z y₀ c t o)
  among-falls {f = f} {b = b} {c = c} (formed-none {h = h} {r = r}) _ z y₀ t o w i d = elim w [ ]
  among-falls {f} {h} {r} (formed-more {a = a} {l = l} x y) (knows_more {c = c} kx ky) z y₀ t o (waits-first u w) i d =
      among-as f h (more a l) z y₀ c t o (first-end a l c t u) (first-among a l z y₀ c t o u) (step_falls x kx (cond z c y₀) t o w (take-as (doing-among a l c t u) i) (deep-first r l c t x d))
  among-falls {f} {h} {r} (formed-more {a = a} {l = l} x y) (knows_more {c = c} kx ky) z y₀ t o (waits-later u w) i d =
      among-as f h (more a l) z y₀ c t o (later-end a l c t u) (later-among a l z y₀ c t o u)
      (fell-wider (omega arith) (omega arith) (among-falls y ky z y₀ t o w (take-as (doing-later a l c t u) i) (deep-rest r a l c t d)))
