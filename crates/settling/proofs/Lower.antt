-- What begins, stops or undoes leaves the marks below it as they were. Of every order, whether it stands or not. Assumes nothing.
use Prim.Native.Nat.{ℕ, zero, suc, ◌+◌, ◌-◌, ◌≤◌, ◌<◌}
use native.Mathlib.Omega.{arith}
use mathlib.Core.Path.{◌≡◌, refl, sym, ap, subst, ◌∙◌}
use mathlib.Core.Bool.{Bool, true, false, cond, not}
use mathlib.Core.List.{List, [], ◌∷◌, ◌++◌}
use lib.ListN.{length, get_or, set, length-set, get_or-eq_default}
use lib.Seq.{get_or-set_other, get_or-set_same}
use lib.Dec.{eqb, ltb}
use borrow.Author.Tests.{eqb-true, ltb-true, ltb-false}
use Rattle.plan.specs.Tree.{Exp, Own, empty, send, receive, set as setting, raise, leave, choose, repeat, sequence, flow, pick, scope, arm, is_scope, has_undo, numbers_of, general_part, undo_part, Act, act, Acts, none, more, Plan, size, sizes}
use Rattle.order.specs.declared.Closing.{Closing}
use Rattle.order.specs.declared.Order.{Order}
use Rattle.order.specs.declared.Way.{Way as Result}
use Rattle.order.specs.declared.Way.TheVariants.{Running as running, Over as over, Raising as raising, Leaving as leaving, Undone as undone, UndoRaising as undo_raising}
use Rattle.order.specs.Lists.{only, without_last}
use Rattle.order.specs.State.{idle, active, done, faulty, undoing, handling, halted, withdrawing, Name, root, inner, with_marks, marked, mark_at, mark_of, marking, mark_with, state_in, state_of, choice_of, going, causing, closings, remembering}
use Rattle.order.specs.Begin.{Begun, nothing_begun, awaiting, throughout, around, its_beginning, in_turn, side_by_side, begin, begin_in_turn, begin_all, begin_first, begin_after, part, part_at, begin_part, cleared}
use Rattle.order.specs.Scope.{Outcome, runs, after, begun_in, where_over, Scope, scope_at, behind, by_number, choice_for, chosen_part, chosen_at, root_of, is_for, is_open, inner_runs, remembered_for, forgetting, begin_undo, begin_undo_first, begin_undo_in, start_undo, undo, ends, handle, undoes, turns, withdraws, faults, breaks, looks_again, body_over, body_raised, Stopped, untouched, also_stopped, stop, stop_all, stop_first}
use Rattle.order.specs.Judging.{rank}
use Rattle.order.proofs.Chosen.{state-alone, state-with}
use Rattle.settling.proofs.Parts.{decide}

-- the marks below b are the same
pub record Same (b : ℕ) (ms ns : List ℕ) : Type 0 where
  pub at : (j : ℕ) → j < b → get_or ns j 0 ≡ get_or ms j 0

pub same-itself : (b : ℕ) (ms : List ℕ) → Same b ms ms
same-itself b ms = record { at = λ j h. refl }

pub same_then : {b : ℕ} {ms ns qs : List ℕ} → Same b ms ns → Same b ns qs → Same b ms qs
same_then x y = record { at = λ j h. y.at j h ∙ x.at j h }

pub same-less : {b c : ℕ} {ms ns : List ℕ} → b ≤ c → Same c ms ns → Same b ms ns
same-less e x = record { at = λ j h. x.at j (omega arith) }

pub same_set : (b k v : ℕ) (ms : List ℕ) → b ≤ k → Same b ms (set ms k v)
same_set b k v ms e = record { at = λ j h. get_or-set_other ms k j v 0 (omega arith) }

pub same-cleared : (n b k : ℕ) (ms : List ℕ) → b ≤ k → Same b ms (cleared k n ms)
unfolding cleared
same-cleared zero b k ms e = same-itself b ms
same-cleared (suc n) b k ms e = same_then (same_set b k idle ms e) (same-cleared n b (k + 1) (set ms k idle) (omega arith))

-- what begins
same-throughout : {b : ℕ} {ms : List ℕ} (k : ℕ) (r : Begun) → b ≤ k → Same b ms r.marks → Same b ms (throughout k r).marks
same-throughout {b} {ms} k r e x = go r.over
  where
    go : (v : Bool) → Same b ms (elim v as (λ _. Begun) [ true ↦ record { marks = set r.marks k idle; over = true; log = r.log } | false ↦ r ]).marks
    go true = same_then x (same_set b k idle r.marks e)
    go false = x

same-around : {b : ℕ} {ms : List ℕ} (k : ℕ) (r : Begun) → b ≤ k → Same b ms r.marks → Same b ms (around k r).marks
same-around {b} {ms} k r e x = go r.over
  where
    go : (v : Bool) → Same b ms (elim v as (λ _. Begun) [ true ↦ record { marks = set r.marks k 3; over = false; log = r.log } | false ↦ r ]).marks
    go true = same_then x (same_set b k 3 r.marks e)
    go false = x

same-in-turn : {b : ℕ} {ms : List ℕ} (f : List ℕ → Begun) (r : Begun) → ((ns : List ℕ) → Same b ns (f ns).marks) → Same b ms r.marks → Same b ms (in_turn f r).marks
same-in-turn {b} {ms} f r g x = go r.over
  where
    go : (v : Bool)
        → Same b ms (elim v as (λ _. Begun) [ true ↦ (let s = f r.marks in record { marks = s.marks; over = s.over; log = r.log ++ s.log }) | false ↦ r ]).marks
    go true = same_then x (g r.marks)
    go false = x

mutual
  unfolding begin size

  pub same-begin : (a : Act) (b k : ℕ) (ms : List ℕ) → b ≤ k → Same b ms (begin a k ms).marks
  same-begin (act empty within) b k ms e = same-itself b ms
  same-begin (act (send p o vs) within) b k ms e = same_set b k active ms e
  same-begin (act (receive p o vs) within) b k ms e = same_set b k active ms e
  same-begin (act (setting v x) within) b k ms e = same_set b k active ms e
  same-begin (act (raise zero) within) b k ms e = same_set b k active ms e
  same-begin (act (raise (suc number)) within) b k ms e = same_set b k active ms e
  same-begin (act leave within) b k ms e = same_set b k active ms e
  same-begin (act (choose x) within) b k ms e = same_set b k active ms e
  same-begin (act (repeat x) within) b k ms e = same_set b k active ms e
  same-begin (act sequence within) b k ms e =
      same-throughout k (begin_in_turn within (k + 1) (set ms k active)) e (same_then (same_set b k active ms e) (same-begin-turn within b (k + 1) (set ms k active) (omega arith)))
  same-begin (act flow within) b k ms e =
      same-throughout k (begin_all within (k + 1) (set ms k active)) e (same_then (same_set b k active ms e) (same-begin-all within b (k + 1) (set ms k active) (omega arith)))
  same-begin (act pick within) b k ms e = same_set b k active ms e
  same-begin (act (scope ns v) within) b k ms e =
      same-around k (begin_first within (k + 1) (set ms k active)) e (same_then (same_set b k active ms e) (same-begin-first within b (k + 1) (set ms k active) (omega arith)))
  same-begin (act (arm p o vs) within) b k ms e = same-itself b ms

  pub same-begin-turn : (l : Acts) (b c : ℕ) (ms : List ℕ) → b ≤ c → Same b ms (begin_in_turn l c ms).marks
  same-begin-turn none b c ms e = same-itself b ms
  same-begin-turn (more a l) b c ms e = same-in-turn (begin_in_turn l (c + size a)) (begin a c ms) (λ ns. same-begin-turn l b (c + size a) ns (omega arith)) (same-begin a b c ms e)

  same-begin-all : (l : Acts) (b c : ℕ) (ms : List ℕ) → b ≤ c → Same b ms (begin_all l c ms).marks
  same-begin-all none b c ms e = same-itself b ms
  same-begin-all (more a l) b c ms e = same_then (same-begin a b c ms e) (same-begin-all l b (c + size a) (begin a c ms).marks (omega arith))

  same-begin-first : (l : Acts) (b c : ℕ) (ms : List ℕ) → b ≤ c → Same b ms (begin_first l c ms).marks
  same-begin-first none b c ms e = same-itself b ms
  same-begin-first (more a l) b c ms e = same-begin a b c ms e

-- the end of the one with t in it
unfoldable pub end_with : Acts → (c t : ℕ) → ℕ
end_with none c t = c
end_with (more a l) c t = elim (ltb t (c + size a)) [ true ↦ c + size a | false ↦ end_with l (c + size a) t ]

-- what follows it begins behind it
pub same_after : (l : Acts) (c t : ℕ) (ms : List ℕ) → Same (end_with l c t) ms (begin_after l c t ms).marks
unfolding begin_after end_with
same_after none c t ms = same-itself c ms
same_after (more a l) c t ms = go (ltb t (c + size a)) (same_after l (c + size a) t ms)
  where
    go : (v : Bool) → Same (end_with l (c + size a) t) ms (begin_after l (c + size a) t ms).marks
        → Same (elim v [ true ↦ c + size a | false ↦ end_with l (c + size a) t ]) ms (elim v as (λ _. Begun) [ true ↦ begin_in_turn l (c + size a) ms | false ↦ begin_after l (c + size a) t ms ]).marks
    go true x = same-begin-turn l (c + size a) (c + size a) ms (omega arith)
    go false x = x

-- a part begins behind what stands before the parts
part-behind : (i : ℕ) (l : Acts) (c : ℕ) → c ≤ part_at i l c
unfolding part_at
part-behind i none c = omega arith
part-behind zero (more a l) c = omega arith
part-behind (suc i) (more a l) c = omega (arith, part-behind i l (c + size a))

pub same-part : (i : ℕ) (l : Acts) (b c : ℕ) (ms : List ℕ) → b ≤ c → Same b ms (begin_part i l c ms).marks
unfolding begin_part
same-part i l b c ms e = same-begin (part i l) b (part_at i l c) ms (omega (arith, part-behind i l c))

-- an undo part
mutual
  unfolding begin_undo size

  same-undo : (a : Act) (b k e : ℕ) (ms : List ℕ) → b ≤ k → Same b ms (begin_undo a k e ms).marks
  same-undo (act own within) b k e ms h =
      go (is_scope own) (has_undo own) (eqb k e) (same-undo-first within b (k + 1) e ms (omega arith)) (same-undo-in within b (k + 1) e ms (omega arith))
    where
      go : (x y z : Bool) → Same b ms (begin_undo_first within (k + 1) e ms).marks → Same b ms (begin_undo_in within (k + 1) e ms).marks
          → Same b ms (elim x as (λ _. Begun) [
            | true ↦ cond y (cond z (begin_part (undo_part (numbers_of own)) within (k + 1) ms) (nothing_begun ms)) (begin_undo_first within (k + 1) e ms)
            | false ↦ begin_undo_in within (k + 1) e ms
          ]).marks
      go true true true f g = same-part (undo_part (numbers_of own)) within b (k + 1) ms (omega arith)
      go true true false f g = same-itself b ms
      go true false z f g = f
      go false y z f g = g

  same-undo-first : (l : Acts) (b c e : ℕ) (ms : List ℕ) → b ≤ c → Same b ms (begin_undo_first l c e ms).marks
  same-undo-first none b c e ms h = same-itself b ms
  same-undo-first (more a l) b c e ms h = same-undo a b c e ms h

  same-undo-in : (l : Acts) (b c e : ℕ) (ms : List ℕ) → b ≤ c → Same b ms (begin_undo_in l c e ms).marks
  same-undo-in none b c e ms h = same-itself b ms
  same-undo-in (more a l) b c e ms h = go (ltb e (c + size a)) (same-undo a b c e ms h) (same-undo-in l b (c + size a) e ms (omega arith))
    where
      go : (v : Bool) → Same b ms (begin_undo a c e ms).marks → Same b ms (begin_undo_in l (c + size a) e ms).marks
          → Same b ms (elim v as (λ _. Begun) [ true ↦ begin_undo a c e ms | false ↦ begin_undo_in l (c + size a) e ms ]).marks
      go true x y = x
      go false x y = y

-- An order whose root is the same, and whose marks below b are.
pub record Low (b : ℕ) (o o' : Order) : Type 0 where
  pub root : o'.root ≡ o.root
  pub marks : Same b o.marks o'.marks

pub low-itself : (b : ℕ) (o : Order) → Low b o o
low-itself b o = record { root = refl; marks = same-itself b o.marks }

pub low-then : {b : ℕ} {o o' o'' : Order} → Low b o o' → Low b o' o'' → Low b o o''
low-then x y = record { root = y.root ∙ x.root; marks = same_then x.marks y.marks }

pub low-less : {b c : ℕ} {o o' : Order} → b ≤ c → Low c o o' → Low b o o'
low-less e x = record { root = x.root; marks = same-less e x.marks }

-- goes on where it is over
pub low-where : (b : ℕ) (o : Order) (g : Order → Outcome) (r : Outcome) → ((o₁ : Order) → Low b o₁ (g o₁).order) → Low b o r.order → Low b o (where_over g r).order
low-where b o g r f x = go r.result
  where
    go : (z : Result) → Low b o (where_over g (record { result = z; order = r.order; log = r.log })).order
    go running = x
    go over = low-then x (f r.order)
    go (raising y) = x
    go leaving = x
    go undone = x
    go (undo_raising y) = x

-- the undo parts of a scope start, behind where its body stands
pub low-undo : (l : List ℕ) (s : Scope) (o : Order) → Low s.body_at o (undo l s o).order
unfolding undo start_undo
low-undo [] s o = low-itself s.body_at o
low-undo (e ∷ l) s o =
    low-where s.body_at o (undo l s) (start_undo e s o) (λ o₁. low-undo l s o₁)
    (record { root = refl; marks = same-undo s.body s.body_at s.body_at e o.marks (omega arith) })

-- the rank of a mark that is set is at most that of the one it is set to
pub rank-set : (n k v : ℕ) (ms : List ℕ) → rank n (get_or (set ms k v) k 0) ≤ rank n v
unfolding rank
rank-set n k v ms =
    decide (ltb k (length ms))
    (λ e. subst (λ (x : ℕ). rank n x ≤ rank n v) (sym (get_or-set_same ms k v 0 (ltb-true k (length ms) e))) (omega arith))
    (λ e. subst (λ (x : ℕ). rank n x ≤ rank n v) (sym (get_or-eq_default (set ms k v) 0 {n = k} (omega (arith, ltb-false k (length ms) e, length-set ms k v)))) (omega arith))

-- the rank of a mark is that of the one of the nine that it is
rank-of : (n m s : ℕ) → state_in m ≡ s → s < 16 → rank n m ≡ rank n s
unfolding rank
rank-of n m s e h = rw (state-alone s h, ← e)

pub rank-above : (n m s x : ℕ) → eqb (state_in m) s ≡ true → s < 16 → x < rank n s → x < rank n m
rank-above n m s x e h g = omega (arith, rank-of n m s (eqb-true (state_in m) s e) h, g)

rank-with : (n c m : ℕ) → m < 16 → rank n (mark_with c m) ≡ rank n m
rank-with n c m h = rank-of n (mark_with c m) m (state-with c m h) h

-- A scope's own mark, and the marks below it: the root's is the root's mark, with none below.
abbrev RootOf : Name → Order → Order → Type 0
RootOf root o o' = Unit {0}
RootOf (inner k) o o' = o'.root ≡ o.root

pub record RootAs (n : Name) (o o' : Order) : Type 0 where
  pub same : RootOf n o o'

root-then : (n : Name) {o o' o'' : Order} → RootAs n o o' → RootAs n o' o'' → RootAs n o o''
root-then root x y = record { same = tt }
root-then (inner k) x y = record { same = y.same ∙ x.same }

-- what is remembered has no mark
mark-remembering : (n : Name) (l : List Closing) (o : Order) → mark_of n (remembering l o) ≡ mark_of n o
mark-remembering root l o = refl
mark-remembering (inner k) l o = refl

pub record Owns (s : Scope) (b : ℕ) : Type 0 where
  pub keeps : (o o' : Order) → Low s.body_at o o' → mark_of s.name o' ≡ mark_of s.name o
  pub heals : (c : ℕ) (o o' : Order) → Low (chosen_at c s) o o' → mark_of s.name o' ≡ mark_of s.name o
  pub puts : (m : ℕ) (o : Order) → rank 11 (mark_of s.name (marking s.name m o)) ≤ rank 11 m
  pub below : (m : ℕ) (o : Order) → Same b o.marks (marking s.name m o).marks
  pub rooted : (m : ℕ) (o : Order) → RootAs s.name o (marking s.name m o)
  pub low : (o o' : Order) → o'.root ≡ o.root → RootAs s.name o o'
  pub body : b ≤ s.body_at
  pub fault : (c : ℕ) → b ≤ chosen_at c s
  pub first : b ≤ s.first

-- its own mark has at most this rank, and below it nothing has changed
pub record Under (n : ℕ) (s : Scope) (b : ℕ) (o o' : Order) : Type 0 where
  pub rank : rank 11 (mark_of s.name o') ≤ n
  pub root : RootAs s.name o o'
  pub marks : Same b o.marks o'.marks

-- what a scope may make of something in it: nothing, or its rank falls
pub data Lowered (s : Scope) (b : ℕ) (o : Order) (r : Outcome) : Type 0 where
  stays : r.order ≡ o → Lowered s b o r
  lowers : {n : ℕ} → n < rank 11 (mark_of s.name o) → Under n s b o r.order → Lowered s b o r

module _ (s : Scope) (b : ℕ) (h : Owns s b) where
  under_more : {n m : ℕ} {o o' : Order} → n ≤ m → Under n s b o o' → Under m s b o o'
  under_more e x = record { rank = omega (arith, x.rank); root = x.root; marks = x.marks }

  under-then : {n m : ℕ} {o o' o'' : Order} → Under m s b o o' → Under n s b o' o'' → Under n s b o o''
  under-then x y = record { rank = y.rank; root = root-then s.name x.root y.root; marks = same_then x.marks y.marks }

  under-put : (m : ℕ) (o : Order) → Under (rank 11 m) s b o (marking s.name m o)
  under-put m o = record { rank = h.puts m o; root = h.rooted m o; marks = h.below m o }

  -- with a choice
  under-with : (c m : ℕ) (o : Order) → m < 16 → Under (rank 11 m) s b o (marking s.name (mark_with c m) o)
  under-with c m o e = under_more (omega (arith, rank-with 11 c m e)) (under-put (mark_with c m) o)

  -- then something behind where its body, or the fault part that it chose, stands
  under-body : {n : ℕ} {o o' o'' : Order} → Under n s b o o' → Low s.body_at o' o'' → Under n s b o o''
  under-body {n} {o} {o'} {o''} x y =
      record {
        rank = subst (λ (m : ℕ). rank 11 m ≤ n) (sym (h.keeps o' o'' y)) x.rank;
        root = root-then s.name x.root (h.low o' o'' y.root);
        marks = same_then x.marks (same-less h.body y.marks);
      }

  under-fault : {n : ℕ} {o o' o'' : Order} (c : ℕ) → Under n s b o o' → Low (chosen_at c s) o' o'' → Under n s b o o''
  under-fault {n} {o} {o'} {o''} c x y =
      record {
        rank = subst (λ (m : ℕ). rank 11 m ≤ n) (sym (h.heals c o' o'' y)) x.rank;
        root = root-then s.name x.root (h.low o' o'' y.root);
        marks = same_then x.marks (same-less (h.fault c) y.marks);
      }

  under-where : (n : ℕ) (o : Order) (g : Order → Outcome) (r : Outcome) → Under n s b o r.order → ((o₁ : Order) → Under n s b o₁ (g o₁).order) → Under n s b o (where_over g r).order
  under-where n o g r x f = go r.result
    where
      go : (z : Result) → Under n s b o (where_over g (record { result = z; order = r.order; log = r.log })).order
      go running = x
      go over = under-then x (f r.order)
      go (raising y) = x
      go leaving = x
      go undone = x
      go (undo_raising y) = x

  under-ends : (o : Order) → Under 0 s b o (ends s o).order
  unfolding rank
  under-ends o = under-put idle o

  under-handle : (o : Order) → Under 1 s b o (handle s o).order
  unfolding handle rank
  under-handle o =
      let o' = going s.name handling o in
      let c = choice_of s.name o in
      under-where 1 o (ends s) (begun_in o' (begin (chosen_part c s) (chosen_at c s) o'.marks))
      (under-fault c (under-with c handling o (omega arith)) (record { root = refl; marks = same-begin (chosen_part c s) (chosen_at c s) (chosen_at c s) o'.marks (omega arith) }))
      (λ o₁. under_more (omega arith) (under-ends o₁))

  under-undoes : (w : Bool) (o : Order) → Under 3 s b o (undoes w s o).order
  unfolding undoes rank
  under-undoes true o =
      let o' = going s.name undoing o in
      under-where 3 o (handle s) (undo (remembered_for s o') s o') (under-body (under-with (choice_of s.name o) undoing o (omega arith)) (low-undo (remembered_for s o') s o')) (λ o₁. under_more (omega arith) (under-handle o₁))
  under-undoes false o =
      let o' = marking s.name withdrawing o in
      under-where 3 o (ends s) (undo (remembered_for s o') s o') (under_more (omega arith) (under-body (under-put withdrawing o) (low-undo (remembered_for s o') s o'))) (λ o₁. under_more (omega arith) (under-ends o₁))

  -- where it waits for its inner scopes: it still does, or undoes
  turns-lowered : (w : Bool) (o : Order) → 3 < rank 11 (mark_of s.name o) → Lowered s b o (turns w s o)
  unfolding turns
  turns-lowered w o e = go (inner_runs s.body s.body_at o.marks)
    where
      go : (v : Bool) → Lowered s b o (elim v [ true ↦ runs o | false ↦ undoes w s o ])
      go true = stays refl
      go false = lowers e (under-undoes w o)

  under-turns : (n : ℕ) (w : Bool) (o o' : Order) → 3 ≤ n → Under n s b o o' → Under n s b o (turns w s o').order
  unfolding turns
  under-turns n w o o' e x = go (inner_runs s.body s.body_at o'.marks)
    where
      go : (v : Bool) → Under n s b o (elim v as (λ _. Outcome) [ true ↦ runs o' | false ↦ undoes w s o' ]).order
      go true = x
      go false = under-then x (under_more e (under-undoes w o'))

  pub again-lowered : (o : Order) → Lowered s b o (looks_again s o)
  unfolding looks_again rank
  again-lowered o =
      decide (eqb (state_of s.name o) faulty)
      (λ e. rw (e, looks_again) (turns-lowered true o (rank-above 11 (mark_of s.name o) faulty 3 e (omega arith) (omega arith))))
      (λ e. decide (eqb (mark_of s.name o) halted)
      (λ d. rw (e, looks_again, d) (turns-lowered false o (subst (λ (m : ℕ). 3 < rank 11 m) (sym (eqb-true (mark_of s.name o) halted d)) (omega arith))))
      (λ d. rw (e, looks_again, d) (stays refl)))

  pub over-lowered : (o : Order) → Lowered s b o (body_over s o)
  unfolding body_over rank
  over-lowered o =
      decide (eqb (mark_of s.name o) active)
      (λ e. rw (e, body_over) (lowers {n = 6} (subst (λ (m : ℕ). 6 < rank 11 m) (sym (eqb-true (mark_of s.name o) active e)) (omega arith)) (under-put done o)))
      (λ e. rw (e, body_over) (again-lowered o))

  pub breaks-lowered : (x : ℕ) (o : Order) → 0 < rank 11 (mark_of s.name o) → ((o₁ : Order) → rank 11 (mark_of s.name (with_marks (cleared s.first s.count o₁.marks) o₁)) ≤ rank 11 (mark_of s.name o₁))
      → Lowered s b o (breaks x s o)
  unfolding breaks forgetting rank
  breaks-lowered x o e f =
      let o' = forgetting s (marking s.name idle o) in
      lowers {n = 0} e
      (record {
        rank = omega (arith, f o', h.puts idle o, ap (rank 11) (mark-remembering s.name (only (λ e. not (is_for s e)) (closings (marking s.name idle o))) (marking s.name idle o)));
        root = root-then s.name (h.rooted idle o) (h.low (marking s.name idle o) (with_marks (cleared s.first s.count o'.marks) o') refl);
        marks = same_then (h.below idle o) (same-cleared s.count b s.first o'.marks h.first);
      })

-- the scope in activity k, and the root
chosen-behind : (ns : List ℕ) (k : ℕ) (within : Acts) (c : ℕ) → k + 1 ≤ chosen_at c (scope_at ns k within)
unfolding chosen_at
chosen-behind ns k within c = go (by_number c (scope_at ns k within))
  where
    go : (v : Bool) → k + 1 ≤ cond v (part_at (c - 1) (behind within) (part_at 1 within (k + 1))) (part_at (general_part ns) within (k + 1))
    go true = omega (arith, part-behind (c - 1) (behind within) (part_at 1 within (k + 1)), part-behind 1 within (k + 1))
    go false = part-behind (general_part ns) within (k + 1)

pub own_at : (ns : List ℕ) (k : ℕ) (within : Acts) → Owns (scope_at ns k within) k
unfolding rank
own_at ns k within =
    record {
      keeps = λ o o' x. x.marks.at k (omega (arith, part-behind 0 within (k + 1)));
      heals = λ c o o' x. x.marks.at k (omega (arith, chosen-behind ns k within c));
      puts = λ m o. rank-set 11 k m o.marks;
      below = λ m o. same_set k k m o.marks (omega arith);
      rooted = λ m o. record { same = refl };
      low = λ o o' e. record { same = e };
      body = omega (arith, part-behind 0 within (k + 1));
      fault = λ c. omega (arith, chosen-behind ns k within c);
      first = omega arith;
    }

pub own_root : (p : Plan) → Owns (root_of p) 0
own_root p =
    record {
      keeps = λ o o' x. x.root;
      heals = λ c o o' x. x.root;
      puts = λ m o. omega arith;
      below = λ m o. same-itself 0 o.marks;
      rooted = λ m o. record { same = tt };
      low = λ o o' e. record { same = tt };
      body = omega arith;
      fault = λ c. omega arith;
      first = omega arith;
    }

low-withdraws : (ns : List ℕ) (within : Acts) (b k : ℕ) (r : Stopped) → b ≤ k → Low b r.order (withdraws k (scope_at ns k within) r).order
unfolding withdraws turns
low-withdraws ns within b k r e = go (inner_runs (scope_at ns k within).body (scope_at ns k within).body_at r.order.marks)
  where
    go : (v : Bool) → Low b r.order (elim v as (λ _. Outcome) [ true ↦ runs r.order | false ↦ undoes false (scope_at ns k within) r.order ]).order
    go true = low-itself b r.order
    go false = let x = under-undoes (scope_at ns k within) k (own_at ns k within) false r.order in record { root = x.root.same; marks = same-less e x.marks }

-- What stops.
mutual
  unfolding stop size

  pub low-stop : (a : Act) (b k : ℕ) (o : Order) → b ≤ k → Low b o (stop a k o).order
  low-stop (act own within) b k o e =
      go (is_scope own) (is_open (mark_at k o)) (low-stop-first within b (k + 1) (marked k halted o) (omega arith)) (low-stop-all within b (k + 1) (marked k idle o) (omega arith))
    where
      go : (v w : Bool) → Low b (marked k halted o) (stop_first within (k + 1) (marked k halted o)).order → Low b (marked k idle o) (stop_all within (k + 1) (marked k idle o)).order
          → Low b o (elim v as (λ _. Stopped) [
            | true ↦ elim w as (λ _. Stopped) [ true ↦ withdraws k (scope_at (numbers_of own) k within) (stop_first within (k + 1) (marked k halted o)) | false ↦ untouched o ]
            | false ↦ stop_all within (k + 1) (marked k idle o)
          ]).order
      go true true x y =
          low-then (record { root = refl; marks = same_set b k halted o.marks e })
          (low-then x (low-withdraws (numbers_of own) within b k (stop_first within (k + 1) (marked k halted o)) e))
      go true false x y = low-itself b o
      go false w x y = low-then (record { root = refl; marks = same_set b k idle o.marks e }) y

  low-stop-all : (l : Acts) (b c : ℕ) (o : Order) → b ≤ c → Low b o (stop_all l c o).order
  low-stop-all none b c o e = low-itself b o
  low-stop-all (more a l) b c o e = low-then (low-stop a b c o e) (low-stop-all l b (c + size a) (stop a c o).order (omega arith))

  low-stop-first : (l : Acts) (b c : ℕ) (o : Order) → b ≤ c → Low b o (stop_first l c o).order
  low-stop-first none b c o e = low-itself b o
  low-stop-first (more a l) b c o e = low-stop a b c o e

-- the number of a fault is no mark
low-causing : (n : Name) (x b : ℕ) (o : Order) → Low b o (causing n x o)
low-causing root x b o = record { root = refl; marks = same-itself b o.marks }
low-causing (inner k) x b o = low-itself b o

-- A scope faults: its rank falls.
pub faults-under : (x : ℕ) (s : Scope) (b : ℕ) → Owns s b → (o : Order) → Under 5 s b o (faults x s o).order
unfolding faults rank
faults-under x s b h o =
    let o' = marking s.name (mark_with (choice_for x s) faulty) o in
    let o'' = causing s.name x o' in
    under-turns s b h 5 true o (stop s.body s.body_at o'').order (omega arith)
    (under-body s b h (under-body s b h (under-with s b h (choice_for x s) faulty o (omega arith)) (low-causing s.name x s.body_at o')) (low-stop s.body s.body_at s.body_at o'' (omega arith)))

pub raised-lowered : (x : ℕ) (s : Scope) (b : ℕ) → Owns s b → (o : Order) → Lowered s b o (body_raised x s o)
unfolding body_raised rank
raised-lowered x s b h o =
    decide (eqb (mark_of s.name o) active)
    (λ e. rw (e, body_raised) (lowers {n = 5} (subst (λ (m : ℕ). 5 < rank 11 m) (sym (eqb-true (mark_of s.name o) active e)) (omega arith)) (faults-under x s b h o)))
    (λ e. decide (eqb (mark_of s.name o) done)
    (λ d. rw (e, body_raised, d) (lowers {n = 5} (subst (λ (m : ℕ). 5 < rank 11 m) (sym (eqb-true (mark_of s.name o) done d)) (omega arith)) (faults-under x s b h o)))
    (λ d. rw (e, body_raised, d) (again-lowered s b h o)))
