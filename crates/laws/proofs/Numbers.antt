-- What a fault that comes out of a step has for its number: one that a fault may have. Assumes nothing.
use mathlib.Core.Path.{◌≡◌, refl, sym, ◌∙◌}
use mathlib.Core.Bool.{Bool, true, false, cond, ◌||◌, false≢true}
use mathlib.Core.List.{List, [], ◌∷◌, ◌++◌}
use Prim.Native.Nat.{ℕ, ◌+◌, ◌-◌}
use lib.Dec.{eqb, ltb, leb}
use Rattle.plan.specs.Tree.{Operation, sum, difference, equal, less, Exp, constant, variable, binary, held_by, Own, empty, send, receive, set as setting, raise, leave, choose, repeat, sequence, flow, pick, scope, arm, kind, is_scope, undo_part, Act, act, Acts, none, more, Plan, size, sizes}
use Rattle.order.specs.declared.Order.{Order}
use Rattle.order.specs.declared.Way.{Way}
use Rattle.order.specs.declared.Way.TheVariants.{Running as running, Over as over, Raising as raising, Leaving as leaving, Undone as undone, UndoRaising as undo_raising}
use Rattle.order.specs.Expression.{is_fault_number, unbound_variable, no_such_partner, sum_too_large, below_zero, conflicting_receive, Value, fault, value, truth, applied, both, evaluate, is_true}
use Rattle.order.specs.State.{active, inside, done, faulty, undoing, handling, halted, withdrawing, with_marks, is_bound, value_of, closings, remembering, mark_at, marked, mark_of, marking, state_of, choice_of, going, mark_with, causing}
use Rattle.order.specs.Lists.{without_last}
use Rattle.order.specs.Begin.{Begun, begin, begin_after, begin_part, part_at, cleared, quiet}
use Rattle.order.specs.Scope.{Outcome, Scope, runs, after, begun_in, where_over, scope_at, choice_for, chosen_part, chosen_at, is_for, is_open, closing, inner_runs, remembered_for, begin_undo, start_undo, undo, stop, ends, handle, undoes, turns, faults, breaks, looks_again, body_over, body_raised, undo_over, undo_raised, from_body, part_over, part_raised, from_fault, goes_through, from_undo}
use Rattle.order.specs.Acting.{finishes, raises, or_raises, enters, again, repeats, all_bound, reaches, itself, arms, goes_on, joins, in_scope, combines, Actor, replaces, performs, step_in, step_among}
use Rattle.laws.proofs.Limited.{Limited, LimitedAll, limited-within, limited-first, limited-rest, limited-raise}

-- what a scope does of itself runs on or is over
abbrev pub is_calm : Way → Bool
is_calm running = true
is_calm over = true
is_calm (raising n) = false
is_calm leaving = false
is_calm undone = false
is_calm (undo_raising n) = false

abbrev pub Calm : Outcome → Type 0
Calm r = is_calm r.result ≡ true

pub calm-where : (g : Order → Outcome) (r : Outcome) → Calm r → ((q : Order) → Calm (g q)) → Calm (where_over g r)
calm-where g r x f = go r.result x
  where
    go : (w : Way) → is_calm w ≡ true → Calm (where_over g (record { result = w; order = r.order; log = r.log }))
    go running x = x
    go over x = f r.order
    go (raising n) x = x
    go leaving x = x
    go undone x = x
    go (undo_raising n) x = x

calm-pick : (t : Bool) (x y : Outcome) → Calm x → Calm y → Calm (elim t [ true ↦ x | false ↦ y ])
calm-pick true x y f g = f
calm-pick false x y f g = g

calm-begun : (o : Order) (b : Begun) → Calm (begun_in o b)
calm-begun o b = go b.over
  where
    go : (v : Bool) → is_calm (cond v over running) ≡ true
    go true = refl
    go false = refl

calm-undo : (l : List ℕ) (s : Scope) (o : Order) → Calm (undo l s o)
unfolding undo start_undo
calm-undo [] s o = refl
calm-undo (e ∷ l) s o =
    let o' = remembering (without_last (is_for s) (closings o)) o in
    calm-where (undo l s) (start_undo e s o) (calm-begun o' (begin_undo s.body s.body_at e o'.marks)) (λ q. calm-undo l s q)

calm-handle : (s : Scope) (o : Order) → Calm (handle s o)
unfolding handle
calm-handle s o =
    let o' = going s.name handling o in
    let c = choice_of s.name o in
    let b = begin (chosen_part c s) (chosen_at c s) o'.marks in
    calm-where (ends s) (begun_in o' b) (calm-begun o' b) (λ q. refl)

calm-undoes : (w : Bool) (s : Scope) (o : Order) → Calm (undoes w s o)
unfolding undoes
calm-undoes true s o =
    let o' = going s.name undoing o in
    calm-where (handle s) (undo (remembered_for s o') s o') (calm-undo (remembered_for s o') s o') (λ q. calm-handle s q)
calm-undoes false s o =
    let o' = marking s.name withdrawing o in
    calm-where (ends s) (undo (remembered_for s o') s o') (calm-undo (remembered_for s o') s o') (λ q. refl)

pub calm_turns : (w : Bool) (s : Scope) (o : Order) → Calm (turns w s o)
unfolding turns
calm_turns w s o = calm-pick (inner_runs s.body s.body_at o.marks) (runs o) (undoes w s o) refl (calm-undoes w s o)

pub calm-looks : (s : Scope) (o : Order) → Calm (looks_again s o)
unfolding looks_again
calm-looks s o =
    calm-pick (eqb (state_of s.name o) faulty) (turns true s o) (elim (eqb (mark_of s.name o) halted) [ true ↦ turns false s o | false ↦ runs o ])
    (calm_turns true s o) (calm-pick (eqb (mark_of s.name o) halted) (turns false s o) (runs o) (calm_turns false s o) refl)

pub calm-body-over : (s : Scope) (o : Order) → Calm (body_over s o)
unfolding body_over
calm-body-over s o = calm-pick (eqb (mark_of s.name o) active) (runs (marking s.name done o)) (looks_again s o) refl (calm-looks s o)

pub calm-body-raised : (x : ℕ) (s : Scope) (o : Order) → Calm (body_raised x s o)
unfolding body_raised faults
calm-body-raised x s o =
    calm-pick (is_open (mark_of s.name o)) (faults x s o) (looks_again s o)
    (calm_turns true s (stop s.body s.body_at (causing s.name x (marking s.name (mark_with (choice_for x s) faulty) o))).order) (calm-looks s o)

calm-undo-over : (s : Scope) (o : Order) → Calm (undo_over s o)
unfolding undo_over
calm-undo-over s o =
    calm-pick (eqb (state_of s.name o) undoing) (undoes true s o) (elim (eqb (mark_of s.name o) withdrawing) [ true ↦ undoes false s o | false ↦ runs o ])
    (calm-undoes true s o) (calm-pick (eqb (mark_of s.name o) withdrawing) (undoes false s o) (runs o) (calm-undoes false s o) refl)

calm-part-over : (s : Scope) (o : Order) → Calm (part_over s o)
unfolding part_over
calm-part-over s o = calm-pick (eqb (state_of s.name o) handling) (ends s o) (runs o) refl refl

-- a fault that comes out has a number that a fault may have
abbrev pub has_number : Way → Bool
has_number running = true
has_number over = true
has_number (raising n) = is_fault_number n
has_number leaving = true
has_number undone = true
has_number (undo_raising n) = is_fault_number n

abbrev pub Numbered : Outcome → Type 0
Numbered r = has_number r.result ≡ true

calm-number : (r : Outcome) → Calm r → Numbered r
calm-number r x = go r.result x
  where
    go : (w : Way) → is_calm w ≡ true → has_number w ≡ true
    go running x = refl
    go over x = refl
    go (raising n) x = absurd (false≢true x)
    go leaving x = refl
    go undone x = refl
    go (undo_raising n) x = absurd (false≢true x)

number-where : (g : Order → Outcome) (r : Outcome) → Numbered r → ((q : Order) → Numbered (g q)) → Numbered (where_over g r)
number-where g r x f = go r.result x
  where
    go : (w : Way) → has_number w ≡ true → Numbered (where_over g (record { result = w; order = r.order; log = r.log }))
    go running x = x
    go over x = f r.order
    go (raising n) x = x
    go leaving x = x
    go undone x = x
    go (undo_raising n) x = x

number-pick : (t : Bool) (x y : Outcome) → Numbered x → Numbered y → Numbered (elim t [ true ↦ x | false ↦ y ])
number-pick true x y f g = f
number-pick false x y f g = g

number-cond : (t : Bool) (x y : Outcome) → Numbered x → Numbered y → Numbered (cond t x y)
number-cond true x y f g = f
number-cond false x y f g = g

-- what an expression comes to
abbrev worth_number : Value → Bool
worth_number (fault n) = is_fault_number n
worth_number (value n) = true

number-applied : (op : Operation) (x y : ℕ) → worth_number (applied op x y) ≡ true
unfolding applied is_fault_number
number-applied sum x y = go (leb (x + y) 4294967295)
  where
    go : (b : Bool) → worth_number (cond b (value (x + y)) (fault sum_too_large)) ≡ true
    go true = refl
    go false = refl
number-applied difference x y = go (leb y x)
  where
    go : (b : Bool) → worth_number (cond b (value (x - y)) (fault below_zero)) ≡ true
    go true = refl
    go false = refl
number-applied equal x y = refl
number-applied less x y = refl

number-both : (op : Operation) (l r : Value) → worth_number l ≡ true → worth_number r ≡ true → worth_number (both op l r) ≡ true
number-both op (fault n) r x y = x
number-both op (value m) (fault n) x y = y
number-both op (value m) (value n) x y = number-applied op m n

number-evaluate : (e : Exp) (o : Order) → worth_number (evaluate e o) ≡ true
unfolding evaluate is_fault_number
number-evaluate (constant n) o = refl
number-evaluate (variable v) o = go (is_bound o v)
  where
    go : (b : Bool) → worth_number (cond b (value (value_of o v)) (fault unbound_variable)) ≡ true
    go true = refl
    go false = refl
number-evaluate (binary op l r) o = number-both op (evaluate l o) (evaluate r o) (number-evaluate l o) (number-evaluate r o)

number-or : (k : ℕ) (o : Order) (g : ℕ → Outcome) (v : Value) → worth_number v ≡ true → ((n : ℕ) → Numbered (g n)) → Numbered (or_raises k o g v)
number-or k o g (fault n) x f = x
number-or k o g (value n) x f = f n

-- the step that an activity has by itself
calm-enters : (k : ℕ) (o : Order) (b : Begun) → Calm (enters k o b)
calm-enters k o b = calm-where (finishes k) (begun_in (marked k inside o) b) (calm-begun (marked k inside o) b) (λ q. refl)

calm-repeats : (k : ℕ) (l : Acts) (o : Order) → Calm (repeats k l o)
unfolding repeats
calm-repeats k l o =
    let o' = marked k inside (with_marks (cleared (k + 1) (sizes l) o.marks) o) in
    let b = begin_part 0 l (k + 1) o'.marks in
    calm-where (again k) (begun_in o' b) (calm-begun o' b) (λ q. refl)

number-itself : (own : Own) (l : Acts) (c k : ℕ) (o : Order) → Limited (act own l) → Numbered (itself own l c k o)
unfolding itself closing is_fault_number
number-itself empty l c k o w = refl
number-itself (send to q vs) l c k o w =
    number-cond (all_bound o (held_by to ++ vs)) (cond (reaches o to) (finishes k o) (raises no_such_partner k o)) (raises unbound_variable k o)
    (number-cond (reaches o to) (finishes k o) (raises no_such_partner k o) refl refl) refl
number-itself (receive p q vs) l c k o w = refl
number-itself (setting v e) l c k o w = number-or k o _ (evaluate e o) (number-evaluate e o) (λ n. refl)
number-itself (raise n) l c k o w = limited-raise n l w
number-itself leave l c k o w = refl
number-itself (choose e) l c k o w =
    number-or k o (λ n. enters k o (begin_part (cond (is_true n) 0 1) l (k + 1) (marked k inside o).marks)) (evaluate e o) (number-evaluate e o)
    (λ n. let b = begin_part (cond (is_true n) 0 1) l (k + 1) (marked k inside o).marks in calm-number (enters k o b) (calm-enters k o b))
number-itself (repeat e) l c k o w =
    number-or k o (λ n. elim (is_true n) [ true ↦ repeats k l o | false ↦ finishes k o ]) (evaluate e o) (number-evaluate e o)
    (λ n. number-pick (is_true n) (repeats k l o) (finishes k o) (calm-number (repeats k l o) (calm-repeats k l o)) refl)
number-itself sequence l c k o w = refl
number-itself flow l c k o w = refl
number-itself pick l c k o w = refl
number-itself (scope ns u) l c k o w = refl
number-itself (arm p q vs) l c k o w = calm-number (begun_in o (begin_part 0 l (k + 1) o.marks)) (calm-begun o (begin_part 0 l (k + 1) o.marks))

number-performs : (y : Actor) (own : Own) (l : Acts) (c k : ℕ) (o : Order) → Limited (act own l) → Numbered (performs y own l c k o)
unfolding performs is_fault_number
number-performs y own l c k o w = number-pick (replaces y (kind own)) (raises conflicting_receive k o) (itself own l c k o) refl (number-itself own l c k o w)

-- what a scope makes of what comes out of a part of it: a fault that goes on keeps its number
number-undo-raised : (x : ℕ) (s : Scope) (o : Order) → is_fault_number x ≡ true → Numbered (undo_raised x s o)
unfolding undo_raised breaks
number-undo-raised x s o h = number-pick (eqb (state_of s.name o) undoing || eqb (mark_of s.name o) withdrawing) (breaks x s o) (runs o) h refl

number-part-raised : (x : ℕ) (s : Scope) (o : Order) → is_fault_number x ≡ true → Numbered (part_raised x s o)
unfolding part_raised breaks
number-part-raised x s o h = number-pick (eqb (state_of s.name o) handling) (breaks x s o) (runs o) h refl

number-from-body : (s : Scope) (r : Outcome) → Numbered r → Numbered (from_body s r)
unfolding from_body
number-from-body s r x = go r.result x
  where
    go : (w : Way) → has_number w ≡ true → Numbered (from_body s (record { result = w; order = r.order; log = r.log }))
    go running x = calm-number (looks_again s r.order) (calm-looks s r.order)
    go over x = calm-number (body_over s r.order) (calm-body-over s r.order)
    go (raising n) x = calm-number (body_raised n s r.order) (calm-body-raised n s r.order)
    go leaving x = x
    go undone x = calm-number (undo_over s r.order) (calm-undo-over s r.order)
    go (undo_raising n) x = number-undo-raised n s r.order x

number-from-fault : (s : Scope) (r : Outcome) → Numbered r → Numbered (from_fault s r)
unfolding from_fault
number-from-fault s r x = go r.result x
  where
    go : (w : Way) → has_number w ≡ true → Numbered (from_fault s (record { result = w; order = r.order; log = r.log }))
    go running x = x
    go over x = calm-number (part_over s r.order) (calm-part-over s r.order)
    go (raising n) x = number-part-raised n s r.order x
    go leaving x = x
    go undone x = refl
    go (undo_raising n) x = refl

number-from-undo : (r : Outcome) → Numbered r → Numbered (from_undo r)
unfolding from_undo
number-from-undo r x = go r.result x
  where
    go : (w : Way) → has_number w ≡ true → Numbered (from_undo (record { result = w; order = r.order; log = r.log }))
    go running x = x
    go over x = refl
    go (raising n) x = x
    go leaving x = x
    go undone x = x
    go (undo_raising n) x = x

number-in-scope : (ns : List ℕ) (u : Bool) (k t : ℕ) (l : Acts) (r : Outcome) → Numbered r → Numbered (in_scope ns u k t l r)
unfolding in_scope
number-in-scope ns u k t l r x =
    number-pick (ltb t (part_at 1 l (k + 1))) (elim (goes_through u k r) [ true ↦ r | false ↦ from_body (scope_at ns k l) r ])
    (elim (ltb t (part_at (undo_part ns) l (k + 1))) [ true ↦ from_fault (scope_at ns k l) r | false ↦ from_undo r ])
    (number-pick (goes_through u k r) r (from_body (scope_at ns k l) r) x (number-from-body (scope_at ns k l) r x))
    (number-pick (ltb t (part_at (undo_part ns) l (k + 1))) (from_fault (scope_at ns k l) r) (from_undo r) (number-from-fault (scope_at ns k l) r x) (number-from-undo r x))

-- what stands around it
number-goes : (k m : ℕ) (g : Order → Outcome) (r : Outcome) → Numbered r → ((q : Order) → Calm (g q)) → Numbered (goes_on k m g r)
unfolding goes_on
number-goes k m g r x f =
    number-where (λ o. elim (eqb (mark_at k o) m) [ true ↦ g o | false ↦ runs o ]) r x
    (λ q. number-pick (eqb (mark_at k q) m) (g q) (runs q) (calm-number (g q) (f q)) refl)

calm-joins : (k : ℕ) (l : Acts) (o : Order) → Calm (joins k l o)
unfolding joins
calm-joins k l o = calm-pick (quiet (k + 1) (sizes l) o.marks) (finishes k o) (runs o) refl refl

number-combines : (own : Own) (l : Acts) (k t : ℕ) (r : Outcome) → Numbered r → Numbered (combines own l k t r)
unfolding combines
number-combines empty l k t r x = x
number-combines (send p q vs) l k t r x = x
number-combines (receive p q vs) l k t r x = x
number-combines (setting v e) l k t r x = x
number-combines (raise number) l k t r x = x
number-combines leave l k t r x = x
number-combines (choose e) l k t r x = number-goes k inside (finishes k) r x (λ q. refl)
number-combines (repeat e) l k t r x = number-goes k inside (again k) r x (λ q. refl)
number-combines sequence l k t r x =
    number-goes k active (λ o. where_over (finishes k) (begun_in o (begin_after l (k + 1) t o.marks))) r x
    (λ q. calm-where (finishes k) (begun_in q (begin_after l (k + 1) t q.marks)) (calm-begun q (begin_after l (k + 1) t q.marks)) (λ o. refl))
number-combines flow l k t r x = number-goes k active (joins k l) r x (λ q. calm-joins k l q)
number-combines pick l k t r x = number-goes k inside (finishes k) r x (λ q. refl)
number-combines (scope ns u) l k t r x = number-in-scope ns u k t l r x
number-combines (arm p q vs) l k t r x = x

-- step t in an activity
mutual
  unfolding step_in size

  pub number_step : (y : Actor) (a : Act) (c k t : ℕ) (o : Order) → Limited a → Numbered (step_in y a c k t o)
  number_step y (act own l) c k t o w =
      number-pick (eqb k t) (performs y own l c k o) (combines own l k t (step_among y l (is_scope own) c (k + 1) t (arms own l k t o))) (number-performs y own l c k o w)
      (number-combines own l k t (step_among y l (is_scope own) c (k + 1) t (arms own l k t o))
      (number-among y l (is_scope own) c (k + 1) t (arms own l k t o) (limited-within own l w)))

  pub number-among : (y : Actor) (l : Acts) (b : Bool) (q c t : ℕ) (o : Order) → LimitedAll l → Numbered (step_among y l b q c t o)
  number-among y none b q c t o w = refl
  number-among y (more a l) b q c t o w =
      number-pick (ltb t (c + size a)) (step_in y a (cond b c q) c t o) (step_among y l b q (c + size a) t o) (number_step y a (cond b c q) c t o (limited-first a l w))
      (number-among y l b q (c + size a) t o (limited-rest a l w))
