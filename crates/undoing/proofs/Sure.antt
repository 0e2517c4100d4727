-- The sure steps of a tree that are still to come, by its marks: none where it is quiet, all where it begins. Assumes nothing.
use Prim.Native.Nat.{ℕ, zero, suc, ◌+◌, ◌≤◌, ◌<◌}
use native.Mathlib.Omega.{arith}
use mathlib.Core.Path.{◌≡◌, refl, sym, subst, ◌∙◌}
use mathlib.Core.Bool.{Bool, true, false, cond, not, false≢true}
use mathlib.Core.List.{List, [], ◌∷◌, ◌++◌}
use lib.ListN.{length, get_or, set, length-set}
use lib.Seq.{get_or-set_same}
use lib.Dec.{eqb, ltb}
use borrow.Author.Tests.{ne_eqb}
use Rattle.plan.specs.Tree.{Own, empty, send, receive, set as setting, raise, leave, choose, repeat, sequence, flow, pick, scope, arm, Act, act, Acts, none, more, Plan, size, sizes}
use Rattle.order.specs.declared.Order.{Order}
use Rattle.order.specs.Lists.{some, only}
use Rattle.order.specs.State.{active, with_marks, marked}
use Rattle.order.specs.Event.{Event}
use Rattle.order.specs.Begin.{Begun, awaiting, throughout, its_beginning, in_turn, side_by_side, begin, begin_in_turn, begin_all, begin_after, quiet}
use Rattle.undoing.specs.Ties.{Place}
use Rattle.undoing.specs.Answered.{is_sure, has_all, surely, surely_among, without}
use Rattle.undoing.proofs.Parts.{both, decide, only-append, some-append}
use Rattle.undoing.proofs.Marks.{trio, run-loud, Agree, Quiet, Kept, agree-part, quiet-part, quiet-agree, agree-below, agree-above}
use Rattle.undoing.proofs.Orders.{Fit, fit-kept, fit-marked, before_of, Sits, sits-part, sits-scope, SitsIn, sits-none, sits-more, Remedy, remedy}
use Rattle.undoing.proofs.Beginning.{quiet-set, begins, begins-in-turn, begins-all}
use Rattle.undoing.proofs.Goings.{begins-after}
use Rattle.undoing.proofs.Combining.{quiet_told, quiet-found}

-- by what an activity is: one that is sure to have its step, a sequence, a flow, or another
abbrev pub of_kind : Own → (itself in_turn all : List ℕ) → List ℕ
of_kind empty x y z = []
of_kind (send p op vs) x y z = x
of_kind (receive p op vs) x y z = x
of_kind (setting v e) x y z = x
of_kind (raise number) x y z = x
of_kind leave x y z = x
of_kind (choose e) x y z = x
of_kind (repeat e) x y z = []
of_kind sequence x y z = y
of_kind flow x y z = z
of_kind pick x y z = []
of_kind (scope xs u) x y z = []
of_kind (arm p op vs) x y z = []

-- the sure steps of activity k that are still to come
unfoldable mutual
  pub left_in : Act → (k : ℕ) → (marks : List ℕ) → List ℕ
  left_in (act own within) k ms = of_kind own (cond (eqb (get_or ms k 0) active) (k ∷ []) []) (left_in_turn within (k + 1) ms) (left_of_all within (k + 1) ms)

  -- in a sequence those of the one that runs, and all of those after it
  pub left_in_turn : Acts → (c : ℕ) → (marks : List ℕ) → List ℕ
  left_in_turn none c ms = []
  left_in_turn (more a l) c ms =
      cond (quiet c (size a) ms) (left_in_turn l (c + size a) ms) (left_in a c ms ++ surely_among l (c + size a))

  pub left_of_all : Acts → (c : ℕ) → (marks : List ℕ) → List ℕ
  left_of_all none c ms = []
  left_of_all (more a l) c ms = left_in a c ms ++ left_of_all l (c + size a) ms

-- the sure steps of an activity, in the same form
pub surely-is : (own : Own) (within : Acts) (k : ℕ) → surely (act own within) k ≡ of_kind own (k ∷ []) (surely_among within (k + 1)) (surely_among within (k + 1))
unfolding surely is_sure has_all
surely-is empty within k = refl
surely-is (send p op vs) within k = refl
surely-is (receive p op vs) within k = refl
surely-is (setting v e) within k = refl
surely-is (raise zero) within k = refl
surely-is (raise (suc number)) within k = refl
surely-is leave within k = refl
surely-is (choose e) within k = refl
surely-is (repeat e) within k = refl
surely-is sequence within k = refl
surely-is flow within k = refl
surely-is pick within k = refl
surely-is (scope xs u) within k = refl
surely-is (arm p op vs) within k = refl

-- what gives nothing gives nothing
kind-none : (own : Own) → of_kind own [] [] [] ≡ []
kind-none empty = refl
kind-none (send p op vs) = refl
kind-none (receive p op vs) = refl
kind-none (setting v e) = refl
kind-none (raise zero) = refl
kind-none (raise (suc number)) = refl
kind-none leave = refl
kind-none (choose e) = refl
kind-none (repeat e) = refl
kind-none sequence = refl
kind-none flow = refl
kind-none pick = refl
kind-none (scope xs u) = refl
kind-none (arm p op vs) = refl

kind-without : (t : ℕ) (own : Own) (x y z : List ℕ) → without t x ≡ x → without t y ≡ y → without t z ≡ z → without t (of_kind own x y z) ≡ of_kind own x y z
unfolding only
kind-without t empty x y z e f g = refl
kind-without t (send p op vs) x y z e f g = e
kind-without t (receive p op vs) x y z e f g = e
kind-without t (setting v u) x y z e f g = e
kind-without t (raise number) x y z e f g = e
kind-without t leave x y z e f g = e
kind-without t (choose u) x y z e f g = e
kind-without t (repeat u) x y z e f g = refl
kind-without t sequence x y z e f g = f
kind-without t flow x y z e f g = g
kind-without t pick x y z e f g = refl
kind-without t (scope xs u) x y z e f g = refl
kind-without t (arm p op vs) x y z e f g = refl

kind-some : (t : ℕ) (own : Own) (x y z : List ℕ) → some (eqb t) x ≡ false → some (eqb t) y ≡ false → some (eqb t) z ≡ false → some (eqb t) (of_kind own x y z) ≡ false
unfolding some
kind-some t empty x y z e f g = refl
kind-some t (send p op vs) x y z e f g = e
kind-some t (receive p op vs) x y z e f g = e
kind-some t (setting v u) x y z e f g = e
kind-some t (raise number) x y z e f g = e
kind-some t leave x y z e f g = e
kind-some t (choose u) x y z e f g = e
kind-some t (repeat u) x y z e f g = refl
kind-some t sequence x y z e f g = f
kind-some t flow x y z e f g = g
kind-some t pick x y z e f g = refl
kind-some t (scope xs u) x y z e f g = refl
kind-some t (arm p op vs) x y z e f g = refl

-- t is none of n numbers from k on
pub record Off (t k n : ℕ) : Type 0 where
  pub at : (i : ℕ) → k ≤ i → i < k + n → eqb t i ≡ false

pub off_part : {t k n j m : ℕ} → Off t k n → k ≤ j → j + m ≤ k + n → Off t j m
off_part f h e = record { at = λ i x y. f.at i (omega arith) (omega arith) }

pub off-below : (t k n : ℕ) → t < k → Off t k n
off-below t k n h = record { at = λ i x y. ne_eqb t i (omega arith) }

pub off-above : (t k n : ℕ) → k + n ≤ t → Off t k n
off-above t k n h = record { at = λ i x y. ne_eqb t i (omega arith) }

without-append : (t : ℕ) (x y : List ℕ) → without t x ≡ x → without t y ≡ y → without t (x ++ y) ≡ x ++ y
without-append t x y e f = only-append (λ i. not (eqb t i)) x y ∙ rw (e, f)

either-without : (t : ℕ) (b : Bool) (x y : List ℕ) → without t x ≡ x → without t y ≡ y → without t (cond b x y) ≡ cond b x y
either-without t true x y e f = e
either-without t false x y e f = f

neither-some : (t : ℕ) (x y : List ℕ) → some (eqb t) x ≡ false → some (eqb t) y ≡ false → some (eqb t) (x ++ y) ≡ false
neither-some t x y e f = some-append (eqb t) x y ∙ rw (e, f)

-- a number that is none of a tree's is none of its sure steps
mutual
  unfolding surely size only

  pub surely-off : (a : Act) (k t : ℕ) → Off t k (size a) → without t (surely a k) ≡ surely a k
  surely-off (act own within) k t f =
      subst (λ (l : List ℕ). without t l ≡ l) (sym (surely-is own within k))
      (kind-without t own _ _ _ (rw (f.at k (omega arith) (omega arith))) (surely-off-in within (k + 1) t (off_part f (omega arith) (omega arith))) (surely-off-in within (k + 1) t (off_part f (omega arith) (omega arith))))

  pub surely-off-in : (l : Acts) (c t : ℕ) → Off t c (sizes l) → without t (surely_among l c) ≡ surely_among l c
  surely-off-in none c t f = refl
  surely-off-in (more a l) c t f =
      without-append t (surely a c) (surely_among l (c + size a)) (surely-off a c t (off_part f (omega arith) (omega arith))) (surely-off-in l (c + size a) t (off_part f (omega arith) (omega arith)))

mutual
  unfolding surely size some

  pub surely-none : (a : Act) (k t : ℕ) → Off t k (size a) → some (eqb t) (surely a k) ≡ false
  surely-none (act own within) k t f =
      subst (λ (l : List ℕ). some (eqb t) l ≡ false) (sym (surely-is own within k))
      (kind-some t own _ _ _ (rw (f.at k (omega arith) (omega arith))) (surely-none-in within (k + 1) t (off_part f (omega arith) (omega arith))) (surely-none-in within (k + 1) t (off_part f (omega arith) (omega arith))))

  pub surely-none-in : (l : Acts) (c t : ℕ) → Off t c (sizes l) → some (eqb t) (surely_among l c) ≡ false
  surely-none-in none c t f = refl
  surely-none-in (more a l) c t f =
      neither-some t (surely a c) (surely_among l (c + size a)) (surely-none a c t (off_part f (omega arith) (omega arith))) (surely-none-in l (c + size a) t (off_part f (omega arith) (omega arith)))

-- nor of those that are still to come
mutual
  unfolding left_in size only

  pub left-off : (a : Act) (k t : ℕ) (ms : List ℕ) → Off t k (size a) → without t (left_in a k ms) ≡ left_in a k ms
  left-off (act own within) k t ms f =
      kind-without t own _ _ _ (one (eqb (get_or ms k 0) active)) (turn-off within (k + 1) t ms (off_part f (omega arith) (omega arith))) (all-off within (k + 1) t ms (off_part f (omega arith) (omega arith)))
    where
      one : (b : Bool) → without t (cond b (k ∷ []) []) ≡ cond b (k ∷ []) []
      one true = rw (f.at k (omega arith) (omega arith))
      one false = refl

  pub turn-off : (l : Acts) (c t : ℕ) (ms : List ℕ) → Off t c (sizes l) → without t (left_in_turn l c ms) ≡ left_in_turn l c ms
  turn-off none c t ms f = refl
  turn-off (more a l) c t ms f =
      either-without t (quiet c (size a) ms) (left_in_turn l (c + size a) ms) (left_in a c ms ++ surely_among l (c + size a)) (turn-off l (c + size a) t ms (off_part f (omega arith) (omega arith)))
      (without-append t (left_in a c ms) (surely_among l (c + size a)) (left-off a c t ms (off_part f (omega arith) (omega arith))) (surely-off-in l (c + size a) t (off_part f (omega arith) (omega arith))))

  pub all-off : (l : Acts) (c t : ℕ) (ms : List ℕ) → Off t c (sizes l) → without t (left_of_all l c ms) ≡ left_of_all l c ms
  all-off none c t ms f = refl
  all-off (more a l) c t ms f =
      without-append t (left_in a c ms) (left_of_all l (c + size a) ms) (left-off a c t ms (off_part f (omega arith) (omega arith))) (all-off l (c + size a) t ms (off_part f (omega arith) (omega arith)))

-- what is quiet has nothing to come
mutual
  unfolding left_in size

  pub left-quiet : (a : Act) (k : ℕ) (ms : List ℕ) → Quiet ms k (size a) → left_in a k ms ≡ []
  left-quiet (act own within) k ms q =
      rw (q.at k (omega arith) (omega arith), turn-quiet within (k + 1) ms (quiet-part q (omega arith) (omega arith)), all_quiet within (k + 1) ms (quiet-part q (omega arith) (omega arith))) (kind-none own)

  pub turn-quiet : (l : Acts) (c : ℕ) (ms : List ℕ) → Quiet ms c (sizes l) → left_in_turn l c ms ≡ []
  turn-quiet none c ms q = refl
  turn-quiet (more a l) c ms q =
      rw (quiet_told (size a) c ms (quiet-part q (omega arith) (omega arith))) (turn-quiet l (c + size a) ms (quiet-part q (omega arith) (omega arith)))

  pub all_quiet : (l : Acts) (c : ℕ) (ms : List ℕ) → Quiet ms c (sizes l) → left_of_all l c ms ≡ []
  all_quiet none c ms q = refl
  all_quiet (more a l) c ms q =
      rw (left-quiet a c ms (quiet-part q (omega arith) (omega arith)), all_quiet l (c + size a) ms (quiet-part q (omega arith) (omega arith)))

-- the same marks have the same to come
quiet_same : (n k : ℕ) (ms ns : List ℕ) → Agree k n ms ns → quiet k n ns ≡ quiet k n ms
unfolding quiet
quiet_same zero k ms ns g = refl
quiet_same (suc n) k ms ns g = rw (g.at k (omega arith) (omega arith), quiet_same n (k + 1) ms ns (agree-part g (omega arith) (omega arith)))

mutual
  unfolding left_in size

  pub left-agree : (a : Act) (k : ℕ) (ms ns : List ℕ) → Agree k (size a) ms ns → left_in a k ns ≡ left_in a k ms
  left-agree (act own within) k ms ns g =
      rw (g.at k (omega arith) (omega arith), turn_agree within (k + 1) ms ns (agree-part g (omega arith) (omega arith)), all_same within (k + 1) ms ns (agree-part g (omega arith) (omega arith)))

  pub turn_agree : (l : Acts) (c : ℕ) (ms ns : List ℕ) → Agree c (sizes l) ms ns → left_in_turn l c ns ≡ left_in_turn l c ms
  turn_agree none c ms ns g = refl
  turn_agree (more a l) c ms ns g =
      rw (quiet_same (size a) c ms ns (agree-part g (omega arith) (omega arith)), left-agree a c ms ns (agree-part g (omega arith) (omega arith)), turn_agree l (c + size a) ms ns (agree-part g (omega arith) (omega arith)))

  pub all_same : (l : Acts) (c : ℕ) (ms ns : List ℕ) → Agree c (sizes l) ms ns → left_of_all l c ns ≡ left_of_all l c ms
  all_same none c ms ns g = refl
  all_same (more a l) c ms ns g =
      rw (left-agree a c ms ns (agree-part g (omega arith) (omega arith)), all_same l (c + size a) ms ns (agree-part g (omega arith) (omega arith)))

-- the sure steps of what follows the activity with t in it
unfoldable pub surely_after : Acts → (c t : ℕ) → List ℕ
surely_after none c t = []
surely_after (more a l) c t = cond (ltb t (c + size a)) (surely_among l (c + size a)) (surely_after l (c + size a) t)

-- What began: where it is over it has no sure step; and else all are to come.
pub record Comes (left : List ℕ → List ℕ) (sure : List ℕ) (r : Begun) : Type 0 where
  pub over : r.over ≡ true → sure ≡ []
  pub runs : r.over ≡ false → left r.marks ≡ sure

-- one after the other
comes-then : (a : Act) (l : Acts) (c : ℕ) (later : List ℕ → Begun) (ms : List ℕ) (v : Bool) (g : List Event)
    → Comes (left_in a c) (surely a c) (record { marks = ms; over = v; log = g })
    → (v ≡ true → Quiet (later ms).marks c (size a)) → (v ≡ false → Quiet ms c (size a) → ⊥)
    → (v ≡ true → Comes (left_in_turn l (c + size a)) (surely_among l (c + size a)) (later ms))
    → Comes (left_in_turn (more a l) c) (surely a c ++ surely_among l (c + size a)) (in_turn later (record { marks = ms; over = v; log = g }))
unfolding left_in
comes-then a l c later ms true g b q z f =
    record {
      over = λ e. rw (b.over refl, (f refl).over e);
      runs = λ e. rw (b.over refl, quiet_told (size a) c (later ms).marks (q refl)) ((f refl).runs e);
    }
comes-then a l c later ms false g b q z f =
    record {
      over = λ e. absurd (false≢true e);
      runs = λ e. decide (quiet c (size a) ms) (λ t. absurd (z refl (quiet-found (size a) c ms t))) (λ t. rw (t, b.runs refl));
    }

-- side by side
comes-beside : (a : Act) (l : Acts) (c : ℕ) (later : List ℕ → Begun) (ms : List ℕ) (v : Bool) (g : List Event)
    → Comes (left_in a c) (surely a c) (record { marks = ms; over = v; log = g })
    → (v ≡ true → Quiet ms c (size a)) → Agree c (size a) ms (later ms).marks
    → ((later ms).over ≡ true → Quiet (later ms).marks (c + size a) (sizes l))
    → Comes (left_of_all l (c + size a)) (surely_among l (c + size a)) (later ms)
    → Comes (left_of_all (more a l) c) (surely a c ++ surely_among l (c + size a)) (side_by_side later (record { marks = ms; over = v; log = g }))
unfolding left_in
comes-beside a l c later ms v g b q w q₁ f =
    record {
      over = λ e. both v (later ms).over e (λ x y. rw (b.over x, f.over y));
      runs = λ e. rw (first v b q, rest (later ms).over refl);
    }
  where
    first : (v : Bool) → Comes (left_in a c) (surely a c) (record { marks = ms; over = v; log = g }) → (v ≡ true → Quiet ms c (size a)) → left_in a c (later ms).marks ≡ surely a c
    first true b q = left-agree a c ms (later ms).marks w ∙ (left-quiet a c ms (q refl) ∙ sym (b.over refl))
    first false b q = left-agree a c ms (later ms).marks w ∙ b.runs refl

    rest : (x : Bool) → (later ms).over ≡ x → left_of_all l (c + size a) (later ms).marks ≡ surely_among l (c + size a)
    rest true e = all_quiet l (c + size a) (later ms).marks (q₁ e) ∙ sym (f.over e)
    rest false e = f.runs e

module _ (p : Plan) where
  -- a sequence or a flow, of what began in it
  comes-through : (k : ℕ) (left : List ℕ → List ℕ) (sure : List ℕ) (ms : List ℕ) (v : Bool) (g : List Event) → Comes left sure (record { marks = ms; over = v; log = g })
      → Comes left sure (its_beginning k (throughout k (record { marks = ms; over = v; log = g })))
  comes-through k left sure ms true g b = record { over = λ e. b.over refl; runs = λ e. absurd (false≢true (sym e)) }
  comes-through k left sure ms false g b = record { over = λ e. absurd (false≢true e); runs = λ e. b.runs refl }

  -- what is sure to have its step and awaits it
  comes-itself : (k : ℕ) (ms : List ℕ) → k < length ms → Comes (λ ns. cond (eqb (get_or ns k 0) active) (k ∷ []) []) (k ∷ []) (awaiting k ms)
  comes-itself k ms h = record { over = λ e. absurd (false≢true e); runs = λ e. rw (get_or-set_same ms k active 0 h) }

  -- nothing sure comes of it
  comes-nothing : (r : Begun) → Comes (λ ns. []) [] r
  comes-nothing r = record { over = λ e. refl; runs = λ e. refl }

  comes-own : (own : Own) (within : Acts) (k : ℕ) (ms : List ℕ) → k < length ms
      → (own ≡ sequence → Comes (left_in_turn within (k + 1)) (surely_among within (k + 1)) (begin_in_turn within (k + 1) (set ms k active)))
      → (own ≡ flow → Comes (left_of_all within (k + 1)) (surely_among within (k + 1)) (begin_all within (k + 1) (set ms k active)))
      → Comes (left_in (act own within) k) (surely (act own within) k) (begin (act own within) k ms)
  unfolding left_in surely is_sure has_all begin
  comes-own empty within k ms h f g = comes-nothing _
  comes-own (send a b vs) within k ms h f g = comes-itself k ms h
  comes-own (receive a b vs) within k ms h f g = comes-itself k ms h
  comes-own (setting v e) within k ms h f g = comes-itself k ms h
  comes-own (raise zero) within k ms h f g = comes-itself k ms h
  comes-own (raise (suc number)) within k ms h f g = comes-itself k ms h
  comes-own leave within k ms h f g = comes-itself k ms h
  comes-own (choose e) within k ms h f g = comes-itself k ms h
  comes-own (repeat e) within k ms h f g = comes-nothing _
  comes-own sequence within k ms h f g = comes-through k _ _ _ _ _ (f refl)
  comes-own flow within k ms h f g = comes-through k _ _ _ _ _ (g refl)
  comes-own pick within k ms h f g = comes-nothing _
  comes-own (scope xs u) within k ms h f g = comes-nothing _
  comes-own (arm a b vs) within k ms h f g = comes-nothing _

  -- of nothing
  none-comes : (c : ℕ) (ms : List ℕ) → Comes (left_in_turn none c) (surely_among none c) (begin_in_turn none c ms)
  unfolding left_in surely begin
  none-comes c ms = record { over = λ e. refl; runs = λ e. refl }

  none-comes-all : (c : ℕ) (ms : List ℕ) → Comes (left_of_all none c) (surely_among none c) (begin_all none c ms)
  unfolding left_in surely begin
  none-comes-all c ms = record { over = λ e. refl; runs = λ e. refl }

  -- a scope has no sure step of its own
  scope-nothing : (xs : List ℕ) (z : Bool) (within : Acts) (k : ℕ) (ms : List ℕ) → Comes (left_in (act (scope xs z) within) k) (surely (act (scope xs z) within) k) (begin (act (scope xs z) within) k ms)
  unfolding left_in surely is_sure has_all
  scope-nothing xs z within k ms = record { over = λ e. refl; runs = λ e. refl }

  -- what begins where all is quiet has all its sure steps to come
  mutual
    unfolding begin surely size

    pub begin-comes : {x : Place} {a : Act} {k : ℕ} → Sits p x a k → (o : Order) → Quiet o.marks k (size a) → k + size a ≤ length o.marks → Fit x o
        → Comes (left_in a k) (surely a k) (begin a k o.marks)
    begin-comes (sits-part {q = x} {own} {within} {k} s g v y l) o q h w =
        comes-own own within k o.marks (omega arith)
        (λ e. turn-comes l (marked k active o) (quiet-set active (quiet-part q (omega arith) (omega arith)) (omega arith)) (omega (arith, length-set o.marks k active)) (fit-marked x k active o v.before w))
        (λ e. all-comes l (marked k active o) (quiet-set active (quiet-part q (omega arith) (omega arith)) (omega arith)) (omega (arith, length-set o.marks k active)) (fit-marked x k active o v.before w))
    begin-comes (sits-scope {xs = xs} {v = z₀} {b = b} {f = f} {u = u} {k = k} kn v i sb z) o q h w = scope-nothing xs z₀ (trio b f u) k o.marks

    pub turn-comes : {x : Place} {l : Acts} {c : ℕ} → SitsIn p x l c → (o : Order) → Quiet o.marks c (sizes l) → c + sizes l ≤ length o.marks → Fit x o
        → Comes (left_in_turn l c) (surely_among l c) (begin_in_turn l c o.marks)
    turn-comes (sits-none {q = x} {c}) o q h w = none-comes c o.marks
    turn-comes (sits-more {q = x} {a} {l} {c} s y) o q h w =
        let b = begins p s o (quiet-part q (omega arith) (omega arith)) (omega arith) w in
        let o₁ = with_marks (begin a c o.marks).marks o in
        let q₁ : Quiet o₁.marks (c + size a) (sizes l) = quiet-agree (quiet-part q (omega arith) (omega arith)) (agree-above b.kept (omega arith)) in
        let w₁ = fit-kept x c o o₁ (before_of s) (omega arith) refl b.kept w in
        let m : c + size a + sizes l ≤ length o₁.marks = omega (arith, b.kept.many) in
        comes-then a l c (begin_in_turn l (c + size a)) _ _ _ (begin-comes s o (quiet-part q (omega arith) (omega arith)) (omega arith) w)
        (λ e. quiet-agree (b.quiet e) (agree-below (begins-in-turn p y o₁ q₁ m w₁).kept (omega arith)))
        (λ e z. run-loud (b.runs e) z)
        (λ e. turn-comes y o₁ q₁ m w₁)

    pub all-comes : {x : Place} {l : Acts} {c : ℕ} → SitsIn p x l c → (o : Order) → Quiet o.marks c (sizes l) → c + sizes l ≤ length o.marks → Fit x o
        → Comes (left_of_all l c) (surely_among l c) (begin_all l c o.marks)
    all-comes (sits-none {q = x} {c}) o q h w = none-comes-all c o.marks
    all-comes (sits-more {q = x} {a} {l} {c} s y) o q h w =
        let b = begins p s o (quiet-part q (omega arith) (omega arith)) (omega arith) w in
        let o₁ = with_marks (begin a c o.marks).marks o in
        let q₁ : Quiet o₁.marks (c + size a) (sizes l) = quiet-agree (quiet-part q (omega arith) (omega arith)) (agree-above b.kept (omega arith)) in
        let w₁ = fit-kept x c o o₁ (before_of s) (omega arith) refl b.kept w in
        let m : c + size a + sizes l ≤ length o₁.marks = omega (arith, b.kept.many) in
        let b₁ = begins-all p y o₁ q₁ m w₁ in
        comes-beside a l c (begin_all l (c + size a)) _ _ _ (begin-comes s o (quiet-part q (omega arith) (omega arith)) (omega arith) w)
        b.quiet (agree-below b₁.kept (omega arith)) b₁.quiet
        (all-comes y o₁ q₁ m w₁)

  -- an undo part begins
  pub remedy-comes : {x : Place} {a : Act} {k : ℕ} → Remedy p x a k → (o : Order) → Quiet o.marks k (size a) → k + size a ≤ length o.marks → Fit x o
      → Comes (left_in a k) (surely a k) (begin a k o.marks)
  unfolding size
  remedy-comes (remedy {q = x} {own} {within} {k} s a g v z l b) o q h w =
      comes-own own within k o.marks (omega arith)
      (λ e. turn-comes l (marked k active o) (quiet-set active (quiet-part q (omega arith) (omega arith)) (omega arith)) (omega (arith, length-set o.marks k active)) (fit-marked x k active o v.before w))
      (λ e. all-comes l (marked k active o) (quiet-set active (quiet-part q (omega arith) (omega arith)) (omega arith)) (omega (arith, length-set o.marks k active)) (fit-marked x k active o v.before w))

  -- what follows in a sequence begins
  pub after-comes : {x : Place} {l : Acts} {c : ℕ} → SitsIn p x l c → (t : ℕ) (o : Order) → Quiet o.marks c (sizes l) → c + sizes l ≤ length o.marks → Fit x o
      → Comes (left_in_turn l c) (surely_after l c t) (begin_after l c t o.marks)
  unfolding begin_after surely_after size left_in
  after-comes (sits-none {q = x} {c}) t o q h w = record { over = λ e. refl; runs = λ e. refl }
  after-comes (sits-more {q = x} {a} {l} {c} s y) t o q h w =
      let q₁ : Quiet o.marks (c + size a) (sizes l) = quiet-part q (omega arith) (omega arith) in
      let i = begins-in-turn p y o q₁ (omega arith) w in
      let j = begins-after p y t o q₁ (omega arith) w in
      go (ltb t (c + size a)) i.kept j.kept (turn-comes y o q₁ (omega arith) w) (after-comes y t o q₁ (omega arith) w)
    where
      later : (r : Begun) (sure : List ℕ) → Kept (c + size a) (sizes l) o.marks r.marks → Comes (left_in_turn l (c + size a)) sure r → Comes (left_in_turn (more a l) c) sure r
      later r sure w b =
          record {
            over = b.over;
            runs = λ e. rw (quiet_told (size a) c r.marks (quiet-agree (quiet-part q (omega arith) (omega arith)) (agree-below w (omega arith)))) (b.runs e);
          }

      go : (x : Bool) → Kept (c + size a) (sizes l) o.marks (begin_in_turn l (c + size a) o.marks).marks → Kept (c + size a) (sizes l) o.marks (begin_after l (c + size a) t o.marks).marks
          → Comes (left_in_turn l (c + size a)) (surely_among l (c + size a)) (begin_in_turn l (c + size a) o.marks)
          → Comes (left_in_turn l (c + size a)) (surely_after l (c + size a) t) (begin_after l (c + size a) t o.marks)
          → Comes (left_in_turn (more a l) c) (cond x (surely_among l (c + size a)) (surely_after l (c + size a) t)) (elim x [ true ↦ begin_in_turn l (c + size a) o.marks | false ↦ begin_after l (c + size a) t o.marks ])
      go true i j b d = later _ _ i b
      go false i j b d = later _ _ j d
