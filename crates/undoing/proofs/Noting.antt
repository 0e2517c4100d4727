-- A book that is kept of the answers in a slot: where it stays right with each step of an order, all answers of any run are judged right by it. Assumes nothing.
use Prim.Native.Nat.{ℕ}
use mathlib.Core.Path.{◌≡◌, refl, sym, ap, subst, ◌∙◌}
use mathlib.Core.Bool.{Bool, true, false, cond, ◌&&◌, false≢true}
use mathlib.Core.List.{List, [], ◌∷◌, ◌++◌}
use lib.ListN.{get_or}
use lib.Dec.{eqb}
use Rattle.plan.specs.Found.{found}
use Rattle.plan.specs.Read.{read_plan}
use Rattle.plan.specs.Tree.{Plan}
use Rattle.order.specs.declared.Order.{Order}
use Rattle.order.specs.declared.End.{End}
use Rattle.order.specs.declared.End.TheVariants.{None, Well, Handled, Failed, Left}
use Rattle.machine.specs.declared.State.{State}
use Rattle.machine.specs.declared.Step.{Step}
use Rattle.machine.specs.declared.Tally.{Tally}
use Rattle.order.specs.State.{is_live, no_order}
use Rattle.machine.specs.State.{fresh}
use Rattle.order.specs.Event.{Event, started}
use Rattle.order.specs.Acting.{Moved, begun_order, started_order}
use Rattle.order.specs.Judging.{step_order}
use Rattle.machine.specs.Calls.{post, collect, drop_at, Stepped, doing_at, step, Call, posting, collecting, dropping, stepping}
use Rattle.undoing.specs.History.{log_of}
use Rattle.undoing.specs.Ties.{is_taken, end_list, end_by}
use Rattle.undoing.specs.Answered.{answered}
use Rattle.undoing.proofs.Parts.{both}
use Rattle.undoing.proofs.Moves.{HoldsAt}
use Rattle.undoing.proofs.Orders.{moment_of, onto, fair_after}
use Rattle.undoing.proofs.Roots.{Awaited, Standing, EndedAs, Passed, passes_on, passes-end}
use Rattle.undoing.proofs.Planning.{Promised}
use Rattle.undoing.proofs.Slots.{standing-live, Alike, taking-alike, taken_step, order-starts, post-same, collect-same, drop-same, Sane, same-sane, fresh-sane}
use Rattle.undoing.proofs.Happening.{order_in, with_message, Happens, nothing-here, goes-here, starts-here, step-happens}
use Rattle.undoing.proofs.Demanded.{step_after}
use Rattle.undoing.proofs.TakenBack.{end_in, end-in, fresh-free}

-- How a book is kept: what may be written in it, what stands in it then, and how all answers are judged by it; it is empty where no order lives.
pub record Keeping (B : Type 0) : Type 1 where
  pub judge : B → List Step → Bool
  pub ok : (t : ℕ) → B → Bool
  pub after : (t : ℕ) → End → B → B
  pub empty : B
  pub none : (b : B) → judge b [] ≡ true
  pub one : (b : B) (x : Step) (l : List Step) → ok x.activity b ≡ true → judge (after x.activity x.end b) l ≡ true → judge b (x ∷ l) ≡ true
  pub over : (t : ℕ) (b : B) → (after t Well b ≡ empty) × (after t Handled b ≡ empty) × (after t Failed b ≡ empty) × (after t Left b ≡ empty)

module _ (p : Plan) (h : Promised p) (B : Type 0) (kept : Keeping B) (Live : Order → B → Type 0)
    (steps : (k : ℕ) (o o' : Order) (past : List Event) (b : B) → Alike p o o' → Awaited p o.marks k → Standing p o → HoldsAt p (moment_of p o) past → Live o b
    → (kept.ok k b ≡ true) × ((step_order p k o').end ≡ None → Live (step_order p k o').order (kept.after k None b)))
    (starts : (past : List Event) → fair_after p past (started ∷ (begun_order p).log) ≡ true → Standing p (started_order p) → HoldsAt p (moment_of p (started_order p)) (onto (started ∷ (begun_order p).log) past) → Live (started_order p) kept.empty) where
  -- what stands in a slot and the book that is kept of it
  data Books (o : Order) (b : B) : Type 0 where
    books-free : is_live o ≡ false → b ≡ kept.empty → Books o b
    books-live : is_live o ≡ true → Live o b → Books o b

  book-after : (k : ℕ) (m : Moved) (past : List Event) (b : B) → Passed p past m → (m.end ≡ None → Live m.order (kept.after k None b)) → Books m.order (kept.after k m.end b)
  unfolding no_order
  book-after k m past b (passes_on r d z y) n = subst (λ (e : End). Books m.order (kept.after k e b)) (sym d) (books-live (standing-live p m.order z) (n d))
  book-after k m past b (passes-end r d z) n = go m.end z
    where
      go : (e : End) → EndedAs p e (onto m.log past) → Books m.order (kept.after k e b)
      go None z = absurd z
      go Well z = books-free (ap is_live d) (kept.over k b).0
      go Handled z = books-free (ap is_live d) (kept.over k b).1
      go Failed z = books-free (ap is_live d) (kept.over k b).2
      go Left z = books-free (ap is_live d) (kept.over k b).3

  module _ (bytes : List ℕ) (next i : ℕ) (accepted : read_plan bytes ≡ found p next) where
    -- the answers of a step in the slot, if it is one, and the book after them
    abbrev Noted : Stepped → B → Type 0
    Noted r a = (rest : List Step) → ((b : B) → Books (order_in r.state i) b → kept.judge b rest ≡ true) → kept.judge a (cond (is_taken i r) (r.answer ∷ []) [] ++ rest) ≡ true

    taken-end : (r : Stepped) (e : End) → is_taken i r ≡ true → end_by i r ≡ end_list e → r.answer.end ≡ e
    taken-end r e q d =
        both (eqb r.answer.refusal 0) (eqb r.answer.slot i) q
        (λ x y. sym (end-in r.answer.end) ∙ (ap end_in (let z : end_list r.answer.end ≡ end_list e = rw y at d in z) ∙ end-in e))

    answer-noted : (r : Stepped) (a : B) (k : ℕ) (m : Moved) → (is_taken i r ≡ true) × (r.answer.activity ≡ k) → end_by i r ≡ end_list m.end → order_in r.state i ≡ m.order
        → kept.ok k a ≡ true → Books m.order (kept.after k m.end a) → Noted r a
    answer-noted r a k m q z d c b rest f =
        rw q.0
        (kept.one a r.answer rest (ap (λ (t : ℕ). kept.ok t a) q.1 ∙ c)
        (ap (λ (t : ℕ). kept.judge (kept.after t r.answer.end a) rest) q.1
        ∙ (ap (λ (e : End). kept.judge (kept.after k e a) rest) (taken-end r m.end q.0 z)
        ∙ f (kept.after k m.end a) (subst (λ (o : Order). Books o (kept.after k m.end a)) (sym d) b))))

    happens-noted : (s : State) (past : List Event) (r : Stepped) (a : B) → Happens p i s past r → Books (order_in s i) a → Noted r a
    happens-noted s past r a (nothing-here n l z d) b rest f = rw n (f a (subst (λ (o : Order). Books o a) (sym d) b))
    happens-noted s past r a (goes-here k m q w st c y l z d) (books-free n v) rest f = absurd (false≢true (sym n ∙ standing-live p (order_in s i) st))
    happens-noted s past r a (goes-here k m q w st c y l z d) (books-live n b) rest f =
        let o = order_in s i in
        let v = taking-alike p (doing_at p k) m o in
        let x = steps k o (with_message p k m o) past a v w st y b in
        answer-noted r a k (step_order p k (with_message p k m o)) (q.0, q.1) z d x.0
        (book-after k (step_order p k (with_message p k m o)) past a (taken_step p h k o (with_message p k m o) past v w st y) x.1) rest f
    happens-noted s past r a (starts-here k m q w x n l z d) (books-live c b) rest f = absurd (false≢true (sym x ∙ c))
    happens-noted s past r a (starts-here k m q w x n l z d) (books-free c y) rest f =
        let o = started_order p in
        let l₀ = started ∷ (begun_order p).log in
        let v = taking-alike p (doing_at p k) m o in
        let b = order-starts p h k past n w in
        let u = steps k o (with_message p k m o) (onto l₀ past) kept.empty v w b.1 b.2 (starts past b.0 b.1 b.2) in
        subst (λ (g : B). kept.judge g (cond (is_taken i r) (r.answer ∷ []) [] ++ rest) ≡ true) (sym y)
        (answer-noted r kept.empty k (step_order p k (with_message p k m o)) (q.0, q.1) z d u.0
        (book-after k (step_order p k (with_message p k m o)) (onto l₀ past) kept.empty (taken_step p h k o (with_message p k m o) (onto l₀ past) v w b.1 b.2) u.1) rest f)

    -- over any calls
    all_noted : (calls : List Call) (s : State) (u : Tally) (past : List Event) (a : B) → Sane p bytes next i accepted h s past → Books (order_in s i) a → kept.judge a (answered calls i s u) ≡ true
    unfolding answered
    all_noted [] s u past a g b = kept.none a
    all_noted (posting m ∷ l) s u past a g b =
        all_noted l (post m s).state u past a (same-sane p bytes next i accepted h s (post m s).state past (post-same m s) g) (subst (λ (os : List Order). Books (get_or os i no_order) a) (sym (post-same m s).orders) b)
    all_noted (collecting ∷ l) s u past a g b =
        all_noted l (collect s).state u past a (same-sane p bytes next i accepted h s (collect s).state past (collect-same s) g) (subst (λ (os : List Order). Books (get_or os i no_order) a) (sym (collect-same s).orders) b)
    all_noted (dropping j ∷ l) s u past a g b =
        all_noted l (drop_at j s).state u past a (same-sane p bytes next i accepted h s (drop_at j s).state past (drop-same j s) g) (subst (λ (os : List Order). Books (get_or os i no_order) a) (sym (drop-same j s).orders) b)
    all_noted (stepping c ∷ l) s u past a g b =
        let r = step c s u in
        let x = step_after p bytes next i accepted h c s u past g in
        happens-noted s past r a (step-happens p bytes next i accepted h c s u past g).happens b (answered l i r.state r.tally)
        (λ a₁ b₁. all_noted l r.state r.tally (onto (log_of i r) past) a₁ x.1 b₁)

    pub fresh-noted : (calls : List Call) (u : Tally) → kept.judge kept.empty (answered calls i (fresh bytes) u) ≡ true
    fresh-noted calls u = all_noted calls (fresh bytes) u [] kept.empty (fresh-sane p bytes next i accepted h) (books-free (fresh-free bytes i) refl)
