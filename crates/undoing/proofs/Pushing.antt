-- What closes directly inside the root with a step, by its log: the step itself, where it is the close of such a scope. Assumes nothing.
use Prim.Native.Nat.{ℕ, ◌+◌, ◌<◌}
use native.Mathlib.Omega.{arith}
use mathlib.Core.Path.{◌≡◌, refl, sym, ap, subst, ◌∙◌}
use mathlib.Core.Bool.{Bool, true, false, cond, not, ◌&&◌, false≢true}
use mathlib.Core.List.{List, [], ◌∷◌, ◌++◌, append-nil}
use lib.Dec.{eqb, ltb, leb}
use borrow.Author.Tests.{eqb-true, eq-eqb, ne_eqb, lt-ltb, le-ltb, ltb-true, le-leb, leb-true, not-true}
use Rattle.plan.specs.Tree.{Own, empty, send, receive, set as setting, raise, leave, choose, repeat, sequence, flow, pick, scope, arm, Act, act, Acts, none, more, Plan, size, sizes, is_scope}
use Rattle.order.specs.declared.Order.{Order}
use Rattle.order.specs.Lists.{every, some, only, each}
use Rattle.order.specs.State.{Name, root, inner, same}
use Rattle.order.specs.Expression.{conflicting_receive, Value, fault, value, evaluate}
use Rattle.order.specs.Event.{Event, started, began, closed, faulted, stopped, ended, raised, left}
use Rattle.order.specs.Scope.{root_of}
use Rattle.order.specs.Acting.{Actor, its_own, in_place, step_in}
use Rattle.undoing.specs.Demand3.{Inner, scopes_of, inside_of, is_begin, closed_by, closings_of}
use Rattle.undoing.specs.Ties.{Place, name_of, beyond_of, is_deed, raised_if, raised_by, deed_of, deed_in, deed_among}
use Rattle.undoing.specs.Answered.{back_in, back_among, back_of, is_close, putting}
use Rattle.undoing.proofs.Parts.{both, decide, every-so, some-none}
use Rattle.undoing.proofs.Accounts.{Known}
use Rattle.undoing.proofs.Moves.{closed-inside}
use Rattle.undoing.proofs.Marks.{trio}
use Rattle.undoing.proofs.Orders.{onto, inner_at, Sits, sits-part, sits-scope, SitsIn, sits-none, sits-more, Healers}
use Rattle.undoing.proofs.Seats.{Seat, reaches, reaches-range, closings-reach}
use Rattle.undoing.proofs.Owing.{directly, directly_in, directly-is, directly-range, directly-range-in, directly-directs}
use Rattle.undoing.proofs.Deeds.{step-deeds, raise-deeds}
use Rattle.undoing.proofs.Judged.{is_take, Fitting, doing-body}
use Rattle.undoing.proofs.Ending.{is_start, start-kept, deed-in-starts}
use Rattle.undoing.proofs.Repaying.{none-directly, later-directly, direct-scope, back-part, back-first, back-later, back-without, out-directly, out-directly-in, due_in, dues_of}
use Rattle.undoing.proofs.Sends.{by-sent}

-- the definition, by where the step is
deed-is : (own : Own) (within : Acts) (k t : ℕ) (o : Order) (b : Bool) → eqb k t ≡ b → deed_in (act own within) k t o ≡ elim b [ true ↦ deed_of own k o | false ↦ deed_among within (k + 1) t o ]
unfolding deed_in
deed-is own within k t o b e = subst (λ (z : Bool). deed_in (act own within) k t o ≡ elim z [ true ↦ deed_of own k o | false ↦ deed_among within (k + 1) t o ]) e refl

deed-among-is : (a : Act) (l : Acts) (c t : ℕ) (o : Order) (b : Bool) → ltb t (c + size a) ≡ b → deed_among (more a l) c t o ≡ elim b [ true ↦ deed_in a c t o | false ↦ deed_among l (c + size a) t o ]
unfolding deed_in
deed-among-is a l c t o b e = subst (λ (z : Bool). deed_among (more a l) c t o ≡ elim z [ true ↦ deed_in a c t o | false ↦ deed_among l (c + size a) t o ]) e refl

scope-deed : (xs : List ℕ) (z : Bool) (k : ℕ) (o : Order) → deed_of (scope xs z) k o ≡ closed k ∷ []
unfolding deed_of
scope-deed xs z k o = refl

-- the close of a scope directly in a tree
mutual
  unfolding size

  close-deed : {p : Plan} {x : Place} (a : Act) (k t : ℕ) (o : Order) → Sits p x a k → directly a k t ≡ true → deed_in a k t o ≡ closed t ∷ []
  close-deed (act own within) k t o (sits-part s g v y l) d =
      let z : directly_in within (k + 1) t ≡ true = sym (directly-is own within k t false s) ∙ d in
      let r = directly-range-in within (k + 1) t z in
      deed-is own within k t o false (ne_eqb k t (omega arith)) ∙ close-deeds within (k + 1) t o l z
  close-deed (act (scope xs z₀) (more b (more f u))) k t o (sits-scope kn v i sb z) d =
      let e = direct-scope xs z₀ (trio b f u) k t d in deed-is (scope xs z₀) (trio b f u) k t o true e ∙ (scope-deed xs z₀ k o ∙ ap (λ (j : ℕ). closed j ∷ []) (eqb-true k t e))

  close-deeds : {p : Plan} {x : Place} (l : Acts) (c t : ℕ) (o : Order) → SitsIn p x l c → directly_in l c t ≡ true → deed_among l c t o ≡ closed t ∷ []
  close-deeds none c t o sits-none d = absurd (none-directly c t d)
  close-deeds (more a l) c t o (sits-more s y) d =
      decide (directly a c t)
      (λ i. deed-among-is a l c t o true (lt-ltb t (c + size a) (directly-range a c t i).1) ∙ close-deed a c t o s i)
      (λ i. let j = later-directly a l c t d i in deed-among-is a l c t o false (le-ltb t (c + size a) (directly-range-in l (c + size a) t j).0) ∙ close-deeds l (c + size a) t o y j)

-- a number of a tree that no scope directly in it has
abbrev pub Apart : Act → (k e : ℕ) → Bool
Apart a k e = not (directly a k e) && (leb k e && ltb e (k + size a))

abbrev ApartIn : Acts → (c e : ℕ) → Bool
ApartIn l c e = not (directly_in l c e) && (leb c e && ltb e (c + sizes l))

-- A scope directly in a tree, as the plan has it; where it has no undo part nothing takes it back, and what closed in it stands nowhere directly in the tree.
pub record CloseAt (p : Plan) (n : Name) (ns : List Name) (back : List ℕ) (apart : ℕ → Bool) (t : ℕ) : Type 0 where
  pub its : Inner
  pub known : Known p its
  pub number : its.number ≡ t
  pub around : its.around ≡ n
  pub beyond : its.beyond ≡ ns
  pub none-back : its.undoes ≡ false → back ≡ []
  pub handed : its.undoes ≡ false → (past : List Event) → every apart (closings_of p (inner t) past) ≡ true

close-so : {p : Plan} {n : Name} {ns : List Name} {back back' : List ℕ} {f g : ℕ → Bool} {t : ℕ} → CloseAt p n ns back f t → back' ≡ back → ((e : ℕ) → f e ≡ true → g e ≡ true) → CloseAt p n ns back' g t
close-so {p} {f = f} {g} {t} w e h =
    record {
      its = w.its;
      known = w.known;
      number = w.number;
      around = w.around;
      beyond = w.beyond;
      none-back = λ u. e ∙ w.none-back u;
      handed = λ u past. every-so f g h (closings_of p (inner t) past) (w.handed u past);
    }

part_apart : (own : Own) (within : Acts) (k e : ℕ) → is_scope own ≡ false → ApartIn within (k + 1) e ≡ true → Apart (act own within) k e ≡ true
unfolding size
part_apart own within k e s h =
    both (not (directly_in within (k + 1) e)) (leb (k + 1) e && ltb e (k + 1 + sizes within)) h (λ a b. both (leb (k + 1) e) (ltb e (k + 1 + sizes within)) b (λ c d.
    let x = leb-true (k + 1) e c in let y = ltb-true e (k + 1 + sizes within) d in
    rw (directly-is own within k e false s, a, le-leb k e (omega arith), lt-ltb e (k + (1 + sizes within)) (omega arith))))

first-apart : (a : Act) (l : Acts) (c e : ℕ) → Apart a c e ≡ true → ApartIn (more a l) c e ≡ true
unfolding size directly
first-apart a l c e h =
    both (not (directly a c e)) (leb c e && ltb e (c + size a)) h (λ i b. both (leb c e) (ltb e (c + size a)) b (λ j d.
    let y = ltb-true e (c + size a) d in
    rw (not-true (directly a c e) i, out-directly-in l (c + size a) e y, j, lt-ltb e (c + (size a + sizes l)) (omega arith))))

later-apart : (a : Act) (l : Acts) (c e : ℕ) → ApartIn l (c + size a) e ≡ true → ApartIn (more a l) c e ≡ true
unfolding size directly
later-apart a l c e h =
    both (not (directly_in l (c + size a) e)) (leb (c + size a) e && ltb e (c + size a + sizes l)) h (λ i b. both (leb (c + size a) e) (ltb e (c + size a + sizes l)) b (λ j d.
    let x = leb-true (c + size a) e j in let y = ltb-true e (c + size a + sizes l) d in
    rw (out-directly a c e x, not-true (directly_in l (c + size a) e) i, le-leb c e (omega arith), lt-ltb e (c + (size a + sizes l)) (omega arith))))

scope-apart : (xs : List ℕ) (z : Bool) (b f : Act) (u : Acts) (k e : ℕ) → reaches b (k + 1) e ≡ true → Apart (act (scope xs z) (trio b f u)) k e ≡ true
unfolding size
scope-apart xs z b f u k e h =
    let r = reaches-range b (k + 1) e h in
    rw (directly-is (scope xs z) (trio b f u) k e true refl, ne_eqb k e (omega arith), le-leb k e (omega arith), lt-ltb e (k + (1 + (size b + (size f + sizes u)))) (omega arith))

-- what stands after the fault part of one with no undo part is nothing
rest_back : {p : Plan} {s : Name} {xs : List ℕ} {z : Bool} {q w : Place} {l : Acts} {c : ℕ} → Healers p s xs z q w l c → (b : Act) (k : ℕ) → z ≡ false → back_in (act (scope xs z) (more b l)) k k ≡ []
rest_back {z = true} h b k e = absurd (false≢true (sym e))
rest_back {z = false} h b k e = back-without h b k k (eq-eqb k k refl)

mutual
  pub close_at : {p : Plan} {x : Place} {a : Act} {k : ℕ} → Sits p x a k → (t : ℕ) → directly a k t ≡ true → CloseAt p (name_of x) (beyond_of x) (back_in a k t) (Apart a k) t
  close_at (sits-part {own = own} {within} {k} s g v y l) t d =
      close-so (close-at-in l t (sym (directly-is own within k t false s) ∙ d)) (back-part own within k t s) (λ e. part_apart own within k e s)
  close_at {p = p} (sits-scope {xs} {v = z₀} {n} {c} {ns} {b} {f} {u} {k} kn v i sb z) t d =
      subst (λ (j : ℕ). CloseAt p n ns (back_in (act (scope xs z₀) (trio b f u)) k j) (Apart (act (scope xs z₀) (trio b f u)) k) j) (eqb-true k t (direct-scope xs z₀ (trio b f u) k t d))
      (record {
        its = inner_at xs z₀ k n ns (trio b f u);
        known = kn;
        number = refl;
        around = refl;
        beyond = refl;
        none-back = λ e. rest_back z b k e;
        handed = λ e past. every-so (reaches b (k + 1)) (Apart (act (scope xs z₀) (trio b f u)) k) (λ j h. scope-apart xs z₀ b f u k j h) (closings_of p (inner k) past) (closings-reach p past sb i);
      })

  close-at-in : {p : Plan} {x : Place} {l : Acts} {c : ℕ} → SitsIn p x l c → (t : ℕ) → directly_in l c t ≡ true → CloseAt p (name_of x) (beyond_of x) (back_among l c t) (ApartIn l c) t
  close-at-in (sits-none {c = c}) t d = absurd (none-directly c t d)
  close-at-in (sits-more {a = a} {l} {c} s y) t d =
      decide (directly a c t)
      (λ i. close-so (close_at s t i) (back-first a l c t i) (λ e. first-apart a l c e))
      (λ i. let j = later-directly a l c t d i in close-so (close-at-in y t j) (back-later a l c t j) (λ e. later-apart a l c e))

-- what is due for what stands nowhere directly in a tree
apart-dues : (a : Act) (k : ℕ) (l m : List ℕ) → every (Apart a k) l ≡ true → dues_of (due_in a k) (l ++ m) ≡ dues_of (due_in a k) m
unfolding every dues_of
apart-dues a k [] m h = refl
apart-dues a k (e ∷ l) m h =
    both (Apart a k e) (every (Apart a k) l) h (λ x y. both (not (directly a k e)) _ x (λ z w. rw (not-true (directly a k e) z) (apart-dues a k l m y)))

module _ (p : Plan) (h : Seat p (root_of p)) where
  -- what is due for closings at the root
  abbrev pub dues_in : List ℕ → List (List ℕ)
  dues_in l = dues_of (due_in p.body 0) l

  -- whether a scope stands directly in the root's body
  pub direct-close : (t : ℕ) → directly p.body 0 t ≡ is_close p root t
  direct-close t = directly-directs p.body 0 t root h.beyond ∙ ap (some (λ x. eqb x.number t)) (sym h.inside)

  -- A scope closes: one directly inside the root makes due what takes it back, which is nothing where it hands on; any other nothing.
  closed-dues : (k : ℕ) (past : List Event) (c : List ℕ)
      → dues_in (closed_by (inside_of p root) (λ j. closings_of p (inner j) past) (closed k) ++ c) ≡ cond (is_close p root k) (putting (back_of p k) (dues_in c)) (dues_in c)
  unfolding closed_by back_of dues_of each only closings_of
  closed-dues k past c =
      decide (is_close p root k)
      (λ e. let d = direct-close k ∙ e in
      let w = close_at h.body k d in
      ap (λ (l : List ℕ). dues_in (l ++ c)) (found w) ∙ (by-undo w d w.its.undoes refl ∙ rw e))
      (λ e. rw (e, some-none (λ x. eqb x.number k) (inside_of p root) e))
    where
      found : (w : CloseAt p root h.beyond (back_in p.body 0 k) (Apart p.body 0) k)
          → closed_by (inside_of p root) (λ j. closings_of p (inner j) past) (closed k) ≡ cond w.its.undoes (k ∷ []) (closings_of p (inner k) past)
      found w =
          closed-inside p root (λ j. closings_of p (inner j) past) k
          ∙ (ap (λ (l : List Inner). each (λ x. cond x.undoes (x.number ∷ []) (closings_of p (inner x.number) past)) (only (λ x. same x.around root) l))
          (ap (λ (j : ℕ). only (λ x. eqb x.number j) (scopes_of p)) (sym w.number) ∙ w.known.by_number)
          ∙ rw (w.around, w.number, append-nil))

      by-undo : (w : CloseAt p root h.beyond (back_in p.body 0 k) (Apart p.body 0) k) → directly p.body 0 k ≡ true → (b : Bool) → w.its.undoes ≡ b
          → dues_in (cond w.its.undoes (k ∷ []) (closings_of p (inner k) past) ++ c) ≡ putting (back_in p.body 0 k) (dues_in c)
      by-undo w d true u = rw (u, d)
      by-undo w d false u = rw (u, w.none-back u) (apart-dues p.body 0 (closings_of p (inner k) past) c (w.handed u past))

  -- what is due with more events, the latest first
  unfoldable pub dues_onto : List Event → List (List ℕ) → List (List ℕ)
  dues_onto [] d = d
  dues_onto (started ∷ l) d = dues_onto l d
  dues_onto (began k ∷ l) d = dues_onto l d
  dues_onto (closed k ∷ l) d = dues_onto l (cond (is_close p root k) (putting (back_of p k) d) d)
  dues_onto (faulted n x ∷ l) d = dues_onto l d
  dues_onto (stopped k ∷ l) d = dues_onto l d
  dues_onto (ended n ∷ l) d = dues_onto l d
  dues_onto (raised k x ∷ l) d = dues_onto l d
  dues_onto (left ∷ l) d = dues_onto l d

  -- one event
  next-dues : (e : Event) (past : List Event) → is_begin root e ≡ false → dues_in (closings_of p root (e ∷ past)) ≡ dues_in (closed_by (inside_of p root) (λ j. closings_of p (inner j) past) e ++ closings_of p root past)
  unfolding closings_of
  next-dues e past b = rw (b, closings_of)

  pub onto-dues : (l past : List Event) → some is_start l ≡ false → dues_in (closings_of p root (onto l past)) ≡ dues_onto (only is_deed l) (dues_in (closings_of p root past))
  unfolding some only is_deed is_start is_begin closed_by dues_onto
  onto-dues [] past h = refl
  onto-dues (started ∷ l) past h = absurd (false≢true (sym h))
  onto-dues (began k ∷ l) past h = onto-dues l (began k ∷ past) h ∙ ap (dues_onto (only is_deed l)) (next-dues (began k) past refl)
  onto-dues (closed k ∷ l) past h = onto-dues l (closed k ∷ past) h ∙ ap (dues_onto (only is_deed l)) (next-dues (closed k) past refl ∙ closed-dues k past (closings_of p root past))
  onto-dues (faulted n x ∷ l) past h = onto-dues l (faulted n x ∷ past) h ∙ ap (dues_onto (only is_deed l)) (next-dues (faulted n x) past refl)
  onto-dues (stopped k ∷ l) past h = onto-dues l (stopped k ∷ past) h ∙ ap (dues_onto (only is_deed l)) (next-dues (stopped k) past refl)
  onto-dues (ended n ∷ l) past h = onto-dues l (ended n ∷ past) h ∙ ap (dues_onto (only is_deed l)) (next-dues (ended n) past refl)
  onto-dues (raised k x ∷ l) past h = onto-dues l (raised k x ∷ past) h ∙ ap (dues_onto (only is_deed l)) (next-dues (raised k x) past refl)
  onto-dues (left ∷ l) past h = onto-dues l (left ∷ past) h ∙ ap (dues_onto (only is_deed l)) (next-dues left past refl)

  -- a step that closes nothing directly inside
  by-raised : (k : ℕ) (d : List (List ℕ)) (v : Value) → dues_onto (raised_by k v) d ≡ d
  unfolding dues_onto
  by-raised k d (fault x) = refl
  by-raised k d (value n) = refl

  nothing-closed : (k x : ℕ) (d : List (List ℕ)) → dues_onto (raised k x ∷ []) d ≡ d
  unfolding dues_onto
  nothing-closed k x d = refl

  left-closed : (d : List (List ℕ)) → dues_onto (left ∷ []) d ≡ d
  unfolding dues_onto
  left-closed d = refl

  none-deed : (c₀ t : ℕ) (o : Order) (d : List (List ℕ)) → dues_onto (deed_among none c₀ t o) d ≡ d
  unfolding deed_in dues_onto
  none-deed c₀ t o d = refl

  other-own : (own : Own) (k : ℕ) (o : Order) (d : List (List ℕ)) → is_close p root k ≡ false → dues_onto (deed_of own k o) d ≡ d
  unfolding deed_of dues_onto
  other-own empty k o d e = refl
  other-own (send x y vs) k o d e = by-sent (λ l. dues_onto l d ≡ d) x y vs k o refl (λ n. nothing-closed k n d)
  other-own (receive x y vs) k o d e = refl
  other-own (setting v x) k o d e = by-raised k d (evaluate x o)
  other-own (raise number) k o d e = nothing-closed k number d
  other-own leave k o d e = left-closed d
  other-own (choose x) k o d e = by-raised k d (evaluate x o)
  other-own (repeat x) k o d e = by-raised k d (evaluate x o)
  other-own sequence k o d e = refl
  other-own flow k o d e = refl
  other-own pick k o d e = refl
  other-own (scope xs z) k o d e = rw e
  other-own (arm x y vs) k o d e = refl

  mutual
    other-deed : (a : Act) (k t : ℕ) (o : Order) (d : List (List ℕ)) → is_close p root t ≡ false → dues_onto (deed_in a k t o) d ≡ d
    other-deed (act own within) k t o d e =
        decide (eqb k t)
        (λ b. ap (λ (l : List Event). dues_onto l d) (deed-is own within k t o true b) ∙ other-own own k o d (ap (is_close p root) (eqb-true k t b) ∙ e))
        (λ b. ap (λ (l : List Event). dues_onto l d) (deed-is own within k t o false b) ∙ other-deeds within (k + 1) t o d e)

    other-deeds : (l : Acts) (c₀ t : ℕ) (o : Order) (d : List (List ℕ)) → is_close p root t ≡ false → dues_onto (deed_among l c₀ t o) d ≡ d
    other-deeds none c₀ t o d e = none-deed c₀ t o d
    other-deeds (more a l) c₀ t o d e =
        decide (ltb t (c₀ + size a))
        (λ b. ap (λ (l : List Event). dues_onto l d) (deed-among-is a l c₀ t o true b) ∙ other-deed a c₀ t o d e)
        (λ b. ap (λ (l : List Event). dues_onto l d) (deed-among-is a l c₀ t o false b) ∙ other-deeds l (c₀ + size a) t o d e)

  -- What is due after a step in the root's body, and after a raise in place of a receive, which closes nothing.
  abbrev pub dues_with : Actor → (t : ℕ) → List (List ℕ) → List (List ℕ)
  dues_with its_own t d = cond (is_close p root t) (putting (back_of p t) d) d
  dues_with in_place t d = d

  step-pushes : (t : ℕ) (o : Order) (d : List (List ℕ)) → dues_onto (deed_in p.body 0 t o) d ≡ dues_with its_own t d
  unfolding dues_onto
  step-pushes t o d =
      decide (is_close p root t)
      (λ e. ap (λ (l : List Event). dues_onto l d) (close-deed p.body 0 t o h.body (direct-close t ∙ e)))
      (λ e. rw e (other-deed p.body 0 t o d e))

  pub step-dues : (actor : Actor) (t : ℕ) (o : Order) (past : List Event) → Fitting actor p t → t < size p.body
      → dues_in (closings_of p root (onto (step_in actor p.body 0 0 t o).log past)) ≡ dues_with actor t (dues_in (closings_of p root past))
  unfolding some is_start
  step-dues its_own t o past w e =
      onto-dues (step_in its_own p.body 0 0 t o).log past (start-kept (step_in its_own p.body 0 0 t o).log ∙ (ap (some is_start) (step-deeds p.body 0 0 t o) ∙ deed-in-starts p.body 0 t o))
      ∙ (ap (λ (l : List Event). dues_onto l (dues_in (closings_of p root past))) (step-deeds p.body 0 0 t o) ∙ step-pushes t o (dues_in (closings_of p root past)))
  step-dues in_place t o past w e =
      let d = raise-deeds p.body 0 0 t o (ap is_take (sym (doing-body p t e)) ∙ w) in
      onto-dues (step_in in_place p.body 0 0 t o).log past (start-kept (step_in in_place p.body 0 0 t o).log ∙ ap (some is_start) d)
      ∙ (ap (λ (l : List Event). dues_onto l (dues_in (closings_of p root past))) d ∙ nothing-closed t conflicting_receive (dues_in (closings_of p root past)))
