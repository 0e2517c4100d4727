-- A scope that takes back what closed directly inside it: where its body stands in the plan, and that one undo part at a time runs there. Assumes nothing.
use Prim.Native.Nat.{ℕ, ◌+◌, ◌≤◌, ◌<◌}
use native.Mathlib.Omega.{arith}
use mathlib.Core.Path.{◌≡◌, refl, sym, ap, subst, ◌∙◌}
use mathlib.Core.Bool.{Bool, true, false, cond, not, ◌&&◌, ◌||◌, false≢true, or-true}
use mathlib.Core.List.{List, [], ◌∷◌, ◌++◌}
use lib.Dec.{eqb, ltb}
use lib.ListN.{get_or}
use borrow.Author.Tests.{eqb-true, eq-eqb, ne_eqb, lt-ltb, le-ltb, ltb-true, ltb-false}
use Rattle.plan.specs.Tree.{Own, scope, is_scope, has_undo, Act, act, Acts, none, more, Plan, size, sizes, numbers_of, undo_part}
use Rattle.order.specs.Begin.{part, part_at}
use Rattle.undoing.specs.Answered.{surely, back_in}
use Rattle.order.specs.Lists.{every, some, only}
use Rattle.order.specs.State.{Name, root, inner}
use Rattle.undoing.specs.Demand3.{Inner, scopes_in, scopes_among, inside_of}
use Rattle.undoing.specs.Ties.{body_of, Place}
use Rattle.undoing.proofs.Parts.{both, decide, some-append, only-append, every_append}
use Rattle.undoing.proofs.Accounts.{phase, undoes}
use Rattle.undoing.proofs.Marks.{trio, Quiet, nth-later, Run, run-awaits, run-one, run-all, run-body, run-done, run-turned, Turned, turned-waits, turned-undoes, turned-heals, Stopped, stopped-part, stopped-quiet, stopped-scope, Undoing, undoing-part, undoing-scope, undoing-through, UndoingIn, undoing-here, undoing-later, quiet-part}
use Rattle.undoing.proofs.Orders.{inner_at, directs, Sits, sits-part, sits-scope, SitsIn, sits-none, sits-more}
use Rattle.undoing.proofs.Planning.{scopes-is}
use Rattle.undoing.proofs.Healing.{healers-bare}
use Rattle.undoing.proofs.Sure.{left_in}
use Rattle.undoing.proofs.Owing.{directly, directly_in, directly-is, directly-range, directly-range-in, undo_left_in, undo_left_among, undo-left-is, undo-quiet, undo-quiet-in, undo-run, undo-stopped, not-scope}
use Rattle.undoing.proofs.Repaying.{none-directly, later-directly, direct-scope}
use Rattle.undoing.proofs.Truly.{or_case}
use Rattle.undoing.proofs.Finding.{has_back, has_back_in, back_part, back_at, backs, backs_in, Back, its_back, backs-is, backs-part, backs-other, backs-in-is, backs-none, Whose, own_back_lem, body_back, whose, Shape, Shapes, shapes-none, shapes-more, shape-run, shape-stopped, shape-undoing, shape-quiet, within-shapes, body-shape}

-- what is to come of an undo part
abbrev pub left_of : Back → (marks : List ℕ) → List ℕ
left_of x ms = left_in x.tree x.at ms

-- The number of a scope with an undo part is one of the tree's.
mutual
  unfolding has_back size

  pub has-range : (a : Act) (k j : ℕ) → has_back a k j ≡ true → (k ≤ j) × (j < k + size a)
  has-range (act own within) k j h =
      decide (eqb k j)
      (λ e. let z : k ≡ j = eqb-true k j e in (omega arith, omega arith))
      (λ e. let r = has-range-in within (k + 1) j (ap (λ (z : Back). z.has) (sym (backs-other own within k j e)) ∙ h) in (omega arith, omega arith))

  pub has-range-in : (l : Acts) (c j : ℕ) → has_back_in l c j ≡ true → (c ≤ j) × (j < c + sizes l)
  has-range-in none c j h = absurd (backs-none c j h)
  has-range-in (more a l) c j h =
      decide (ltb j (c + size a))
      (λ e. let r = has-range a c j (ap (λ (z : Back). z.has) (sym (backs-in-is a l c j true e)) ∙ h) in (omega arith, omega arith))
      (λ e. let r = has-range-in l (c + size a) j (ap (λ (z : Back). z.has) (sym (backs-in-is a l c j false e)) ∙ h) in (omega arith, omega arith))

has-own : (own : Own) (within : Acts) (k : ℕ) → is_scope own ≡ true → has_undo own ≡ true → has_back (act own within) k k ≡ true
has-own own within k s u = ap (λ (z : Back). z.has) (backs-is own within k k true (rw (s, eq-eqb k k refl))) ∙ u

-- What holds of every scope of a tree that has an undo part holds of all of its scopes that have one.
mutual
  unfolding scopes_in has_back every only size

  pub every-scope : (f : ℕ → Bool) (a : Act) (k : ℕ) (n : Name) (ns : List Name) → ((j : ℕ) → has_back a k j ≡ true → f j ≡ true) → every (λ x. f x.number) (only (λ x. x.undoes) (scopes_in a k n ns)) ≡ true
  every-scope f (act own within) k n ns h =
      decide (is_scope own)
      (λ s. ap (λ (l : List Inner). every (λ x. f x.number) (only (λ x. x.undoes) l)) (scopes-is own within k n ns true s)
      ∙ decide (has_undo own)
      (λ u. rw (u, h k (has-own own within k s u)) (every-scopes f within (k + 1) (inner k) [] (λ j g. deep j g)))
      (λ u. rw u (every-scopes f within (k + 1) (inner k) (n ∷ ns) (λ j g. deep j g))))
      (λ s. ap (λ (l : List Inner). every (λ x. f x.number) (only (λ x. x.undoes) l)) (scopes-is own within k n ns false s) ∙ every-scopes f within (k + 1) n ns (λ j g. deep j g))
    where
      deep : (j : ℕ) → has_back_in within (k + 1) j ≡ true → f j ≡ true
      deep j g =
          let r = has-range-in within (k + 1) j g in
          h j (ap (λ (z : Back). z.has) (backs-other own within k j (ne_eqb k j (omega arith))) ∙ g)

  every-scopes : (f : ℕ → Bool) (l : Acts) (c : ℕ) (n : Name) (ns : List Name) → ((j : ℕ) → has_back_in l c j ≡ true → f j ≡ true) → every (λ x. f x.number) (only (λ x. x.undoes) (scopes_among l c n ns)) ≡ true
  every-scopes f none c n ns h = refl
  every-scopes f (more a l) c n ns h =
      ap (every (λ x. f x.number)) (only-append (λ x. x.undoes) (scopes_in a c n ns) (scopes_among l (c + size a) n ns))
      ∙ every_append (λ x. f x.number) (only (λ x. x.undoes) (scopes_in a c n ns)) (only (λ x. x.undoes) (scopes_among l (c + size a) n ns))
      (every-scope f a c n ns (λ j g. let r = has-range a c j g in h j (ap (λ (z : Back). z.has) (backs-in-is a l c j true (lt-ltb j (c + size a) (omega arith))) ∙ g)))
      (every-scopes f l (c + size a) n ns (λ j g. let r = has-range-in l (c + size a) j g in h j (ap (λ (z : Back). z.has) (backs-in-is a l c j false (le-ltb j (c + size a) (omega arith))) ∙ g)))

-- that of a scope itself
undo-left-own : (own : Own) (within : Acts) (k : ℕ) (ms : List ℕ) → is_scope own ≡ true → undo_left_in (act own within) k ms ≡ left_of (its_back own within k) ms
unfolding undo_left_in
undo-left-own own within k ms s = rw s

-- What is to come of the undo part of a scope directly in a tree is to come there.
mutual
  unfolding undo_left_in some

  left-direct : (a : Act) (k e t : ℕ) (ms : List ℕ) → directly a k e ≡ true → some (eqb t) (left_of (backs a k e) ms) ≡ true → some (eqb t) (undo_left_in a k ms) ≡ true
  left-direct (act own within) k e t ms d h =
      decide (is_scope own)
      (λ s. let z = sym (directly-is own within k e true s) ∙ d in ap (some (eqb t)) (undo-left-own own within k ms s) ∙ (ap (λ (x : Back). some (eqb t) (left_of x ms)) (sym (backs-is own within k e true (rw (s, z)))) ∙ h))
      (λ s. ap (some (eqb t)) (undo-left-is own within k ms s)
      ∙ left-directs within (k + 1) e t ms (sym (directly-is own within k e false s) ∙ d) (ap (λ (x : Back). some (eqb t) (left_of x ms)) (sym (backs-part own within k e s)) ∙ h))

  left-directs : (l : Acts) (c e t : ℕ) (ms : List ℕ) → directly_in l c e ≡ true → some (eqb t) (left_of (backs_in l c e) ms) ≡ true → some (eqb t) (undo_left_among l c ms) ≡ true
  left-directs none c e t ms d h = absurd (none-directly c e d)
  left-directs (more a l) c e t ms d h =
      some-append (eqb t) (undo_left_in a c ms) (undo_left_among l (c + size a) ms)
      ∙ decide (directly a c e)
      (λ i. rw (left-direct a c e t ms i (ap (λ (x : Back). some (eqb t) (left_of x ms)) (sym (backs-in-is a l c e true (lt-ltb e (c + size a) (directly-range a c e i).1))) ∙ h)))
      (λ i. let j = later-directly a l c e d i in
      rw (left-directs l (c + size a) e t ms j (ap (λ (x : Back). some (eqb t) (left_of x ms)) (sym (backs-in-is a l c e false (le-ltb e (c + size a) (directly-range-in l (c + size a) e j).0))) ∙ h), or-true))

none_left : {l : List ℕ} (t : ℕ) → l ≡ [] → some (eqb t) l ≡ true → ⊥
unfolding some
none_left {l} t e h = false≢true (sym (ap (some (eqb t)) e) ∙ h)

-- In the body of a scope that undoes one undo part runs, so that of two with something to come both are the same.
mutual
  unfolding size

  undoing-one : {p : Plan} {x : Place} {a : Act} {k : ℕ} {ms : List ℕ} → Sits p x a k → Undoing ms a k → (e d s t : ℕ) → directly a k e ≡ true → directly a k d ≡ true
      → some (eqb s) (left_of (backs a k e) ms) ≡ true → some (eqb t) (left_of (backs a k d) ms) ≡ true → e ≡ d
  undoing-one {ms = ms} (sits-part {own = own} {within} {k} i g v y l) (undoing-part _ _ r) e d s t a b h j =
      undoing-ones l r e d s t (sym (directly-is own within k e false i) ∙ a) (sym (directly-is own within k d false i) ∙ b)
      (ap (λ (x : Back). some (eqb s) (left_of x ms)) (sym (backs-part own within k e i)) ∙ h) (ap (λ (x : Back). some (eqb t) (left_of x ms)) (sym (backs-part own within k d i)) ∙ j)
  undoing-one (sits-part i g v y l) (undoing-scope _ _ _) e d s t a b h j = absurd (not-scope i)
  undoing-one (sits-part i g v y l) (undoing-through _ _ _) e d s t a b h j = absurd (not-scope i)
  undoing-one (sits-scope {xs = xs} {v = v₀} {b = b₀} {f} {u} {k} kn v i sb z) r e d s t a b h j =
      let x = eqb-true k e (direct-scope xs v₀ (trio b₀ f u) k e a) in let y = eqb-true k d (direct-scope xs v₀ (trio b₀ f u) k d b) in sym x ∙ y

  undoing-ones : {p : Plan} {x : Place} {l : Acts} {c : ℕ} {ms : List ℕ} → SitsIn p x l c → UndoingIn ms l c → (e d s t : ℕ) → directly_in l c e ≡ true → directly_in l c d ≡ true
      → some (eqb s) (left_of (backs_in l c e) ms) ≡ true → some (eqb t) (left_of (backs_in l c d) ms) ≡ true → e ≡ d
  undoing-ones {p = p} {ms = ms} (sits-none {q = q} {c = c}) w e d s t x z h j = elim w [ ]
  undoing-ones {ms = ms} (sits-more {a = a} {l} {c} i y) (undoing-here r q) e d s t x z h j =
      undoing-one i r e d s t (here e s x h) (here d t z j)
      (ap (λ (v : Back). some (eqb s) (left_of v ms)) (sym (first_back e (here e s x h))) ∙ h) (ap (λ (v : Back). some (eqb t) (left_of v ms)) (sym (first_back d (here d t z j))) ∙ j)
    where
      first_back : (e : ℕ) → directly a c e ≡ true → backs_in (more a l) c e ≡ backs a c e
      first_back e w = backs-in-is a l c e true (lt-ltb e (c + size a) (directly-range a c e w).1)

      -- the others are quiet
      here : (e s : ℕ) → directly_in (more a l) c e ≡ true → some (eqb s) (left_of (backs_in (more a l) c e) ms) ≡ true → directly a c e ≡ true
      here e s x h =
          decide (directly a c e) (λ w. w)
          (λ w. let n = later-directly a l c e x w in
          absurd (none_left s (undo-quiet-in y ms q)
          (left-directs l (c + size a) e s ms n (ap (λ (v : Back). some (eqb s) (left_of v ms)) (sym (backs-in-is a l c e false (le-ltb e (c + size a) (directly-range-in l (c + size a) e n).0))) ∙ h))))
  undoing-ones {ms = ms} (sits-more {a = a} {l} {c} i y) (undoing-later q r) e d s t x z h j =
      undoing-ones y r e d s t (later e s x h) (later d t z j)
      (ap (λ (v : Back). some (eqb s) (left_of v ms)) (sym (later-back e (later e s x h))) ∙ h) (ap (λ (v : Back). some (eqb t) (left_of v ms)) (sym (later-back d (later d t z j))) ∙ j)
    where
      later-back : (e : ℕ) → directly_in l (c + size a) e ≡ true → backs_in (more a l) c e ≡ backs_in l (c + size a) e
      later-back e w = backs-in-is a l c e false (le-ltb e (c + size a) (directly-range-in l (c + size a) e w).0)

      later : (e s : ℕ) → directly_in (more a l) c e ≡ true → some (eqb s) (left_of (backs_in (more a l) c e) ms) ≡ true → directly_in l (c + size a) e ≡ true
      later e s x h =
          decide (directly a c e)
          (λ w. absurd (none_left s (undo-quiet i ms q)
          (left-direct a c e s ms w (ap (λ (v : Back). some (eqb s) (left_of v ms)) (sym (backs-in-is a l c e true (lt-ltb e (c + size a) (directly-range a c e w).1))) ∙ h))))
          (λ w. later-directly a l c e x w)

-- How the body of a scope stands, by its mark: none of the undo parts directly in it has anything to come; or the scope undoes, and one of them runs.
pub data Body (ms : List ℕ) (mark : ℕ) (b : Act) (k : ℕ) : Type 0 where
  body-calm : undo_left_in b k ms ≡ [] → Body ms mark b k
  body-undoes : {w : Bool} → phase mark ≡ undoes w → Undoing ms b k → Body ms mark b k

pub turned-body : {p : Plan} {x : Place} {ms xs : List ℕ} {m kb kf : ℕ} {b : Act} {l : Acts} → Sits p x b kb → Turned ms xs m b kb l kf → Body ms m b kb
turned-body s (turned-waits e r _ _) = body-calm (undo-stopped s r)
turned-body s (turned-undoes e r _) = body-undoes e r
turned-body {ms = ms} s (turned-heals e q _) = body-calm (undo-quiet s ms q)

scope-body : {p : Plan} {x : Place} {ms xs : List ℕ} {b f : Act} {u : Acts} {k : ℕ} → Sits p x b (k + 1) → Shape ms (act (scope xs true) (trio b f u)) k → Body ms (get_or ms k 0) b (k + 1)
unfolding size
scope-body s (shape-run (run-awaits i _ _ _)) = absurd (not-scope i)
scope-body s (shape-run (run-one i _ _)) = absurd (not-scope i)
scope-body s (shape-run (run-body _ r _)) = body-calm (undo-run s r)
scope-body {ms = ms} s (shape-run (run-done _ q)) = body-calm (undo-quiet s ms (quiet-part q (omega arith) (omega arith)))
scope-body s (shape-run (run-turned t)) = turned-body s t
scope-body s (shape-stopped (stopped-part i _ _)) = absurd (not-scope i)
scope-body {ms = ms} s (shape-stopped (stopped-quiet q)) = body-calm (undo-quiet s ms (quiet-part q (omega arith) (omega arith)))
scope-body s (shape-stopped (stopped-scope t)) = turned-body s t
scope-body s (shape-undoing (undoing-part i _ _)) = absurd (not-scope i)
scope-body {ms = ms} s (shape-undoing (undoing-scope _ _ (nth-later q _))) = body-calm (undo-quiet s ms q)
scope-body {ms = ms} s (shape-quiet q) = body-calm (undo-quiet s ms (quiet-part q (omega arith) (omega arith)))

-- Where the body of a scope stands, in a tree of so many numbers from k on, that has these undo parts.
pub record PlacedAt (p : Plan) (ms : List ℕ) (mark : ℕ) (n : Name) (k many : ℕ) (all : ℕ → Back) : Type 0 where
  pub body : Act
  pub at : ℕ
  pub last : Name
  pub sits : Sits p (body_of n [] last) body at
  pub inside : inside_of p n ≡ directs body at n []
  pub stands : Body ms mark body at
  pub from : k ≤ at
  pub to : at + size body ≤ k + many
  pub here : (e : ℕ) → directly body at e ≡ true → all e ≡ backs body at e

abbrev pub Placed : Plan → (marks : List ℕ) → (mark : ℕ) → Name → Act → ℕ → Type 0
Placed p ms m n a k = PlacedAt p ms m n k (size a) (backs a k)

abbrev PlacedIn : Plan → (marks : List ℕ) → (mark : ℕ) → Name → Acts → ℕ → Type 0
PlacedIn p ms m n l c = PlacedAt p ms m n c (sizes l) (backs_in l c)

mutual
  unfolding size

  pub placed : {p : Plan} {q : Place} {a : Act} {k : ℕ} {ms : List ℕ} → Sits p q a k → Shape ms a k → (j : ℕ) → has_back a k j ≡ true → Placed p ms (get_or ms j 0) (inner j) a k
  placed {p = p} {ms = ms} (sits-part {own = own} {within} {k} s g v y l) sh j h =
      let x = placed-in l (within-shapes s sh) j (ap (λ (z : Back). z.has) (sym (backs-part own within k j s)) ∙ h) in
      record {
        body = x.body;
        at = x.at;
        last = x.last;
        sits = x.sits;
        inside = x.inside;
        stands = x.stands;
        from = let z = x.from in omega arith;
        to = let z = x.to in omega arith;
        here = λ e d. backs-part own within k e s ∙ x.here e d;
      }
  placed {p = p} {ms = ms} (sits-scope {xs = xs} {v = v₀} {n = n} {c = c} {ns = ns} {b = b} {f} {u} {k} kn v i sb z) sh j h =
      go (whose xs b (more f u) v₀ k (healers-bare z) j h) (λ hb. placed sb (body-shape sh) j hb)
    where
      body-back-is : (e : ℕ) → k + 1 ≤ e → e < k + 1 + size b → backs (act (scope xs v₀) (trio b f u)) k e ≡ backs b (k + 1) e
      body-back-is e lo hi = backs-other (scope xs v₀) (trio b f u) k e (ne_eqb k e (omega arith)) ∙ backs-in-is b (more f u) (k + 1) e true (lt-ltb e (k + 1 + size b) hi)

      own_body : v₀ ≡ true → Placed p ms (get_or ms k 0) (inner k) (act (scope xs v₀) (trio b f u)) k
      own_body e =
          let s₁ : Sits p (body_of (inner k) [] (cond v₀ n c)) b (k + 1) = subst (λ (m : List Name). Sits p (body_of (inner k) m (cond v₀ n c)) b (k + 1)) (ap (λ (w : Bool). cond w [] (n ∷ ns)) e) sb in
          record {
            body = b;
            at = k + 1;
            last = cond v₀ n c;
            sits = s₁;
            inside = i ∙ ap (λ (m : List Name). directs b (k + 1) (inner k) m) (ap (λ (w : Bool). cond w [] (n ∷ ns)) e);
            stands = scope-body s₁ (subst (λ (w : Bool). Shape ms (act (scope xs w) (trio b f u)) k) e sh);
            from = omega arith;
            to = omega arith;
            here = λ e d. let r = directly-range b (k + 1) e d in body-back-is e r.0 r.1;
          }

      go : Whose xs b (more f u) v₀ k j → (has_back b (k + 1) j ≡ true → Placed p ms (get_or ms j 0) (inner j) b (k + 1)) → Placed p ms (get_or ms j 0) (inner j) (act (scope xs v₀) (trio b f u)) k
      go (own_back_lem o d x) r = subst (λ (w : ℕ). Placed p ms (get_or ms w 0) (inner w) (act (scope xs v₀) (trio b f u)) k) o (own_body d)
      go (body_back hb x) r =
          let y = r hb in
          record {
            body = y.body;
            at = y.at;
            last = y.last;
            sits = y.sits;
            inside = y.inside;
            stands = y.stands;
            from = let w = y.from in omega arith;
            to = let w = y.to in omega arith;
            here = λ e d. let m = directly-range y.body y.at e d in let w = y.from in let w₁ = y.to in body-back-is e (omega arith) (omega arith) ∙ y.here e d;
          }

  placed-in : {p : Plan} {q : Place} {l : Acts} {c : ℕ} {ms : List ℕ} → SitsIn p q l c → Shapes ms l c → (j : ℕ) → has_back_in l c j ≡ true → PlacedIn p ms (get_or ms j 0) (inner j) l c
  placed-in (sits-none {c = c}) sh j h = absurd (backs-none c j h)
  placed-in {p = p} {ms = ms} (sits-more {a = a} {l} {c} s y) (shapes-more r q) j h =
      decide (ltb j (c + size a))
      (λ d. let x = placed s r j (ap (λ (z : Back). z.has) (sym (backs-in-is a l c j true d)) ∙ h) in
      record {
        body = x.body;
        at = x.at;
        last = x.last;
        sits = x.sits;
        inside = x.inside;
        stands = x.stands;
        from = x.from;
        to = let w = x.to in omega arith;
        here = λ e d. let m = directly-range x.body x.at e d in let w = x.to in backs-in-is a l c e true (lt-ltb e (c + size a) (omega arith)) ∙ x.here e d;
      })
      (λ d. let x = placed-in y q j (ap (λ (z : Back). z.has) (sym (backs-in-is a l c j false d)) ∙ h) in
      record {
        body = x.body;
        at = x.at;
        last = x.last;
        sits = x.sits;
        inside = x.inside;
        stands = x.stands;
        from = let w = x.from in omega arith;
        to = let w = x.to in omega arith;
        here = λ e d. let m = directly-range x.body x.at e d in let w = x.from in backs-in-is a l c e false (le-ltb e (c + size a) (omega arith)) ∙ x.here e d;
      })

-- the sure steps of the undo part of a scope directly in a tree
mutual
  pub direct-sure : (a : Act) (k e : ℕ) → directly a k e ≡ true → (backs a k e).sure ≡ surely (backs a k e).tree (backs a k e).at
  direct-sure (act own within) k e d =
      decide (is_scope own)
      (λ s. let x = backs-is own within k e true (rw (s, sym (directly-is own within k e true s) ∙ d)) in subst (λ (z : Back). z.sure ≡ surely z.tree z.at) (sym x) refl)
      (λ s. subst (λ (z : Back). z.sure ≡ surely z.tree z.at) (sym (backs-part own within k e s)) (direct-sures within (k + 1) e (sym (directly-is own within k e false s) ∙ d)))

  direct-sures : (l : Acts) (c e : ℕ) → directly_in l c e ≡ true → (backs_in l c e).sure ≡ surely (backs_in l c e).tree (backs_in l c e).at
  direct-sures none c e d = absurd (none-directly c e d)
  direct-sures (more a l) c e d =
      decide (directly a c e)
      (λ i. subst (λ (z : Back). z.sure ≡ surely z.tree z.at) (sym (backs-in-is a l c e true (lt-ltb e (c + size a) (directly-range a c e i).1))) (direct-sure a c e i))
      (λ i. let j = later-directly a l c e d i in
      subst (λ (z : Back). z.sure ≡ surely z.tree z.at) (sym (backs-in-is a l c e false (le-ltb e (c + size a) (directly-range-in l (c + size a) e j).0))) (direct-sures l (c + size a) e j))

-- What is to come in the body of a scope that takes back: one undo part at a time has any of it, and then the scope undoes.
module _ (p : Plan) (ms : List ℕ) (mark : ℕ) (n : Name) (a : Act) (k : ℕ) (x : Placed p ms mark n a k) where
  there-left : (e t : ℕ) → directly x.body x.at e ≡ true → some (eqb t) (left_of (backs a k e) ms) ≡ true → some (eqb t) (left_of (backs x.body x.at e) ms) ≡ true
  there-left e t d h = ap (λ (z : Back). some (eqb t) (left_of z ms)) (sym (x.here e d)) ∙ h

  pub left-undoes : {P : Type 0} (e t : ℕ) → directly x.body x.at e ≡ true → some (eqb t) (left_of (backs a k e) ms) ≡ true → ((w : Bool) → phase mark ≡ undoes w → P) → P
  left-undoes {P} e t d h f = go x.stands
    where
      go : Body ms mark x.body x.at → P
      go (body-calm c) = absurd (none_left t c (left-direct x.body x.at e t ms d (there-left e t d h)))
      go (body-undoes {w} u r) = f w u

  pub left-once : (e d s t : ℕ) → directly x.body x.at e ≡ true → directly x.body x.at d ≡ true → some (eqb s) (left_of (backs a k e) ms) ≡ true → some (eqb t) (left_of (backs a k d) ms) ≡ true → e ≡ d
  left-once e d s t i j f g = go x.stands
    where
      go : Body ms mark x.body x.at → e ≡ d
      go (body-calm c) = absurd (none_left s c (left-direct x.body x.at e s ms i (there-left e s i f)))
      go (body-undoes u r) = undoing-one x.sits r e d s t i j (there-left e s i f) (there-left d t j g)
