-- The undo part of any scope of a tree, at any depth; and that it runs where a step in it is awaited. Assumes nothing.
use Prim.Native.Nat.{ℕ, ◌+◌, ◌≤◌, ◌<◌}
use native.Mathlib.Omega.{arith}
use mathlib.Core.Path.{◌≡◌, refl, sym, ap, subst, ◌∙◌}
use mathlib.Core.Bool.{Bool, true, false, not, ◌&&◌, false≢true}
use mathlib.Core.List.{List}
use lib.Dec.{eqb, ltb}
use borrow.Author.Tests.{eqb-true, not-true}
use Rattle.plan.specs.Tree.{Own, empty, scope, kind, is_scope, has_undo, Act, act, Acts, none, more, Plan, size, sizes, numbers_of, general_part, undo_part}
use Rattle.order.specs.State.{Name}
use Rattle.order.specs.Begin.{part, part_at}
use Rattle.undoing.specs.Ties.{Place}
use Rattle.undoing.specs.Answered.{surely, back_in, back_among}
use Rattle.undoing.proofs.Parts.{both, decide}
use Rattle.undoing.proofs.Marks.{trio, nth-later, Quiet, Run, run-awaits, run-one, run-all, run-body, run-done, run-turned, All, all_none, all-run, all_quiet, Turned, turned-waits, turned-undoes, turned-heals, Stopped, stopped-part, stopped-quiet, stopped-scope, StoppedIn, stopped_none, stopped_more, Undoing, undoing-part, undoing-scope, undoing-through, UndoingIn, undoing-here, undoing-later, quiet-part}
use Rattle.undoing.proofs.Orders.{bare, bare_in, Sits, sits-part, sits-scope, SitsIn, sits-none, sits-more, Healers}
use Rattle.undoing.proofs.Waiting.{Waits, waits-itself, waits-within, WaitsIn, waits-first, waits-later, quiet-waits}
use Rattle.undoing.proofs.Remedies.{part-from, part-to, nth-run}
use Rattle.undoing.proofs.Healing.{waits-at, healers-bare, undo-there, undo-all, undo-turned}
use Rattle.undoing.proofs.Lessening.{one_each}
use Rattle.undoing.proofs.Owing.{not-scope}

-- whether scope e stands in activity k and has an undo part; that part; and its number
unfoldable mutual
  pub has_back : Act → (k e : ℕ) → Bool
  has_back (act own within) k e = elim (is_scope own && eqb k e) [ true ↦ has_undo own | false ↦ has_back_in within (k + 1) e ]

  pub has_back_in : Acts → (c e : ℕ) → Bool
  has_back_in none c e = false
  has_back_in (more a l) c e = elim (ltb e (c + size a)) [ true ↦ has_back a c e | false ↦ has_back_in l (c + size a) e ]

unfoldable mutual
  pub back_part : Act → (k e : ℕ) → Act
  back_part (act own within) k e = elim (is_scope own && eqb k e) [ true ↦ part (undo_part (numbers_of own)) within | false ↦ back_part_in within (k + 1) e ]

  pub back_part_in : Acts → (c e : ℕ) → Act
  back_part_in none c e = act empty none
  back_part_in (more a l) c e = elim (ltb e (c + size a)) [ true ↦ back_part a c e | false ↦ back_part_in l (c + size a) e ]

unfoldable mutual
  pub back_at : Act → (k e : ℕ) → ℕ
  back_at (act own within) k e = elim (is_scope own && eqb k e) [ true ↦ part_at (undo_part (numbers_of own)) within (k + 1) | false ↦ back_at_in within (k + 1) e ]

  pub back_at_in : Acts → (c e : ℕ) → ℕ
  back_at_in none c e = c
  back_at_in (more a l) c e = elim (ltb e (c + size a)) [ true ↦ back_at a c e | false ↦ back_at_in l (c + size a) e ]

-- by whether an activity is the scope, and by which of a list has it
pub record Back : Type 0 where
  pub has : Bool
  pub tree : Act
  pub at : ℕ
  pub sure : List ℕ

abbrev pub backs : Act → (k e : ℕ) → Back
backs a k e = record { has = has_back a k e; tree = back_part a k e; at = back_at a k e; sure = back_in a k e }

abbrev pub backs_in : Acts → (c e : ℕ) → Back
backs_in l c e = record { has = has_back_in l c e; tree = back_part_in l c e; at = back_at_in l c e; sure = back_among l c e }

abbrev pub one_of : Bool → Back → Back → Back
one_of b x y =
    record {
      has = elim b [ true ↦ x.has | false ↦ y.has ];
      tree = elim b [ true ↦ x.tree | false ↦ y.tree ];
      at = elim b [ true ↦ x.at | false ↦ y.at ];
      sure = elim b [ true ↦ x.sure | false ↦ y.sure ];
    }

abbrev pub its_back : Own → (within : Acts) → (k : ℕ) → Back
its_back own within k =
    record {
      has = has_undo own;
      tree = part (undo_part (numbers_of own)) within;
      at = part_at (undo_part (numbers_of own)) within (k + 1);
      sure = surely (part (undo_part (numbers_of own)) within) (part_at (undo_part (numbers_of own)) within (k + 1));
    }

pub backs-is : (own : Own) (within : Acts) (k e : ℕ) (b : Bool) → (is_scope own && eqb k e) ≡ b → backs (act own within) k e ≡ one_of b (its_back own within k) (backs_in within (k + 1) e)
unfolding has_back back_part back_at back_in
backs-is own within k e b t = subst (λ (z : Bool). backs (act own within) k e ≡ one_of z (its_back own within k) (backs_in within (k + 1) e)) t refl

pub backs-in-is : (a : Act) (l : Acts) (c e : ℕ) (b : Bool) → ltb e (c + size a) ≡ b → backs_in (more a l) c e ≡ one_of b (backs a c e) (backs_in l (c + size a) e)
unfolding has_back back_part back_at back_in
backs-in-is a l c e b t = subst (λ (z : Bool). backs_in (more a l) c e ≡ one_of z (backs a c e) (backs_in l (c + size a) e)) t refl

pub backs-none : (c e : ℕ) → has_back_in none c e ≡ true → ⊥
unfolding has_back
backs-none c e h = false≢true h

-- of an activity other than a scope, of one that is another, and of the scope
pub backs-part : (own : Own) (within : Acts) (k e : ℕ) → is_scope own ≡ false → backs (act own within) k e ≡ backs_in within (k + 1) e
backs-part own within k e s = backs-is own within k e false (rw s)

pub backs-other : (own : Own) (within : Acts) (k e : ℕ) → eqb k e ≡ false → backs (act own within) k e ≡ backs_in within (k + 1) e
backs-other own within k e t = backs-is own within k e false (decide (is_scope own) (λ s. rw (s, t)) (λ s. rw s))

-- that of a scope, by its parts after its body
abbrev pub own_back : (numbers : List ℕ) → (undo : Bool) → (body : Act) → Acts → (k : ℕ) → Back
own_back xs v b l k =
    record {
      has = v;
      tree = part (general_part xs) l;
      at = part_at (general_part xs) l (k + 1 + size b);
      sure = surely (part (general_part xs) l) (part_at (general_part xs) l (k + 1 + size b));
    }

pub backs-own : (xs : List ℕ) (v : Bool) (b : Act) (l : Acts) (k e : ℕ) → eqb k e ≡ true → backs (act (scope xs v) (more b l)) k e ≡ own_back xs v b l k
unfolding part part_at
backs-own xs v b l k e t = backs-is (scope xs v) (more b l) k e true t

-- none where there is no scope
mutual
  unfolding bare

  pub bare-backs : (a : Act) (k e : ℕ) → bare a ≡ true → has_back a k e ≡ false
  bare-backs (act own within) k e h =
      both (not (is_scope own)) (bare_in within) h (λ x y. ap (λ (z : Back). z.has) (backs-part own within k e (not-true (is_scope own) x)) ∙ bare-backs-in within (k + 1) e y)

  bare-backs-in : (l : Acts) (c e : ℕ) → bare_in l ≡ true → has_back_in l c e ≡ false
  bare-backs-in none c e h = decide (has_back_in none c e) (λ t. absurd (backs-none c e t)) (λ t. t)
  bare-backs-in (more a l) c e h =
      both (bare a) (bare_in l) h (λ x y. decide (ltb e (c + size a))
      (λ t. ap (λ (z : Back). z.has) (backs-in-is a l c e true t) ∙ bare-backs a c e x)
      (λ t. ap (λ (z : Back). z.has) (backs-in-is a l c e false t) ∙ bare-backs-in l (c + size a) e y))

-- Where the undo part of scope e is: of a scope, its own, or one in its body.
pub data Whose (xs : List ℕ) (b : Act) (l : Acts) (v : Bool) (k e : ℕ) : Type 0 where
  own_back_lem : k ≡ e → v ≡ true → backs (act (scope xs v) (more b l)) k e ≡ own_back xs v b l k → Whose xs b l v k e
  body_back : has_back b (k + 1) e ≡ true → backs (act (scope xs v) (more b l)) k e ≡ backs b (k + 1) e → Whose xs b l v k e

pub whose : (xs : List ℕ) (b : Act) (l : Acts) (v : Bool) (k : ℕ) → bare_in l ≡ true → (e : ℕ) → has_back (act (scope xs v) (more b l)) k e ≡ true → Whose xs b l v k e
whose xs b l v k n e h =
    decide (eqb k e)
    (λ t. let x = backs-own xs v b l k e t in own_back_lem (eqb-true k e t) (ap (λ (z : Back). z.has) (sym x) ∙ h) x)
    (λ t. let x = backs-other (scope xs v) (more b l) k e t in
    decide (ltb e (k + 1 + size b))
    (λ i. let y = x ∙ backs-in-is b l (k + 1) e true i in body_back (ap (λ (z : Back). z.has) (sym y) ∙ h) y)
    (λ i. let y = x ∙ backs-in-is b l (k + 1) e false i in absurd (false≢true (sym (bare-backs-in l (k + 1 + size b) e n) ∙ (ap (λ (z : Back). z.has) (sym y) ∙ h)))))

-- its numbers are those of the activity, after the first
abbrev pub Spans : (k n : ℕ) → Back → Type 0
Spans k n x = (k ≤ x.at) × (x.at + size x.tree ≤ k + n)

mutual
  unfolding size

  pub back-spans : {p : Plan} {q : Place} {a : Act} {k : ℕ} → Sits p q a k → (e : ℕ) → has_back a k e ≡ true → Spans (k + 1) (size a) (backs a k e) × (back_at a k e + size (back_part a k e) ≤ k + size a)
  back-spans (sits-part {own = own} {within} {k} s g v y l) e h =
      let x = backs-part own within k e s in
      let r = back-spans-in l e (ap (λ (z : Back). z.has) (sym x) ∙ h) in
      subst (λ (z : Back). Spans (k + 1) (1 + sizes within) z × (z.at + size z.tree ≤ k + (1 + sizes within))) (sym x) ((omega arith, omega arith), omega arith)
  back-spans (sits-scope {xs = xs} {v = v₀} {b = b} {f} {u} {k} kn v i sb z) e h = go (whose xs b (more f u) v₀ k (healers-bare z) e h) (λ hb. back-spans sb e hb)
    where
      go : Whose xs b (more f u) v₀ k e → (has_back b (k + 1) e ≡ true → Spans (k + 1 + 1) (size b) (backs b (k + 1) e) × (back_at b (k + 1) e + size (back_part b (k + 1) e) ≤ k + 1 + size b))
          → Spans (k + 1) (1 + (size b + (size f + sizes u))) (backs (act (scope xs v₀) (trio b f u)) k e)
          × (back_at (act (scope xs v₀) (trio b f u)) k e + size (back_part (act (scope xs v₀) (trio b f u)) k e) ≤ k + (1 + (size b + (size f + sizes u))))
      go (own_back_lem o d x) r =
          let lo = part-from (general_part xs) (more f u) (k + 1 + size b) in
          let hi = part-to (general_part xs) (more f u) (k + 1 + size b) (undo-there z d) in
          subst (λ (z : Back). Spans (k + 1) (1 + (size b + (size f + sizes u))) z × (z.at + size z.tree ≤ k + (1 + (size b + (size f + sizes u))))) (sym x) ((omega arith, omega arith), omega arith)
      go (body_back hb x) r =
          let i = r hb in
          subst (λ (z : Back). Spans (k + 1) (1 + (size b + (size f + sizes u))) z × (z.at + size z.tree ≤ k + (1 + (size b + (size f + sizes u))))) (sym x) ((omega arith, omega arith), omega arith)

  pub back-spans-in : {p : Plan} {q : Place} {l : Acts} {c : ℕ} → SitsIn p q l c → (e : ℕ) → has_back_in l c e ≡ true → Spans c (sizes l) (backs_in l c e) × (c ≤ c)
  back-spans-in (sits-none {c = c}) e h = absurd (backs-none c e h)
  back-spans-in (sits-more {a = a} {l} {c} s y) e h =
      decide (ltb e (c + size a))
      (λ t. let x = backs-in-is a l c e true t in
      let r = back-spans s e (ap (λ (z : Back). z.has) (sym x) ∙ h) in subst (λ (z : Back). Spans c (size a + sizes l) z × (c ≤ c)) (sym x) ((omega arith, omega arith), omega arith))
      (λ t. let x = backs-in-is a l c e false t in
      let r = back-spans-in y e (ap (λ (z : Back). z.has) (sym x) ∙ h) in subst (λ (z : Back). Spans c (size a + sizes l) z × (c ≤ c)) (sym x) ((omega arith, omega arith), omega arith))

-- How an activity of an order that stands stands: it runs, is stopped, has an undo part in it that runs, or is quiet.
pub data Shape (ms : List ℕ) (a : Act) (k : ℕ) : Type 0 where
  shape-run : Run ms a k → Shape ms a k
  shape-stopped : Stopped ms a k → Shape ms a k
  shape-undoing : Undoing ms a k → Shape ms a k
  shape-quiet : Quiet ms k (size a) → Shape ms a k

pub data Shapes (ms : List ℕ) : Acts → ℕ → Type 0 where
  shapes-none : {c : ℕ} → Shapes ms none c
  shapes-more : {a : Act} {l : Acts} {c : ℕ} → Shape ms a c → Shapes ms l (c + size a) → Shapes ms (more a l) c

quiet-shapes : {ms : List ℕ} (l : Acts) (c : ℕ) → Quiet ms c (sizes l) → Shapes ms l c
unfolding size
quiet-shapes none c q = shapes-none
quiet-shapes (more a l) c q = shapes-more {a = a} {l = l} {c = c} (shape-quiet (quiet-part q (omega arith) (omega arith))) (quiet-shapes l (c + size a) (quiet-part q (omega arith) (omega arith)))

all-shapes : {ms : List ℕ} {l : Acts} {c : ℕ} → All ms l c → Shapes ms l c
all-shapes all_none = shapes-none
all-shapes (all-run r q) = shapes-more (shape-run r) (all-shapes q)
all-shapes (all_quiet r q) = shapes-more (shape-quiet r) (all-shapes q)

stopped-shapes : {ms : List ℕ} {l : Acts} {c : ℕ} → StoppedIn ms l c → Shapes ms l c
stopped-shapes stopped_none = shapes-none
stopped-shapes (stopped_more r q) = shapes-more (shape-stopped r) (stopped-shapes q)

undoing-shapes : {ms : List ℕ} {l : Acts} {c : ℕ} → UndoingIn ms l c → Shapes ms l c
undoing-shapes (undoing-here {a} {l} {c} r q) = shapes-more (shape-undoing r) (quiet-shapes l (c + size a) q)
undoing-shapes (undoing-later q r) = shapes-more (shape-quiet q) (undoing-shapes r)

-- what stands in an activity other than a scope
pub within-shapes : {ms : List ℕ} {own : Own} {within : Acts} {k : ℕ} → is_scope own ≡ false → Shape ms (act own within) k → Shapes ms within (k + 1)
unfolding size kind
within-shapes {within = within} {k} s (shape-run (run-awaits _ _ _ q)) = quiet-shapes within (k + 1) q
within-shapes s (shape-run (run-one _ _ r)) = all-shapes (one_each r)
within-shapes s (shape-run (run-all _ r _)) = all-shapes r
within-shapes s (shape-run (run-body _ _ _)) = absurd (not-scope s)
within-shapes s (shape-run (run-done _ _)) = absurd (not-scope s)
within-shapes s (shape-run (run-turned _)) = absurd (not-scope s)
within-shapes s (shape-stopped (stopped-part _ _ r)) = stopped-shapes r
within-shapes {within = within} {k} s (shape-stopped (stopped-quiet q)) = quiet-shapes within (k + 1) (quiet-part q (omega arith) (omega arith))
within-shapes s (shape-stopped (stopped-scope _)) = absurd (not-scope s)
within-shapes s (shape-undoing (undoing-part _ _ r)) = undoing-shapes r
within-shapes s (shape-undoing (undoing-scope _ _ _)) = absurd (not-scope s)
within-shapes s (shape-undoing (undoing-through _ _ _)) = absurd (not-scope s)
within-shapes {within = within} {k} s (shape-quiet q) = quiet-shapes within (k + 1) (quiet-part q (omega arith) (omega arith))

-- the body of a scope
pub turned-shape : {ms xs : List ℕ} {m kb kf : ℕ} {b : Act} {l : Acts} → Turned ms xs m b kb l kf → Shape ms b kb
turned-shape (turned-waits _ r _ _) = shape-stopped r
turned-shape (turned-undoes _ r _) = shape-undoing r
turned-shape (turned-heals _ q _) = shape-quiet q

pub body-shape : {ms xs : List ℕ} {v : Bool} {b f : Act} {u : Acts} {k : ℕ} → Shape ms (act (scope xs v) (trio b f u)) k → Shape ms b (k + 1)
unfolding size
body-shape (shape-run (run-awaits s _ _ _)) = absurd (not-scope s)
body-shape (shape-run (run-one s _ _)) = absurd (not-scope s)
body-shape (shape-run (run-body _ r _)) = shape-run r
body-shape (shape-run (run-done _ q)) = shape-quiet (quiet-part q (omega arith) (omega arith))
body-shape (shape-run (run-turned t)) = turned-shape t
body-shape (shape-stopped (stopped-part s _ _)) = absurd (not-scope s)
body-shape (shape-stopped (stopped-quiet q)) = shape-quiet (quiet-part q (omega arith) (omega arith))
body-shape (shape-stopped (stopped-scope t)) = turned-shape t
body-shape (shape-undoing (undoing-part s _ _)) = absurd (not-scope s)
body-shape (shape-undoing (undoing-scope _ _ (nth-later q _))) = shape-quiet q
body-shape (shape-undoing (undoing-through _ r _)) = shape-undoing r
body-shape (shape-quiet q) = shape-quiet (quiet-part q (omega arith) (omega arith))

-- its undo part, where something in it awaits
undo-runs : {p : Plan} {s : Name} {ms xs : List ℕ} {v : Bool} {q₀ q₁ : Place} {b f : Act} {u : Acts} {k t : ℕ} → Shape ms (act (scope xs v) (trio b f u)) k
    → Healers p s xs v q₀ q₁ (more f u) (k + 1 + size b) → v ≡ true → Waits ms (part (general_part xs) (more f u)) (part_at (general_part xs) (more f u) (k + 1 + size b)) t false
    → Run ms (part (general_part xs) (more f u)) (part_at (general_part xs) (more f u) (k + 1 + size b))
unfolding size part part_at
undo-runs (shape-run (run-awaits s _ _ _)) z e w = absurd (not-scope s)
undo-runs (shape-run (run-one s _ _)) z e w = absurd (not-scope s)
undo-runs (shape-run (run-body _ _ q)) z e w = absurd (quiet-waits w refl (undo-all z e q))
undo-runs (shape-run (run-done _ q)) z e w = absurd (quiet-waits w refl (undo-all z e (quiet-part q (omega arith) (omega arith))))
undo-runs (shape-run (run-turned t)) z e w = absurd (quiet-waits w refl (undo-turned z e t))
undo-runs (shape-stopped (stopped-part s _ _)) z e w = absurd (not-scope s)
undo-runs (shape-stopped (stopped-quiet q)) z e w = absurd (quiet-waits w refl (undo-all z e (quiet-part q (omega arith) (omega arith))))
undo-runs (shape-stopped (stopped-scope t)) z e w = absurd (quiet-waits w refl (undo-turned z e t))
undo-runs (shape-undoing (undoing-part s _ _)) z e w = absurd (not-scope s)
undo-runs (shape-undoing (undoing-scope _ _ r)) z e w = nth-run r
undo-runs (shape-undoing (undoing-through _ _ _)) z e w = absurd (false≢true e)
undo-runs (shape-quiet q) z e w = absurd (quiet-waits w refl (undo-all z e (quiet-part q (omega arith) (omega arith))))

-- The undo part runs, and the step in it is awaited.
abbrev pub Inside : (t : ℕ) → Back → Type 0
Inside t x = (x.at ≤ t) × (t < x.at + size x.tree)

pub record Runs (ms : List ℕ) (t : ℕ) (x : Back) : Type 0 where
  pub runs : Run ms x.tree x.at
  pub waits : Waits ms x.tree x.at t false

mutual
  unfolding size kind

  pub find : {p : Plan} {q : Place} {a : Act} {k : ℕ} → Sits p q a k → {ms : List ℕ} {t : ℕ} {b : Bool} → Shape ms a k → Waits ms a k t b → (e : ℕ) → has_back a k e ≡ true → Inside t (backs a k e) → Runs ms t (backs a k e)
  find (sits-part {own = own} {within} {k} s g v y l) sh (waits-itself z w) e h i = let r = back-spans (sits-part s g v y l) e h in absurd (omega arith)
  find (sits-part {own = own} {within} {k} s g v y l) {ms} {t} sh (waits-within z w) e h i =
      let x = backs-part own within k e s in
      subst (Runs ms t) (sym x) (find-in l (within-shapes s sh) w e (ap (λ (z : Back). z.has) (sym x) ∙ h) (subst (Inside t) x i))
  find (sits-scope {xs = xs} {v = v₀} {b = b} {f} {u} {k} kn v j sb z) sh (waits-itself y w) e h i = let r = back-spans (sits-scope kn v j sb z) e h in absurd (omega arith)
  find (sits-scope {xs = xs} {v = v₀} {b = b} {f} {u} {k} kn v j sb z) {ms} {t} sh (waits-within y w) e h i =
      go (whose xs b (more f u) v₀ k (healers-bare z) e h) w (λ n hb i₁. find sb (body-shape sh) n e hb i₁) (λ hb. back-spans sb e hb)
    where
      go : Whose xs b (more f u) v₀ k e → WaitsIn ms (trio b f u) (k + 1) t false
          → (Waits ms b (k + 1) t false → has_back b (k + 1) e ≡ true → Inside t (backs b (k + 1) e) → Runs ms t (backs b (k + 1) e))
          → (has_back b (k + 1) e ≡ true → Spans (k + 1 + 1) (size b) (backs b (k + 1) e) × (back_at b (k + 1) e + size (back_part b (k + 1) e) ≤ k + 1 + size b))
          → Runs ms t (backs (act (scope xs v₀) (trio b f u)) k e)
      go (own_back_lem o₁ d x) (waits-first m n) r r₁ = let i₁ = subst (Inside t) x i in let lo = part-from (general_part xs) (more f u) (k + 1 + size b) in absurd (omega arith)
      go (own_back_lem o₁ d x) (waits-later m n) r r₁ =
          let i₁ = subst (Inside t) x i in
          let c = waits-at n (general_part xs) (undo-there z d) i₁.0 i₁.1 in subst (Runs ms t) (sym x) (record { runs = undo-runs sh z d c; waits = c })
      go (body_back hb x) (waits-first m n) r r₁ = subst (Runs ms t) (sym x) (r n hb (subst (Inside t) x i))
      go (body_back hb x) (waits-later m n) r r₁ = let i₁ = subst (Inside t) x i in let r₂ = r₁ hb in absurd (omega arith)

  find-in : {p : Plan} {q : Place} {l : Acts} {c : ℕ} → SitsIn p q l c → {ms : List ℕ} {t : ℕ} {b : Bool} → Shapes ms l c → WaitsIn ms l c t b → (e : ℕ) → has_back_in l c e ≡ true → Inside t (backs_in l c e) → Runs ms t (backs_in l c e)
  find-in (sits-none {c = c}) sh w e h i = absurd (backs-none c e h)
  find-in (sits-more {a = a} {l} {c} s y) {ms} {t} (shapes-more r q) (waits-first z w) e h i =
      decide (ltb e (c + size a))
      (λ d. let x = backs-in-is a l c e true d in subst (Runs ms t) (sym x) (find s r w e (ap (λ (z : Back). z.has) (sym x) ∙ h) (subst (Inside t) x i)))
      (λ d. let x = backs-in-is a l c e false d in
      let n = back-spans-in y e (ap (λ (z : Back). z.has) (sym x) ∙ h) in let i₁ = subst (Inside t) x i in absurd (omega arith))
  find-in (sits-more {a = a} {l} {c} s y) {ms} {t} (shapes-more r q) (waits-later z w) e h i =
      decide (ltb e (c + size a))
      (λ d. let x = backs-in-is a l c e true d in
      let n = back-spans s e (ap (λ (z : Back). z.has) (sym x) ∙ h) in let i₁ = subst (Inside t) x i in absurd (omega arith))
      (λ d. let x = backs-in-is a l c e false d in subst (Runs ms t) (sym x) (find-in y q w e (ap (λ (z : Back). z.has) (sym x) ∙ h) (subst (Inside t) x i)))
