-- What is still to come of an undo part, by the marks before and after one time that a step goes through its order: where the part did not begin with it, nothing
-- that was not to come before, and the step itself no longer. Assumes nothing.
use Prim.Native.Nat.{ℕ, zero, suc, ◌+◌, ◌≤◌, ◌<◌}
use native.Mathlib.Omega.{arith}
use mathlib.Core.Path.{◌≡◌, refl, sym, ap, subst, ◌∙◌}
use mathlib.Core.Bool.{Bool, true, false, cond, not, ◌&&◌, ◌||◌, false≢true, or-true, or-false}
use mathlib.Core.List.{List, [], ◌∷◌, ◌++◌}
use lib.ListN.{get_or}
use lib.Dec.{eqb, ltb}
use borrow.Author.Tests.{eqb-true, eqb-false, eq-eqb, ltb-true, ltb-false}
use Rattle.plan.specs.Tree.{Own, empty, send, receive, set as setting, raise, leave, choose, repeat, sequence, flow, pick, scope, arm, kind, is_scope, Act, act, Acts, none, more, size, sizes, to_partner, to_held, from_partner, from_asking}
use Rattle.order.specs.Lists.{some}
use Rattle.order.specs.State.{idle, active}
use Rattle.order.specs.Event.{Event}
use Rattle.order.specs.Begin.{quiet}
use Rattle.undoing.specs.Begun.{acts, has_began, Lead, together, in_order, lead_of, may_lead}
use Rattle.undoing.specs.Answered.{is_sure, has_all, surely, surely_among}
use Rattle.undoing.proofs.Parts.{both, decide, some-append}
use Rattle.undoing.proofs.Marks.{is_doer, run-loud, Quiet, Run, run-awaits, run-one, run-all, One, one-here, one_later, All, all-run, all_quiet}
use Rattle.undoing.proofs.Orders.{bare, bare_in}
use Rattle.undoing.proofs.Waiting.{waits-from, Waits, waits-itself, waits-within, WaitsIn, waits-first, waits-later, quiet-waits, quiet-waits-in}
use Rattle.undoing.proofs.Combining.{quiet_told, quiet-found}
use Rattle.undoing.proofs.Truly.{or_case, Up, Knows, knows, KnowsIn, knows-none, knows_more}
use Rattle.undoing.proofs.Leading.{Leads, leads-part, leads-scope, LeadsIn, leads-none, leads-more, Fine}
use Rattle.undoing.proofs.Sure.{left_in, left_in_turn, left_of_all, Off, off_part, off-below, off-above, surely-none, surely-none-in}
use Rattle.undoing.proofs.Lessening.{one_each}

-- one of two lists has a number
either-some : {P : Type 0} (t : ℕ) (x y : List ℕ) → some (eqb t) (x ++ y) ≡ true → (some (eqb t) x ≡ true → P) → (some (eqb t) y ≡ true → P) → P
either-some t x y h f g = or_case (some (eqb t) x) (some (eqb t) y) (sym (some-append (eqb t) x y) ∙ h) f g

in-first : (t : ℕ) (x y : List ℕ) → some (eqb t) x ≡ true → some (eqb t) (x ++ y) ≡ true
in-first t x y h = some-append (eqb t) x y ∙ rw h

in-second : (t : ℕ) (x y : List ℕ) → some (eqb t) y ≡ true → some (eqb t) (x ++ y) ≡ true
in-second t x y h = some-append (eqb t) x y ∙ rw (h, or-true)

itself-surely : (k s : ℕ) (ms : List ℕ) → some (eqb s) (cond (eqb (get_or ms k 0) active) (k ∷ []) []) ≡ true → some (eqb s) (k ∷ []) ≡ true
unfolding some
itself-surely k s ms h = decide (eqb (get_or ms k 0) active) (λ e. rw e at h) (λ e. absurd (false≢true (rw e at h)))

mutual
  unfolding left_in surely is_sure has_all some

  -- what is to come is among the sure steps
  pub left-surely : (a : Act) (k s : ℕ) (ms : List ℕ) → some (eqb s) (left_in a k ms) ≡ true → some (eqb s) (surely a k) ≡ true
  left-surely (act empty within) k s ms h = absurd (false≢true h)
  left-surely (act (send x y vs) within) k s ms h = itself-surely k s ms h
  left-surely (act (receive x y vs) within) k s ms h = itself-surely k s ms h
  left-surely (act (setting v x) within) k s ms h = itself-surely k s ms h
  left-surely (act (raise zero) within) k s ms h = itself-surely k s ms h
  left-surely (act (raise (suc number)) within) k s ms h = itself-surely k s ms h
  left-surely (act leave within) k s ms h = itself-surely k s ms h
  left-surely (act (choose x) within) k s ms h = itself-surely k s ms h
  left-surely (act (repeat x) within) k s ms h = absurd (false≢true h)
  left-surely (act sequence within) k s ms h = turn-surely within (k + 1) s ms h
  left-surely (act flow within) k s ms h = all-surely within (k + 1) s ms h
  left-surely (act pick within) k s ms h = absurd (false≢true h)
  left-surely (act (scope xs u) within) k s ms h = absurd (false≢true h)
  left-surely (act (arm x y vs) within) k s ms h = absurd (false≢true h)

  turn-surely : (l : Acts) (c s : ℕ) (ms : List ℕ) → some (eqb s) (left_in_turn l c ms) ≡ true → some (eqb s) (surely_among l c) ≡ true
  turn-surely none c s ms h = absurd (false≢true h)
  turn-surely (more a l) c s ms h =
      decide (quiet c (size a) ms)
      (λ q. in-second s (surely a c) (surely_among l (c + size a)) (turn-surely l (c + size a) s ms (rw q at h)))
      (λ q. either-some s (left_in a c ms) (surely_among l (c + size a)) (rw q at h)
      (λ i. in-first s (surely a c) (surely_among l (c + size a)) (left-surely a c s ms i)) (λ i. in-second s (surely a c) (surely_among l (c + size a)) i))

  all-surely : (l : Acts) (c s : ℕ) (ms : List ℕ) → some (eqb s) (left_of_all l c ms) ≡ true → some (eqb s) (surely_among l c) ≡ true
  all-surely none c s ms h = absurd (false≢true h)
  all-surely (more a l) c s ms h =
      either-some s (left_in a c ms) (left_of_all l (c + size a) ms) h
      (λ i. in-first s (surely a c) (surely_among l (c + size a)) (left-surely a c s ms i)) (λ i. in-second s (surely a c) (surely_among l (c + size a)) (all-surely l (c + size a) s ms i))

-- the numbers of sure steps
pub surely-range : (a : Act) (k s : ℕ) → some (eqb s) (surely a k) ≡ true → (k ≤ s) × (s < k + size a)
surely-range a k s h = (
  decide (ltb s k) (λ e. absurd (false≢true (sym (surely-none a k s (off-below s k (size a) (ltb-true s k e))) ∙ h))) (λ e. ltb-false s k e),
  decide (ltb s (k + size a)) (λ e. ltb-true s (k + size a) e) (λ e. absurd (false≢true (sym (surely-none a k s (off-above s k (size a) (ltb-false s (k + size a) e))) ∙ h))),
)

among-range : (l : Acts) (c s : ℕ) → some (eqb s) (surely_among l c) ≡ true → (c ≤ s) × (s < c + sizes l)
among-range l c s h = (
  decide (ltb s c) (λ e. absurd (false≢true (sym (surely-none-in l c s (off-below s c (sizes l) (ltb-true s c e))) ∙ h))) (λ e. ltb-false s c e),
  decide (ltb s (c + sizes l)) (λ e. ltb-true s (c + sizes l) e) (λ e. absurd (false≢true (sym (surely-none-in l c s (off-above s c (sizes l) (ltb-false s (c + sizes l) e))) ∙ h))),
)

-- which activities have steps of their own, of those that are sure to have one
sure-acts : (own : Own) → is_sure own ≡ true → (acts (kind own) ≡ true) × (eqb (kind own) 7 ≡ false)
unfolding is_sure acts kind
sure-acts empty s = absurd (false≢true s)
sure-acts (send (to_partner x) y vs) s = (refl, refl)
sure-acts (send (to_held held reply) y vs) s = (refl, refl)
sure-acts (receive (from_partner x) y vs) s = (refl, refl)
sure-acts (receive (from_asking x kept) y vs) s = (refl, refl)
sure-acts (setting v x) s = (refl, refl)
sure-acts (raise zero) s = (refl, refl)
sure-acts (raise (suc number)) s = (refl, refl)
sure-acts leave s = (refl, refl)
sure-acts (choose x) s = (refl, refl)
sure-acts (repeat x) s = absurd (false≢true s)
sure-acts sequence s = absurd (false≢true s)
sure-acts flow s = absurd (false≢true s)
sure-acts pick s = absurd (false≢true s)
sure-acts (scope xs u) s = absurd (false≢true s)
sure-acts (arm x y vs) s = absurd (false≢true s)

knows-kind : {f : ℕ → ℕ} {own : Own} {within : Acts} {k : ℕ} → Knows f (act own within) k → f k ≡ kind own
knows-kind (knows e n r y) = e

knows-within : {f : ℕ → ℕ} {own : Own} {within : Acts} {k : ℕ} → Knows f (act own within) k → KnowsIn f within (k + 1)
knows-within (knows e n r y) = y

-- A time that a step t goes through an order: what it logs is fine, and the marks before and after it. Of a stretch of marks: what did not begin is set only where it
-- was; and where it is active it was, the step not being its own.
module _ (f : ℕ → ℕ) (lead : ℕ → Lead) (own? : ℕ → Bool) (t : ℕ) (l : List Event) (ms ns : List ℕ) (fine : Fine lead t l) where
  pub record Stretch (k n : ℕ) : Type 0 where
    pub ups : (j : ℕ) → k ≤ j → j < k + n → has_began j l ≡ false → Up ns j → Up ms j
    pub still : (j : ℕ) → k ≤ j → j < k + n → has_began j l ≡ false → eqb (f j) 7 ≡ false → get_or ns j 0 ≡ active → (get_or ms j 0 ≡ active) × (own? j ≡ false)

  stretch-part : {k n j m : ℕ} → Stretch k n → k ≤ j → j + m ≤ k + n → Stretch j m
  stretch-part s h e = record { ups = λ i x y. s.ups i (omega arith) (omega arith); still = λ i x y. s.still i (omega arith) (omega arith) }

  -- none of a stretch began
  abbrev Unbegun : (k n : ℕ) → Type 0
  Unbegun k n = (j : ℕ) → k ≤ j → j < k + n → has_began j l ≡ false

  quiet-mono : {k n : ℕ} → Stretch k n → Unbegun k n → Quiet ms k n → Quiet ns k n
  quiet-mono s b q =
      record {
        at = λ i x y. decide (eqb (get_or ns i 0) idle) (λ e. eqb-true (get_or ns i 0) idle e)
            (λ e. absurd (false≢true (sym (s.ups i x y (b i x y) e) ∙ ap (λ (m : ℕ). eqb m idle) (q.at i x y))));
      }

  -- what stands in an activity in which the step is not begins with it
  led : (own : Own) (k n i : ℕ) → Off t k n → k < i → i < k + n → has_began i l ≡ true → lead i ≡ lead_of own k → has_began k l ≡ true
  unfolding may_lead
  led own k n i o h e y d =
      let z : may_lead (lead_of own k) t i l ≡ true = subst (λ (q : Lead). may_lead q t i l ≡ true) d (fine.may i y) in
      decide (eqb (kind own) 8)
      (λ a. or_case (has_began k l) (ltb k t && ltb t i) (rw a at z) (λ v. v)
      (λ v. both (ltb k t) (ltb t i) v (λ x w. let x₁ = ltb-true k t x in let w₁ = ltb-true t i w in absurd (false≢true (sym (o.at t (omega arith) (omega arith)) ∙ eq-eqb t t refl)))))
      (λ a. decide (eqb (kind own) 9) (λ b. rw (a, b) at z)
      (λ b. let w : eqb k t ≡ true = rw (a, b) at z in absurd (false≢true (sym (o.at k (omega arith) (omega arith)) ∙ eq-eqb t k (sym (eqb-true k t w))))))

  -- one of a list that began, before m, and is led so
  record Beginner (q : Lead) (c m : ℕ) : Type 0 where
    number : ℕ
    from : c ≤ number
    to : number ≤ m
    begun : has_began number l ≡ true
    leads : lead number ≡ q

  mutual
    unfolding bare size

    climb : {a : Act} {k : ℕ} → Leads lead a k → bare a ≡ true → Off t k (size a) → (m : ℕ) → k ≤ m → m < k + size a → has_began m l ≡ true → has_began k l ≡ true
    climb (leads-part {own} {within} {k} s g w) b o m h e y =
        decide (eqb m k)
        (λ d. subst (λ (i : ℕ). has_began i l ≡ true) (eqb-true m k d) y)
        (λ d. both (not (is_scope own)) (bare_in within) b (λ u v.
        let i = climb-in w v (off_part o (omega arith) (omega arith)) m (let z = eqb-false m k d in omega arith) (omega arith) y in
        let x = i.from in let z = i.to in
        led own k (1 + sizes within) i.number o (omega arith) (omega arith) i.begun i.leads))
    climb (leads-scope x n y z) b o m h e d = absurd (false≢true b)

    climb-in : {w : Acts} {c : ℕ} {q : Lead} → LeadsIn lead w c q → bare_in w ≡ true → Off t c (sizes w) → (m : ℕ) → c ≤ m → m < c + sizes w → has_began m l ≡ true → Beginner q c m
    climb-in leads-none b o m h e y = absurd (omega arith)
    climb-in (leads-more {a} {l = w} {c} {q} d x z) b o m h e y =
        both (bare a) (bare_in w) b (λ u v. decide (ltb m (c + size a))
        (λ i. record { number = c; from = omega arith; to = omega arith; begun = climb x u (off_part o (omega arith) (omega arith)) m h (ltb-true m (c + size a) i) y; leads = d })
        (λ i. let r = climb-in z v (off_part o (omega arith) (omega arith)) m (ltb-false m (c + size a) i) (omega arith) y in
        record { number = r.number; from = let j = r.from in omega arith; to = r.to; begun = r.begun; leads = r.leads }))

  -- where it did not begin, nothing in it did
  unbegun : {a : Act} {k : ℕ} → Leads lead a k → bare a ≡ true → Off t k (size a) → has_began k l ≡ false → Unbegun k (size a)
  unbegun w b o n j h e = decide (has_began j l) (λ y. absurd (false≢true (sym n ∙ climb w b o j h e y))) (λ y. y)

  -- what is to come of a stretch of which nothing began was to come
  itself-mono : (k s : ℕ) → Stretch k 1 → has_began k l ≡ false → eqb (f k) 7 ≡ false
      → some (eqb s) (cond (eqb (get_or ns k 0) active) (k ∷ []) []) ≡ true → (some (eqb s) (cond (eqb (get_or ms k 0) active) (k ∷ []) []) ≡ true) × (own? k ≡ false) × (s ≡ k)
  unfolding some
  itself-mono k s w b e h =
      decide (eqb (get_or ns k 0) active)
      (λ a. let y = w.still k (omega arith) (omega arith) b e (eqb-true (get_or ns k 0) active a) in
      let z : (eqb s k || false) ≡ true = rw a at h in (rw y.0 z, y.1, eqb-true s k (sym (or-false (eqb s k)) ∙ z)))
      (λ a. absurd (false≢true (rw a at h)))

  sure-mono : (own : Own) (within : Acts) (k s : ℕ) → is_sure own ≡ true → Knows f (act own within) k → Stretch k (size (act own within)) → has_began k l ≡ false
      → some (eqb s) (cond (eqb (get_or ns k 0) active) (k ∷ []) []) ≡ true → (some (eqb s) (cond (eqb (get_or ms k 0) active) (k ∷ []) []) ≡ true) × (own? k ≡ false) × (s ≡ k)
  unfolding size
  sure-mono own within k s i g w b h = itself-mono k s (stretch-part w (omega arith) (omega arith)) b (ap (λ (n : ℕ). eqb n 7) (knows-kind g) ∙ (sure-acts own i).1) h

  mutual
    unfolding size left_in is_sure some

    mono : (a : Act) (k s : ℕ) → Knows f a k → Stretch k (size a) → Unbegun k (size a) → some (eqb s) (left_in a k ns) ≡ true → some (eqb s) (left_in a k ms) ≡ true
    mono (act empty within) k s g w b h = absurd (false≢true h)
    mono (act (send x y vs) within) k s g w b h = (sure-mono (send x y vs) within k s refl g w (b k (omega arith) (omega arith)) h).0
    mono (act (receive x y vs) within) k s g w b h = (sure-mono (receive x y vs) within k s refl g w (b k (omega arith) (omega arith)) h).0
    mono (act (setting v x) within) k s g w b h = (sure-mono (setting v x) within k s refl g w (b k (omega arith) (omega arith)) h).0
    mono (act (raise zero) within) k s g w b h = (sure-mono (raise zero) within k s refl g w (b k (omega arith) (omega arith)) h).0
    mono (act (raise (suc number)) within) k s g w b h = (sure-mono (raise (suc number)) within k s refl g w (b k (omega arith) (omega arith)) h).0
    mono (act leave within) k s g w b h = (sure-mono leave within k s refl g w (b k (omega arith) (omega arith)) h).0
    mono (act (choose x) within) k s g w b h = (sure-mono (choose x) within k s refl g w (b k (omega arith) (omega arith)) h).0
    mono (act (repeat x) within) k s g w b h = absurd (false≢true h)
    mono (act sequence within) k s g w b h = turn-mono within (k + 1) s (knows-within g) (stretch-part w (omega arith) (omega arith)) (λ j x y. b j (omega arith) (omega arith)) h
    mono (act flow within) k s g w b h = all-mono within (k + 1) s (knows-within g) (stretch-part w (omega arith) (omega arith)) (λ j x y. b j (omega arith) (omega arith)) h
    mono (act pick within) k s g w b h = absurd (false≢true h)
    mono (act (scope xs u) within) k s g w b h = absurd (false≢true h)
    mono (act (arm x y vs) within) k s g w b h = absurd (false≢true h)

    turn-mono : (w : Acts) (c s : ℕ) → KnowsIn f w c → Stretch c (sizes w) → Unbegun c (sizes w) → some (eqb s) (left_in_turn w c ns) ≡ true → some (eqb s) (left_in_turn w c ms) ≡ true
    turn-mono none c s knows-none v b h = absurd (false≢true h)
    turn-mono (more a w) c s (knows_more x y) v b h =
        decide (quiet c (size a) ms)
        (λ q. let z : quiet c (size a) ns ≡ true
        = quiet_told (size a) c ns (quiet-mono (stretch-part v (omega arith) (omega arith)) (λ j x y. b j (omega arith) (omega arith)) (quiet-found (size a) c ms q)) in
        rw q (turn-mono w (c + size a) s y (stretch-part v (omega arith) (omega arith)) (λ j x y. b j (omega arith) (omega arith)) (rw z at h)))
        (λ q. rw q (decide (quiet c (size a) ns)
        (λ z. in-second s (left_in a c ms) (surely_among w (c + size a)) (turn-surely w (c + size a) s ns (rw z at h)))
        (λ z. either-some s (left_in a c ns) (surely_among w (c + size a)) (rw z at h)
        (λ i. in-first s (left_in a c ms) (surely_among w (c + size a)) (mono a c s x (stretch-part v (omega arith) (omega arith)) (λ j x y. b j (omega arith) (omega arith)) i))
        (λ i. in-second s (left_in a c ms) (surely_among w (c + size a)) i))))

    all-mono : (w : Acts) (c s : ℕ) → KnowsIn f w c → Stretch c (sizes w) → Unbegun c (sizes w) → some (eqb s) (left_of_all w c ns) ≡ true → some (eqb s) (left_of_all w c ms) ≡ true
    all-mono none c s knows-none v b h = absurd (false≢true h)
    all-mono (more a w) c s (knows_more x y) v b h =
        either-some s (left_in a c ns) (left_of_all w (c + size a) ns) h
        (λ i. in-first s (left_in a c ms) (left_of_all w (c + size a) ms) (mono a c s x (stretch-part v (omega arith) (omega arith)) (λ j x y. b j (omega arith) (omega arith)) i))
        (λ i. in-second s (left_in a c ms) (left_of_all w (c + size a) ms) (all-mono w (c + size a) s y (stretch-part v (omega arith) (omega arith)) (λ j x y. b j (omega arith) (omega arith)) i))

  -- The step stands in an undo part that runs: what is to come after it was to come, and is another.
  abbrev Fewer : (left : List ℕ → List ℕ) → (s : ℕ) → Type 0
  Fewer left s = some (eqb s) (left ns) ≡ true → (some (eqb s) (left ms) ≡ true) × (eqb s t ≡ false)

  sure-fewer : (own : Own) (within : Acts) (k s : ℕ) → (acts (f t) ≡ true → own? t ≡ true) → is_sure own ≡ true → Knows f (act own within) k → Stretch k (size (act own within)) → has_began k l ≡ false
      → Fewer (λ z. cond (eqb (get_or z k 0) active) (k ∷ []) []) s
  sure-fewer own within k s o i g w b h =
      let y = sure-mono own within k s i g w b h in (
        y.0,
        decide (eqb s t)
            (λ e. let z : k ≡ t = sym y.2 ∙ eqb-true s t e in
            absurd (false≢true (sym y.1 ∙ subst (λ (j : ℕ). own? j ≡ true) (sym z) (o (subst (λ (j : ℕ). acts (f j) ≡ true) z (ap acts (knows-kind g) ∙ (sure-acts own i).0))))))
            (λ e. e),
      )

  -- out of a stretch
  not-here : (s c n : ℕ) → (c ≤ s) × (s < c + n) → Off t c n → eqb s t ≡ false
  not-here s c n h o = decide (eqb s t) (λ e. let z = eqb-true s t e in absurd (false≢true (sym (o.at s h.0 h.1) ∙ eq-eqb t s (sym z)))) (λ e. e)

  -- in an activity in which the step is not
  pub fewer-off : {a : Act} {k : ℕ} → Leads lead a k → Knows f a k → bare a ≡ true → Stretch k (size a) → Off t k (size a) → has_began k l ≡ false → (s : ℕ) → Fewer (left_in a k) s
  fewer-off {a} {k} d g b w o n s h = (mono a k s g w (unbegun d b o n) h, not-here s k (size a) (surely-range a k s (left-surely a k s ns h)) o)

  -- one in a sequence begins with the sequence or after a step before it
  not_behind : (k c : ℕ) → lead c ≡ in_order k → has_began k l ≡ false → c ≤ t → has_began c l ≡ false
  unfolding may_lead
  not_behind k c d n h =
      decide (has_began c l)
      (λ y. or_case (has_began k l) (ltb k t && ltb t c) (subst (λ (q : Lead). may_lead q t c l ≡ true) d (fine.may c y)) (λ v. absurd (false≢true (sym n ∙ v)))
      (λ v. both (ltb k t) (ltb t c) v (λ x z. let z₁ = ltb-true t c z in absurd (omega arith))))
      (λ y. y)

  not-beside : (k c : ℕ) → lead c ≡ together k → has_began k l ≡ false → has_began c l ≡ false
  unfolding may_lead
  not-beside k c d n = decide (has_began c l) (λ y. absurd (false≢true (sym n ∙ subst (λ (q : Lead). may_lead q t c l ≡ true) d (fine.may c y)))) (λ y. y)

  -- what stands in a flow that did not begin, from here on
  beside : {w : Acts} {c k : ℕ} → LeadsIn lead w c (together k) → bare_in w ≡ true → Off t c (sizes w) → has_began k l ≡ false → Unbegun c (sizes w)
  beside {k = k} d b o n j h e = decide (has_began j l) (λ y. let i = climb-in d b o j h e y in absurd (false≢true (sym (not-beside k i.number i.leads n) ∙ i.begun))) (λ y. y)

  loud : {a : Act} {k : ℕ} → Run ms a k → quiet k (size a) ms ≡ false
  loud {a} {k} r = decide (quiet k (size a) ms) (λ e. absurd (run-loud r (quiet-found (size a) k ms e))) (λ e. e)

  -- a sequence or a flow whose own number the step has: nothing in it begins
  own_turn : {within : Acts} (k : ℕ) → k ≡ t → LeadsIn lead within (k + 1) (in_order k) → bare_in within ≡ true → has_began k l ≡ false → Unbegun (k + 1) (sizes within)
  unfolding may_lead
  own_turn {within} k e d b n j h i =
      decide (has_began j l)
      (λ y. let r = climb-in d b (off-below t (k + 1) (sizes within) (omega arith)) j h i y in
      or_case (has_began k l) (ltb k t && ltb t r.number) (subst (λ (q : Lead). may_lead q t r.number l ≡ true) r.leads (fine.may r.number r.begun))
      (λ v. absurd (false≢true (sym n ∙ v))) (λ v. both (ltb k t) (ltb t r.number) v (λ x z. let x₁ = ltb-true k t x in absurd (omega arith))))
      (λ y. y)

  no-doer : false ≡ true → ⊥
  no-doer e = false≢true e

  mutual
    unfolding size left_in is_sure some bare kind is_doer

    pub fewer-on : (a : Act) (k : ℕ) {b : Bool} → Leads lead a k → Knows f a k → bare a ≡ true → Stretch k (size a) → (acts (f t) ≡ true → own? t ≡ true)
        → Run ms a k → Waits ms a k t b → b ≡ false → has_began k l ≡ false → (s : ℕ) → Fewer (left_in a k) s
    fewer-on (act empty within) k d g b w o r x e n s h = absurd (false≢true h)
    fewer-on (act (send y z vs) within) k d g b w o r x e n s h = sure-fewer (send y z vs) within k s o refl g w n h
    fewer-on (act (receive y z vs) within) k d g b w o r x e n s h = sure-fewer (receive y z vs) within k s o refl g w n h
    fewer-on (act (setting v y) within) k d g b w o r x e n s h = sure-fewer (setting v y) within k s o refl g w n h
    fewer-on (act (raise zero) within) k d g b w o r x e n s h = sure-fewer (raise zero) within k s o refl g w n h
    fewer-on (act (raise (suc number)) within) k d g b w o r x e n s h = sure-fewer (raise (suc number)) within k s o refl g w n h
    fewer-on (act leave within) k d g b w o r x e n s h = sure-fewer leave within k s o refl g w n h
    fewer-on (act (choose y) within) k d g b w o r x e n s h = sure-fewer (choose y) within k s o refl g w n h
    fewer-on (act (repeat y) within) k d g b w o r x e n s h = absurd (false≢true h)
    fewer-on (act sequence within) k (leads-part _ _ d) g b w o r (waits-itself z v) e n s h = (
      turn-mono within (k + 1) s (knows-within g) (stretch-part w (omega arith) (omega arith)) (own_turn k z d b n) h,
      not-here s (k + 1) (sizes within) (among-range within (k + 1) s (turn-surely within (k + 1) s ns h)) (off-below t (k + 1) (sizes within) (omega arith)),
    )
    fewer-on (act sequence within) k (leads-part _ _ d) g b w o (run-awaits _ y _ _) (waits-within z v) e n s h = absurd (no-doer y)
    fewer-on (act sequence within) k (leads-part _ _ d) g b w o (run-one _ _ r) (waits-within z v) e n s h =
        fewer-turn within (k + 1) k d (knows-within g) b (stretch-part w (omega arith) (omega arith)) o r v refl n s h
    fewer-on (act flow within) k (leads-part _ _ d) g b w o r (waits-itself z v) e n s h = (
      all-mono within (k + 1) s (knows-within g) (stretch-part w (omega arith) (omega arith)) (beside d b (off-below t (k + 1) (sizes within) (omega arith)) n) h,
      not-here s (k + 1) (sizes within) (among-range within (k + 1) s (all-surely within (k + 1) s ns h)) (off-below t (k + 1) (sizes within) (omega arith)),
    )
    fewer-on (act flow within) k (leads-part _ _ d) g b w o (run-awaits _ y _ _) (waits-within z v) e n s h = absurd (no-doer y)
    fewer-on (act flow within) k (leads-part _ _ d) g b w o (run-one _ _ r) (waits-within z v) e n s h =
        fewer-all within (k + 1) k d (knows-within g) b (stretch-part w (omega arith) (omega arith)) o (one_each r) v refl n s h
    fewer-on (act flow within) k (leads-part _ _ d) g b w o (run-all _ r _) (waits-within z v) e n s h =
        fewer-all within (k + 1) k d (knows-within g) b (stretch-part w (omega arith) (omega arith)) o r v refl n s h
    fewer-on (act pick within) k d g b w o r x e n s h = absurd (false≢true h)
    fewer-on (act (scope xs u) within) k d g b w o r x e n s h = absurd (false≢true h)
    fewer-on (act (arm y z vs) within) k d g b w o r x e n s h = absurd (false≢true h)

    fewer-turn : (v : Acts) (c : ℕ) {b : Bool} (k : ℕ) → LeadsIn lead v c (in_order k) → KnowsIn f v c → bare_in v ≡ true → Stretch c (sizes v) → (acts (f t) ≡ true → own? t ≡ true)
        → One ms v c → WaitsIn ms v c t b → b ≡ false → has_began k l ≡ false → (s : ℕ) → Fewer (left_in_turn v c) s
    fewer-turn none c k _ _ b w o z _ e n s h = elim z [ ]
    fewer-turn (more a v) c k (leads-more d x y) (knows_more g i) b w o (one-here r q) (waits-first z j) e n s h =
        both (bare a) (bare_in v) b (λ b₁ b₂.
        let n₁ : has_began c l ≡ false = not_behind k c d n (waits-from j) in
        let later : some (eqb s) (surely_among v (c + size a)) ≡ true → (some (eqb s) (left_in a c ms ++ surely_among v (c + size a)) ≡ true) × (eqb s t ≡ false)
        = λ m. (in-second s (left_in a c ms) (surely_among v (c + size a)) m, not-here s (c + size a) (sizes v) (among-range v (c + size a) s m) (off-below t (c + size a) (sizes v) z)) in
        rw (loud r) (decide (quiet c (size a) ns)
        (λ u. later (turn-surely v (c + size a) s ns (rw u at h)))
        (λ u. either-some s (left_in a c ns) (surely_among v (c + size a)) (rw u at h)
        (λ m. let y₁ = fewer-on a c x g b₁ (stretch-part w (omega arith) (omega arith)) o r j e n₁ s m in (in-first s (left_in a c ms) (surely_among v (c + size a)) y₁.0, y₁.1))
        later)))
    fewer-turn (more a v) c k (leads-more d x y) (knows_more g i) b w o (one-here r q) (waits-later z j) e n s h = absurd (quiet-waits-in j e q)
    fewer-turn (more a v) c k (leads-more d x y) (knows_more g i) b w o (one_later q r) (waits-first z j) e n s h = absurd (quiet-waits j e q)
    fewer-turn (more a v) c k (leads-more d x y) (knows_more g i) b w o (one_later q r) (waits-later z j) e n s h =
        both (bare a) (bare_in v) b (λ b₁ b₂.
        let n₁ : has_began c l ≡ false = not_behind k c d n (omega arith) in
        let u : quiet c (size a) ns ≡ true = quiet_told (size a) c ns (quiet-mono (stretch-part w (omega arith) (omega arith)) (unbegun x b₁ (off-above t c (size a) z) n₁) q) in
        rw (quiet_told (size a) c ms q) (fewer-turn v (c + size a) k y i b₂ (stretch-part w (omega arith) (omega arith)) o r j e n s (rw u at h)))

    fewer-all : (v : Acts) (c : ℕ) {b : Bool} (k : ℕ) → LeadsIn lead v c (together k) → KnowsIn f v c → bare_in v ≡ true → Stretch c (sizes v) → (acts (f t) ≡ true → own? t ≡ true)
        → All ms v c → WaitsIn ms v c t b → b ≡ false → has_began k l ≡ false → (s : ℕ) → Fewer (left_of_all v c) s
    fewer-all none c k _ _ b w o _ z e n s h = elim z [ ]
    fewer-all (more a v) c k (leads-more d x y) (knows_more g i) b w o (all-run r q) (waits-first z j) e n s h =
        both (bare a) (bare_in v) b (λ b₁ b₂.
        either-some s (left_in a c ns) (left_of_all v (c + size a) ns) h
        (λ m. let y₁ = fewer-on a c x g b₁ (stretch-part w (omega arith) (omega arith)) o r j e (not-beside k c d n) s m in (in-first s (left_in a c ms) (left_of_all v (c + size a) ms) y₁.0, y₁.1))
        (λ m. (
          in-second s (left_in a c ms) (left_of_all v (c + size a) ms)
              (all-mono v (c + size a) s i (stretch-part w (omega arith) (omega arith)) (beside y b₂ (off-below t (c + size a) (sizes v) z) n) m),
          not-here s (c + size a) (sizes v) (among-range v (c + size a) s (all-surely v (c + size a) s ns m)) (off-below t (c + size a) (sizes v) z),
        )))
    fewer-all (more a v) c k (leads-more d x y) (knows_more g i) b w o (all_quiet q r) (waits-first z j) e n s h = absurd (quiet-waits j e q)
    fewer-all (more a v) c k (leads-more d x y) (knows_more g i) b w o (all-run r q) (waits-later z j) e n s h =
        both (bare a) (bare_in v) b (λ b₁ b₂.
        either-some s (left_in a c ns) (left_of_all v (c + size a) ns) h
        (λ m. let y₁ = fewer-off x g b₁ (stretch-part w (omega arith) (omega arith)) (off-above t c (size a) z) (not-beside k c d n) s m in (in-first s (left_in a c ms) (left_of_all v (c + size a) ms) y₁.0, y₁.1))
        (λ m. let y₁ = fewer-all v (c + size a) k y i b₂ (stretch-part w (omega arith) (omega arith)) o q j e n s m in (in-second s (left_in a c ms) (left_of_all v (c + size a) ms) y₁.0, y₁.1)))
    fewer-all (more a v) c k (leads-more d x y) (knows_more g i) b w o (all_quiet r q) (waits-later z j) e n s h =
        both (bare a) (bare_in v) b (λ b₁ b₂.
        either-some s (left_in a c ns) (left_of_all v (c + size a) ns) h
        (λ m. let y₁ = fewer-off x g b₁ (stretch-part w (omega arith) (omega arith)) (off-above t c (size a) z) (not-beside k c d n) s m in (in-first s (left_in a c ms) (left_of_all v (c + size a) ms) y₁.0, y₁.1))
        (λ m. let y₁ = fewer-all v (c + size a) k y i b₂ (stretch-part w (omega arith) (omega arith)) o q j e n s m in (in-second s (left_in a c ms) (left_of_all v (c + size a) ms) y₁.0, y₁.1)))
