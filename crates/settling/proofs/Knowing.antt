-- A plan whose kinds are known by number, and its arms. Assumes nothing.
use Prim.Native.Nat.{ℕ, ◌+◌, ◌≤◌, ◌<◌}
use native.Mathlib.Omega.{arith}
use mathlib.Core.Path.{◌≡◌, refl, sym, ◌∙◌}
use mathlib.Core.Bool.{Bool, true, false, ◌||◌, false≢true}
use mathlib.Core.List.{List}
use lib.Dec.{eqb, ltb}
use borrow.Author.Tests.{eqb-true, eq-eqb, ne_eqb, lt-ltb, le-ltb}
use Rattle.plan.specs.Tree.{Own, scope, kind, is_pick, is_arm, Act, act, Acts, none, more, Plan, size, sizes}
use Rattle.order.specs.Acting.{is_part}
use Rattle.order.specs.Awaited.{awaits, kind_in, kind_among, kind_at}
use Rattle.settling.proofs.Parts.{or_case, first-of, second-of}
use Rattle.settling.proofs.Formed.{Formed, formed-part, formed-scope, FormedIn, formed-none, formed-more, Shaped}
use Rattle.settling.proofs.Waiting.{WaitsIn, waits-first, waits-later, waits-itself, waits-within}

-- all of these are arms, or none is
abbrev pub Arms : Bool → Acts → Type 0
Arms r none = Unit {0}
Arms r (more (act own within) l) = (is_arm own ≡ r) × Arms r l

module _ (f : ℕ → ℕ) where
  -- a tree whose kinds f knows
  mutual
    pub data Knows : Act → ℕ → Type 0 where
      knows : {own : Own} {within : Acts} {k : ℕ} → f k ≡ kind own → Arms (is_pick own) within → KnowsIn within (k + 1)
          → Knows (act own within) k

    pub data KnowsIn : Acts → ℕ → Type 0 where
      knows-none : {c : ℕ} → KnowsIn none c
      knows_more : {a : Act} {l : Acts} {c : ℕ} → Knows a c → KnowsIn l (c + size a) → KnowsIn (more a l) c

module _ (f : ℕ → ℕ) where
  kind-here : (own : Own) (within : Acts) (k : ℕ) → kind_in (act own within) k k ≡ kind own
  unfolding kind_in
  kind-here own within k = first-of (eqb k k) (kind own) (kind_among within (k + 1) k) (kind_in (act own within) k k) refl (eq-eqb k k refl)

  kind-within : (own : Own) (within : Acts) (k t : ℕ) → k < t → kind_in (act own within) k t ≡ kind_among within (k + 1) t
  unfolding kind_in
  kind-within own within k t h = second-of (eqb k t) (kind own) (kind_among within (k + 1) t) (kind_in (act own within) k t) refl (ne_eqb k t (omega arith))

  kind-first : (a : Act) (l : Acts) (c t : ℕ) → t < c + size a → kind_among (more a l) c t ≡ kind_in a c t
  unfolding kind_in
  kind-first a l c t h = first-of (ltb t (c + size a)) (kind_in a c t) (kind_among l (c + size a) t) (kind_among (more a l) c t) refl (lt-ltb t (c + size a) h)

  kind-later : (a : Act) (l : Acts) (c t : ℕ) → c + size a ≤ t → kind_among (more a l) c t ≡ kind_among l (c + size a) t
  unfolding kind_in
  kind-later a l c t h = second-of (ltb t (c + size a)) (kind_in a c t) (kind_among l (c + size a) t) (kind_among (more a l) c t) refl (le-ltb t (c + size a) h)

  arms-in : {h r : Bool} {l : Acts} → FormedIn h r l → Arms r l
  arms-in formed-none = tt
  arms-in (formed-more (formed-part s i y) z) = (i, arms-in z)
  arms-in (formed-more (formed-scope x w) z) = (refl, arms-in z)

  -- no part of a scope is an arm
  not-arms : {h : Bool} {a : Act} (l : Acts) → Formed h false a → Arms false l → Arms false (more a l)
  not-arms l (formed-part s i y) z = (i, z)
  not-arms l (formed-scope x w) z = (refl, z)

  mutual
    unfolding size kind

    knows-in : {h r : Bool} {a : Act} → Formed h r a → (k : ℕ) → ((t : ℕ) → k ≤ t → t < k + size a → f t ≡ kind_in a k t) → Knows f a k
    knows-in (formed-part {own = own} {within = within} s i y) k d =
        knows (d k (omega arith) (omega arith) ∙ kind-here own within k) (arms-in y)
        (knows-all y (k + 1) (λ t u v. d t (omega arith) (omega arith) ∙ kind-within own within k t (omega arith)))
    knows-in (formed-scope {ns = ns} {v = v} {b = b} {l = l} x z) k d =
        knows (d k (omega arith) (omega arith) ∙ kind-here (scope ns v) (more b l) k) (not-arms l x (arms-in z))
        (knows_more (knows-in x (k + 1) (λ t u w. e t (omega arith) (omega arith) ∙ kind-first b l (k + 1) t (omega arith)))
        (knows-all z (k + 1 + size b) (λ t u w. e t (omega arith) (omega arith) ∙ kind-later b l (k + 1) t (omega arith))))
      where
        e : (t : ℕ) → k < t → t < k + size (act (scope ns v) (more b l)) → f t ≡ kind_among (more b l) (k + 1) t
        e t u w = d t (omega arith) w ∙ kind-within (scope ns v) (more b l) k t u

    knows-all : {h r : Bool} {l : Acts} → FormedIn h r l → (c : ℕ) → ((t : ℕ) → c ≤ t → t < c + sizes l → f t ≡ kind_among l c t) → KnowsIn f l c
    knows-all formed-none c d = knows-none
    knows-all (formed-more {a = a} {l = l} x y) c d =
        knows_more (knows-in x c (λ t u v. d t (omega arith) (omega arith) ∙ kind-first a l c t (omega arith)))
        (knows-all y (c + size a) (λ t u v. d t (omega arith) (omega arith) ∙ kind-later a l c t (omega arith)))

pub body-knows : (p : Plan) → Shaped p → Knows (kind_at p) p.body 0
unfolding kind_at
body-knows p h =
    knows-in (kind_at p) h.body 0 (λ t u v. first-of (ltb t (size p.body)) (kind_in p.body 0 t) (kind_in p.fault (size p.body) t) (kind_at p t) refl (lt-ltb t (size p.body) (omega arith)))

pub fault-knows : (p : Plan) → Shaped p → Knows (kind_at p) p.fault (size p.body)
unfolding kind_at
fault-knows p h =
    knows-in (kind_at p) h.fault (size p.body) (λ t u v. second-of (ltb t (size p.body)) (kind_in p.body 0 t) (kind_in p.fault (size p.body) t) (kind_at p t) refl (le-ltb t (size p.body) u))

-- one directly within is not before the first
pub part-from : (l : Acts) (c t : ℕ) → is_part l c t ≡ true → c ≤ t
unfolding is_part
part-from none c t h = absurd (false≢true h)
part-from (more a l) c t h =
    or_case (eqb c t) (is_part l (c + size a) t) h (λ e. let z = eqb-true c t e in omega arith) (λ e. let z = part-from l (c + size a) t e in omega arith)

module _ {ms : List ℕ} (t j : ℕ) where
  -- an arm that awaits its step is open
  pub arm-open : {l : Acts} {c : ℕ} {b : Bool} → Arms true l → WaitsIn ms l c t b → is_part l c t ≡ true → b ≡ true
  unfolding is_part awaits size
  arm-open {b = b} r (waits-first {a = act own within} {l = l} {c = c} u (waits-itself d q)) h = rw r.0 at q
  arm-open r (waits-first {a = act own within} {l = l} {c = c} u (waits-within d q)) h =
      or_case (eqb c t) (is_part l (c + (1 + sizes within)) t) h (λ e. let z = eqb-true c t e in absurd (omega arith)) (λ e. let z = part-from l (c + (1 + sizes within)) t e in absurd (omega arith))
  arm-open r (waits-later {a = act own within} {l = l} {c = c} u w) h =
      or_case (eqb c t) (is_part l (c + (1 + sizes within)) t) h (λ e. let z = eqb-true c t e in absurd (omega arith)) (λ e. arm-open r.1 w e)
