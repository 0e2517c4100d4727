-- What the book says, in numbers: each step that takes a scope back is answered as often as the scope closed. Assumes nothing.
use Prim.Native.Nat.{ℕ, ◌+◌, ◌≤◌}
use native.Mathlib.Omega.{arith}
use mathlib.Core.Path.{◌≡◌, refl, sym, ap, subst, ◌∙◌}
use mathlib.Core.Bool.{Bool, true, false, cond, not, ◌&&◌, false≢true, or-true}
use mathlib.Core.List.{List, [], ◌∷◌, ◌++◌}
use lib.ListN.{length, length-append}
use lib.Dec.{eqb, ltb}
use borrow.Author.Tests.{eqb-true, eqb-false, eq-eqb, ltb-true, ltb-false}
use Rattle.plan.specs.Tree.{Own, empty, send, receive, set as setting, raise, leave, choose, repeat, sequence, flow, pick, scope, arm, Act, act, Acts, none, more, Plan, general_part, size, sizes}
use Rattle.plan.proofs.Limits.{accepted-is-within}
use Rattle.order.specs.declared.End.{End}
use Rattle.order.specs.declared.End.TheVariants.{None, Well, Handled, Failed, Left}
use Rattle.machine.specs.declared.Step.{Step}
use Rattle.order.specs.Lists.{every, some, only, empties}
use Rattle.order.specs.State.{root}
use Rattle.machine.specs.Calls.{loaded}
use Rattle.order.specs.Begin.{part, part_at}
use Rattle.undoing.specs.Demand3.{Inner, inside_of}
use Rattle.undoing.specs.Ties.{Place, undo_of, body_of}
use Rattle.undoing.specs.Answered.{surely, surely_among, back_in, back_among, back_of, is_close, is_back, Book, nothing_due, putting, without, is_due, paid, noted, may_note, settles, turned, in_order, answered, often_in, as_often, going_on, each_as_often, TakenBackOnce, TakenBackAsOften}
use Rattle.undoing.proofs.Parts.{both, decide, only-append, some-none}
use Rattle.undoing.proofs.Orders.{Sits, sits-part, sits-scope, SitsIn, sits-none, sits-more}
use Rattle.undoing.proofs.Marks.{trio}
use Rattle.undoing.proofs.Owing.{directly, directly_in, directly-is}
use Rattle.undoing.proofs.Planning.{Promised, promised}
use Rattle.undoing.proofs.Sure.{of_kind, surely-is, off-below, off-above, surely-none, surely-none-in}
use Rattle.undoing.proofs.Repaying.{back-part, back-scope, back-without, back-first, back-later, back_none, back-none-in, none-directly, later-directly, direct-scope, back-place, close-place}
use Rattle.undoing.proofs.Pushing.{direct-close}
use Rattle.undoing.proofs.Booked.{some-found}
use Rattle.undoing.proofs.TakenBack.{taken-back-once}

-- Numbers.

often-append : (t : ℕ) (x y : List ℕ) → often_in t (x ++ y) ≡ often_in t x + often_in t y
often-append t x y = ap length (only-append (eqb t) x y) ∙ length-append (only (eqb t) x) (only (eqb t) y)

often-none : (t : ℕ) (l : List ℕ) → some (eqb t) l ≡ false → often_in t l ≡ 0
often-none t l e = ap length (some-none (eqb t) l e)

often-some : (t : ℕ) (l : List ℕ) → some (eqb t) l ≡ true → 1 ≤ often_in t l
unfolding some only
often-some t [] e = absurd (false≢true e)
often-some t (x ∷ l) e = decide (eqb t x) (λ i. rw i (omega arith)) (λ i. rw i (often-some t l (rw i at e)))

-- without one, and without another
often-itself : (t : ℕ) (l : List ℕ) → often_in t (without t l) ≡ 0
unfolding only
often-itself t [] = refl
often-itself t (x ∷ l) = decide (eqb t x) (λ i. rw i (often-itself t l)) (λ i. rw (i, i) (often-itself t l))

often-other : (t j : ℕ) (l : List ℕ) → eqb j t ≡ false → often_in j (without t l) ≡ often_in j l
unfolding only
often-other t j [] e = refl
often-other t j (x ∷ l) e =
    decide (eqb t x)
    (λ i. rw (i, ap (eqb j) (sym (eqb-true t x i)) ∙ e) (often-other t j l e))
    (λ i. decide (eqb j x) (λ z. rw (i, z, often-other t j l e)) (λ z. rw (i, z, often-other t j l e)))

-- A sure step is one once.
kind-once : (t : ℕ) (own : Own) (x y : List ℕ) → often_in t x ≤ 1 → often_in t y ≤ 1 → often_in t (of_kind own x y y) ≤ 1
unfolding only
kind-once t empty x y e f = omega arith
kind-once t (send p o vs) x y e f = e
kind-once t (receive p o vs) x y e f = e
kind-once t (setting v u) x y e f = e
kind-once t (raise number) x y e f = e
kind-once t leave x y e f = e
kind-once t (choose u) x y e f = e
kind-once t (repeat u) x y e f = omega arith
kind-once t sequence x y e f = f
kind-once t flow x y e f = f
kind-once t pick x y e f = omega arith
kind-once t (scope xs u) x y e f = omega arith
kind-once t (arm p o vs) x y e f = omega arith

one-once : (t k : ℕ) → often_in t (k ∷ []) ≤ 1
unfolding only
one-once t k = decide (eqb t k) (λ e. rw e (omega arith)) (λ e. rw e (omega arith))

mutual
  unfolding surely size only

  surely-once : (a : Act) (k t : ℕ) → often_in t (surely a k) ≤ 1
  surely-once (act own within) k t = subst (λ (l : List ℕ). often_in t l ≤ 1) (sym (surely-is own within k)) (kind-once t own (k ∷ []) (surely_among within (k + 1)) (one-once t k) (surely-once-in within (k + 1) t))

  surely-once-in : (l : Acts) (c t : ℕ) → often_in t (surely_among l c) ≤ 1
  surely-once-in none c t = omega arith
  surely-once-in (more a l) c t =
      let e = often-append t (surely a c) (surely_among l (c + size a)) in
      decide (ltb t (c + size a))
      (λ i. let z = often-none t (surely_among l (c + size a)) (surely-none-in l (c + size a) t (off-below t (c + size a) (sizes l) (ltb-true t (c + size a) i))) in let y = surely-once a c t in omega (arith, e, z, y))
      (λ i. let z = often-none t (surely a c) (surely-none a c t (off-above t c (size a) (ltb-false t (c + size a) i))) in let y = surely-once-in l (c + size a) t in omega (arith, e, z, y))

-- so it takes a scope back once
mutual
  unfolding only

  back-once : {p : Plan} {x : Place} (a : Act) (k e t : ℕ) → Sits p x a k → directly a k e ≡ true → often_in t (back_in a k e) ≤ 1
  back-once (act own within) k e t (sits-part s g v y l) d = subst (λ (z : List ℕ). often_in t z ≤ 1) (sym (back-part own within k e s)) (back-once-in within (k + 1) e t l (sym (directly-is own within k e false s) ∙ d))
  back-once (act (scope xs true) (more b (more f u))) k e t (sits-scope kn v i sb z) d =
      subst (λ (z : List ℕ). often_in t z ≤ 1) (sym (back-scope xs true b (more f u) k e (direct-scope xs true (trio b f u) k e d))) (surely-once (part (general_part xs) (more f u)) (part_at (general_part xs) (more f u) (k + 1 + size b)) t)
  back-once (act (scope xs false) (more b (more f u))) k e t (sits-scope kn v i sb z) d =
      subst (λ (z : List ℕ). often_in t z ≤ 1) (sym (back-without z b k e (direct-scope xs false (trio b f u) k e d))) (omega arith)

  back-once-in : {p : Plan} {x : Place} (l : Acts) (c e t : ℕ) → SitsIn p x l c → directly_in l c e ≡ true → often_in t (back_among l c e) ≤ 1
  back-once-in none c e t sits-none d = absurd (none-directly c e d)
  back-once-in (more a l) c e t (sits-more s y) d =
      decide (directly a c e)
      (λ i. subst (λ (z : List ℕ). often_in t z ≤ 1) (sym (back-first a l c e i)) (back-once a c e t s i))
      (λ i. let j = later-directly a l c e d i in subst (λ (z : List ℕ). often_in t z ≤ 1) (sym (back-later a l c e j)) (back-once-in l (c + size a) e t y j))

-- and no other scope
mutual
  back_alone : {p : Plan} {x : Place} (a : Act) (k e f t : ℕ) → Sits p x a k → directly a k e ≡ true → directly a k f ≡ true → eqb e f ≡ false → some (eqb t) (back_in a k e) ≡ true → some (eqb t) (back_in a k f) ≡ false
  back_alone (act own within) k e f t (sits-part s g v y l) d b n h =
      ap (some (eqb t)) (back-part own within k f s)
      ∙ back-alone-in within (k + 1) e f t l (sym (directly-is own within k e false s) ∙ d) (sym (directly-is own within k f false s) ∙ b) n (ap (some (eqb t)) (sym (back-part own within k e s)) ∙ h)
  back_alone (act (scope xs z₀) (more b (more g u))) k e f t (sits-scope kn v i sb z) d c n h =
      absurd (eqb-false e f n (sym (eqb-true k e (direct-scope xs z₀ (trio b g u) k e d)) ∙ eqb-true k f (direct-scope xs z₀ (trio b g u) k f c)))

  back-alone-in : {p : Plan} {x : Place} (l : Acts) (c e f t : ℕ) → SitsIn p x l c → directly_in l c e ≡ true → directly_in l c f ≡ true → eqb e f ≡ false → some (eqb t) (back_among l c e) ≡ true → some (eqb t) (back_among l c f) ≡ false
  back-alone-in none c e f t sits-none d b n h = absurd (none-directly c e d)
  back-alone-in (more a l) c e f t (sits-more s y) d b n h =
      decide (directly a c e)
      (λ i. let h₁ : some (eqb t) (back_in a c e) ≡ true = ap (some (eqb t)) (sym (back-first a l c e i)) ∙ h in
      decide (directly a c f)
      (λ j. ap (some (eqb t)) (back-first a l c f j) ∙ back_alone a c e f t s i j n h₁)
      (λ j. let z = later-directly a l c f b j in
      ap (some (eqb t)) (back-later a l c f z)
      ∙ decide (ltb t (c + size a))
      (λ q. back-none-in l (c + size a) f t y z (off-below t (c + size a) (sizes l) (ltb-true t (c + size a) q)))
      (λ q. absurd (false≢true (sym (back_none a c e t s i (off-above t c (size a) (ltb-false t (c + size a) q))) ∙ h₁)))))
      (λ i. let w = later-directly a l c e d i in
      let h₁ : some (eqb t) (back_among l (c + size a) e) ≡ true = ap (some (eqb t)) (sym (back-later a l c e w)) ∙ h in
      decide (directly a c f)
      (λ j. ap (some (eqb t)) (back-first a l c f j)
      ∙ decide (ltb t (c + size a))
      (λ q. absurd (false≢true (sym (back-none-in l (c + size a) e t y w (off-below t (c + size a) (sizes l) (ltb-true t (c + size a) q))) ∙ h₁)))
      (λ q. back_none a c f t s j (off-above t c (size a) (ltb-false t (c + size a) q))))
      (λ j. let z = later-directly a l c f b j in ap (some (eqb t)) (back-later a l c f z) ∙ back-alone-in l (c + size a) e f t y w z n h₁))

-- how often a step is due
unfoldable due_often : (t : ℕ) → List (List ℕ) → ℕ
due_often t [] = 0
due_often t (b ∷ d) = often_in t b + due_often t d

put-often : (t : ℕ) (b : List ℕ) (d : List (List ℕ)) → due_often t (putting b d) ≡ often_in t b + due_often t d
unfolding due_often only
put-often t [] d = omega arith
put-often t (x ∷ b) d = refl

-- each closing asks for it once at most
unfoldable Once : (t : ℕ) → List (List ℕ) → Type 0
Once t [] = Unit {0}
Once t (b ∷ d) = (often_in t b ≤ 1) × Once t d

put-once : (t : ℕ) (b : List ℕ) (d : List (List ℕ)) → often_in t b ≤ 1 → Once t d → Once t (putting b d)
unfolding Once
put-once t [] d e o = o
put-once t (x ∷ b) d e o = (e, o)

cond-one : (b : Bool) → cond b 1 0 ≤ 1
cond-one true = omega arith
cond-one false = omega arith

-- One step j that takes one scope k back.
module _ (p : Plan) (h : Promised p) (k j : ℕ) (close : is_close p root k ≡ true) (takes : some (eqb j) (back_of p k) ≡ true) where
  direct : (e : ℕ) → is_close p root e ≡ true → directly p.body 0 e ≡ true
  direct e i = direct-close p h.seat e ∙ i

  takes-in : some (eqb j) (back_in p.body 0 k) ≡ true
  unfolding back_of
  takes-in = takes

  -- it closes nothing
  not-close : is_close p root j ≡ false
  not-close =
      decide (is_close p root j)
      (λ i. absurd (body-undo (sym (close-place p.body 0 j h.seat.body (direct j i)) ∙ back-place p.body 0 k j h.seat.body (direct k close) takes-in)))
      (λ i. i)
    where
      body-undo : body_of root h.seat.beyond h.seat.around ≡ undo_of root h.seat.beyond h.seat.around → ⊥
      body-undo e = let z : ◌≡◌ {A = ℕ} 0 1 = cc in omega arith

  -- a closing asks for it once, where it is one of this scope
  asks : (e : ℕ) → is_close p root e ≡ true → often_in j (back_of p e) ≡ cond (eqb k e) 1 0
  unfolding back_of
  asks e i =
      decide (eqb k e)
      (λ z. let y : some (eqb j) (back_in p.body 0 e) ≡ true = subst (λ (n : ℕ). some (eqb j) (back_in p.body 0 n) ≡ true) (eqb-true k e z) takes-in in
      let a = often-some j (back_in p.body 0 e) y in let b = back-once p.body 0 e j h.seat.body (direct e i) in rw z (omega (arith, a, b)))
      (λ z. rw z (often-none j (back_in p.body 0 e) (back_alone p.body 0 k e j h.seat.body (direct k close) (direct e i) z takes-in)))

  -- what was answered, and what is due
  record Even (ks : List ℕ) (a : Book) : Type 0 where
    even : often_in j ks + due_often j a.due ≡ often_in k ks
    once : Once j a.due
    calm : a.begun ≡ false → often_in j ks ≡ 0

  -- another step than both
  other-often : (i t : ℕ) (ks : List ℕ) → eqb i t ≡ false → often_in i (t ∷ ks) ≡ often_in i ks
  unfolding only
  other-often i t ks e = rw e

  own-often : (t : ℕ) (ks : List ℕ) → often_in t (t ∷ ks) ≡ 1 + often_in t ks
  unfolding only
  own-often t ks = rw (eq-eqb t t refl) (omega arith)

  cond-often : (t : ℕ) (ks : List ℕ) → often_in k (t ∷ ks) ≡ cond (eqb k t) 1 0 + often_in k ks
  unfolding only
  cond-often t ks = decide (eqb k t) (λ e. rw e (omega arith)) (λ e. rw e (omega arith))

  paid_other : (t : ℕ) (d : List (List ℕ)) → eqb j t ≡ false → due_often j (paid t d) ≡ due_often j d
  unfolding due_often
  paid_other t [] e = refl
  paid_other t (b ∷ d) e = put-often j (without t b) d ∙ rw (often-other t j b e)

  paid-once : (t : ℕ) (d : List (List ℕ)) → eqb j t ≡ false → Once j d → Once j (paid t d)
  unfolding Once
  paid-once t [] e o = o
  paid-once t (b ∷ d) e o = put-once j (without t b) d (let z = often-other t j b e in let y = o.0 in omega (arith, z, y)) o.1

  paid-own : (d : List (List ℕ)) → is_due j d ≡ true → Once j d → (1 + due_often j (paid j d) ≡ due_often j d) × Once j (paid j d)
  unfolding due_often Once
  paid-own [] e o = absurd (false≢true e)
  paid-own (b ∷ d) e o =
      let z = often-itself j b in let y = put-often j (without j b) d in let w = often-some j b e in let v = o.0 in
      (omega (arith, z, y, w, v), put-once j (without j b) d (omega (arith, z)) o.1)

  -- what is noted, by what the step is
  noted-close : (t : ℕ) (a : Book) → is_close p root t ≡ true → noted p root t a ≡ record { due = putting (back_of p t) a.due; begun = a.begun }
  unfolding noted
  noted-close t a c = rw c

  noted_back : (t : ℕ) (a : Book) → is_close p root t ≡ false → is_back p root t ≡ true → noted p root t a ≡ record { due = paid t a.due; begun = true }
  unfolding noted
  noted_back t a c b = rw (c, b)

  noted-none : (t : ℕ) (a : Book) → is_close p root t ≡ false → is_back p root t ≡ false → noted p root t a ≡ a
  unfolding noted
  noted-none t a c b = rw (c, b)

  may-due : (t : ℕ) (a : Book) → is_close p root t ≡ false → is_back p root t ≡ true → may_note p root t a ≡ true → is_due t a.due ≡ true
  unfolding may_note
  may-due t a c b m = rw (c, b) at m

  apart : (t : ℕ) → is_close p root t ≡ true → eqb j t ≡ false
  apart t c = decide (eqb j t) (λ e. absurd (false≢true (sym not-close ∙ subst (λ (n : ℕ). is_close p root n ≡ true) (sym (eqb-true j t e)) c))) (λ e. e)

  unlike : (t : ℕ) → is_close p root t ≡ false → eqb k t ≡ false
  unlike t c = decide (eqb k t) (λ e. absurd (false≢true (sym c ∙ subst (λ (n : ℕ). is_close p root n ≡ true) (eqb-true k t e) close))) (λ e. e)

  back_at : (t : ℕ) → is_close p root t ≡ true → often_in j (back_of p t) ≤ 1
  back_at t c = let x = asks t c in let y = cond-one (eqb k t) in omega (arith, x, y)

  is-back : is_back p root j ≡ true
  is-back = some-found (λ i. some (eqb j) (back_of p i)) k (inside_of p root) close takes

  even-close : (t : ℕ) (ks : List ℕ) (a : Book) → is_close p root t ≡ true → Even ks a → Even (t ∷ ks) (record { due = putting (back_of p t) a.due; begun = a.begun })
  even-close t ks a c g =
      let w = put-often j (back_of p t) a.due in let x = asks t c in let y = other-often j t ks (apart t c) in let z = cond-often t ks in let v = g.even in
      record { even = omega (arith, w, x, y, z, v); once = put-once j (back_of p t) a.due (back_at t c) g.once; calm = λ b. y ∙ g.calm b }

  even-own : (ks : List ℕ) (a : Book) → is_due j a.due ≡ true → eqb k j ≡ false → Even ks a → Even (j ∷ ks) (record { due = paid j a.due; begun = true })
  even-own ks a f n g =
      let y = paid-own a.due f g.once in let y₁ = y.0 in let x = own-often j ks in let v = g.even in let z = other-often k j ks n in
      record { even = omega (arith, y₁, x, v, z); once = y.1; calm = λ b. absurd (false≢true (sym b)) }

  even-other : (t : ℕ) (ks : List ℕ) (a : Book) → eqb j t ≡ false → eqb k t ≡ false → Even ks a → Even (t ∷ ks) (record { due = paid t a.due; begun = true })
  even-other t ks a e n g =
      let y = paid_other t a.due e in let x = other-often j t ks e in let v = g.even in let z = other-often k t ks n in
      record { even = omega (arith, y, x, v, z); once = paid-once t a.due e g.once; calm = λ b. absurd (false≢true (sym b)) }

  even-none : (t : ℕ) (ks : List ℕ) (a : Book) → eqb j t ≡ false → eqb k t ≡ false → Even ks a → Even (t ∷ ks) a
  even-none t ks a e n g =
      let x = other-often j t ks e in let v = g.even in let z = other-often k t ks n in record { even = omega (arith, x, v, z); once = g.once; calm = λ b. x ∙ g.calm b }

  -- one more answer
  even_step : (t : ℕ) (ks : List ℕ) (a : Book) → may_note p root t a ≡ true → Even ks a → Even (t ∷ ks) (noted p root t a)
  even_step t ks a m g =
      decide (is_close p root t)
      (λ c. subst (λ (b : Book). Even (t ∷ ks) b) (sym (noted-close t a c)) (even-close t ks a c g))
      (λ c. decide (is_back p root t)
      (λ b. subst (λ (q : Book). Even (t ∷ ks) q) (sym (noted_back t a c b)) (decide (eqb j t)
      (λ e. let i : j ≡ t = eqb-true j t e in
      subst (λ (q : ℕ). Even (q ∷ ks) (record { due = paid q a.due; begun = true })) i
      (even-own ks a (subst (λ (q : ℕ). is_due q a.due ≡ true) (sym i) (may-due t a c b m)) (subst (λ (q : ℕ). eqb k q ≡ false) (sym i) (unlike t c)) g))
      (λ e. even-other t ks a e (unlike t c) g)))
      (λ b. subst (λ (q : Book). Even (t ∷ ks) q) (sym (noted-none t a c b))
      (even-none t ks a (decide (eqb j t) (λ q. absurd (false≢true (sym b ∙ subst (λ (n : ℕ). is_back p root n ≡ true) (eqb-true j t q) is-back))) (λ q. q)) (unlike t c) g)))

-- what holds of each
pub every-named : (f : ℕ → Bool) (l : List Inner) → ((e : ℕ) → some (λ x. eqb x.number e) l ≡ true → f e ≡ true) → every (λ x. f x.number) l ≡ true
unfolding every some
every-named f [] g = refl
every-named f (x ∷ l) g = rw (g x.number (rw (eq-eqb x.number x.number refl)), every-named f l (λ e i. g e (rw (i, or-true))))

pub every-among : (f : ℕ → Bool) (l : List ℕ) → ((j : ℕ) → some (eqb j) l ≡ true → f j ≡ true) → every f l ≡ true
unfolding every some
every-among f [] g = refl
every-among f (x ∷ l) g = rw (g x (rw (eq-eqb x x refl)), every-among f l (λ j i. g j (rw (i, or-true))))

empties-none : (d : List (List ℕ)) → empties d ≡ true → d ≡ []
empties-none [] e = refl
empties-none (b ∷ d) e = absurd (false≢true e)

none-often : (j : ℕ) → due_often j [] ≡ 0
unfolding due_often
none-often j = refl

all_back : (j : ℕ) (d : List (List ℕ)) → d ≡ [] → (m n : ℕ) → m + due_often j d ≡ n → m ≡ n
all_back j d e m n i = let z : due_often j d ≡ 0 = ap (due_often j) e ∙ none-often j in omega (arith, z, i)

not_so : (b : Bool) → not b ≡ true → b ≡ false
not_so true e = absurd (false≢true e)
not_so false e = refl

module _ (p : Plan) (h : Promised p) where
  -- every step that takes a scope back
  abbrev AllEven : List ℕ → Book → Type 0
  AllEven ks a = (k j : ℕ) (c : is_close p root k ≡ true) (t : some (eqb j) (back_of p k) ≡ true) → Even p h k j c t ks a

  new-even : AllEven [] nothing_due
  unfolding only due_often Once
  new-even k j c t = record { even = refl; once = tt; calm = λ b. refl }

  often-at : (e : End) (ks : List ℕ) (b : Book) → settles e b ≡ true → AllEven ks b → as_often p e ks ≡ true
  unfolding settles as_often
  often-at None ks b s g = refl
  often-at Well ks b s g =
      every-named (λ k. every (λ t. eqb (often_in t ks) 0) (back_of p k)) (inside_of p root)
      (λ k c. every-among (λ t. eqb (often_in t ks) 0) (back_of p k) (λ j t. eq-eqb (often_in j ks) 0 ((g k j c t).calm (not_so b.begun s))))
  often-at Handled ks b s g =
      every-named (λ k. every (λ t. eqb (often_in t ks) (often_in k ks)) (back_of p k)) (inside_of p root)
      (λ k c. every-among (λ t. eqb (often_in t ks) (often_in k ks)) (back_of p k) (λ j t. eq-eqb (often_in j ks) (often_in k ks) (all_back j b.due (empties-none b.due s) (often_in j ks) (often_in k ks) (g k j c t).even)))
  often-at Failed ks b s g = refl
  often-at Left ks b s g = refl

  next-even : (e : End) (ks : List ℕ) (b : Book) → AllEven ks b → AllEven (going_on e ks) (turned e b)
  next-even None ks b g = g
  next-even Well ks b g = new-even
  next-even Handled ks b g = new-even
  next-even Failed ks b g = new-even
  next-even Left ks b g = new-even

  all-often : (l : List Step) (ks : List ℕ) (a : Book) → in_order p a l ≡ true → AllEven ks a → each_as_often p ks l ≡ true
  unfolding in_order each_as_often
  all-often [] ks a e g = refl
  all-often (x ∷ l) ks a e g =
      let b = noted p root x.activity a in
      let js = x.activity ∷ ks in
      both (may_note p root x.activity a) (settles x.end b && in_order p (turned x.end b) l) e (λ m n.
      both (settles x.end b) (in_order p (turned x.end b) l) n (λ s i.
      let g₁ : AllEven js b = λ k j c t. even_step p h k j c t x.activity ks a m (g k j c t) in
      rw (often-at x.end js b s g₁) (all-often l (going_on x.end js) (turned x.end b) i (next-even x.end js b g₁))))

-- As often as it closed.
pub taken-back-as-often : TakenBackAsOften
unfolding TakenBackAsOften TakenBackOnce
taken-back-as-often bytes p next e calls slot t =
    let h = promised p (accepted-is-within bytes e) in all-often p h (answered calls slot (loaded bytes) t) [] nothing_due (taken-back-once bytes p next e calls slot t) (new-even p h)
