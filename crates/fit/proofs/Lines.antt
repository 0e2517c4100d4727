-- Going through the rows of a plan's table visits what an order awaits, in order: stated once, for any state that is carried along. Assumes nothing.
use mathlib.Core.Path.{◌≡◌, refl, sym, ap, ◌∙◌}
use mathlib.Core.Bool.{Bool, true, false, cond, not, ◌&&◌, ◌||◌}
use mathlib.Core.List.{List, [], ◌∷◌, ◌++◌, append_assoc}
use Prim.Native.Nat.{ℕ, zero, suc, ◌+◌, ◌*◌, ◌<◌, ◌≤◌}
use native.Mathlib.Decide.{ℕ_discrete, dec_lt}
use native.Mathlib.Nat.{add-zero}
use native.Mathlib.Numerals.{add-one}
use native.Mathlib.Omega.{arith}
use borrow.Author.Tests.{lt-ltb, le-ltb, leb-true}
use lib.Dec.{eqb, ltb, leb}
use lib.ListN.{length, get_or, drop, length-append, drop_of_length-le}
use lib.Seq.{drop-cons}
use Rattle.plan.specs.Read.{later_of}
use Rattle.plan.specs.Spells.{Spells, SpellsAll, SpellsPlan, variables_of}
use Rattle.plan.specs.Tree.{to_partner, to_held, from_partner, from_asking, Own, empty, send, receive, set, raise, leave, choose, repeat, sequence, flow, pick, scope, arm, is_pick, has_undo, numbers_of, Act, act, Acts, none, more, Plan, size, sizes, count}
use Rattle.plan.specs.Spell.{spelling, gaps_of, later, passing}
use Rattle.plan.specs.Within.{from1, scope_parts, numbers_within, ascending, levels_below, exchange_within, own_within, act_within, acts_within, plan_within}
use Rattle.plan.proofs.Accepts.{both}
use Rattle.plan.proofs.ByKind.{kind-pick}
use Rattle.order.specs.declared.Order.{Order}
use Rattle.fit.specs.Answering.{open_pick, arms_from}
use Rattle.machine.specs.Fit.{doing_of, awaits, Ready, ready_in, ready_among, ready_of, Letter}
use Rattle.order.specs.Lists.{each, only}
use Rattle.order.specs.State.{active}
use Rattle.fit.proofs.Finds.{ends-in, size-some}
use Rattle.fit.specs.Folds.{folded}
use Rattle.fit.specs.Lines.{Line, lines_in, lines_among, lines_of, is_ready, ready_at, ready_line, Stands, Tabled, Rows, Wholes}

-- going through a list
pub fold-append : {A S : Type 0} (f : A → S → S) (l k : List A) (s : S) → folded f (l ++ k) s ≡ folded f k (folded f l s)
unfolding folded
fold-append f [] k s = refl
fold-append f (a ∷ l) k s = fold-append f l k (f a s)

pub fold-each : {A B S : Type 0} (f : B → S → S) (g : A → List B) (l : List A) (s : S) → folded f (each g l) s ≡ folded (λ x. folded f (g x)) l s
unfolding folded each
fold-each f g [] s = refl
fold-each f g (a ∷ l) s = fold-append f (g a) (each g l) s ∙ fold-each f g l (folded f (g a) s)

pub fold_same : {A S : Type 0} (f g : A → S → S) → ((a : A) (s : S) → f a s ≡ g a s) → (l : List A) (s : S) → folded f l s ≡ folded g l s
unfolding folded
fold_same f g e [] s = refl
fold_same f g e (a ∷ l) s = ap (folded f l) (e a s) ∙ fold_same f g e l (g a s)

pub fold-only : {A S : Type 0} (f : A → S → S) (g : A → Bool) (l : List A) (s : S) → folded f (only g l) s ≡ folded (λ x c. cond (g x) (f x c) c) l s
unfolding folded only
fold-only f g [] s = refl
fold-only {A} {S} f g (a ∷ l) s = by-test (λ c. fold-only f g l c) (g a)
  where
    by-test : ((c : S) → folded f (only g l) c ≡ folded (λ x c. cond (g x) (f x c) c) l c) → (b : Bool)
        → folded f (cond b (a ∷ only g l) (only g l)) s ≡ folded (λ x c. cond (g x) (f x c) c) l (cond b (f a s) s)
    by-test e true = e (f a s)
    by-test e false = e s

each_append : {A B : Type 0} (f : A → List B) (l k : List A) → each f (l ++ k) ≡ each f l ++ each f k
unfolding each
each_append f [] k = refl
each_append f (a ∷ l) k = rw (each_append f l k, append_assoc)

-- what an order awaits is what its lines await
mutual
  unfolding ready_in ready_line lines_in each

  ready-in : (a : Act) (k : ℕ) (b : Bool) (ms : List ℕ) → ready_in a k b ms ≡ each (ready_line ms) (lines_in a k b ms)
  ready-in (act own l) k b ms =
      by-test (awaits own b (get_or ms k 0)) (record { activity = k; step = doing_of own l k })
      ∙ rw (ready-among l (k + 1) (is_pick own && eqb (get_or ms k 0) active) ms)
    where
      by-test : (x : Bool) (r : Ready)
          → ◌≡◌ {A = List Ready} (elim x [ true ↦ r ∷ ready_among l (k + 1) (is_pick own && eqb (get_or ms k 0) active) ms | false ↦ ready_among l (k + 1) (is_pick own && eqb (get_or ms k 0) active) ms ])
          (cond x (r ∷ []) [] ++ ready_among l (k + 1) (is_pick own && eqb (get_or ms k 0) active) ms)
      by-test true r = refl
      by-test false r = refl

  ready-among : (l : Acts) (c : ℕ) (b : Bool) (ms : List ℕ) → ready_among l c b ms ≡ each (ready_line ms) (lines_among l c b ms)
  ready-among none c b ms = refl
  ready-among (more a l) c b ms =
      rw (ready-in a c b ms, ready-among l (c + size a) b ms) (sym (each_append (ready_line ms) (lines_in a c b ms) (lines_among l (c + size a) b ms)))

pub ready-lines : (p : Plan) (o : Order) → ready_of p o ≡ each (ready_line o.marks) (lines_of p o.marks)
unfolding ready_of lines_of
ready-lines p o =
    rw (ready-in p.body 0 false o.marks, ready-in p.fault (size p.body) false o.marks)
    (sym (each_append (ready_line o.marks) (lines_in p.body 0 false o.marks) (lines_in p.fault (size p.body) false o.marks)))

fold_line : {S : Type 0} (f : Ready → S → S) (ms : List ℕ) (x : Line) (s : S) → folded f (ready_line ms x) s ≡ cond (is_ready ms x) (f (ready_at x) s) s
unfolding ready_line folded
fold_line {S} f ms x s = by-test (is_ready ms x)
  where
    by-test : (b : Bool) → folded f (cond b (ready_at x ∷ []) []) s ≡ cond b (f (ready_at x) s) s
    by-test true = refl
    by-test false = refl

-- so a fold over what the order awaits is a fold over the lines
pub fold-ready : {S : Type 0} (f : Ready → S → S) (p : Plan) (o : Order) (s : S)
    → folded f (ready_of p o) s ≡ folded (λ x c. cond (is_ready o.marks x) (f (ready_at x) c) c) (lines_of p o.marks) s
fold-ready f p o s =
    ap (λ l. folded f l s) (ready-lines p o)
    ∙ (fold-each f (ready_line o.marks) (lines_of p o.marks) s
    ∙ fold_same _ _ (λ x c. fold_line f o.marks x c) (lines_of p o.marks) s)

-- there are as many lines as rows
mutual
  unfolding lines_in size

  lines_long : (a : Act) (k : ℕ) (b : Bool) (ms : List ℕ) → length (lines_in a k b ms) ≡ size a
  lines_long (act own l) k b ms = let e = among-long l (k + 1) (is_pick own && eqb (get_or ms k 0) active) ms in omega arith

  among-long : (l : Acts) (c : ℕ) (b : Bool) (ms : List ℕ) → length (lines_among l c b ms) ≡ sizes l
  among-long none c b ms = refl
  among-long (more a l) c b ms =
      length-append (lines_in a c b ms) (lines_among l (c + size a) b ms) ∙ rw (lines_long a c b ms, among-long l (c + size a) b ms)

pub plan-long : (p : Plan) (ms : List ℕ) → length (lines_of p ms) ≡ size p.body + size p.fault
unfolding lines_of
plan-long p ms =
    length-append (lines_in p.body 0 false ms) (lines_in p.fault (size p.body) false ms)
    ∙ rw (lines_long p.body 0 false ms, lines_long p.fault (size p.body) false ms)

-- and no more than 256
pub size-short : (p : Plan) → plan_within p ≡ true → size p.body + size p.fault ≤ 256
unfolding plan_within
size-short p y =
    both (leb (length (spelling p)) 4096) _ y
    (λ y1 z1. both (from1 16 p.variables) _ z1
    (λ y2 z2. both (ascending p.variables 0 p.correlation) _ z2
    (λ y3 z3. both (act_within p.variables p.correlation false false p.body 16) _ z3
    (λ y4 z4. both (act_within p.variables p.correlation true false p.fault 16) _ z4
    (λ y5 z5. both (leb (size p.body + size p.fault) 256) _ z5 (λ y6 z6. leb-true (size p.body + size p.fault) 256 y6))))))

-- no activity within the limits names more than four variables
few-exchange : (vars : ℕ) (once : Bool) (a b : ℕ) (vs : List ℕ) → exchange_within vars once a b vs ≡ true → length vs ≤ 4
unfolding exchange_within
few-exchange vars once a b vs h =
    both (ltb a 64) _ h
    (λ h1 g1. both (ltb b 64) _ g1
    (λ h2 g2. both (leb 1 (length vs)) _ g2
    (λ h3 g3. both (leb (length vs) 4) _ g3 (λ h4 g4. leb-true (length vs) 4 h4))))

few-own : (vars : ℕ) (cs : List ℕ) (h ar : Bool) (own : Own) (n : ℕ) → own_within vars cs h ar own n ≡ true → length (variables_of own) ≤ 4
unfolding own_within variables_of
few-own vars cs h ar empty n e = omega arith
few-own vars cs h ar (send (to_partner a) b vs) n e = both (not ar) _ e (λ h1 g1. both (eqb n 0) _ g1 (λ h2 g2. few-exchange vars false a b vs g2))
few-own vars cs h ar (send (to_held v a) b vs) n e =
    both (not ar) _ e (λ h1 g1. both (eqb n 0) _ g1 (λ h2 g2. both (ltb v vars) _ g2 (λ h3 g3. few-exchange vars false a b vs g3)))
few-own vars cs h ar (receive (from_partner a) b vs) n e = both (not ar) _ e (λ h1 g1. both (eqb n 0) _ g1 (λ h2 g2. few-exchange vars true a b vs g2))
few-own vars cs h ar (receive (from_asking a v) b vs) n e =
    both (not ar) _ e (λ h1 g1. both (eqb n 0) _ g1 (λ h2 g2. both (exchange_within vars true a b vs) _ g2 (λ h3 g3. few-exchange vars true a b vs h3)))
few-own vars cs h ar (set v x) n e = omega arith
few-own vars cs h ar (raise zero) n e = omega arith
few-own vars cs h ar (raise (suc number)) n e = omega arith
few-own vars cs h ar leave n e = omega arith
few-own vars cs h ar (choose x) n e = omega arith
few-own vars cs h ar (repeat x) n e = omega arith
few-own vars cs h ar sequence n e = omega arith
few-own vars cs h ar flow n e = omega arith
few-own vars cs h ar pick n e = omega arith
few-own vars cs h ar (scope ns u) n e = omega arith
few-own vars cs h ar (arm a b vs) n e = both ar _ e (λ h1 g1. both (eqb n 1) _ g1 (λ h2 g2. few-exchange vars true a b vs g2))

-- the numbers that one has fault parts for are within their limits
numbers-own : (vars : ℕ) (cs : List ℕ) (h ar : Bool) (own : Own) (n : ℕ) → own_within vars cs h ar own n ≡ true → numbers_within (numbers_of own) (has_undo own) ≡ true
unfolding own_within numbers_within
numbers-own vars cs h ar empty n e = refl
numbers-own vars cs h ar (send a b vs) n e = refl
numbers-own vars cs h ar (receive a b vs) n e = refl
numbers-own vars cs h ar (set v x) n e = refl
numbers-own vars cs h ar (raise number) n e = refl
numbers-own vars cs h ar leave n e = refl
numbers-own vars cs h ar (choose x) n e = refl
numbers-own vars cs h ar (repeat x) n e = refl
numbers-own vars cs h ar sequence n e = refl
numbers-own vars cs h ar flow n e = refl
numbers-own vars cs h ar pick n e = refl
numbers-own vars cs h ar (scope ns u) n e =
    both (not ar) _ e (λ h1 g1. both (eqb n (scope_parts ns u)) _ g1 (λ h2 g2. both (not h) (numbers_within ns u) g2 (λ h3 g3. g3)))
numbers-own vars cs h ar (arm a b vs) n e = refl

-- each line stands in its row
data Standing (t ms : List ℕ) : ℕ → List Line → Type 0 where
  nothing : {k : ℕ} → Standing t ms k []
  also : {k : ℕ} {x : Line} {l : List Line} → Stands t ms k x → Standing t ms (k + 1) l → Standing t ms k (x ∷ l)

module _ (t ms : List ℕ) where
  standing-append : {k : ℕ} {l : List Line} (l' : List Line) → Standing t ms k l → Standing t ms (k + length l) l' → Standing t ms k (l ++ l')
  standing-append {k} l' nothing r = rw add-zero at r
  standing-append {k} l' (also {l = l} s q) r =
      let e : k + suc (length l) ≡ k + 1 + length l = omega arith in
      also s (standing-append l' q (rw e at r))

  standing-at : {n : ℕ} {l : List Line} (d : Line) → Standing t ms n l → (i : ℕ) → i < length l → Stands t ms (n + i) (get_or l i d)
  standing-at d nothing i h = absurd (omega arith)
  standing-at {n} d (also s q) zero h = rw add-zero s
  standing-at {n} d (also s q) (suc i) h =
      let e : n + 1 + i ≡ n + suc i = omega arith in
      rw e at (standing-at d q i (omega arith))

  -- whether the arm in row c is open: its pick is row n
  arms-skip : (c n : ℕ) → ((j : ℕ) → n < j → j < c → get_or t (j * 13 + 11) 0 ≤ c) → (j : ℕ) → n < j → j ≤ c
      → arms_from t ms c j ≡ arms_from t ms c (suc n)
  unfolding arms_from
  arms-skip c n f zero h g = absurd (omega arith)
  arms-skip c n f (suc j) h g =
      elim (ℕ_discrete j n) [
        | yes e ↦ rw e
        | no e ↦
            let l = f j (omega (arith, e)) (omega arith) in
            rw (le-ltb _ _ l) (arms-skip c n f j (omega (arith, e)) (omega arith))
      ]

  arms-here : (c n : ℕ) → ((j : ℕ) → n < j → j < c → get_or t (j * 13 + 11) 0 ≤ c) → n < c → c < get_or t (n * 13 + 11) 0
      → arms_from t ms c c ≡ open_pick t ms n
  unfolding arms_from
  arms-here c n f h g = arms-skip c n f c h (omega arith) ∙ rw (lt-ltb _ _ g)

  -- where no row before reaches beyond row c, row c is no arm that is open
  arms_none : (c : ℕ) → ((j : ℕ) → j < c → get_or t (j * 13 + 11) 0 ≤ c) → (j : ℕ) → j ≤ c → arms_from t ms c j ≡ false
  unfolding arms_from
  arms_none c f zero g = refl
  arms_none c f (suc j) g =
      let l = f j (omega arith) in
      rw (le-ltb _ _ l) (arms_none c f j (omega arith))

  -- what is known of the rows of an activity within row n, from row c on
  record Under (n c e : ℕ) (b : Bool) : Type 0 where
    parent : n < c
    reach : e ≤ get_or t (n * 13 + 11) 0
    before : (j : ℕ) → n < j → j < c → get_or t (j * 13 + 11) 0 ≤ c
    flag : open_pick t ms n ≡ b

  open-under : {n c e : ℕ} {b : Bool} → Under n c e b → c < e → arms_from t ms c c ≡ b
  open-under {n} {c} u h =
      let g : c < get_or t (n * 13 + 11) 0 = omega (arith, u.reach) in
      arms-here c n u.before u.parent g ∙ u.flag

  under_next : {n c e : ℕ} {b : Bool} (a : Act) (at q : ℕ) → Under n c e b → Spells a at c q t → Under n (c + size a) e b
  under_next {n} {c} a at q u s = record {
    parent = omega (arith, u.parent);
    reach = u.reach;
    before = λ j h g.
        elim (dec_lt j c) [
          | yes l ↦ let w = u.before j h l in omega (arith, w)
          | no l ↦ ends-in t a at c q s j (omega (arith, l)) g
        ];
    flag = u.flag;
  }

  under_first : (own : Own) (l : Acts) (at n q : ℕ) → Spells (act own l) at n q t
      → Under n (n + 1) (n + 1 + sizes l) (is_pick own && eqb (get_or ms n 0) active)
  unfolding Spells
  under_first own l at n q s = record {
    parent = omega arith;
    reach = omega (arith, s.row.end);
    before = λ j h g. absurd (omega arith);
    flag = rw (s.row.kind, kind-pick own);
  }

  mutual
    unfolding Spells size lines_in act_within

    standing-in : (a : Act) (at n q : ℕ) (b : Bool) (vars : ℕ) (cs : List ℕ) (h ar : Bool) (d : ℕ) → Spells a at n q t → n + size a ≤ 256 → arms_from t ms n n ≡ b
        → act_within vars cs h ar a d ≡ true → Standing t ms n (lines_in a n b ms)
    standing-in (act own l) at n q b vars cs h ar d s g e y =
        both (ar || ltb 0 d) _ y
        (λ y1 z1. both (own_within vars cs h ar own (count l)) _ z1
        (λ y2 z2.
        also (record { place = at; node = q; inside = omega arith; activity = refl; spelled = s; arms = sym e; few = few-own vars cs h ar own (count l) y2; numbers = numbers-own vars cs h ar own (count l) y2 })
        (standing-among (gaps_of (numbers_of own)) l _ (n + 1) _ n _ vars cs h (later_of own h) (is_pick own) (levels_below ar d) (under_first own l at n q s) s.within (omega arith) z2)))

    standing-among : (gs : List (List ℕ)) (l : Acts) (at c q n : ℕ) (b : Bool) (vars : ℕ) (cs : List ℕ) (h h' ar : Bool) (d : ℕ) → Under n c (c + sizes l) b → SpellsAll gs l at c q t → c + sizes l ≤ 256
        → acts_within vars cs h h' ar l d ≡ true → Standing t ms c (lines_among l c b ms)
    standing-among gs none at c q n b vars cs h h' ar d u s g y = nothing
    standing-among gs (more a l) at c q n b vars cs h h' ar d u s g y =
        let z = size-some a in
        let w : c + (size a + sizes l) ≡ c + size a + sizes l = omega arith in
        let v : c + length (lines_in a c b ms) ≡ c + size a = rw (lines_long a c b ms) in
        both (act_within vars cs h ar a d) _ y
        (λ y1 z1.
        standing-append _ (standing-in a (passing gs at) c q b vars cs h ar d s.first (omega arith) (open-under u (omega arith)) y1)
        (rw v (standing-among (later gs) l _ (c + size a) _ n b vars cs h' h' ar d (under_next a (passing gs at) q (rw w at u) s.first) s.rest (omega arith) z1)))

  module _ (p : Plan) (s : SpellsPlan p t) where
    body-flag : arms_from t ms 0 0 ≡ false
    unfolding arms_from
    body-flag = refl

    fault-flag : arms_from t ms (size p.body) (size p.body) ≡ false
    unfolding SpellsAll
    fault-flag =
        let e : 0 + size p.body ≡ size p.body = omega arith in
        arms_none (size p.body) (λ j h. rw e at (ends-in t p.body _ 0 _ s.first j (omega arith) (omega arith))) (size p.body) (omega arith)

    standing-plan : plan_within p ≡ true → Standing t ms 0 (lines_of p ms)
    unfolding SpellsAll lines_of plan_within
    standing-plan y =
        let e : 0 + size p.body ≡ size p.body = omega arith in
        let few = size-short p y in
        let v : 0 + length (lines_in p.body 0 false ms) ≡ size p.body = omega (arith, lines_long p.body 0 false ms) in
        both (leb (length (spelling p)) 4096) _ y
        (λ y1 z1. both (from1 16 p.variables) _ z1
        (λ y2 z2. both (ascending p.variables 0 p.correlation) _ z2
        (λ y3 z3. both (act_within p.variables p.correlation false false p.body 16) _ z3
        (λ y4 z4. both (act_within p.variables p.correlation true false p.fault 16) _ z4
        (λ y5 z5.
        standing-append _ (standing-in p.body _ 0 _ false p.variables p.correlation false false 16 s.first (omega (arith, few)) body-flag y4)
        (rw v (standing-in p.fault _ (size p.body) _ false p.variables p.correlation true false 16 (rw e at s.rest.first) (omega (arith, few)) fault-flag y5)))))))

pub line-stands : {p : Plan} {t : List ℕ} {n : ℕ} (ms : List ℕ) (d : Line) → Tabled p t n → (k : ℕ) → k < n → Stands t ms k (get_or (lines_of p ms) k d)
line-stands {p} {t} {n} ms d y k h =
    let e : 0 + k ≡ k = omega arith in
    let g : k < length (lines_of p ms) = omega (arith, plan-long p ms, y.many) in
    rw e at (standing-at t ms d (standing-plan t ms p y.spells y.limited) k g)

-- the loop over the rows of the table, for any order that something is known of
pub record Rowing {S : Type 0} (t : List ℕ) (activities : ℕ) (Given : Order → Plan → List Letter → Type 0) (f : Order → Plan → List Letter → Line → S → S) (start : S) (k : ℕ) (c : S) : Type 0 where
  pub within : k ≤ activities
  pub same : (o : Order) (p : Plan) (l : List Letter) → Given o p l → Tabled p t activities
      → folded (f o p l) (lines_of p o.marks) start ≡ folded (f o p l) (drop k (lines_of p o.marks)) c

pub rowing-starts : {S : Type 0} (t : List ℕ) (activities : ℕ) (Given : Order → Plan → List Letter → Type 0) (f : Order → Plan → List Letter → Line → S → S) (start : S)
    → Rowing t activities Given f start 0 start
rowing-starts t n G f start = record { within = omega arith; same = λ o p l g y. refl }

no_line : Line
no_line = record { activity = 0; own = empty; within = none; arms = false }

module _ {S : Type 0} {t : List ℕ} {n : ℕ} {G : Order → Plan → List Letter → Type 0} {f : Order → Plan → List Letter → Line → S → S} {start : S} {k : ℕ} {c : S}
    (w : Rowing t n G f start k c) where
  pub rowing-again : k < n → {r : S} → Rows t k G f c r → Rowing t n G f start (k + 1) r
  unfolding folded
  rowing-again h {r} y = record {
    within = omega arith;
    same = λ o p l g q.
        let long : k < length (lines_of p o.marks) = omega (arith, plan-long p o.marks, q.many) in
        let e = y.is o p l (get_or (lines_of p o.marks) k no_line) g (line-stands o.marks no_line q k h) in
        w.same o p l g q
        ∙ (ap (λ x. folded (f o p l) x c) (drop-cons (lines_of p o.marks) k no_line long)
        ∙ (ap (folded (f o p l) (drop (suc k) (lines_of p o.marks))) (sym e) ∙ rw add-one));
  }

  pub rowing-done : n ≤ k → Wholes t n G f start c
  unfolding folded
  rowing-done h = record {
    is = λ o p l g q.
        let long : length (lines_of p o.marks) ≤ k = omega (arith, plan-long p o.marks, q.many) in
        sym (w.same o p l g q ∙ ap (λ x. folded (f o p l) x c) (drop_of_length-le (lines_of p o.marks) long));
  }

-- no plan has more than 256 activities and arms
pub wholes-beyond : {S : Type 0} (t : List ℕ) {n : ℕ} (G : Order → Plan → List Letter → Type 0) (f : Order → Plan → List Letter → Line → S → S) (c r : S)
    → 256 < n → Wholes t n G f c r
wholes-beyond t G f c r h = record { is = λ o p l g q. absurd (omega (arith, size-short p q.limited, q.many)) }
