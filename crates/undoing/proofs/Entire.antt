-- What begins in a log begins with all that belongs to it: laws of how often, by the tree, and what begins with an activity. Assumes nothing.
use Prim.Native.Nat.{ℕ, zero, suc, ◌+◌, ◌≤◌, ◌<◌}
use native.Mathlib.Omega.{arith}
use mathlib.Core.Path.{◌≡◌, refl, sym, subst, ◌∙◌}
use mathlib.Core.Bool.{Bool, true, false, false≢true}
use mathlib.Core.List.{List, [], ◌∷◌, ◌++◌}
use lib.ListN.{set}
use lib.Dec.{eqb}
use borrow.Author.Tests.{eq-eqb, ne_eqb}
use Rattle.plan.specs.Tree.{Own, empty, send, receive, set as setting, raise, leave, choose, repeat, sequence, flow, pick, scope, arm, kind, Act, act, Acts, none, more, size, sizes, is_scope, is_arm, is_pick, to_partner, to_held, from_partner, from_asking}
use Rattle.order.specs.State.{active}
use Rattle.order.specs.Event.{Event, began}
use Rattle.order.specs.Begin.{Begun, throughout, around, in_turn, begin, begin_in_turn, begin_all, begin_first}
use Rattle.undoing.specs.Orderly.{is_began_of}
use Rattle.undoing.specs.Entirely.{times}
use Rattle.undoing.proofs.Truly.{Arms, Knows, knows, KnowsIn, knows-none, knows_more}

-- two things
pub record Two (A B : Type 0) : Type 0 where
  pub one : A
  pub other : B

-- how often, with two lists of events, and with one more
pub times-append : (j : ℕ) (l m : List Event) → times j (l ++ m) ≡ times j l + times j m
unfolding times
times-append j [] m = omega arith
times-append j (e ∷ l) m = let z = times-append j l m in omega arith

pub times-event : (j : ℕ) (e : Event) (l : List Event) → is_began_of (eqb j) e ≡ false → times j (e ∷ l) ≡ times j l
unfolding times
times-event j e l h = rw h (omega arith)

times-own : (k : ℕ) (l : List Event) → times k (began k ∷ l) ≡ 1 + times k l
unfolding times is_began_of
times-own k l = rw (eq-eqb k k refl)

times-other : (j k : ℕ) (l : List Event) → (j ≡ k → ⊥) → times j (began k ∷ l) ≡ times j l
unfolding times is_began_of
times-other j k l h = rw (ne_eqb j k h) (omega arith)

-- none of n numbers from c on begins; all of them as often with another list
pub record Zero (l : List Event) (c n : ℕ) : Type 0 where
  pub at : (j : ℕ) → c ≤ j → j < c + n → times j l ≡ 0

pub record Like (l m : List Event) (c n : ℕ) : Type 0 where
  pub at : (j : ℕ) → c ≤ j → j < c + n → times j m ≡ times j l

pub zero-part : {l : List Event} {c n d m : ℕ} → Zero l c n → c ≤ d → d + m ≤ c + n → Zero l d m
zero-part z h e = record { at = λ j x y. z.at j (omega arith) (omega arith) }

like-part : {l m : List Event} {c n d k : ℕ} → Like l m c n → c ≤ d → d + k ≤ c + n → Like l m d k
like-part z h e = record { at = λ j x y. z.at j (omega arith) (omega arith) }

-- Laws of a list of activities: each begins n times; each no oftener than the one before it, but for what x allows; the first n times, and so on; the first n times.
abbrev pub Even : List Event → (n : ℕ) → Acts → (c : ℕ) → Type 0
Even l n none c = Unit {0}
Even l n (more a r) c = Two (times c l ≡ n) (Even l n r (c + size a))

abbrev pub Row : (ℕ → ℕ → ℕ) → List Event → (i : ℕ) → Acts → (c : ℕ) → Type 0
Row x l i none c = Unit {0}
Row x l i (more a r) c = Two (times c l ≤ times i l + x i c) (Row x l c r (c + size a))

abbrev pub Rows : (ℕ → ℕ → ℕ) → List Event → (n : ℕ) → Acts → (c : ℕ) → Type 0
Rows x l n none c = Unit {0}
Rows x l n (more a r) c = Two (times c l ≡ n) (Row x l c r (c + size a))

abbrev pub First : List Event → (n : ℕ) → Acts → (c : ℕ) → Type 0
First l n none c = Unit {0}
First l n (more a r) c = times c l ≡ n

-- of an activity, by its kind, where R holds of what stands within
pub record Node (x : ℕ → ℕ → ℕ) (l : List Event) (own : Own) (within : Acts) (k : ℕ) (R : Type 0) : Type 0 where
  pub rows : eqb (kind own) 8 ≡ true → Rows x l (times k l) within (k + 1)
  pub even : eqb (kind own) 9 ≡ true → Even l (times k l) within (k + 1)
  pub first : is_scope own ≡ true → First l (times k l) within (k + 1)
  pub rest : R

unfoldable mutual
  pub Holds : (ℕ → ℕ → ℕ) → List Event → Act → (k : ℕ) → Type 0
  Holds x l (act own within) k = Node x l own within k (HoldsIn x l within (k + 1))

  pub HoldsIn : (ℕ → ℕ → ℕ) → List Event → Acts → (c : ℕ) → Type 0
  HoldsIn x l none c = Unit {0}
  HoldsIn x l (more a r) c = Two (Holds x l a c) (HoldsIn x l r (c + size a))

-- nothing is allowed
abbrev pub no : ℕ → ℕ → ℕ
no i j = 0

module _ (x : ℕ → ℕ → ℕ) where
  -- where none begins
  pub even-zero : (l : List Event) (r : Acts) (c : ℕ) → Zero l c (sizes r) → Even l 0 r c
  unfolding size
  even-zero l none c z = tt
  even-zero l (more (act own w) r) c z = record { one = z.at c (omega arith) (omega arith); other = even-zero l r (c + size (act own w)) (zero-part z (omega arith) (omega arith)) }

  pub row_zero : (l : List Event) (i : ℕ) (r : Acts) (c : ℕ) → Zero l c (sizes r) → Row x l i r c
  unfolding size
  row_zero l i none c z = tt
  row_zero l i (more (act own w) r) c z = record { one = let y = z.at c (omega arith) (omega arith) in omega arith; other = row_zero l c r (c + size (act own w)) (zero-part z (omega arith) (omega arith)) }

  -- each no time, so one after the other
  even-row : (l : List Event) (i : ℕ) (r : Acts) (c : ℕ) → Even l 0 r c → Row x l i r c
  even-row l i none c z = tt
  even-row l i (more a r) c z = record { one = let y = z.one in omega arith; other = even-row l c r (c + size a) z.other }

  pub even-rows : (l : List Event) (n : ℕ) (r : Acts) (c : ℕ) → n ≡ 0 → Even l 0 r c → Rows x l n r c
  even-rows l n none c e z = tt
  even-rows l n (more a r) c e z = record { one = z.one ∙ sym e; other = even-row l c r (c + size a) z.other }

  pub even-even : (l : List Event) (n : ℕ) (r : Acts) (c : ℕ) → n ≡ 0 → Even l 0 r c → Even l n r c
  even-even l n none c e z = tt
  even-even l n (more a r) c e z = record { one = z.one ∙ sym e; other = even-even l n r (c + size a) e z.other }

  pub even-first : (l : List Event) (n : ℕ) (r : Acts) (c : ℕ) → n ≡ 0 → Even l 0 r c → First l n r c
  even-first l n none c e z = tt
  even-first l n (more a r) c e z = z.one ∙ sym e

  mutual
    unfolding Holds size

    pub holds-zero : (l : List Event) (a : Act) (k : ℕ) → Zero l k (size a) → Holds x l a k
    holds-zero l (act own within) k z =
        let n : times k l ≡ 0 = z.at k (omega arith) (omega arith) in
        let w : Even l 0 within (k + 1) = even-zero l within (k + 1) (zero-part z (omega arith) (omega arith)) in
        record {
          rows = λ e. even-rows l (times k l) within (k + 1) n w;
          even = λ e. even-even l (times k l) within (k + 1) n w;
          first = λ e. even-first l (times k l) within (k + 1) n w;
          rest = holds-in-zero l within (k + 1) (zero-part z (omega arith) (omega arith));
        }

    pub holds-in-zero : (l : List Event) (r : Acts) (c : ℕ) → Zero l c (sizes r) → HoldsIn x l r c
    holds-in-zero l none c z = tt
    holds-in-zero l (more a r) c z = record { one = holds-zero l a c (zero-part z (omega arith) (omega arith)); other = holds-in-zero l r (c + size a) (zero-part z (omega arith) (omega arith)) }

  -- where they begin as often with another list
  pub even-same : (l m : List Event) (n : ℕ) (r : Acts) (c : ℕ) → Like l m c (sizes r) → Even l n r c → Even m n r c
  unfolding size
  even-same l m n none c z h = tt
  even-same l m n (more (act own w) r) c z h = record { one = z.at c (omega arith) (omega arith) ∙ h.one; other = even-same l m n r (c + size (act own w)) (like-part z (omega arith) (omega arith)) h.other }

  pub row_same : (l m : List Event) (i : ℕ) (r : Acts) (c : ℕ) → Like l m c (sizes r) → times i m ≡ times i l → Row x l i r c → Row x m i r c
  unfolding size
  row_same l m i none c z e h = tt
  row_same l m i (more (act own w) r) c z e h =
      let y = z.at c (omega arith) (omega arith) in
      record { one = let u = h.one in omega arith; other = row_same l m c r (c + size (act own w)) (like-part z (omega arith) (omega arith)) y h.other }

  pub rows_same : (l m : List Event) (n : ℕ) (r : Acts) (c : ℕ) → Like l m c (sizes r) → Rows x l n r c → Rows x m n r c
  unfolding size
  rows_same l m n none c z h = tt
  rows_same l m n (more (act own w) r) c z h =
      let y = z.at c (omega arith) (omega arith) in
      record { one = y ∙ h.one; other = row_same l m c r (c + size (act own w)) (like-part z (omega arith) (omega arith)) y h.other }

  pub first-same : (l m : List Event) (n : ℕ) (r : Acts) (c : ℕ) → Like l m c (sizes r) → First l n r c → First m n r c
  unfolding size
  first-same l m n none c z h = tt
  first-same l m n (more (act own w) r) c z h = z.at c (omega arith) (omega arith) ∙ h

  mutual
    unfolding Holds size

    pub holds_same : (l m : List Event) (a : Act) (k : ℕ) → Like l m k (size a) → Holds x l a k → Holds x m a k
    holds_same l m (act own within) k z h =
        let e : times k m ≡ times k l = z.at k (omega arith) (omega arith) in
        let w : Like l m (k + 1) (sizes within) = like-part z (omega arith) (omega arith) in
        record {
          rows = λ d. subst (λ (n : ℕ). Rows x m n within (k + 1)) (sym e) (rows_same l m (times k l) within (k + 1) w (h.rows d));
          even = λ d. subst (λ (n : ℕ). Even m n within (k + 1)) (sym e) (even-same l m (times k l) within (k + 1) w (h.even d));
          first = λ d. subst (λ (n : ℕ). First m n within (k + 1)) (sym e) (first-same l m (times k l) within (k + 1) w (h.first d));
          rest = holds-in-same l m within (k + 1) w h.rest;
        }

    pub holds-in-same : (l m : List Event) (r : Acts) (c : ℕ) → Like l m c (sizes r) → HoldsIn x l r c → HoldsIn x m r c
    holds-in-same l m none c z h = tt
    holds-in-same l m (more a r) c z h =
        record { one = holds_same l m a c (like-part z (omega arith) (omega arith)) h.one; other = holds-in-same l m r (c + size a) (like-part z (omega arith) (omega arith)) h.other }

-- Two lists of events.
module _ (x y z : ℕ → ℕ → ℕ) (le : (i j : ℕ) → x i j + y i j ≤ z i j) (l m : List Event) where
  even-append : (n k : ℕ) (r : Acts) (c : ℕ) → Even l n r c → Even m k r c → Even (l ++ m) (n + k) r c
  even-append n k none c h g = tt
  even-append n k (more a r) c h g = record { one = let e = times-append c l m in let u = h.one in let v = g.one in omega arith; other = even-append n k r (c + size a) h.other g.other }

  row-append : (i : ℕ) (r : Acts) (c : ℕ) → Row x l i r c → Row y m i r c → Row z (l ++ m) i r c
  row-append i none c h g = tt
  row-append i (more a r) c h g =
      record {
        one = let e = times-append c l m in let d = times-append i l m in let u = h.one in let v = g.one in let w = le i c in omega arith;
        other = row-append c r (c + size a) h.other g.other;
      }

  pub rows_append : (n k : ℕ) (r : Acts) (c : ℕ) → Rows x l n r c → Rows y m k r c → Rows z (l ++ m) (n + k) r c
  rows_append n k none c h g = tt
  rows_append n k (more a r) c h g =
      record { one = let e = times-append c l m in let u = h.one in let v = g.one in omega arith; other = row-append c r (c + size a) h.other g.other }

  pub first-append : (n k : ℕ) (r : Acts) (c : ℕ) → First l n r c → First m k r c → First (l ++ m) (n + k) r c
  first-append n k none c h g = tt
  first-append n k (more a r) c h g = let e = times-append c l m in omega arith

  mutual
    unfolding Holds

    pub holds-append : (a : Act) (k : ℕ) → Holds x l a k → Holds y m a k → Holds z (l ++ m) a k
    holds-append (act own within) k h g =
        let e = times-append k l m in
        record {
          rows = λ d. subst (λ (n : ℕ). Rows z (l ++ m) n within (k + 1)) (sym e) (rows_append (times k l) (times k m) within (k + 1) (h.rows d) (g.rows d));
          even = λ d. subst (λ (n : ℕ). Even (l ++ m) n within (k + 1)) (sym e) (even-append (times k l) (times k m) within (k + 1) (h.even d) (g.even d));
          first = λ d. subst (λ (n : ℕ). First (l ++ m) n within (k + 1)) (sym e) (first-append (times k l) (times k m) within (k + 1) (h.first d) (g.first d));
          rest = holds-in-append within (k + 1) h.rest g.rest;
        }

    pub holds-in-append : (r : Acts) (c : ℕ) → HoldsIn x l r c → HoldsIn y m r c → HoldsIn z (l ++ m) r c
    holds-in-append none c h g = tt
    holds-in-append (more a r) c h g = record { one = holds-append a c h.one g.one; other = holds-in-append r (c + size a) h.other g.other }

-- What begins, of a stretch of numbers; an activity that begins, once; a list of which the first begins, or each.
pub record Starts (a : Act) (k : ℕ) (l : List Event) : Type 0 where
  pub holds : Holds no l a k
  pub top : times k l ≡ 1
  pub below : (j : ℕ) → j < k → times j l ≡ 0
  pub above : (j : ℕ) → k + size a ≤ j → times j l ≡ 0

pub record Ranks (P : List Event → Type 0) (r : Acts) (c : ℕ) (l : List Event) : Type 0 where
  pub holds : HoldsIn no l r c
  pub ranks : P l
  pub below : (j : ℕ) → j < c → times j l ≡ 0
  pub above : (j : ℕ) → c + sizes r ≤ j → times j l ≡ 0

-- an activity with nothing to begin with it
leaf-starts : (own : Own) (within : Acts) (k : ℕ) → eqb (kind own) 8 ≡ false → eqb (kind own) 9 ≡ false → is_scope own ≡ false
    → Starts (act own within) k (began k ∷ [])
unfolding Holds size times
leaf-starts own within k a b s =
    record {
      holds = record {
        rows = λ e. absurd (false≢true (sym a ∙ e));
        even = λ e. absurd (false≢true (sym b ∙ e));
        first = λ e. absurd (false≢true (sym s ∙ e));
        rest = holds-in-zero no (began k ∷ []) within (k + 1) (record { at = λ j u v. times-other j k [] (λ d. omega arith) });
      };
      top = times-own k [];
      below = λ j u. times-other j k [] (λ d. omega arith);
      above = λ j u. times-other j k [] (λ d. omega arith);
    }

-- one with what stands within it
node-starts : (own : Own) (within : Acts) (k : ℕ) (m : List Event) (P : List Event → Type 0) → Ranks P within (k + 1) m
    → (eqb (kind own) 8 ≡ true → P m → Rows no m 1 within (k + 1)) → (eqb (kind own) 9 ≡ true → P m → Even m 1 within (k + 1)) → (is_scope own ≡ true → P m → First m 1 within (k + 1))
    → Starts (act own within) k (began k ∷ m)
unfolding Holds size
node-starts own within k m P w a b s =
    record {
      holds = record {
        rows = λ e. subst (λ (n : ℕ). Rows no (began k ∷ m) n within (k + 1)) (sym top₁) (rows_same no m (began k ∷ m) 1 within (k + 1) like (a e w.ranks));
        even = λ e. subst (λ (n : ℕ). Even (began k ∷ m) n within (k + 1)) (sym top₁) (even-same no m (began k ∷ m) 1 within (k + 1) like (b e w.ranks));
        first = λ e. subst (λ (n : ℕ). First (began k ∷ m) n within (k + 1)) (sym top₁) (first-same no m (began k ∷ m) 1 within (k + 1) like (s e w.ranks));
        rest = holds-in-same no m (began k ∷ m) within (k + 1) like w.holds;
      };
      top = top₁;
      below = λ j u. times-other j k m (λ d. omega arith) ∙ w.below j (omega arith);
      above = λ j u. times-other j k m (λ d. omega arith) ∙ w.above j (omega arith);
    }
  where
    top₁ : times k (began k ∷ m) ≡ 1
    top₁ = let e = times-own k m in let d = w.below k (omega arith) in omega arith

    like : Like m (began k ∷ m) (k + 1) (sizes within)
    like = record { at = λ j u v. times-other j k m (λ d. omega arith) }

through-log : (k : ℕ) (r : Begun) → (throughout k r).log ≡ r.log
through-log k r = go r.over
  where
    go : (v : Bool) → (throughout k (record { marks = r.marks; over = v; log = r.log })).log ≡ r.log
    go true = refl
    go false = refl

around-log : (k : ℕ) (r : Begun) → (around k r).log ≡ r.log
around-log k r = go r.over
  where
    go : (v : Bool) → (around k (record { marks = r.marks; over = v; log = r.log })).log ≡ r.log
    go true = refl
    go false = refl

-- none of a list
pub none-ranks : (P : List Event → Type 0) (c : ℕ) → P [] → Ranks P none c []
unfolding Holds times
none-ranks P c h = record { holds = tt; ranks = h; below = λ j u. refl; above = λ j u. refl }

-- the first of a list, and nothing of the others
only-first : (a : Act) (r : Acts) (c : ℕ) (l : List Event) (P : List Event → Type 0) → Starts a c l → P l → Ranks P (more a r) c l
unfolding Holds size
only-first a r c l P w h =
    record {
      holds = record { one = w.holds; other = holds-in-zero no l r (c + size a) (record { at = λ j u v. w.above j u }) };
      ranks = h;
      below = w.below;
      above = λ j u. w.above j (omega arith);
    }

-- the first of a list and then the others
then-ranks : (a : Act) (r : Acts) (c : ℕ) (l m : List Event) (P Q : List Event → Type 0) → Starts a c l → Ranks Q r (c + size a) m → P (l ++ m) → Ranks P (more a r) c (l ++ m)
unfolding Holds size
then-ranks a r c l m P Q w v h =
    record {
      holds = record {
        one = holds_same no l (l ++ m) a c (record { at = λ j x y. let e = times-append j l m in let d = v.below j y in omega arith }) w.holds;
        other = holds-in-same no m (l ++ m) r (c + size a) (record { at = λ j x y. let e = times-append j l m in let d = w.above j x in omega arith }) v.holds;
      };
      ranks = h;
      below = λ j u. let e = times-append j l m in let d = w.below j u in let f = v.below j (omega arith) in omega arith;
      above = λ j u. let e = times-append j l m in let d = w.above j (omega arith) in let f = v.above j (omega arith) in omega arith;
    }

-- the numbers after the first are as often as with the second list, and the first as with the first
first-times : (a : Act) (r : Acts) (c : ℕ) (l m : List Event) {Q : List Event → Type 0} → Starts a c l → Ranks Q r (c + size a) m → times c (l ++ m) ≡ 1
unfolding size
first-times (act own w) r c l m s v = let e = times-append c l m in let d = s.top in let f = v.below c (omega arith) in omega arith

later-like : (a : Act) (r : Acts) (c : ℕ) (l m : List Event) → Starts a c l → Like m (l ++ m) (c + size a) (sizes r)
later-like a r c l m s = record { at = λ j x y. let e = times-append j l m in let d = s.above j x in omega arith }

-- a list of which the first begins once, so that the next begins no oftener
pub rows_row : (x : ℕ → ℕ → ℕ) (l : List Event) (i : ℕ) (r : Acts) (c : ℕ) → 1 ≤ times i l + x i c → Rows no l 1 r c → (((i j : ℕ) → 0 ≤ x i j) → Row x l i r c)
rows_row x l i none c h g f = tt
rows_row x l i (more a r) c h g f = record { one = let e = g.one in omega arith; other = weaker l c r (c + size a) g.other }
  where
    weaker : (l : List Event) (i : ℕ) (r : Acts) (c : ℕ) → Row no l i r c → Row x l i r c
    weaker l i none c g = tt
    weaker l i (more a r) c g = record { one = let e = g.one in omega arith; other = weaker l c r (c + size a) g.other }

-- a scope's kind is one of three
pub scope-not : (n : ℕ) (xs : List ℕ) (v : Bool) → eqb 11 n ≡ false → eqb 12 n ≡ false → eqb 14 n ≡ false → eqb (kind (scope xs v)) n ≡ false
unfolding kind
scope-not n [] true x y z = x
scope-not n [] false x y z = y
scope-not n (i ∷ xs) v x y z = z

module _ (f : ℕ → ℕ) where
  own-starts : (own : Own) (within : Acts) (k : ℕ) → is_arm own ≡ false → (ms : List ℕ)
      → (is_pick own ≡ false → (ns : List ℕ) → Ranks (λ l. Rows no l 1 within (k + 1)) within (k + 1) (begin_in_turn within (k + 1) ns).log)
      → (is_pick own ≡ false → (ns : List ℕ) → Ranks (λ l. Even l 1 within (k + 1)) within (k + 1) (begin_all within (k + 1) ns).log)
      → (is_pick own ≡ false → (ns : List ℕ) → Ranks (λ l. First l 1 within (k + 1)) within (k + 1) (begin_first within (k + 1) ns).log)
      → Starts (act own within) k (begin (act own within) k ms).log
  unfolding begin kind
  own-starts empty within k i ms t a b = leaf-starts empty within k refl refl refl
  own-starts (send (to_partner p) o vs) within k i ms t a b = leaf-starts (send (to_partner p) o vs) within k refl refl refl
  own-starts (send (to_held held reply) o vs) within k i ms t a b = leaf-starts (send (to_held held reply) o vs) within k refl refl refl
  own-starts (receive (from_partner p) o vs) within k i ms t a b = leaf-starts (receive (from_partner p) o vs) within k refl refl refl
  own-starts (receive (from_asking p kept) o vs) within k i ms t a b = leaf-starts (receive (from_asking p kept) o vs) within k refl refl refl
  own-starts (setting v e) within k i ms t a b = leaf-starts (setting v e) within k refl refl refl
  own-starts (raise zero) within k i ms t a b = leaf-starts (raise zero) within k refl refl refl
  own-starts (raise (suc number)) within k i ms t a b = leaf-starts (raise (suc number)) within k refl refl refl
  own-starts leave within k i ms t a b = leaf-starts leave within k refl refl refl
  own-starts (choose e) within k i ms t a b = leaf-starts (choose e) within k refl refl refl
  own-starts (repeat e) within k i ms t a b = leaf-starts (repeat e) within k refl refl refl
  own-starts sequence within k i ms t a b =
      subst (λ (l : List Event). Starts (act sequence within) k (began k ∷ l)) (sym (through-log k (begin_in_turn within (k + 1) (set ms k active))))
      (node-starts sequence within k _ (λ l. Rows no l 1 within (k + 1)) (t refl (set ms k active)) (λ e h. h) (λ e h. absurd (false≢true e)) (λ e h. absurd (false≢true e)))
  own-starts flow within k i ms t a b =
      subst (λ (l : List Event). Starts (act flow within) k (began k ∷ l)) (sym (through-log k (begin_all within (k + 1) (set ms k active))))
      (node-starts flow within k _ (λ l. Even l 1 within (k + 1)) (a refl (set ms k active)) (λ e h. absurd (false≢true e)) (λ e h. h) (λ e h. absurd (false≢true e)))
  own-starts pick within k i ms t a b = leaf-starts pick within k refl refl refl
  own-starts (scope xs v) within k i ms t a b =
      subst (λ (l : List Event). Starts (act (scope xs v) within) k (began k ∷ l)) (sym (around-log k (begin_first within (k + 1) (set ms k active))))
      (node-starts (scope xs v) within k _ (λ l. First l 1 within (k + 1)) (b refl (set ms k active))
      (λ e h. absurd (false≢true (sym (scope-not 8 xs v refl refl refl) ∙ e))) (λ e h. absurd (false≢true (sym (scope-not 9 xs v refl refl refl) ∙ e))) (λ e h. h))
  own-starts (arm p o vs) within k i ms t a b = absurd (false≢true (sym i))

  -- one that is no arm
  abbrev pub Named : Act → Type 0
  Named (act own within) = is_arm own ≡ false

  mutual
    unfolding begin Holds size times

    pub begin-starts : {a : Act} {k : ℕ} → Knows f a k → Named a → (ms : List ℕ) → Starts a k (begin a k ms).log
    begin-starts (knows {own} {within} {k} e n r y) i ms =
        own-starts own within k i ms (λ d ns. turn-starts y (subst (λ (b : Bool). Arms b within) d r) ns) (λ d ns. all-starts y (subst (λ (b : Bool). Arms b within) d r) ns)
        (λ d ns. first-starts y (subst (λ (b : Bool). Arms b within) d r) ns)

    pub turn-starts : {l : Acts} {c : ℕ} → KnowsIn f l c → Arms false l → (ms : List ℕ) → Ranks (λ m. Rows no m 1 l c) l c (begin_in_turn l c ms).log
    turn-starts (knows-none {c}) r ms = none-ranks _ c tt
    turn-starts (knows_more {a = act own w} {l} {c} x y) r ms =
        go (begin (act own w) c ms) (begin-starts x r.0 ms) (begin_in_turn l (c + size (act own w)) (begin (act own w) c ms).marks).log (turn-starts y r.1 (begin (act own w) c ms).marks)
        (begin (act own w) c ms).over refl
      where
        go : (b : Begun) → Starts (act own w) c b.log → (m : List Event) → Ranks (λ m. Rows no m 1 l (c + size (act own w))) l (c + size (act own w)) m
            → (v : Bool) → (begin_in_turn l (c + size (act own w)) b.marks).log ≡ m
            → Ranks (λ m. Rows no m 1 (more (act own w) l) c) (more (act own w) l) c (in_turn (begin_in_turn l (c + size (act own w))) (record { marks = b.marks; over = v; log = b.log })).log
        go b s m z true e =
            subst (λ (g : List Event). Ranks (λ m. Rows no m 1 (more (act own w) l) c) (more (act own w) l) c (b.log ++ g)) (sym e)
            (then-ranks (act own w) l c b.log m _ _ s z (record {
              one = first-times (act own w) l c b.log m s z;
              other = rows_row no (b.log ++ m) c l (c + size (act own w)) (let d = first-times (act own w) l c b.log m s z in omega arith) (rows_same no m (b.log ++ m) 1 l (c + size (act own w)) (later-like (act own w) l c b.log m s) z.ranks) (λ i j. omega arith);
            }))
        go b s m z false e =
            only-first (act own w) l c b.log _ s (record { one = s.top; other = row_zero no b.log c l (c + size (act own w)) (record { at = λ j u v. s.above j u }) })

    pub all-starts : {l : Acts} {c : ℕ} → KnowsIn f l c → Arms false l → (ms : List ℕ) → Ranks (λ m. Even m 1 l c) l c (begin_all l c ms).log
    all-starts (knows-none {c}) r ms = none-ranks _ c tt
    all-starts (knows_more {a = act own w} {l} {c} x y) r ms =
        let s = begin-starts x r.0 ms in
        let z = all-starts y r.1 (begin (act own w) c ms).marks in
        let l₀ = (begin (act own w) c ms).log in
        let m = (begin_all l (c + size (act own w)) (begin (act own w) c ms).marks).log in
        then-ranks (act own w) l c l₀ m _ _ s z (record { one = first-times (act own w) l c l₀ m s z; other = even-same no m (l₀ ++ m) 1 l (c + size (act own w)) (later-like (act own w) l c l₀ m s) z.ranks })

    pub first-starts : {l : Acts} {c : ℕ} → KnowsIn f l c → Arms false l → (ms : List ℕ) → Ranks (λ m. First m 1 l c) l c (begin_first l c ms).log
    first-starts (knows-none {c}) r ms = none-ranks _ c tt
    first-starts (knows_more {a = act own w} {l} {c} x y) r ms = let s = begin-starts x r.0 ms in only-first (act own w) l c (begin (act own w) c ms).log _ s s.top
