-- The returns of the functions that look for the fewest unchecked places. Assumes nothing.
use mathlib.Core.Path.{◌≡◌, refl, sym, ◌∙◌}
use mathlib.Core.Bool.{Bool, true, false, cond, ◌&&◌}
use mathlib.Core.List.{List, [], ◌∷◌}
use Prim.Native.Nat.{ℕ, zero, suc, ◌+◌, ◌<◌, ◌≤◌}
use native.Mathlib.Decide.{ℕ_discrete}
use native.Mathlib.Omega.{arith}
use borrow.Author.Tests.{ne_eqb, lt-ltb, le-ltb}
use lib.ListN.{length, get_or, set, replicate, length-replicate, get_or-replicate, length-set}
use lib.Seq.{get_or-set_same, get_or-set_other}
use Rattle.plan.specs.Spells.{variables_of}
use Rattle.plan.specs.Tree.{partner_from, Own, empty, send, receive, set as setting, raise, leave, choose, repeat, sequence, flow, pick, scope, arm, Acts, Plan}
use Rattle.machine.specs.declared.Message.{Message}
use Rattle.order.specs.declared.Order.{Order}
use Rattle.fit.specs.Answering.{AsksRow, FitsRow, UncheckedRow, KnowsOrder, message_at, Picks, fits_own, catches}
use Rattle.machine.specs.Fit.{doing_of, awaits, ready_of, live_from, Letter, fits, unchecked, fitting, fittings}
use Rattle.order.specs.Lists.{each}
use Rattle.order.specs.State.{mark_at}
use Rattle.fit.specs.Folds.{folded, lesser}
use Rattle.fit.specs.Lines.{Line, lines_of, is_ready, ready_at}
use Rattle.fit.specs.Receiving.{least_line, least_live, Flagged, Lent, OpensRow, Least, LeastLetter, LeastLetters, LeastRow, LeastRows, LeastSlot, Leasts}
use Rattle.fit.proofs.Crossed.{Crossing, crossing-starts, crossing-again, crossing-done, slot-free}
use Rattle.fit.proofs.FitReturns.{asks-asking}
use Rattle.fit.proofs.Lines.{fold-each, fold_same, fold-ready, size-short, Rowing, rowing-starts, rowing-again, rowing-done}
use Rattle.fit.proofs.SearchReturns.{open-exchange, catch-open}

one-fitting : (b : Bool) (u c : ℕ) → folded lesser (cond b (u ∷ []) []) c ≡ cond b (lesser u c) c
unfolding folded
one-fitting true u c = refl
one-fitting false u c = refl

pub cond-and : {A : Type 0} (a b : Bool) (x y : A) → cond a (cond b x y) y ≡ cond (a && b) x y
cond-and true b x y = refl
cond-and false b x y = refl

-- `least_letter`
module _ (t : List ℕ) (k : ℕ) (asked letters : List ℕ) (j u c : ℕ) (few : j < 64) {b : Bool} (w : FitsRow t k asked letters j b) where
  pub least-unfit : b ≡ false → LeastLetter t k asked letters j u c c
  least-unfit e = record { is = λ p o a d vs v g x. rw (sym (w.is few p o a d vs g x) ∙ e) }

  module _ (e : b ≡ true) where
    pub least-less : u < c → LeastLetter t k asked letters j u c u
    unfolding lesser
    least-less h = record { is = λ p o a d vs v g x. rw (sym (w.is few p o a d vs g x) ∙ e, ← v.is p o a d vs g x, lt-ltb _ _ h) }

    pub least_more : c ≤ u → LeastLetter t k asked letters j u c c
    unfolding lesser
    least_more h = record { is = λ p o a d vs v g x. rw (sym (w.is few p o a d vs g x) ∙ e, ← v.is p o a d vs g x, le-ltb _ _ h) }

-- the loop of `least_letters`
pub record Lessening (t : List ℕ) (k : ℕ) (asked : List ℕ) (u : ℕ) (letters : List ℕ) (waiting : ℕ) (start : List ℕ) (j : ℕ) (out : List ℕ) : Type 0 where
  pub long : length out ≡ length start
  pub within : j ≤ waiting
  pub passed : length start ≡ 64 → (i : ℕ) → i < j → LeastLetter t k asked letters i u (get_or start i 0) (get_or out i 0)
  pub rest : (i : ℕ) → j ≤ i → get_or out i 0 ≡ get_or start i 0

pub lessening-starts : (t : List ℕ) (k : ℕ) (asked : List ℕ) (u : ℕ) (letters : List ℕ) (waiting : ℕ) (start : List ℕ)
    → Lessening t k asked u letters waiting start 0 start
lessening-starts t k asked u letters waiting start =
    record { long = refl; within = omega arith; passed = λ e i h. absurd (omega arith); rest = λ i h. refl }

module _ {t : List ℕ} {k : ℕ} {asked : List ℕ} {u : ℕ} {letters : List ℕ} {waiting : ℕ} {start : List ℕ} {j : ℕ} {out : List ℕ}
    (w : Lessening t k asked u letters waiting start j out) where
  pub lessening-again : j < waiting → waiting ≤ 64 → {r : ℕ} → LeastLetter t k asked letters j u (get_or out j 0) r
      → Lessening t k asked u letters waiting start (j + 1) (set out j r)
  lessening-again h few {r} y = record {
    long = length-set out j r ∙ w.long;
    within = omega arith;
    passed = λ q i g.
        elim (ℕ_discrete i j) [
          | yes e ↦ rw (e, get_or-set_same out j r 0 (omega (arith, w.long, q)), ← w.rest j (omega arith)) y
          | no e ↦ rw (get_or-set_other out j i r 0 e) (w.passed q i (omega (arith, e)))
        ];
    rest = λ i g. get_or-set_other out j i r 0 (λ e. omega arith) ∙ w.rest i (omega arith);
  }

  pub lessening-done : {known : List ℕ} → waiting ≤ j → AsksRow t known k asked → UncheckedRow t k asked u → LeastLetters t known k letters waiting start out
  lessening-done h a v = record { long = w.long; is = λ n i g p o x y vs q e few. (w.passed n i (omega arith)).is p o x y vs v (asks-asking a q e few) e }

-- `least_row`
module _ {t picks marks : List ℕ} {k : ℕ} {b : Bool} (v : OpensRow t picks marks k b) where
  pub least-shut : (known letters : List ℕ) (waiting : ℕ) (c : List ℕ) → b ≡ false → LeastRow t picks marks known k letters waiting c c
  unfolding least_line
  least-shut known letters waiting c e = record {
    long = refl;
    is = λ n j h. record { is = λ o p l x g y. rw (catch-open v g.picked o g.marked y p (message_at letters j), e) };
  }

  pub least-open : {known letters : List ℕ} {waiting : ℕ} {c r : List ℕ} → b ≡ true → LeastLetters t known k letters waiting c r
      → LeastRow t picks marks known k letters waiting c r
  unfolding least_line
  least-open {letters = letters} e w = record {
    long = w.long;
    is = λ n j h. record {
      is = λ o p l x g y.
          w.is n j h p o _ _ (variables_of x.own) g.knows (open-exchange v g.picked o g.marked y e) y.few
          ∙ rw (catch-open v g.picked o g.marked y p (message_at letters j), e);
    };
  }

-- `least_rows`
pub record Leasting (t picks marks known : List ℕ) (n : ℕ) (letters : List ℕ) (waiting : ℕ) (start : List ℕ) (k : ℕ) (c : List ℕ) : Type 0 where
  pub long : length c ≡ length start
  pub is : length start ≡ 64 → (j : ℕ) → j < waiting → Rowing t n (Lent t picks marks known) (least_line (message_at letters j)) (get_or start j 0) k (get_or c j 0)

pub leasting-starts : (t picks marks known : List ℕ) (n : ℕ) (letters : List ℕ) (waiting : ℕ) (start : List ℕ)
    → Leasting t picks marks known n letters waiting start 0 start
leasting-starts t picks marks known n letters waiting start = record { long = refl; is = λ n j h. rowing-starts _ _ _ _ _ }

module _ {t picks marks known : List ℕ} {n : ℕ} {letters : List ℕ} {waiting : ℕ} {start : List ℕ} {k : ℕ} {c : List ℕ}
    (w : Leasting t picks marks known n letters waiting start k c) where
  pub leasting-again : k < n → {r : List ℕ} → LeastRow t picks marks known k letters waiting c r → Leasting t picks marks known n letters waiting start (k + 1) r
  leasting-again h y = record { long = y.long ∙ w.long; is = λ q j g. rowing-again (w.is q j g) h (y.is (w.long ∙ q) j g) }

  pub leasting-done : n ≤ k → LeastRows t picks marks known n letters waiting start c
  leasting-done h = record { long = w.long; is = λ q j g. rowing-done (w.is q j g) h }

-- what a line adds to the fewest is what its step adds
fitting-line : (p : Plan) (o : Order) (m : Message) (own : Own) (w : Acts) (k c : ℕ)
    → folded lesser (fitting p o m (doing_of own w k)) c ≡ cond (fits_own p o m own) (lesser (unchecked p o (variables_of own)) c) c
unfolding doing_of fitting fits_own variables_of folded
fitting-line p o m empty w k c = refl
fitting-line p o m (send a b vs) w k c = refl
fitting-line p o m (receive a b vs) w k c = one-fitting (fits p o (partner_from a) b vs m) (unchecked p o vs) c
fitting-line p o m (setting v e) w k c = refl
fitting-line p o m (raise zero) w k c = refl
fitting-line p o m (raise (suc number)) w k c = refl
fitting-line p o m leave w k c = refl
fitting-line p o m (choose e) w k c = refl
fitting-line p o m (repeat e) w k c = refl
fitting-line p o m sequence w k c = refl
fitting-line p o m flow w k c = refl
fitting-line p o m pick w k c = refl
fitting-line p o m (scope ns u) w k c = refl
fitting-line p o m (arm a b vs) w k c = one-fitting (fits p o a b vs m) (unchecked p o vs) c

least-line : (p : Plan) (l : List Letter) (o : Order) (m : Message) (x : Line) (c : ℕ)
    → cond (is_ready o.marks x) (folded lesser (fitting p o m (ready_at x).step) c) c ≡ least_line m o p l x c
unfolding least_line catches
least-line p l o m x c =
    rw (fitting-line p o m x.own x.within x.activity c)
    (cond-and (awaits x.own x.arms (mark_at x.activity o)) (fits_own p o m x.own) (lesser (unchecked p o (variables_of x.own)) c) c)

least-lines : (p : Plan) (l : List Letter) (o : Order) (m : Message) (i c : ℕ)
    → least_live m p l (record { slot = i; order = o; ready = ready_of p o }) c ≡ folded (least_line m o p l) (lines_of p o.marks) c
unfolding least_live
least-lines p l o m i c =
    fold-ready (λ r. folded lesser (fitting p o m r.step)) p o c
    ∙ fold_same _ _ (λ x s. least-line p l o m x s) (lines_of p o.marks) c

-- `least_slot`
pub least-beyond : (t flags picks : List ℕ) (o : Order) {n : ℕ} (letters : List ℕ) (waiting : ℕ) (c : List ℕ) → 256 < n → LeastSlot t flags picks o n letters waiting c c
least-beyond t flags picks o letters waiting c h =
    record { long = refl; is = λ few q j g i. record { is = λ p l x y. absurd (omega (arith, size-short p y.limited, y.many)) } }

pub least-full : (t flags picks : List ℕ) (o : Order) (n : ℕ) (letters : List ℕ) {waiting : ℕ} (c : List ℕ) → 64 < waiting → LeastSlot t flags picks o n letters waiting c c
least-full t flags picks o n letters c h = record { long = refl; is = λ few q j g i. absurd (omega arith) }

pub least-free : (t flags picks : List ℕ) {o : Order} (n : ℕ) (letters : List ℕ) (waiting : ℕ) (c : List ℕ) → o.root ≡ 0
    → LeastSlot t flags picks o n letters waiting c c
least-free t flags picks n letters waiting c e =
    record { long = refl; is = λ few q j h i. slot-free t n (Flagged t picks flags) (least_live (message_at letters j)) i (get_or c j 0) e }

pub least-live : {t flags picks known : List ℕ} {o : Order} {n : ℕ} {letters : List ℕ} {waiting : ℕ} {c r : List ℕ} → (o.root ≡ 0 → ⊥) → KnowsOrder flags o known
    → LeastRows t picks o.marks known n letters waiting c r → LeastSlot t flags picks o n letters waiting c r
least-live {o = o} {letters = letters} {c = c} h v w = record {
  long = w.long;
  is = λ few q j g i. record {
    is = λ p l x y.
        rw (ne_eqb _ _ h)
        ((w.is q j g).is o p l (record { picked = x.picked; marked = refl; knows = v.is p x.correlated }) y
        ∙ sym (least-lines p l o (message_at letters j) i (get_or c j 0)));
  };
}

-- `leasts`
pub record Lowering (t flags picks : List ℕ) (orders : List Order) (n : ℕ) (letters : List ℕ) (waiting slot : ℕ) (c : List ℕ) : Type 0 where
  pub few : waiting ≤ 64
  pub long : length c ≡ 64
  pub is : (j : ℕ) → j < waiting → Crossing t n (Flagged t picks flags) (least_live (message_at letters j)) orders 5 slot (get_or c j 0)

pub lowering-starts : (t flags picks : List ℕ) (orders : List Order) (n : ℕ) (letters : List ℕ) (waiting : ℕ) → waiting ≤ 64 → length orders ≡ 16
    → Lowering t flags picks orders n letters waiting 0 (replicate 64 5)
lowering-starts t flags picks orders n letters waiting few e = record {
  few = few;
  long = length-replicate {A = ℕ} 64 5;
  is = λ j h.
      rw (get_or-replicate {A = ℕ} 64 j 5 0 (omega arith)) (crossing-starts t n (Flagged t picks flags) (least_live (message_at letters j)) orders 5 e);
}

least-all : {t flags picks : List ℕ} {n : ℕ} (m : Message) {orders : List Order} {i c : ℕ}
    → Crossing t n (Flagged t picks flags) (least_live m) orders 5 i c → 16 ≤ i → Picks t picks → Least t flags n orders m c
unfolding least_live fittings
least-all m {orders} w h v = record {
  is = λ p cor y.
      (crossing-done w h).is p [] (record { correlated = cor; picked = v }) y
      ∙ sym (fold-each lesser (λ x. each (λ r. fitting p x.order m r.step) x.ready) (live_from p 0 orders) 5
      ∙ fold_same _ _ (λ x s. fold-each lesser (λ r. fitting p x.order m r.step) x.ready s) (live_from p 0 orders) 5);
}

module _ {t flags picks : List ℕ} {orders : List Order} {n : ℕ} {letters : List ℕ} {waiting slot : ℕ} {c : List ℕ}
    (w : Lowering t flags picks orders n letters waiting slot c) where
  pub lowering-again : (d : Order) → slot < 16 → {r : List ℕ} → LeastSlot t flags picks (get_or orders slot d) n letters waiting c r
      → Lowering t flags picks orders n letters waiting (slot + 1) r
  lowering-again d h y = record { few = w.few; long = y.long ∙ w.long; is = λ j g. crossing-again (w.is j g) d h (y.is w.few w.long j g slot) }

  pub lowering-passes : (d : Order) → slot < 16 → (get_or orders slot d).root ≡ 0 → Lowering t flags picks orders n letters waiting (slot + 1) c
  lowering-passes d h e = lowering-again d h (least-free t flags picks n letters waiting c e)

  pub lowering-done : 16 ≤ slot → Leasts t flags picks orders n letters waiting c
  lowering-done h = record { few = w.few; is = λ j g v. least-all (message_at letters j) (w.is j g) h v }
