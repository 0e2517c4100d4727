-- What an order and all orders have on offer. Assumes nothing.
use mathlib.Core.Path.{◌≡◌, refl, sym, ap, ◌∙◌}
use mathlib.Core.Bool.{Bool, true, false, cond, not, ◌&&◌, ◌||◌}
use mathlib.Core.List.{List, [], ◌∷◌}
use Prim.Native.Nat.{ℕ}
use borrow.Author.Tests.{ne_eqb}
use Rattle.plan.specs.Tree.{Plan}
use Rattle.order.specs.declared.Order.{Order}
use Rattle.machine.specs.Fit.{doing_of, Ready, ready_of, Letter}
use Rattle.order.specs.Lists.{some, only}
use Rattle.machine.specs.Offer.{Offers, no_offers, together, all_of, is_cut, eager, step_offers, order_offers}
use Rattle.sight.specs.declared.Sight.{Sight}
use Rattle.fit.specs.Folds.{folded}
use Rattle.fit.specs.Answering.{KnowsOrder}
use Rattle.fit.specs.Lines.{Line, lines_of, is_ready, ready_at, Wholes}
use Rattle.sight.specs.Sights.{pointed, seen, Marked, Remembers, Opening, cut_line, doing_line, offer_line}
use Rattle.fit.specs.Receiving.{Slots}
use Rattle.offer.specs.Acts.{Acts, line_offers, act_line, act_live}
use Rattle.offer.specs.Seeing.{Informed, offer_live}
use Rattle.fit.proofs.Lines.{fold-append, fold-only, fold_same, fold-ready}
use Rattle.sight.proofs.RowSeen.{or-false, or-true, seen_none}

or_assoc : (a b c : Bool) → ((a || b) || c) ≡ (a || (b || c))
or_assoc true b c = refl
or_assoc false b c = refl

-- what is seen of two parts of an offer, and of many
pub seen-together : (a b : Offers) (s : Sight) → seen (together a b) s ≡ seen b (seen a s)
unfolding seen
seen-together a b s = rw (fold-append pointed a.offered b.offered s.pointer, or_assoc s.held a.held b.held)

pub seen-acts : Acts seen
seen-acts = record { none = seen_none; both = seen-together }

-- what many offers do
pub acts-all : {S : Type 0} {act : Offers → S → S} → Acts act → {A : Type 0} (f : A → Offers) (l : List A) (s : S) → act (all_of f l) s ≡ folded (λ x. act (f x)) l s
unfolding all_of folded
acts-all g f [] s = g.none s
acts-all {act = act} g f (a ∷ l) s = g.both (f a) (all_of f l) s ∙ acts-all g f l (act (f a) s)

-- an order: eagerness as a test on each line
some-fold : {A : Type 0} (g : A → Bool) (l : List A) (c : Bool) → folded (λ r b. g r || b) l c ≡ (some g l || c)
unfolding folded some
some-fold g [] c = refl
some-fold g (a ∷ l) c = some-fold g l (g a || c) ∙ by-test (g a) (some g l) c
  where
    by-test : (x y z : Bool) → (y || (x || z)) ≡ ((x || y) || z)
    by-test true y z = or-true y
    by-test false y z = refl

only-true : {A : Type 0} (l : List A) → only (λ r. true) l ≡ l
unfolding only
only-true [] = refl
only-true (a ∷ l) = ap (λ k. a ∷ k) (only-true l)

eager-only : (l : List Ready) → eager l ≡ only (λ r. not (some is_cut l) || is_cut r) l
unfolding eager
eager-only l = by-test (some is_cut l)
  where
    by-test : (b : Bool) → cond b (only is_cut l) l ≡ only (λ r. not b || is_cut r) l
    by-test true = refl
    by-test false = sym (only-true l)

cut-some : (o : Order) (p : Plan) (l : List Letter) → folded (cut_line o p l) (lines_of p o.marks) false ≡ some is_cut (ready_of p o)
unfolding cut_line
cut-some o p l =
    sym (fold-ready (λ r c. is_cut r || c) p o false) ∙ (some-fold is_cut (ready_of p o) false ∙ or-false (some is_cut (ready_of p o)))

-- a test on an offer is a test on what it does
acts-if : {S : Type 0} {act : Offers → S → S} → Acts act → (a b : Bool) (z : Offers) (s : S) → cond a (cond b (act z s) s) s ≡ act (cond (a && b) z no_offers) s
acts-if g true true z s = refl
acts-if g true false z s = sym (g.none s)
acts-if g false b z s = sym (g.none s)

pub order-acts : {S : Type 0} {act : Offers → S → S} → Acts act → (wait i : ℕ) (o : Order) (p : Plan) (l : List Letter) (s : S)
    → act_live act wait p l (record { slot = i; order = o; ready = ready_of p o }) s
    ≡ folded (act_line act (some is_cut (ready_of p o)) wait i o p l) (lines_of p o.marks) s
unfolding act_live order_offers act_line line_offers
order-acts {act = act} g wait i o p l s =
    acts-all g (λ r. step_offers p wait l i o r.activity r.step) (eager (ready_of p o)) s
    ∙ (ap (λ x. folded (λ r. act (step_offers p wait l i o r.activity r.step)) x s) (eager-only (ready_of p o))
    ∙ (fold-only (λ r. act (step_offers p wait l i o r.activity r.step)) (λ r. not (some is_cut (ready_of p o)) || is_cut r) (ready_of p o) s
    ∙ (fold-ready (λ r c. cond (not (some is_cut (ready_of p o)) || is_cut r) (act (step_offers p wait l i o r.activity r.step) c) c) p o s
    ∙ fold_same _ _ (λ x c. acts-if g (is_ready o.marks x) (not (some is_cut (ready_of p o)) || is_cut (ready_at x)) (step_offers p wait l i o x.activity (doing_of x.own x.within x.activity)) c) (lines_of p o.marks) s)))

-- what is seen of a line
pub line-seen : (cutting : Bool) (wait i : ℕ) (o : Order) (p : Plan) (l : List Letter) (x : Line) (s : Sight)
    → offer_line cutting wait i o p l x s ≡ act_line seen cutting wait i o p l x s
unfolding offer_line doing_line act_line line_offers
line-seen cutting wait i o p l x s =
    acts-if seen-acts (is_ready o.marks x) (not cutting || is_cut (ready_at x)) (step_offers p wait l i o x.activity (doing_of x.own x.within x.activity)) s

-- the order in a slot
pub acts-live : {S : Type 0} {act : Offers → S → S} → Acts act → {t picks flags known parts : List ℕ} {n : ℕ} (i : ℕ) {o : Order} {letters : List ℕ} {wait : ℕ} {least : List ℕ} {s r : S} {cutting : Bool}
    → (o.root ≡ 0 → ⊥) → KnowsOrder flags o known → Remembers o parts → Wholes t n (Marked o.marks) cut_line false cutting
    → Wholes t n (Opening t picks o.marks known o.bound o.values parts o.kept letters wait least) (act_line act cutting wait i) s r
    → Slots t n (Informed t picks flags letters wait least) (act_live act wait) i o s r
acts-live {act = act} a i {o} {wait = wait} {s = s} {cutting = cutting} h k m v w = record {
  is = λ p l g y.
      let e : cutting ≡ some is_cut (ready_of p o) = v.is o p l (record { same = refl }) y ∙ cut-some o p l in
      let f : Opening _ _ o.marks _ o.bound o.values _ o.kept _ wait _ o p l = record {
        picked = g.picked;
        marked = refl;
        serving = record {
          heeding = record { knows = k.is p g.correlated; told = g.told };
          bindings = record { same = refl; sixteen = k.bindings };
          holds = record { same = refl; sixteen = k.worths };
          memory = m;
          many = refl;
        };
      } in
      rw (ne_eqb _ _ h) (w.is o p l f y ∙ (ap (λ b. folded (act_line act b wait i o p l) (lines_of p o.marks) s) e ∙ sym (order-acts a wait i o p l s)));
}

-- `offer_slot`
pub offer-live : {t picks flags known parts : List ℕ} {n : ℕ} (i : ℕ) {o : Order} {letters : List ℕ} {wait : ℕ} {least : List ℕ} {s r : Sight} {cutting : Bool} → (o.root ≡ 0 → ⊥)
    → KnowsOrder flags o known → Remembers o parts → Wholes t n (Marked o.marks) cut_line false cutting
    → Wholes t n (Opening t picks o.marks known o.bound o.values parts o.kept letters wait least) (offer_line cutting wait i) s r
    → Slots t n (Informed t picks flags letters wait least) (offer_live wait) i o s r
unfolding offer_live act_live
offer-live i {o} {wait = wait} {s = s} {cutting = cutting} h k m v w =
    let x = acts-live seen-acts i h k m v (record { is = λ o p l g y. w.is o p l g y ∙ fold_same _ _ (line-seen cutting wait i o p l) (lines_of p o.marks) s }) in
    record { is = λ p l g y. x.is p l g y }
