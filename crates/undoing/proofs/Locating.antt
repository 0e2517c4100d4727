-- The undo part of a scope that has one: the plan's own words of it, and its tree as it sits, with its kinds and leads. Assumes nothing.
use Prim.Native.Nat.{ℕ, zero, suc, ◌+◌, ◌<◌}
use native.Mathlib.Omega.{arith}
use mathlib.Core.Path.{◌≡◌, refl, sym, ap, subst, ◌∙◌}
use mathlib.Core.Bool.{Bool, true, false, not, false≢true}
use mathlib.Core.List.{List, []}
use lib.Dec.{eqb, ltb}
use borrow.Author.Tests.{not-true}
use Rattle.plan.specs.Tree.{scope, kind, is_scope, Act, act, Acts, none, more, Plan, size, general_part, count}
use Rattle.order.specs.Lists.{some}
use Rattle.order.specs.State.{Name}
use Rattle.order.specs.Begin.{part, part_at}
use Rattle.undoing.specs.Demand3.{Inner}
use Rattle.undoing.specs.Ties.{Place, undo_of}
use Rattle.undoing.specs.Begun.{kind_at, Lead, lead_at}
use Rattle.undoing.specs.Answered.{surely, back_in, back_among, back_of}
use Rattle.undoing.proofs.Parts.{both, decide}
use Rattle.undoing.proofs.Accounts.{Known}
use Rattle.undoing.proofs.Marks.{trio}
use Rattle.undoing.proofs.Orders.{bare, bare_in, inner_at, Sits, sits-part, sits-scope, SitsIn, sits-none, sits-more, Remedy, Healers}
use Rattle.undoing.proofs.Planning.{Promised}
use Rattle.undoing.proofs.Truly.{Knows, knows, KnowsIn, knows_more}
use Rattle.undoing.proofs.Lasting.{part-knows}
use Rattle.undoing.proofs.Leading.{Leads, leads-part, leads-scope, LeadsIn, leads-none, leads-more}
use Rattle.undoing.proofs.Remedies.{undoer}
use Rattle.undoing.proofs.Healing.{healers-bare, undo-there}
use Rattle.undoing.proofs.BegunTold.{body-knows, lb}
use Rattle.undoing.proofs.Owing.{not-scope}
use Rattle.undoing.proofs.Repaying.{back-without}
use Rattle.undoing.proofs.Finding.{has_back, has_back_in, Back, backs, backs_in, backs-part, backs-other, backs-own, backs-in-is, backs-none, Whose, own_back_lem, body_back, whose}

pub record Located (p : Plan) (e : ℕ) (x : Back) : Type 0 where
  pub inner : Inner
  pub known : Known p inner
  pub number : inner.number ≡ e
  pub undoes : inner.undoes ≡ true
  pub undo : inner.undo ≡ x.at
  pub place : Place
  pub sits : Remedy p place x.tree x.at
  pub knows : Knows (kind_at p) x.tree x.at
  pub leads : Leads (lead_at p) x.tree x.at
  pub sure : x.sure ≡ surely x.tree x.at

-- the i-th of a list is led as the list is
leads-nth : {f : ℕ → Lead} {l : Acts} {c : ℕ} {q : Lead} → LeadsIn f l c q → (i : ℕ) → i < count l → Leads f (part i l) (part_at i l c)
unfolding part part_at count
leads-nth leads-none i h = absurd (omega arith)
leads-nth (leads-more e x y) zero h = x
leads-nth (leads-more e x y) (suc i) h = leads-nth y i (omega arith)

undoer-so : {p : Plan} {s : Name} {xs : List ℕ} {v : Bool} {q w : Place} {l : Acts} {c : ℕ} → Healers p s xs v q w l c → v ≡ true → Remedy p w (part (general_part xs) l) (part_at (general_part xs) l c)
undoer-so {v = true} h e = undoer h
undoer-so {v = false} h e = absurd (false≢true e)

module _ {p : Plan} where
  mutual
    unfolding part part_at kind

    pub locate : {q : Place} {a : Act} {k : ℕ} → Sits p q a k → Knows (kind_at p) a k → Leads (lead_at p) a k → (e : ℕ) → has_back a k e ≡ true → Located p e (backs a k e)
    locate (sits-part {own = own} {within} {k} s g v y l) (knows _ _ _ kn) (leads-part _ _ w) e h =
        let x = backs-part own within k e s in subst (Located p e) (sym x) (locate-in l kn w e (ap (λ (z : Back). z.has) (sym x) ∙ h))
    locate (sits-part s g v y l) kn (leads-scope _ _ _ _) e h = absurd (not-scope s)
    locate (sits-scope {xs = xs} {v = v₀} {n = n} {c = m} {ns = ns} {b = b} {f} {u} {k} kn v i sb z) (knows _ _ _ (knows_more kb kl)) (leads-scope _ _ wb wl) e h =
        go (whose xs b (more f u) v₀ k (healers-bare z) e h) (λ hb. locate sb kb wb e hb)
      where
        go : Whose xs b (more f u) v₀ k e → (has_back b (k + 1) e ≡ true → Located p e (backs b (k + 1) e)) → Located p e (backs (act (scope xs v₀) (trio b f u)) k e)
        go (own_back_lem o d x) r =
            subst (Located p e) (sym x)
            (record {
              inner = inner_at xs v₀ k n ns (trio b f u);
              known = kn;
              number = o;
              undoes = d;
              undo = refl;
              place = undo_of n ns m;
              sits = undoer-so z d;
              knows = part-knows (kind_at p) kl (general_part xs) (undo-there z d);
              leads = leads-nth wl (general_part xs) (undo-there z d);
              sure = refl;
            })
        go (body_back hb x) r = subst (Located p e) (sym x) (r hb)
    locate (sits-scope kn v i sb z) kk (leads-part s _ _) e h = absurd (not-scope s)

    locate-in : {q : Place} {l : Acts} {c : ℕ} → SitsIn p q l c → KnowsIn (kind_at p) l c → {r : Lead} → LeadsIn (lead_at p) l c r → (e : ℕ) → has_back_in l c e ≡ true → Located p e (backs_in l c e)
    locate-in (sits-none {c = c}) kn w e h = absurd (backs-none c e h)
    locate-in (sits-more {a = a} {l} {c} s y) (knows_more ka kl) (leads-more _ wa wl) e h =
        decide (ltb e (c + size a))
        (λ t. let x = backs-in-is a l c e true t in subst (Located p e) (sym x) (locate s ka wa e (ap (λ (z : Back). z.has) (sym x) ∙ h)))
        (λ t. let x = backs-in-is a l c e false t in subst (Located p e) (sym x) (locate-in y kl wl e (ap (λ (z : Back). z.has) (sym x) ∙ h)))

none-sure : (c e : ℕ) → back_among none c e ≡ []
unfolding back_in
none-sure c e = refl

-- a scope that has something sure to take it back has an undo part
mutual
  unfolding bare some

  bare-sure : (a : Act) (k e : ℕ) → bare a ≡ true → back_in a k e ≡ []
  bare-sure (act own within) k e h =
      both (not (is_scope own)) (bare_in within) h (λ x y. ap (λ (z : Back). z.sure) (backs-part own within k e (not-true (is_scope own) x)) ∙ bare-sure-in within (k + 1) e y)

  bare-sure-in : (l : Acts) (c e : ℕ) → bare_in l ≡ true → back_among l c e ≡ []
  bare-sure-in none c e h = none-sure c e
  bare-sure-in (more a l) c e h =
      both (bare a) (bare_in l) h (λ x y. decide (ltb e (c + size a))
      (λ t. ap (λ (z : Back). z.sure) (backs-in-is a l c e true t) ∙ bare-sure a c e x)
      (λ t. ap (λ (z : Back). z.sure) (backs-in-is a l c e false t) ∙ bare-sure-in l (c + size a) e y))

nothing-in : {l : List ℕ} (t : ℕ) → l ≡ [] → some (eqb t) l ≡ true → ⊥
unfolding some
nothing-in {l} t e h = false≢true (sym (ap (some (eqb t)) e) ∙ h)

module _ {p : Plan} where
  own-has : {s : Name} {xs : List ℕ} {v : Bool} {q w : Place} {l : Acts} {c : ℕ} → Healers p s xs v q w l c → (b : Act) (k e t : ℕ) → eqb k e ≡ true → some (eqb t) (back_in (act (scope xs v) (more b l)) k e) ≡ true
      → has_back (act (scope xs v) (more b l)) k e ≡ true
  own-has {xs = xs} {v = true} {l = l} z b k e t d h = ap (λ (z : Back). z.has) (backs-own xs true b l k e d)
  own-has {v = false} z b k e t d h = absurd (nothing-in t (back-without z b k e d) h)

  mutual
    has-back : {q : Place} {a : Act} {k : ℕ} → Sits p q a k → (e t : ℕ) → some (eqb t) (back_in a k e) ≡ true → has_back a k e ≡ true
    has-back (sits-part {own = own} {within} {k} s g v y l) e t h =
        let x = backs-part own within k e s in ap (λ (z : Back). z.has) x ∙ has-back-in l e t (ap (λ (z : Back). some (eqb t) z.sure) (sym x) ∙ h)
    has-back (sits-scope {xs = xs} {v = v₀} {b = b} {f} {u} {k} kn v i sb z) e t h =
        decide (eqb k e) (λ d. own-has z b k e t d h)
        (λ d. let x = backs-other (scope xs v₀) (trio b f u) k e d in
        decide (ltb e (k + 1 + size b))
        (λ i. let y = x ∙ backs-in-is b (more f u) (k + 1) e true i in ap (λ (z : Back). z.has) y ∙ has-back sb e t (ap (λ (z : Back). some (eqb t) z.sure) (sym y) ∙ h))
        (λ i. let y = x ∙ backs-in-is b (more f u) (k + 1) e false i in
        absurd (nothing-in t (bare-sure-in (more f u) (k + 1 + size b) e (healers-bare z)) (ap (λ (z : Back). some (eqb t) z.sure) (sym y) ∙ h))))

    has-back-in : {q : Place} {l : Acts} {c : ℕ} → SitsIn p q l c → (e t : ℕ) → some (eqb t) (back_among l c e) ≡ true → has_back_in l c e ≡ true
    has-back-in (sits-none {c = c}) e t h = absurd (nothing-in t (none-sure c e) h)
    has-back-in (sits-more {a = a} {l} {c} s y) e t h =
        decide (ltb e (c + size a))
        (λ d. let x = backs-in-is a l c e true d in ap (λ (z : Back). z.has) x ∙ has-back s e t (ap (λ (z : Back). some (eqb t) z.sure) (sym x) ∙ h))
        (λ d. let x = backs-in-is a l c e false d in ap (λ (z : Back). z.has) x ∙ has-back-in y e t (ap (λ (z : Back). some (eqb t) z.sure) (sym x) ∙ h))

-- The undo part of the scope that a step takes back.
pub located : (p : Plan) → Promised p → (e t : ℕ) → some (eqb t) (back_of p e) ≡ true → (has_back p.body 0 e ≡ true) × Located p e (backs p.body 0 e)
unfolding back_of
located p h e t i = let y = has-back h.seat.body e t i in (y, locate h.seat.body (body-knows p h) (lb p h) e y)
