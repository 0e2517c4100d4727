-- The form of a plan within its limits: where its scopes stand, and how much stands within what. Assumes nothing.
use Prim.Native.Nat.{ℕ, zero, suc, ◌+◌, ◌≤◌, ◌<◌}
use native.Mathlib.Omega.{arith}
use mathlib.Core.Path.{◌≡◌, refl, sym, ap, subst}
use mathlib.Core.Bool.{Bool, true, false, cond, not, ◌&&◌, ◌||◌, false≢true}
use mathlib.Core.List.{List}
use lib.ListN.{length}
use lib.Dec.{eqb, ltb, leb}
use borrow.Author.Tests.{eqb-true, not-true, leb-true}
use Rattle.plan.specs.Read.{later_of}
use Rattle.plan.specs.Spell.{spelling}
use Rattle.plan.specs.Tree.{to_partner, to_held, from_partner, from_asking, Own, empty, send, receive, set as setting, raise, leave, choose, repeat, sequence, flow, pick, scope, arm, is_scope, is_pick, is_arm, Act, act, Acts, none, more, Plan, size, count}
use Rattle.plan.specs.Within.{from1, scope_parts, own_within, act_within, acts_within, levels_below, ascending, plan_within}
use Rattle.order.proofs.Standing.{own-scope}
use Rattle.settling.proofs.Parts.{both, decide}

-- The form of a tree: `h` holds in a handler, where there is no scope; `r` holds of an arm.
mutual
  pub data Formed : (h r : Bool) → Act → Type 0 where
    formed-part : {h r : Bool} {own : Own} {within : Acts} → is_scope own ≡ false → is_arm own ≡ r → FormedIn h (is_pick own) within → Formed h r (act own within)
    formed-scope : {ns : List ℕ} {v : Bool} {b : Act} {l : Acts} → Formed false false b → FormedIn true false l → Formed false false (act (scope ns v) (more b l))

  pub data FormedIn : (h r : Bool) → Acts → Type 0 where
    formed-none : {h r : Bool} → FormedIn h r none
    formed-more : {h r : Bool} {a : Act} {l : Acts} → Formed h r a → FormedIn h r l → FormedIn h r (more a l)

-- what an activity may say of itself
own-formed : (vars : ℕ) (cs : List ℕ) (h r : Bool) (own : Own) (n : ℕ) → own_within vars cs h r own n ≡ true → is_scope own ≡ false → is_arm own ≡ r
unfolding own_within
own-formed vars cs h r empty n e s = sym (not-true r (both (not r) _ e (λ x y. x)))
own-formed vars cs h r (send (to_partner x) y vs) n e s = sym (not-true r (both (not r) _ e (λ x y. x)))
own-formed vars cs h r (send (to_held v x) y vs) n e s = sym (not-true r (both (not r) _ e (λ x y. x)))
own-formed vars cs h r (receive (from_partner x) y vs) n e s = sym (not-true r (both (not r) _ e (λ x y. x)))
own-formed vars cs h r (receive (from_asking x v) y vs) n e s = sym (not-true r (both (not r) _ e (λ x y. x)))
own-formed vars cs h r (setting v x) n e s = sym (not-true r (both (not r) _ e (λ x y. x)))
own-formed vars cs h r (raise zero) n e s = sym (not-true r (both (not r) _ e (λ x y. x)))
own-formed vars cs h r (raise (suc number)) n e s = sym (not-true r (both (not r) _ e (λ x y. x)))
own-formed vars cs h r leave n e s = sym (not-true r (both (not r) _ e (λ x y. x)))
own-formed vars cs h r (choose x) n e s = sym (not-true r (both (not r) _ e (λ x y. x)))
own-formed vars cs h r (repeat x) n e s = sym (not-true r (both (not r) _ e (λ x y. x)))
own-formed vars cs h r sequence n e s = sym (not-true r (both (not r) _ e (λ x y. x)))
own-formed vars cs h r flow n e s = sym (not-true r (both (not r) _ e (λ x y. x)))
own-formed vars cs h r pick n e s = sym (not-true r (both (not r) _ e (λ x y. x)))
own-formed vars cs h r (scope ns v) n e s = absurd (false≢true (sym s))
own-formed vars cs h r (arm x y vs) n e s = sym (both r _ e (λ x y. x))

-- a scope's parts
scoped : (h r : Bool) (ns : List ℕ) (v : Bool) (l : Acts) → h ≡ false → r ≡ false → 0 < count l
    → ((a : Act) (x : Acts) → l ≡ more a x → Formed false false a) → ((a : Act) (x : Acts) → l ≡ more a x → FormedIn true false x) → Formed h r (act (scope ns v) l)
unfolding count
scoped h r ns v none e w d f g = absurd (omega arith)
scoped h r ns v (more a l) e w d f g =
    subst (λ (z : Bool). Formed z r (act (scope ns v) (more a l))) (sym e)
    (subst (λ (z : Bool). Formed false z (act (scope ns v) (more a l))) (sym w) (formed-scope (f a l refl) (g a l refl)))

-- a scope within the limits
formed-scope-own : (vars : ℕ) (cs : List ℕ) (h r : Bool) (ns : List ℕ) (v : Bool) (l : Acts) → own_within vars cs h r (scope ns v) (count l) ≡ true
    → (((a : Act) (x : Acts) → l ≡ more a x → Formed h false a) × ((a : Act) (x : Acts) → l ≡ more a x → FormedIn true false x)) → Formed h r (act (scope ns v) l)
unfolding own_within
formed-scope-own vars cs h r ns v l e f =
    both (not r) _ e (λ x y. both (eqb (count l) (scope_parts ns v)) _ y (λ c d. both (not h) _ d (λ i j.
    let z : h ≡ false = not-true h i in
    scoped h r ns v l z (not-true r x) (some v (eqb-true (count l) (scope_parts ns v) c)) (λ a x g. subst (λ (b : Bool). Formed b false a) z (f.0 a x g)) f.1)))
  where
    some : (v : Bool) → count l ≡ scope_parts ns v → 0 < count l
    some true e = omega arith
    some false e = omega arith

-- A tree within the limits has this form.
mutual
  unfolding act_within size count

  -- an activity
  pub formed : (vars : ℕ) (cs : List ℕ) (h r : Bool) (a : Act) (depth : ℕ) → act_within vars cs h r a depth ≡ true → Formed h r a
  formed vars cs h r (act own l) depth e =
      both (r || ltb 0 depth) _ e (λ x y. both (own_within vars cs h r own (count l)) _ y (λ z w.
      decide (is_scope own)
      (λ s. own-scope (λ o. own_within vars cs h r o (count l) ≡ true
      → (((a : Act) (x : Acts) → l ≡ more a x → Formed h (is_pick o) a) × ((a : Act) (x : Acts) → l ≡ more a x → FormedIn (later_of o h) (is_pick o) x)) → Formed h r (act o l))
      (λ ns v z f. formed-scope-own vars cs h r ns v l z f) own s z (formed-parts vars cs h (later_of own h) (is_pick own) l (levels_below r depth) w))
      (λ s. formed-part s (own-formed vars cs h r own (count l) z s)
      (formed-all vars cs h (is_pick own) l (levels_below r depth)
      (subst (λ (b : Bool). acts_within vars cs h b (is_pick own) l (levels_below r depth) ≡ true) (ap (λ (b : Bool). b || h) s) w)))))

  -- the same for all of them
  pub formed-all : (vars : ℕ) (cs : List ℕ) (h r : Bool) (l : Acts) (depth : ℕ) → acts_within vars cs h h r l depth ≡ true → FormedIn h r l
  formed-all vars cs h r none depth e = formed-none
  formed-all vars cs h r (more a l) depth e = both (act_within vars cs h r a depth) _ e (λ x y. formed-more (formed vars cs h r a depth x) (formed-all vars cs h r l depth y))

  -- the first, and the others
  formed-parts : (vars : ℕ) (cs : List ℕ) (h later r : Bool) (l : Acts) (depth : ℕ) → acts_within vars cs h later r l depth ≡ true
      → ((a : Act) (x : Acts) → l ≡ more a x → Formed h r a) × ((a : Act) (x : Acts) → l ≡ more a x → FormedIn later r x)
  formed-parts vars cs h later r none depth e = ((λ a x d. absurd (let z : ◌≡◌ {A = ℕ} 0 1 = cc in omega arith)), (λ a x d. absurd (let z : ◌≡◌ {A = ℕ} 0 1 = cc in omega arith)))
  formed-parts vars cs h later r (more a l) depth e =
      both (act_within vars cs h r a depth) _ e (λ x y. (
        (λ b z d. subst (λ (w : Act). Formed h r w) (let q : a ≡ b = cc in q) (formed vars cs h r a depth x)),
        (λ b z d. subst (λ (w : Acts). FormedIn later r w) (let q : l ≡ z = cc in q) (formed-all vars cs later r l depth y)),
      ))

-- the body and the fault part of a plan have this form
pub record Shaped (p : Plan) : Type 0 where
  pub body : Formed false false p.body
  pub fault : Formed true false p.fault
  pub few : size p.body + size p.fault ≤ 256

pub shaped : (p : Plan) → plan_within p ≡ true → Shaped p
unfolding plan_within
shaped p e =
    both (leb (length (spelling p)) 4096) _ e (λ a b. both (from1 16 p.variables) _ b (λ c d. both (ascending p.variables 0 p.correlation) _ d (λ g h.
    both (act_within p.variables p.correlation false false p.body 16) _ h (λ i j. both (act_within p.variables p.correlation true false p.fault 16) _ j (λ k l.
    both (leb (size p.body + size p.fault) 256) _ l (λ m n.
    record {
      body = formed p.variables p.correlation false false p.body 16 i;
      fault = formed p.variables p.correlation true false p.fault 16 k;
      few = leb-true (size p.body + size p.fault) 256 m;
    }))))))
