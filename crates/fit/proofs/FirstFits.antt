-- The search finds a receive exactly where the message fits one; and what the contracts ask of a plan's flags holds of each accepted plan.
-- Assumes nothing.
use mathlib.Core.Path.{◌≡◌, refl, sym, ◌∙◌}
use mathlib.Core.Bool.{Bool, true, false, cond, ◌&&◌}
use mathlib.Core.List.{List, [], ◌∷◌, ◌++◌}
use Prim.Native.Nat.{ℕ, ◌+◌, ◌<◌, ◌≤◌}
use native.Mathlib.Omega.{arith}
use borrow.Author.Tests.{leb-true, ltb-true, ne_eqb}
use lib.Dec.{leb, ltb}
use lib.ListN.{length}
use Rattle.plan.specs.Found.{found, among}
use Rattle.plan.specs.Read.{read_plan}
use Rattle.plan.specs.Spell.{spelling}
use Rattle.plan.specs.Table.{flags_of}
use Rattle.plan.specs.Tree.{Plan}
use Rattle.plan.specs.Within.{from1, ascending, plan_within}
use Rattle.plan.proofs.Accepts.{both}
use Rattle.plan.proofs.Limits.{accepted-is-within}
use Rattle.plan.proofs.Stores.{flagged-among}
use Rattle.machine.specs.declared.Message.{Message}
use Rattle.order.specs.declared.Order.{Order}
use Rattle.std.specs.Prelude.{Option, None, Some}
use Rattle.fit.specs.declared.Receiver.{Receiver}
use Rattle.fit.specs.Answering.{Correlated}
use Rattle.fit.specs.Finding.{receiver, first_of, or_else, first_receiver, is_nothing}
use Rattle.machine.specs.Fit.{Ready, Live, fitting, fittings}
use Rattle.order.specs.Lists.{each, empties}

-- the search finds nothing exactly where the message fits no open receive of a live order
empties-append : (l k : List ℕ) → empties (l ++ k) ≡ (empties l && empties k)
empties-append [] k = refl
empties-append (x ∷ l) k = refl

nothing-else : (r s : Option Receiver) → is_nothing (or_else r s) ≡ (is_nothing r && is_nothing s)
unfolding is_nothing or_else
nothing-else (Some x) s = refl
nothing-else None s = refl

first-of-exactly : (p : Plan) (i : ℕ) (o : Order) (m : Message) (l : List Ready)
    → is_nothing (first_of p i o m l) ≡ empties (each (λ r. fitting p o m r.step) l)
unfolding first_of is_nothing each
first-of-exactly p i o m [] = refl
first-of-exactly p i o m (r ∷ l) =
    by-test (first-of-exactly p i o m l) (empties (fitting p o m r.step)) ∙ sym (empties-append (fitting p o m r.step) _)
  where
    by-test : is_nothing (first_of p i o m l) ≡ empties (each (λ x. fitting p o m x.step) l) → (b : Bool)
        → is_nothing (cond b (first_of p i o m l) (receiver i r.activity)) ≡ (b && empties (each (λ x. fitting p o m x.step) l))
    by-test e true = e
    by-test e false = refl

pub first-exactly : (p : Plan) (l : List Live) (m : Message) → is_nothing (first_receiver p l m) ≡ empties (fittings p l m)
unfolding first_receiver is_nothing fittings each
first-exactly p [] m = refl
first-exactly p (x ∷ l) m =
    nothing-else (first_of p x.slot x.order m x.ready) (first_receiver p l m)
    ∙ (rw (first-of-exactly p x.slot x.order m x.ready, first-exactly p l m)
    (sym (empties-append (each (λ r. fitting p x.order m r.step) x.ready) (fittings p l m))))

-- the correlation variables of a plan within the limits are flagged, and none is beyond the flags
none_above : (vars least : ℕ) (l : List ℕ) (v : ℕ) → ascending vars least l ≡ true → vars ≤ v → among v l ≡ false
unfolding ascending among
none_above vars least [] v h g = refl
none_above vars least (x ∷ l) v h g =
    both (leb least x) _ h
    (λ a b. both (ltb x vars) _ b
    (λ c d.
    let e : x < vars = ltb-true x vars c in
    rw (ne_eqb v x (λ q. omega arith)) (none_above vars (x + 1) l v d g)))

pub within-correlated : (p : Plan) → plan_within p ≡ true → Correlated p (flags_of p)
unfolding plan_within flags_of
within-correlated p h =
    both (leb (length (spelling p)) 4096) _ h
    (λ short h1. both (from1 16 p.variables) _ h1
    (λ vars h2. both (ascending p.variables 0 p.correlation) _ h2
    (λ rising h3. both (leb 1 p.variables) _ vars
    (λ one most.
    let few : p.variables ≤ 16 = leb-true _ 16 most in
    record {
      known = λ v g. flagged-among p.correlation v g;
      beyond = λ v g. none_above p.variables 0 p.correlation v rising (omega arith);
    }))))

pub accepted-correlated : (s : List ℕ) {p : Plan} {next : ℕ} → read_plan s ≡ found p next → Correlated p (flags_of p)
accepted-correlated s {p} e = within-correlated p (accepted-is-within s e)
