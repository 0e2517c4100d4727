-- Which of its parts a scope chose, by its place among them: what holds of each of its fault parts holds of the one that it chose. Assumes nothing.
use Prim.Native.Nat.{ℕ, zero, suc, ◌+◌, ◌-◌, ◌≤◌, ◌<◌}
use native.Mathlib.Omega.{arith}
use mathlib.Core.Path.{◌≡◌, refl, sym, ap, subst, ◌∙◌}
use mathlib.Core.Bool.{Bool, true, false, cond, ◌&&◌, false≢true}
use mathlib.Core.List.{List, [], ◌∷◌}
use lib.ListN.{length}
use lib.Dec.{ltb, leb}
use borrow.Author.Tests.{ltb-true, leb-true, le-leb, lt-ltb}
use Rattle.plan.specs.Tree.{Own, is_scope, has_undo, numbers_of, general_part, undo_part, Act, act, Acts, none, more, Plan, size}
use Rattle.plan.specs.Within.{scope_parts}
use Rattle.order.specs.Begin.{part, part_at}
use Rattle.order.specs.Scope.{Scope, scope_at, root_of, behind, chosen_part, chosen_at}
use Rattle.undoing.proofs.Parts.{both, decide}

-- the general fault part stands after those by number
pub general-is : (ns : List ℕ) → general_part ns ≡ 1 + length ns
general-is [] = refl
general-is (n ∷ ns) = omega (arith, general-is ns)

pub general-suc : (ns : List ℕ) → general_part ns ≡ suc (length ns)
general-suc [] = refl
general-suc (n ∷ ns) = ap suc (general-suc ns)

-- which of those within a scope is the part for a choice
abbrev pub named : (choice : ℕ) → (numbers : List ℕ) → Bool
named c ns = ltb 0 c && (ltb c 9 && leb c (length ns))

abbrev pub chosen_in : (choice : ℕ) → (numbers : List ℕ) → ℕ
chosen_in c ns = cond (named c ns) c (general_part ns)

pub chosen-from : (c : ℕ) (ns : List ℕ) → 1 ≤ chosen_in c ns
chosen-from c ns =
    decide (named c ns) (λ e. rw e (both (ltb 0 c) _ e (λ x y. ltb-true 0 c x))) (λ e. rw e (omega (arith, general-is ns)))

pub chosen-to : (c : ℕ) (ns : List ℕ) → chosen_in c ns ≤ general_part ns
chosen-to c ns =
    decide (named c ns)
    (λ e. rw e (both (ltb 0 c) _ e (λ x y. both (ltb c 9) _ y (λ z w. omega (arith, leb-true c (length ns) w, general-is ns)))))
    (λ e. rw e (omega arith))

one_less : (i : ℕ) → suc i - 1 ≡ i
one_less i = omega arith

-- one after the first of a list, by its place behind it
behind-part : (i : ℕ) (l : Acts) → 1 ≤ i → part (i - 1) (behind l) ≡ part i l
unfolding part
behind-part zero l h = absurd (omega arith)
behind-part (suc i) none h = refl
behind-part (suc i) (more a l) h = ap (λ (j : ℕ). part j l) (one_less i)

behind-at : (i : ℕ) (l : Acts) (c : ℕ) → 1 ≤ i → part_at (i - 1) (behind l) (part_at 1 l c) ≡ part_at i l c
unfolding part_at
behind-at zero l c h = absurd (omega arith)
behind-at (suc i) none c h = refl
behind-at (suc i) (more a none) c h = refl
behind-at (suc i) (more a (more b l)) c h = ap (λ (j : ℕ). part_at j (more b l) (c + size a)) (one_less i)

-- the part that scope k chose, and its number
pub chosen-part : (c : ℕ) (ns : List ℕ) (k : ℕ) (within : Acts) → chosen_part c (scope_at ns k within) ≡ part (chosen_in c ns) within
unfolding chosen_part
chosen-part c ns k within =
    decide (named c ns) (λ e. rw e (both (ltb 0 c) _ e (λ x y. behind-part c within (ltb-true 0 c x)))) (λ e. rw e refl)

pub chosen_at_lem : (c : ℕ) (ns : List ℕ) (k : ℕ) (within : Acts) → chosen_at c (scope_at ns k within) ≡ part_at (chosen_in c ns) within (k + 1)
unfolding chosen_at
chosen_at_lem c ns k within =
    decide (named c ns) (λ e. rw e (both (ltb 0 c) _ e (λ x y. behind-at c within (k + 1) (ltb-true 0 c x)))) (λ e. rw e refl)

-- what holds of each fault part of a scope holds of the one that it chose
pub chosen-each : (P : Act → ℕ → Type 0) (ns : List ℕ) (k : ℕ) (within : Acts)
    → ((i : ℕ) → 1 ≤ i → i ≤ general_part ns → P (part i within) (part_at i within (k + 1)))
    → (c : ℕ) → P (chosen_part c (scope_at ns k within)) (chosen_at c (scope_at ns k within))
chosen-each P ns k within h c =
    subst (λ (a : Act). P a (chosen_at c (scope_at ns k within))) (sym (chosen-part c ns k within))
    (subst (λ (j : ℕ). P (part (chosen_in c ns) within) j) (sym (chosen_at_lem c ns k within)) (h (chosen_in c ns) (chosen-from c ns) (chosen-to c ns)))

-- the root has one
root_none : (c : ℕ) → (ltb 0 c && (ltb c 9 && leb c 0)) ≡ false
root_none c =
    decide (named c []) (λ e. both (ltb 0 c) _ e (λ x y. both (ltb c 9) _ y (λ z w. absurd (omega (arith, ltb-true 0 c x, leb-true c 0 w))))) (λ e. e)

pub root-chosen : (P : Act → ℕ → Type 0) (p : Plan) → P p.fault (size p.body) → (c : ℕ) → P (chosen_part c (root_of p)) (chosen_at c (root_of p))
unfolding chosen_part chosen_at
root-chosen P p h c = rw (root_none c) h

-- a scope has its fault parts among those within it, and its undo part where it has one
pub general-there : (own : Own) (n : ℕ) → scope_parts (numbers_of own) (has_undo own) ≤ n → general_part (numbers_of own) < n
general-there own n h =
    decide (has_undo own)
    (λ u. let z : length (numbers_of own) + 3 ≤ n = rw u at h in omega (arith, general-is (numbers_of own)))
    (λ u. let z : length (numbers_of own) + 2 ≤ n = rw u at h in omega (arith, general-is (numbers_of own)))

pub undo-there : (own : Own) (n : ℕ) → has_undo own ≡ true → scope_parts (numbers_of own) (has_undo own) ≤ n → undo_part (numbers_of own) < n
undo-there own n u h = let z : length (numbers_of own) + 3 ≤ n = rw u at h in omega (arith, general-is (numbers_of own))
