-- What accepting a plan promises of its scopes. Assumes nothing.
use Prim.Native.Nat.{ℕ, zero, suc, ◌+◌, ◌≤◌, ◌<◌}
use native.Mathlib.Omega.{arith}
use mathlib.Core.Path.{◌≡◌, refl, sym, ap, subst, ◌∙◌}
use mathlib.Core.Bool.{Bool, true, false, not, ◌&&◌, ◌||◌, false≢true, or-false, and-true, and-false, cond}
use mathlib.Core.List.{List, [], ◌∷◌, ◌++◌, append-nil}
use lib.ListN.{length}
use lib.Dec.{eqb, ltb, leb}
use borrow.Author.Tests.{eqb-true, eq-eqb, ne_eqb, not-true, lt-ltb, le-ltb, leb-true}
use Rattle.plan.specs.Read.{later_of}
use Rattle.plan.specs.Tree.{Own, empty, send, receive, set as setting, raise, leave, choose, repeat, sequence, flow, pick, scope, arm, kind, is_arm, is_pick, is_scope, numbers_of, general_part, Act, act, Acts, none, more, Plan, size, sizes, count, has_undo, to_partner, to_held, from_partner, from_asking}
use Rattle.plan.specs.Found.{among}
use Rattle.plan.specs.Spell.{spelling}
use Rattle.plan.specs.Within.{from1, scope_parts, numbers_within, own_within, act_within, acts_within, levels_below, ascending, plan_within}
use Rattle.order.specs.Lists.{some, only, every}
use Rattle.order.specs.State.{Name, root, inner, same}
use Rattle.order.specs.Begin.{part, part_at}
use Rattle.order.specs.Scope.{root_of, part_for}
use Rattle.undoing.specs.Demand3.{Inner, firsts, scopes_in, scopes_among, scopes_of, inside_of, is_undo_part}
use Rattle.undoing.specs.Ties.{is_name, Place, body_of, fault_of, undo_of, name_of, place_in, place_among, place_parts, place_of, beyond_of, last_of, beyond_in, last_in}
use Rattle.undoing.specs.Orderly.{is_fault_part, is_part_for}
use Rattle.undoing.proofs.Marks.{trio, spread}
use Rattle.undoing.proofs.Parts.{both, decide, only-append, none-some, one-some, same-itself, same-swap}
use Rattle.undoing.proofs.Choices.{general-is, root-chosen}
use Rattle.undoing.proofs.Accounts.{choice_by, NoFaultPart, Known}
use Rattle.undoing.proofs.Moves.{Before, Spot, Plain, Befores, Fore}
use Rattle.undoing.proofs.Orders.{inner_at, directs, directs_in, bare, bare_in, least, Sits, sits-part, sits-scope, SitsIn, sits-none, sits-more, before_on, Faulty, Remedy, remedy, remedy-names, Healers, heals-by, heals-all, Rest, rest-undo, rest-none, befores-on, fore-on}
use Rattle.undoing.proofs.Remedies.{part-from, part-to, first-at, general-suc, chosen_on, chosen-most}
use Rattle.undoing.proofs.Places.{place_here, place-within, place-scope, place-first, place-later, parts_first, parts_last, parts-later, first-of, second-of}
use Rattle.undoing.proofs.Seats.{Chosen, Seat, directs-is}

-- The form of a tree: `h` holds in a handler, where there is no scope; `r` holds of an arm.
mutual
  pub data Formed : (h r : Bool) → Act → Type 0 where
    formed-part : {h r : Bool} {own : Own} {within : Acts} → is_scope own ≡ false → is_arm own ≡ r → least own ≤ count within
        → FormedIn h (is_pick own) within → Formed h r (act own within)
    formed-scope : {xs : List ℕ} {v : Bool} {b f : Act} {u : Acts} → length xs ≤ 8 → count (more f u) ≡ length xs + cond v 2 1 → Formed false false b → FormedIn true false (more f u)
        → Formed false false (act (scope xs v) (trio b f u))

  pub data FormedIn : (h r : Bool) → Acts → Type 0 where
    formed-none : {h r : Bool} → FormedIn h r none
    formed-more : {h r : Bool} {a : Act} {l : Acts} → Formed h r a → FormedIn h r l → FormedIn h r (more a l)

-- what an activity may say of itself
own-formed : (vars : ℕ) (cs : List ℕ) (h r : Bool) (own : Own) (n : ℕ) → own_within vars cs h r own n ≡ true → is_scope own ≡ false → (is_arm own ≡ r) × (least own ≤ n)
unfolding own_within kind least
own-formed vars cs h r empty n e s = (sym (not-true r (both (not r) _ e (λ x y. x))), omega arith)
own-formed vars cs h r (send (to_partner x) y vs) n e s = (sym (not-true r (both (not r) _ e (λ x y. x))), omega arith)
own-formed vars cs h r (send (to_held held reply) y vs) n e s = (sym (not-true r (both (not r) _ e (λ x y. x))), omega arith)
own-formed vars cs h r (receive (from_partner x) y vs) n e s = (sym (not-true r (both (not r) _ e (λ x y. x))), omega arith)
own-formed vars cs h r (receive (from_asking x kept) y vs) n e s = (sym (not-true r (both (not r) _ e (λ x y. x))), omega arith)
own-formed vars cs h r (setting v x) n e s = (sym (not-true r (both (not r) _ e (λ x y. x))), omega arith)
own-formed vars cs h r (raise zero) n e s = (sym (not-true r (both (not r) _ e (λ x y. x))), omega arith)
own-formed vars cs h r (raise (suc number)) n e s = (sym (not-true r (both (not r) _ e (λ x y. x))), omega arith)
own-formed vars cs h r leave n e s = (sym (not-true r (both (not r) _ e (λ x y. x))), omega arith)
own-formed vars cs h r (choose x) n e s =
    both (not r) _ e (λ a b. both (eqb n 2) _ b (λ c d. (sym (not-true r a), let z : n ≡ 2 = eqb-true n 2 c in omega arith)))
own-formed vars cs h r (repeat x) n e s =
    both (not r) _ e (λ a b. both (eqb n 1) _ b (λ c d. (sym (not-true r a), let z : n ≡ 1 = eqb-true n 1 c in omega arith)))
own-formed vars cs h r sequence n e s = (sym (not-true r (both (not r) _ e (λ x y. x))), omega arith)
own-formed vars cs h r flow n e s = (sym (not-true r (both (not r) _ e (λ x y. x))), omega arith)
own-formed vars cs h r pick n e s =
    both (not r) _ e (λ a b. both (leb 1 n) _ b (λ c d. (sym (not-true r a), let z : 1 ≤ n = leb-true 1 n c in omega arith)))
own-formed vars cs h r (scope xs v) n e s = absurd (false≢true (sym s))
own-formed vars cs h r (arm x y vs) n e s =
    both r _ e (λ a b. both (eqb n 1) _ b (λ c d. (sym a, let z : n ≡ 1 = eqb-true n 1 c in omega arith)))

-- only a scope is one
pub scope-own : (own : Own) → is_scope own ≡ true → own ≡ scope (numbers_of own) (has_undo own)
scope-own empty e = absurd (false≢true e)
scope-own (send x y vs) e = absurd (false≢true e)
scope-own (receive x y vs) e = absurd (false≢true e)
scope-own (setting v x) e = absurd (false≢true e)
scope-own (raise zero) e = absurd (false≢true e)
scope-own (raise (suc number)) e = absurd (false≢true e)
scope-own leave e = absurd (false≢true e)
scope-own (choose x) e = absurd (false≢true e)
scope-own (repeat x) e = absurd (false≢true e)
scope-own sequence e = absurd (false≢true e)
scope-own flow e = absurd (false≢true e)
scope-own pick e = absurd (false≢true e)
scope-own (scope xs v) e = refl
scope-own (arm x y vs) e = absurd (false≢true e)

-- numbers within the limits are eight at most
numbers-few : (xs : List ℕ) (v : Bool) → numbers_within xs v ≡ true → length xs ≤ 8
unfolding numbers_within
numbers-few [] v e = omega arith
numbers-few (x ∷ xs) v e = both v _ e (λ a b. both (leb (length (x ∷ xs)) 8) _ b (λ c d. leb-true (length (x ∷ xs)) 8 c))

-- a scope's parts, by their number
its-parts : (xs : List ℕ) (v h r : Bool) (l : Acts) → h ≡ false → r ≡ false → length xs ≤ 8 → count l ≡ scope_parts xs v
    → ((a : Act) (x : Acts) → l ≡ more a x → Formed false false a) → ((a : Act) (x : Acts) → l ≡ more a x → FormedIn true false x) → Formed h r (act (scope xs v) l)
unfolding count
its-parts xs v h r none e d n c f g = absurd (decide v (λ t. let z : 0 ≡ length xs + 3 = rw t at c in omega arith) (λ t. let z : 0 ≡ length xs + 2 = rw t at c in omega arith))
its-parts xs v h r (more a none) e d n c f g = absurd (decide v (λ t. let z : 1 ≡ length xs + 3 = rw t at c in omega arith) (λ t. let z : 1 ≡ length xs + 2 = rw t at c in omega arith))
its-parts xs v h r (more a (more b l)) e d n c f g =
    subst (λ (z : Bool). Formed z r (act (scope xs v) (more a (more b l)))) (sym e)
    (subst (λ (z : Bool). Formed false z (act (scope xs v) (more a (more b l)))) (sym d) (formed-scope n (one_less v c) (f a (more b l) refl) (g a (more b l) refl)))
  where
    one_less : (v : Bool) → 1 + (1 + count l) ≡ length xs + cond v 3 2 → 1 + count l ≡ length xs + cond v 2 1
    one_less true h = omega arith
    one_less false h = omega arith

-- a scope within the limits
formed-scope-own : (xs : List ℕ) (v : Bool) (vars : ℕ) (cs : List ℕ) (h r : Bool) (l : Acts) → own_within vars cs h r (scope xs v) (count l) ≡ true
    → (((a : Act) (x : Acts) → l ≡ more a x → Formed h false a) × ((a : Act) (x : Acts) → l ≡ more a x → FormedIn true false x)) → Formed h r (act (scope xs v) l)
unfolding own_within
formed-scope-own xs v vars cs h r l e f =
    both (not r) _ e (λ x y. both (eqb (count l) (scope_parts xs v)) _ y (λ c d. both (not h) _ d (λ i j.
    let z : h ≡ false = not-true h i in
    its-parts xs v h r l z (not-true r x) (numbers-few xs v j) (eqb-true (count l) (scope_parts xs v) c) (λ a x g. subst (λ (b : Bool). Formed b false a) z (f.0 a x g)) f.1)))

-- the same, of what is a scope
formed-as-scope : (xs : List ℕ) (v : Bool) (vars : ℕ) (cs : List ℕ) (h r : Bool) (own : Own) (l : Acts) → own ≡ scope xs v → own_within vars cs h r own (count l) ≡ true
    → (((a : Act) (x : Acts) → l ≡ more a x → Formed h (is_pick own) a) × ((a : Act) (x : Acts) → l ≡ more a x → FormedIn (later_of own h) (is_pick own) x))
    → Formed h r (act own l)
formed-as-scope xs v vars cs h r own l s =
    subst (λ (own : Own). own_within vars cs h r own (count l) ≡ true
    → (((a : Act) (x : Acts) → l ≡ more a x → Formed h (is_pick own) a) × ((a : Act) (x : Acts) → l ≡ more a x → FormedIn (later_of own h) (is_pick own) x))
    → Formed h r (act own l)) (sym s) (λ z f. formed-scope-own xs v vars cs h r l z f)

-- A tree within the limits has this form.
mutual
  unfolding act_within size count

  -- an activity
  pub formed : (vars : ℕ) (cs : List ℕ) (h r : Bool) (a : Act) (depth : ℕ) → act_within vars cs h r a depth ≡ true → Formed h r a
  formed vars cs h r (act own l) depth e =
      both (r || ltb 0 depth) _ e (λ x y. both (own_within vars cs h r own (count l)) _ y (λ z w.
      decide (is_scope own)
      (λ s. formed-as-scope (numbers_of own) (has_undo own) vars cs h r own l (scope-own own s) z (formed-parts vars cs h (later_of own h) (is_pick own) l (levels_below r depth) w))
      (λ s. let f = own-formed vars cs h r own (count l) z s in
      formed-part s f.0 f.1
      (formed-all vars cs h (is_pick own) l (levels_below r depth)
      (subst (λ (b : Bool). acts_within vars cs h b (is_pick own) l (levels_below r depth) ≡ true) (ap (λ (b : Bool). b || h) s) w)))))

  -- the same for all of them
  pub formed-all : (vars : ℕ) (cs : List ℕ) (h r : Bool) (l : Acts) (depth : ℕ) → acts_within vars cs h h r l depth ≡ true → FormedIn h r l
  formed-all vars cs h r none depth e = formed-none
  formed-all vars cs h r (more a l) depth e = both (act_within vars cs h r a depth) _ e (λ x y. formed-more (formed vars cs h r a depth x) (formed-all vars cs h r l depth y))

  -- the first, and the others
  formed-parts : (vars : ℕ) (cs : List ℕ) (h later r : Bool) (l : Acts) (depth : ℕ) → acts_within vars cs h later r l depth ≡ true
      → ((a : Act) (x : Acts) → l ≡ more a x → Formed h r a) × ((a : Act) (x : Acts) → l ≡ more a x → FormedIn later r x)
  formed-parts vars cs h later r none depth e = ((λ a x d. absurd (let z : ◌≡◌ {A = ℕ} 0 1 = cc in omega arith)), (λ a x d. absurd (let z : ◌≡◌ {A = ℕ} 0 1 = cc in omega arith)))
  formed-parts vars cs h later r (more a l) depth e =
      both (act_within vars cs h r a depth) _ e (λ x y. (
        (λ b z d. subst (λ (w : Act). Formed h r w) (let q : a ≡ b = cc in q) (formed vars cs h r a depth x)),
        (λ b z d. subst (λ (w : Acts). FormedIn later r w) (let q : l ≡ z = cc in q) (formed-all vars cs later r l depth y)),
      ))

-- The scopes of a tree, as lists.

-- by whether an activity is one
pub scopes-is : (own : Own) (within : Acts) (k : ℕ) (n : Name) (ns : List Name) (b : Bool) → is_scope own ≡ b
    → scopes_in (act own within) k n ns
    ≡ elim b [ true ↦ inner_at (numbers_of own) (has_undo own) k n ns within ∷ scopes_among within (k + 1) (inner k) (cond (has_undo own) [] (n ∷ ns)) | false ↦ scopes_among within (k + 1) n ns ]
unfolding scopes_in
scopes-is own within k n ns b t =
    subst (λ (z : Bool). scopes_in (act own within) k n ns
    ≡ elim z [ true ↦ inner_at (numbers_of own) (has_undo own) k n ns within ∷ scopes_among within (k + 1) (inner k) (cond (has_undo own) [] (n ∷ ns)) | false ↦ scopes_among within (k + 1) n ns ]) t refl

-- there is no scope in a handler
mutual
  unfolding scopes_in kind bare

  -- in an activity
  pub bare-formed : {r : Bool} {a : Act} {h : Bool} → Formed h r a → h ≡ true → (bare a ≡ true) × ((k : ℕ) (n : Name) (ns : List Name) → scopes_in a k n ns ≡ [])
  bare-formed (formed-part {own = own} {within = within} s i g f) e =
      let b = bare-formed-in f e in (rw (s, b.0), λ k n ns. scopes-is own within k n ns false s ∙ b.1 (k + 1) n ns)
  bare-formed (formed-scope few many b l) e = absurd (false≢true e)

  -- in a list
  pub bare-formed-in : {r : Bool} {l : Acts} {h : Bool} → FormedIn h r l → h ≡ true → (bare_in l ≡ true) × ((c : ℕ) (n : Name) (ns : List Name) → scopes_among l c n ns ≡ [])
  bare-formed-in (formed-none) e = (refl, λ c n ns. refl)
  bare-formed-in (formed-more {a = a} {l = l} f g) e =
      let x = bare-formed f e in let y = bare-formed-in g e in (rw (x.0, y.0), λ c n ns. rw (x.1 c n ns, y.1 (c + size a) n ns))

-- so those of a scope are itself, and those of its body
pub scopes-scope : (xs : List ℕ) (v : Bool) (b : Act) {f : Act} {u : Acts} → FormedIn true false (more f u) → (k : ℕ) (n : Name) (ns : List Name)
    → scopes_in (act (scope xs v) (trio b f u)) k n ns ≡ inner_at xs v k n ns (trio b f u) ∷ scopes_in b (k + 1) (inner k) (cond v [] (n ∷ ns))
unfolding scopes_in
scopes-scope xs v b {f} {u} z k n ns = rw ((bare-formed-in z refl).1 (k + 1 + size b) (inner k) (cond v [] (n ∷ ns)), append-nil)

-- the tests that find a scope: by its number, by its undo part, by its fault part, by the scope around it
abbrev by_number : ℕ → Inner → Bool
by_number j x = eqb x.number j

abbrev by_undo : ℕ → Inner → Bool
by_undo j x = is_undo_part j x

abbrev by_fault : ℕ → Inner → Bool
by_fault j x = among j x.parts

abbrev by_around : ℕ → Inner → Bool
by_around j x = same x.around (inner j)

-- nothing in a list has to do with j
record Clear (j : ℕ) (l : List Inner) : Type 0 where
  number : only (by_number j) l ≡ []
  undo : only (by_undo j) l ≡ []
  fault : only (by_fault j) l ≡ []
  around : only (by_around j) l ≡ []

-- no scopes
clear_none : (j : ℕ) → Clear j []
unfolding only
clear_none j = record { number = refl; undo = refl; fault = refl; around = refl }

-- two lists
clear-append : {j : ℕ} (l m : List Inner) → Clear j l → Clear j m → Clear j (l ++ m)
clear-append {j} l m x y =
    record {
      number = only-append (by_number j) l m ∙ rw (x.number, y.number);
      undo = only-append (by_undo j) l m ∙ rw (x.undo, y.undo);
      fault = only-append (by_fault j) l m ∙ rw (x.fault, y.fault);
      around = only-append (by_around j) l m ∙ rw (x.around, y.around);
    }

-- one more
clear-cons : {j : ℕ} (x : Inner) (l : List Inner) → by_number j x ≡ false → by_undo j x ≡ false → by_fault j x ≡ false → by_around j x ≡ false → Clear j l → Clear j (x ∷ l)
unfolding only
clear-cons x l a b d c y = record { number = rw (a, y.number); undo = rw (b, y.undo); fault = rw (d, y.fault); around = rw (c, y.around) }

-- j is outside a stretch
data Outside (j k n : ℕ) : Type 0 where
  below : j < k → Outside j k n
  above : k + n ≤ j → Outside j k n

-- outside a part of it
outside-part : {j k n c m : ℕ} → Outside j k n → k ≤ c → c + m ≤ k + n → Outside j c m
outside-part (below h) x y = below (omega arith)
outside-part (above h) x y = above (omega arith)

-- an activity has a number
positive : (a : Act) → 1 ≤ size a
unfolding size
positive (act own within) = omega arith

-- a number of the stretch is another
outside-ne : {j k n : ℕ} (i : ℕ) → Outside j k n → k ≤ i → i < k + n → eqb i j ≡ false
outside-ne {j} i (below h) x y = ne_eqb i j (omega arith)
outside-ne {j} i (above h) x y = ne_eqb i j (omega arith)

-- a list with the undo part of a scope in it
undo-in : (xs : List ℕ) (v : Bool) (l : Acts) → count l ≡ length xs + cond v 2 1 → v ≡ true → general_part xs < count l
undo-in xs true l e d = omega (arith, general-is xs)
undo-in xs false l e d = absurd (false≢true d)

-- the numbers of parts are none but theirs
firsts-outside : (n : ℕ) (l : Acts) (c j : ℕ) → Outside j c (sizes l) → among j (firsts n l c) ≡ false
unfolding firsts among size
firsts-outside zero l c j o = refl
firsts-outside (suc n) none c j o = refl
firsts-outside (suc n) (more a l) c j o = rw (other o, firsts-outside n l (c + size a) j (outside-part o (omega arith) (omega arith)))
  where
    other : Outside j c (size a + sizes l) → eqb j c ≡ false
    other (below h) = ne_eqb j c (omega arith)
    other (above h) = ne_eqb j c (omega (arith, positive a))

-- nor is the number of what stands behind them one
firsts-behind : (n : ℕ) (l : Acts) (c j : ℕ) → part_at n l c ≤ j → among j (firsts n l c) ≡ false
unfolding firsts among part_at
firsts-behind zero l c j h = refl
firsts-behind (suc n) none c j h = refl
firsts-behind (suc n) (more a l) c j h = rw (ne_eqb j c (omega (arith, positive a, part-from n l (c + size a))), firsts-behind n l (c + size a) j h)

-- no number but its own is that of a scope's undo part or of a fault part
module _ (xs : List ℕ) (v : Bool) (b f : Act) (u : Acts) (k : ℕ) (n : Name) (ns : List Name) where
  undo-outside : {j : ℕ} → count (more f u) ≡ length xs + cond v 2 1 → Outside j k (spread b f u) → by_undo j (inner_at xs v k n ns (trio b f u)) ≡ false
  unfolding size part_at
  undo-outside e o =
      decide v
      (λ t. let i = undo-in xs v (more f u) e t in
      rw (
        t,
        outside-ne (part_at (general_part xs) (more f u) (k + 1 + size b)) o (omega (arith, part-from (general_part xs) (more f u) (k + 1 + size b)))
            (omega (arith, part-to (general_part xs) (more f u) (k + 1 + size b) i, positive (part (general_part xs) (more f u)))),
      ))
      (λ t. rw t)

  fault-outside : (j : ℕ) → Outside j k (spread b f u) → by_fault j (inner_at xs v k n ns (trio b f u)) ≡ false
  unfolding size part_at
  fault-outside j o = firsts-outside (general_part xs) (more f u) (k + 1 + size b) j (outside-part o (omega arith) (omega arith))

  undo-beside : (j : ℕ) → j < k + 1 + size b → by_undo j (inner_at xs v k n ns (trio b f u)) ≡ false
  unfolding part_at
  undo-beside j h = ap (λ (z : Bool). v && z) (ne_eqb (part_at (general_part xs) (more f u) (k + 1 + size b)) j (omega (arith, part-from (general_part xs) (more f u) (k + 1 + size b)))) ∙ and-false v

  fault-beside : (j : ℕ) → j < k + 1 + size b → by_fault j (inner_at xs v k n ns (trio b f u)) ≡ false
  unfolding part_at
  fault-beside j h = firsts-outside (general_part xs) (more f u) (k + 1 + size b) j (below h)

-- outside its numbers nothing in a tree has to do with j
mutual
  unfolding scopes_in kind size part part_at

  -- an activity
  clear_in : {h r : Bool} {a : Act} → Formed h r a → (k j : ℕ) (n : Name) (ns : List Name) → same n (inner j) ≡ false → Outside j k (size a) → Clear j (scopes_in a k n ns)
  clear_in (formed-part {own = own} {within = within} s i g f) k j n ns t o =
      rw (scopes-is own within k n ns false s) (clear-among f (k + 1) j n ns t (outside-part o (omega arith) (omega arith)))
  clear_in (formed-scope {xs} {v = v} {b = b} {f = f} {u = u} few many x z) k j n ns t o =
      subst (λ (l : List Inner). Clear j l) (sym (scopes-scope xs v b z k n ns))
      (clear-cons (inner_at xs v k n ns (trio b f u)) _ (outside-ne k o (omega arith) (omega arith)) (undo-outside xs v b f u k n ns many o) (fault-outside xs v b f u k n ns j o) t
      (clear_in x (k + 1) j (inner k) (cond v [] (n ∷ ns)) (outside-ne k o (omega arith) (omega arith)) (outside-part o (omega arith) (omega arith))))

  -- a list
  clear-among : {h r : Bool} {l : Acts} → FormedIn h r l → (c j : ℕ) (n : Name) (ns : List Name) → same n (inner j) ≡ false → Outside j c (sizes l) → Clear j (scopes_among l c n ns)
  clear-among (formed-none) c j n ns t o = clear_none j
  clear-among (formed-more {a = a} {l = l} f g) c j n ns t o =
      clear-append (scopes_in a c n ns) _ (clear_in f c j n ns t (outside-part o (omega arith) (omega arith))) (clear-among g (c + size a) j n ns t (outside-part o (omega arith) (omega arith)))

-- outside its numbers no scope of a tree has the number j, nor its undo part, whatever is around the tree
record Free (j : ℕ) (l : List Inner) : Type 0 where
  number : only (by_number j) l ≡ []
  undo : only (by_undo j) l ≡ []
  fault : only (by_fault j) l ≡ []

-- no scopes
free-none : (j : ℕ) → Free j []
unfolding only
free-none j = record { number = refl; undo = refl; fault = refl }

-- two lists
free-append : (j : ℕ) (l m : List Inner) → Free j l → Free j m → Free j (l ++ m)
free-append j l m x y =
    record {
      number = only-append (by_number j) l m ∙ rw (x.number, y.number);
      undo = only-append (by_undo j) l m ∙ rw (x.undo, y.undo);
      fault = only-append (by_fault j) l m ∙ rw (x.fault, y.fault);
    }

-- one more
free-cons : (j : ℕ) (x : Inner) (l : List Inner) → by_number j x ≡ false → by_undo j x ≡ false → by_fault j x ≡ false → Free j l → Free j (x ∷ l)
unfolding only
free-cons j x l a b c y = record { number = rw (a, y.number); undo = rw (b, y.undo); fault = rw (c, y.fault) }

mutual
  unfolding scopes_in kind size part part_at only

  -- an activity
  free_in : {h r : Bool} {a : Act} → Formed h r a → (k j : ℕ) (n : Name) (ns : List Name) → Outside j k (size a) → Free j (scopes_in a k n ns)
  free_in (formed-part {own = own} {within = within} s i g f) k j n ns o =
      subst (λ (l : List Inner). Free j l) (sym (scopes-is own within k n ns false s)) (free-among f (k + 1) j n ns (outside-part o (omega arith) (omega arith)))
  free_in (formed-scope {xs} {v = v} {b = b} {f = f} {u = u} few many x z) k j n ns o =
      subst (λ (l : List Inner). Free j l) (sym (scopes-scope xs v b z k n ns))
      (free-cons j (inner_at xs v k n ns (trio b f u)) _ (outside-ne k o (omega arith) (omega arith)) (undo-outside xs v b f u k n ns many o) (fault-outside xs v b f u k n ns j o)
      (free_in x (k + 1) j (inner k) (cond v [] (n ∷ ns)) (outside-part o (omega arith) (omega arith))))

  -- a list
  free-among : {h r : Bool} {l : Acts} → FormedIn h r l → (c j : ℕ) (n : Name) (ns : List Name) → Outside j c (sizes l) → Free j (scopes_among l c n ns)
  free-among (formed-none) c j n ns o = free-none j
  free-among (formed-more {a = a} {l = l} f g) c j n ns o =
      free-append j (scopes_in a c n ns) _ (free_in f c j n ns (outside-part o (omega arith) (omega arith))) (free-among g (c + size a) j n ns (outside-part o (omega arith) (omega arith)))

-- no scope inside another has the root around it
mutual
  unfolding scopes_in kind size only

  -- in an activity
  no-root : {h r : Bool} {a : Act} → Formed h r a → (k i : ℕ) (ns : List Name) → only (λ x. same x.around root) (scopes_in a k (inner i) ns) ≡ []
  no-root (formed-part {own = own} {within = within} s x g f) k i ns = rw (scopes-is own within k (inner i) ns false s) (no-root-among f (k + 1) i ns)
  no-root (formed-scope {xs} {v = v} {b = b} {f = f} {u = u} few many x z) k i ns =
      ap (only (λ x. same x.around root)) (scopes-scope xs v b z k (inner i) ns) ∙ no-root x (k + 1) k (cond v [] (inner i ∷ ns))

  -- in a list
  no-root-among : {h r : Bool} {l : Acts} → FormedIn h r l → (c i : ℕ) (ns : List Name) → only (λ x. same x.around root) (scopes_among l c (inner i) ns) ≡ []
  no-root-among (formed-none) c i ns = refl
  no-root-among (formed-more {a = a} {l = l} f g) c i ns =
      rw (only-append (λ x. same x.around root) (scopes_in a c (inner i) ns) (scopes_among l (c + size a) (inner i) ns), no-root f c i ns, no-root-among g (c + size a) i ns)

-- a name before k is no number from k on
before-other : (n : Name) (k j : ℕ) → Before n k → k ≤ j → same n (inner j) ≡ false
before-other root k j b h = refl
before-other (inner i) k j b h = ne_eqb i j (omega arith)

-- of the scopes inside a scope none but those directly inside have what is around that
inner-away : {h r : Bool} {a : Act} → Formed h r a → (k c : ℕ) (n : Name) (ns : List Name) → Before n k → k < c → only (λ x. same x.around n) (scopes_in a c (inner k) ns) ≡ []
inner-away f k c root ns b h = no-root f c k ns
inner-away f k c (inner i) ns b h = (clear_in f c i (inner k) ns (ne_eqb k i (omega arith)) (below (omega arith))).around

-- the scopes directly inside are those that have it around them
mutual
  unfolding scopes_in directs kind size only part part_at

  -- in an activity
  directs-only : {h r : Bool} {a : Act} → Formed h r a → (k : ℕ) (n : Name) (ns : List Name) → Before n k → only (λ x. same x.around n) (scopes_in a k n ns) ≡ directs a k n ns
  directs-only (formed-part {own = own} {within = within} s x g f) k n ns b =
      rw (scopes-is own within k n ns false s, directs-is own within k n ns false s) (directs-only-in f (k + 1) n ns (before_on n b (omega arith)))
  directs-only (formed-scope {xs} {v = v} {b = b} {f = f} {u = u} few many x z) k n ns h =
      ap (only (λ x. same x.around n)) (scopes-scope xs v b z k n ns) ∙ rw (same-itself n, inner-away x k (k + 1) n (cond v [] (n ∷ ns)) h (omega arith))

  -- in a list
  directs-only-in : {h r : Bool} {l : Acts} → FormedIn h r l → (c : ℕ) (n : Name) (ns : List Name) → Before n c → only (λ x. same x.around n) (scopes_among l c n ns) ≡ directs_in l c n ns
  directs-only-in (formed-none) c n ns b = refl
  directs-only-in (formed-more {a = a} {l = l} f g) c n ns b =
      rw (only-append (λ x. same x.around n) (scopes_in a c n ns) (scopes_among l (c + size a) n ns), directs-only f c n ns b, directs-only-in g (c + size a) n ns (before_on n b (omega arith)))

-- What is to do with the numbers of a stretch is found in a list, and none of them is the root's fault part.
record Focus (p : Plan) (m : List Inner) (k n : ℕ) : Type 0 where
  number : (j : ℕ) → k ≤ j → j < k + n → only (by_number j) (scopes_of p) ≡ only (by_number j) m
  undo : (j : ℕ) → k ≤ j → j < k + n → only (by_undo j) (scopes_of p) ≡ only (by_undo j) m
  fault : (j : ℕ) → k ≤ j → j < k + n → only (by_fault j) (scopes_of p) ≡ only (by_fault j) m
  around : (j : ℕ) → k ≤ j → j < k + n → only (by_around j) (scopes_of p) ≡ only (by_around j) m
  rootless : (j : ℕ) → k ≤ j → j < k + n → eqb (size p.body) j ≡ false

-- in a part of it, with what is clear of that left out before and after
focus-part : {p : Plan} {k n c m : ℕ} (x l y : List Inner) → Focus p (x ++ (l ++ y)) k n → k ≤ c → c + m ≤ k + n
    → ((j : ℕ) → c ≤ j → j < c + m → Clear j x) → ((j : ℕ) → c ≤ j → j < c + m → Clear j y) → Focus p l c m
focus-part {p} {k} {n} {c} {m} x l y f h e a b =
    record {
      number = λ j u v. f.number j (omega arith) (omega arith) ∙ (only-append (by_number j) x (l ++ y) ∙ rw ((a j u v).number, only-append (by_number j) l y, (b j u v).number, append-nil));
      undo = λ j u v. f.undo j (omega arith) (omega arith) ∙ (only-append (by_undo j) x (l ++ y) ∙ rw ((a j u v).undo, only-append (by_undo j) l y, (b j u v).undo, append-nil));
      fault = λ j u v. f.fault j (omega arith) (omega arith) ∙ (only-append (by_fault j) x (l ++ y) ∙ rw ((a j u v).fault, only-append (by_fault j) l y, (b j u v).fault, append-nil));
      rootless = λ j u v. f.rootless j (omega arith) (omega arith);
      around = λ j u v. f.around j (omega arith) (omega arith) ∙ (only-append (by_around j) x (l ++ y) ∙ rw ((a j u v).around, only-append (by_around j) l y, (b j u v).around, append-nil));
    }

-- the same list
focus-same : {p : Plan} {k n : ℕ} (l m : List Inner) → l ≡ m → Focus p l k n → Focus p m k n
focus-same {p} {k} {n} l m e f = subst (λ (x : List Inner). Focus p x k n) e f

-- where no scope of a list has the fault part j, none with a number has
no-fault-in : (i j : ℕ) (l : List Inner) → only (by_fault j) l ≡ [] → some (λ x. eqb x.number i && among j x.parts) l ≡ false
unfolding only some
no-fault-in i j [] e = refl
no-fault-in i j (x ∷ l) e =
    decide (among j x.parts)
    (λ t. absurd (let d : x ∷ only (by_fault j) l ≡ [] = rw t at e in let z : ◌≡◌ {A = ℕ} 0 1 = cc in omega arith))
    (λ t. rw (t, and-false, no-fault-in i j l (rw t at e)))

-- of the scopes with this fault part the one in a list has another number, or this one
fault-in : (i j : ℕ) (x : Inner) (l : List Inner) → only (by_fault j) l ≡ x ∷ [] → some (λ y. eqb y.number i && among j y.parts) l ≡ eqb x.number i
unfolding only some
fault-in i j x [] e = absurd (let z : ◌≡◌ {A = ℕ} 0 1 = cc in omega arith)
fault-in i j x (y ∷ l) e =
    decide (among j y.parts)
    (λ t. let d : y ∷ only (by_fault j) l ≡ x ∷ [] = rw t at e in
    let z : y ≡ x = cc in let n : only (by_fault j) l ≡ [] = cc in
    rw (t, and-true, no-fault-in i j l n, or-false, z))
    (λ t. rw (t, and-false, fault-in i j x l (rw t at e)))

-- the places of a tree's numbers, of a list's, and of the parts of a scope after its body, with so many fault parts after the first
abbrev Stood : Plan → Act → (k : ℕ) → Place → Type 0
Stood p a k q = (t : ℕ) → k ≤ t → t < k + size a → place_of p t ≡ place_in a k t q

abbrev StoodIn : Plan → Acts → (c : ℕ) → Place → Type 0
StoodIn p l c q = (t : ℕ) → c ≤ t → t < c + sizes l → place_of p t ≡ place_among l c t q

abbrev StoodParts : Plan → (left : ℕ) → Acts → (c : ℕ) → (fault undo : Place) → Type 0
StoodParts p n l c q u = (t : ℕ) → c ≤ t → t < c + sizes l → place_of p t ≡ place_parts n l c t q q u

module _ (p : Plan) where
  -- of what stands within, of the first and of the others
  stood-within : (own : Own) (within : Acts) (k : ℕ) (q : Place) → is_scope own ≡ false → Stood p (act own within) k q → StoodIn p within (k + 1) q
  unfolding size
  stood-within own within k q s h t x y = h t (omega arith) (omega arith) ∙ place-within own within k t q (ne_eqb k t (omega arith)) s

  stood-first : (a : Act) (l : Acts) (c : ℕ) (q : Place) → StoodIn p (more a l) c q → Stood p a c q
  unfolding size
  stood-first a l c q h t x y = h t (omega arith) (omega arith) ∙ place-first a l c t q (lt-ltb t (c + size a) (omega arith))

  stood-later : (a : Act) (l : Acts) (c : ℕ) (q : Place) → StoodIn p (more a l) c q → StoodIn p l (c + size a) q
  unfolding size
  stood-later a l c q h t x y = h t (omega arith) (omega arith) ∙ place-later a l c t q (le-ltb t (c + size a) (omega arith))

  -- of the parts of a scope
  module _ (xs : List ℕ) (v : Bool) (b f : Act) (u : Acts) (k : ℕ) (q : Place) (h : Stood p (act (scope xs v) (trio b f u)) k q) where
    stood-body : Stood p b (k + 1) (body_of (inner k) (beyond_in v q) (last_in v q))
    unfolding size
    stood-body t x y =
        h t (omega arith) (omega arith) ∙ (place-scope xs v (trio b f u) k t q (ne_eqb k t (omega arith)) ∙ parts_first (general_part xs) b (more f u) (k + 1) t _ _ _ (lt-ltb t (k + 1 + size b) (omega arith)))

    stood-parts : StoodParts p (length xs) (more f u) (k + 1 + size b) (fault_of (inner k) (beyond_in v q) (last_in v q)) (undo_of (name_of q) (beyond_of q) (last_of q))
    unfolding size
    stood-parts t x y =
        h t (omega arith) (omega arith)
        ∙ (place-scope xs v (trio b f u) k t q (ne_eqb k t (omega arith))
        ∙ (ap (λ (i : ℕ). place_parts i (trio b f u) (k + 1) t (body_of (inner k) (beyond_in v q) (last_in v q)) (fault_of (inner k) (beyond_in v q) (last_in v q)) (undo_of (name_of q) (beyond_of q) (last_of q))) (general-suc xs)
        ∙ parts-later (length xs) b (more f u) (k + 1) t _ _ _ (le-ltb t (k + 1 + size b) (omega arith))))

  -- the names of a place are the plan's
  abbrev Named : Place → Type 0
  Named q = (is_name p (name_of q) ≡ true) × (every (is_name p) (beyond_of q) ≡ true)

  -- the first number of a tree stands where the tree does
  spot_of : (a : Act) (k : ℕ) (q : Place) → Stood p a k q → Named q → Fore q k → Spot p q k
  unfolding size
  spot_of (act own within) k q h i b = record { place = h k (omega arith) (omega arith) ∙ place_here own within k k q (eq-eqb k k refl); name = i.0; further = i.1; before = b }

  -- what is no scope's fault part, and not the root's
  no-fault : (l : List Inner) (k n j : ℕ) → Focus p l k n → k ≤ j → j < k + n → only (by_fault j) l ≡ [] → NoFaultPart p j
  unfolding is_fault_part
  no-fault l k n j f x y c root = f.rootless j x y
  no-fault l k n j f x y c (inner i) = no-fault-in i j (scopes_of p) (f.fault j x y ∙ c)

  -- what is neither a scope nor an undo part nor a fault part
  plain-focus : (l : List Inner) (k n j : ℕ) → Focus p l k n → k ≤ j → j < k + n → Clear j l → Plain p j
  plain-focus l k n j f x y c =
      record {
        no_undo = f.undo j x y ∙ c.undo;
        no_scope = none-some (by_number j) (scopes_of p) (f.number j x y ∙ c.number);
        no_fault = no-fault l k n j f x y c.fault;
      }

  -- a scope of the plan: x, before what stands in its body
  known-focus : (x : Inner) (l : List Inner) (m : ℕ) → Focus p (x ∷ l) x.number m → 0 < m → by_fault x.number x ≡ false
      → (x.undoes ≡ true → (x.number < x.undo) × (x.undo < x.number + m) × (by_fault x.undo x ≡ false) × Free x.undo l)
      → Free x.number l
      → same x.around (inner x.number) ≡ false → is_name p x.around ≡ true → every (is_name p) x.beyond ≡ true → length x.numbers ≤ 8 → Known p x
  unfolding only
  known-focus x l m f h e g c t n ns few =
      let a : only (by_number x.number) (scopes_of p) ≡ x ∷ [] = f.number x.number (omega arith) (omega arith) ∙ rw (eq-eqb x.number x.number refl, c.number) in
      record {
        by_number = a;
        by_undo = λ y. let d = g y in f.undo x.undo (omega (arith, d.0)) d.1 ∙ rw (y, eq-eqb x.undo x.undo refl, d.3.undo);
        no_undo = f.undo x.number (omega arith) (omega arith) ∙ rw (not-its-number, c.undo);
        no_scope = λ y. let d = g y in none-some (by_number x.undo) (scopes_of p) (f.number x.undo (omega (arith, d.0)) d.1 ∙ rw (ne_eqb x.number x.undo (omega (arith, d.0)), d.3.number));
        no_fault = no-fault (x ∷ l) x.number m x.number f (omega arith) (omega arith) (rw (e, c.fault));
        undo_no_fault = λ y. let d = g y in no-fault (x ∷ l) x.number m x.undo f (omega (arith, d.0)) d.1 (rw (d.2, d.3.fault));
        apart = same-swap (inner x.number) x.around ∙ t;
        name = one-some (by_number x.number) (by_number x.number) x (scopes_of p) a (eq-eqb x.number x.number refl);
        parent = n;
        further = ns;
        few = few;
      }
    where
      not-its-number : by_undo x.number x ≡ false
      not-its-number = decide x.undoes (λ y. rw (y, ne_eqb x.undo x.number (omega (arith, (g y).0)))) (λ y. rw y)

  -- and one of its fault parts
  faulty-focus : (x : Inner) (l : List Inner) (m j : ℕ) → Focus p (x ∷ l) x.number m → x.number ≤ j → j < x.number + m
      → by_fault j x ≡ true → by_undo j x ≡ false → Free j l → Faulty p (inner x.number) j
  unfolding only is_fault_part
  faulty-focus x l m j f h e d g c =
      record {
        no_undo = f.undo j h e ∙ rw (g, c.undo);
        own = theirs;
      }
    where
      theirs : (s : Name) → is_name p s ≡ true → is_fault_part p s j ≡ same s (inner x.number)
      theirs root i = f.rootless j h e
      theirs (inner i) z = fault-in i j x (scopes_of p) (f.fault j h e ∙ rw (d, c.fault)) ∙ same-swap (inner x.number) (inner i)

  -- the scopes directly inside one
  inside-focus : (x : Inner) (l d : List Inner) (k m : ℕ) → Focus p (x ∷ l) k m → 0 < m → same x.around (inner k) ≡ false
      → only (by_around k) l ≡ d → inside_of p (inner k) ≡ d
  unfolding inside_of only
  inside-focus x l d k m f h t e = f.around k (omega arith) (omega arith) ∙ rw (t, e)

  -- A tree in a fault part or an undo part, in which there is no scope, sits in its plan.
  mutual
    unfolding size only

    -- an activity
    sits-bare : {h r : Bool} {a : Act} → Formed h r a → h ≡ true → (k : ℕ) (q : Place) → Focus p [] k (size a) → Named q → Fore q k
        → Stood p a k q → Sits p q a k
    sits-bare (formed-part {own = own} {within = within} s x g f) e k q c i b d =
        sits-part s g (spot_of (act own within) k q d i b) (plain-focus [] k (1 + sizes within) k c (omega arith) (omega arith) (clear_none k))
        (sits-bare-all f e (k + 1) q (focus-part [] [] [] c (omega arith) (omega arith) (λ j u v. clear_none j) (λ j u v. clear_none j)) i (fore-on q b (omega arith))
        (stood-within own within k q s d))
    sits-bare (formed-scope few many x z) e k q c i b d = absurd (false≢true e)

    -- a list
    sits-bare-all : {h r : Bool} {l : Acts} → FormedIn h r l → h ≡ true → (c : ℕ) (q : Place) → Focus p [] c (sizes l) → Named q → Fore q c
        → StoodIn p l c q → SitsIn p q l c
    sits-bare-all (formed-none) e c q f i b d = sits-none
    sits-bare-all (formed-more {a = a} {l = l} x y) e c q f i b d =
        sits-more
        (sits-bare x e c q (focus-part [] [] [] f (omega arith) (omega arith) (λ j u v. clear_none j) (λ j u v. clear_none j)) i b (stood-first a l c q d))
        (sits-bare-all y e (c + size a) q (focus-part [] [] [] f (omega arith) (omega arith) (λ j u v. clear_none j) (λ j u v. clear_none j)) i (fore-on q b (omega arith))
        (stood-later a l c q d))

  -- a fault part or an undo part
  sits-remedy : {h r : Bool} {a : Act} → Formed h r a → (k : ℕ) (q : Place) → h ≡ true → r ≡ false → is_name p (inner k) ≡ false
      → ((m : ℕ) → 1 + m ≡ size a → Focus p [] (k + 1) m) → Named q → Fore q k → Stood p a k q → Remedy p q a k
  unfolding size
  sits-remedy (formed-part {own = own} {within = within} s i g f) k q e d z c n b v =
      remedy s (i ∙ d) g (spot_of (act own within) k q v n b) z
      (sits-bare-all f e (k + 1) q (c (sizes within) refl) n (fore-on q b (omega arith)) (stood-within own within k q s v)) (bare-formed-in f e).0
  sits-remedy (formed-scope few many x z) k q e d w c n b v = absurd (false≢true e)

  -- The parts after the body of scope x, from number e on: l has those scopes of the plan that are in its body.
  module _ (x : Inner) (l : List Inner) (m e : ℕ) (focus : Focus p (x ∷ l) x.number m) (behind : x.number < e)
      (free : (j : ℕ) → e ≤ j → j < x.number + m → Free j l) (clear : (j : ℕ) → e ≤ j → j < x.number + m → by_undo j x ≡ false → by_fault j x ≡ false → Clear j (x ∷ l)) where
    -- none of their numbers is a scope's
    no_name : (j : ℕ) → e ≤ j → j < x.number + m → is_name p (inner j) ≡ false
    unfolding only
    no_name j h d = none-some (by_number j) (scopes_of p) (focus.number j (omega arith) (omega arith) ∙ rw (ne_eqb x.number j (omega arith), (free j h d).number))

    -- nothing in one of them but its first number has to do with the scope
    alone-in : (c n : ℕ) → e ≤ c → c + n ≤ x.number + m → ((j : ℕ) → c ≤ j → j < c + n → (by_undo j x ≡ false) × (by_fault j x ≡ false)) → Focus p [] c n
    alone-in c n h d f =
        focus-part (x ∷ l) [] [] (focus-same (x ∷ l) (x ∷ (l ++ [])) (ap (λ (w : List Inner). x ∷ w) (sym (append-nil l))) focus) (omega arith) (omega arith)
        (λ j v w. clear j (omega arith) (omega arith) (f j v w).0 (f j v w).1) (λ j v w. clear_none j)

    -- what stands after the fault parts
    sits-rest : (v : Bool) {u : Acts} {h r : Bool} → FormedIn h r u → h ≡ true → r ≡ false → count u ≡ cond v 1 0 → (c : ℕ) (q f : Place) → e ≤ c → c + sizes u ≤ x.number + m → Named q → Fore q c
        → ((j : ℕ) → c < j → j < c + sizes u → (by_undo j x ≡ false) × (by_fault j x ≡ false)) → ((t : ℕ) → c ≤ t → t < c + sizes u → place_of p t ≡ place_parts zero u c t q f q)
        → Rest p v q u c
    unfolding size count
    sits-rest true (formed-none) a b n c q f h d i k g s = absurd (omega arith)
    sits-rest true (formed-more {a = y} z formed-none) a b n c q f h d i k g s =
        rest-undo (sits-remedy z c q a b (no_name c h (omega (arith, positive y)))
        (λ n w. alone-in (c + 1) n (omega arith) (omega arith) (λ j v o. g j (omega arith) (omega arith))) i k
        (λ t v w. s t v (omega arith) ∙ parts_first zero y none c t q f q (lt-ltb t (c + size y) w)))
    sits-rest true (formed-more z (formed-more w y)) a b n c q f h d i k g s = absurd (omega arith)
    sits-rest false (formed-none) a b n c q f h d i k g s = rest-none
    sits-rest false (formed-more z w) a b n c q f h d i k g s = absurd (omega arith)

    -- one fault part
    sits-healer : {y : Act} {h r : Bool} → Formed h r y → h ≡ true → r ≡ false → (c : ℕ) (q : Place) → e ≤ c → c + size y ≤ x.number + m → Named q → Fore q c
        → by_fault c x ≡ true → ((j : ℕ) → c < j → j < c + size y → by_fault j x ≡ false) → ((j : ℕ) → c ≤ j → j < c + size y → by_undo j x ≡ false) → Stood p y c q
        → Faulty p (inner x.number) c × Remedy p q y c
    sits-healer {y} z a b c q h d i k f g s t = (
      faulty-focus x l m c focus (omega arith) (omega (arith, positive y)) f (s c (omega arith) (omega (arith, positive y))) (free c h (omega (arith, positive y))),
      sits-remedy z c q a b (no_name c h (omega (arith, positive y)))
          (λ n w. alone-in (c + 1) n (omega arith) (omega arith) (λ j v o. (s j (omega arith) (omega arith), g j (omega arith) (omega arith)))) i k t,
    )

    -- all of them, and what stands after them
    sits-healers : (xs : List ℕ) (v : Bool) {u : Acts} {h r : Bool} → FormedIn h r u → h ≡ true → r ≡ false → count u ≡ length xs + cond v 2 1 → (c : ℕ) (q w : Place) → e ≤ c → c + sizes u ≤ x.number + m
        → Named q → Fore q c → Named w → Fore w c
        → ((j : ℕ) → c ≤ j → j < c + sizes u → by_fault j x ≡ among j (firsts (suc (length xs)) u c))
        → ((j : ℕ) → c ≤ j → j < c + sizes u → by_undo j x ≡ (v && eqb (part_at (suc (length xs)) u c) j))
        → StoodParts p (length xs) u c q w → Healers p (inner x.number) xs v q w u c
    unfolding size count firsts among part_at
    sits-healers xs v (formed-none) a b n c q w h d i f k o g s t = absurd (decide v (λ z. let y : 0 ≡ length xs + 2 = rw z at n in omega arith) (λ z. let y : 0 ≡ length xs + 1 = rw z at n in omega arith))
    sits-healers [] v (formed-more {a = y} {l = u} z l₁) a b n c q w h d i f k o g s t =
        let one = sits-healer z a b c q h (omega arith) i f (g c (omega arith) (omega (arith, positive y)) ∙ rw (eq-eqb c c refl))
        (λ j y₁ z₁. g j (omega arith) (omega arith) ∙ rw (ne_eqb j c (omega arith)))
        (λ j y₁ z₁. s j (omega arith) (omega arith) ∙ (ap (λ (z : Bool). v && z) (ne_eqb (part_at 0 u (c + size y)) j (omega (arith, part-from 0 u (c + size y)))) ∙ and-false v))
        (λ j y₁ z₁. t j (omega arith) (omega arith) ∙ parts_first zero y u c j q q w (lt-ltb j (c + size y) z₁)) in
        heals-all one.0 one.1
        (sits-rest v l₁ a b (one_less v (count u) n) (c + size y) w q (omega arith) (omega arith) k (fore-on w o (omega arith))
        (λ j y₁ z₁. (s j (omega arith) (omega arith) ∙ (ap (λ (z : Bool). v && z) (ne_eqb (part_at 0 u (c + size y)) j (omega (arith, first-at u (c + size y)))) ∙ and-false v), g j (omega arith) (omega arith) ∙ rw (ne_eqb j c (omega arith))))
        (λ j y₁ z₁. t j (omega arith) (omega arith) ∙ parts_last y u c j q q w (le-ltb j (c + size y) y₁)))
      where
        one_less : (v : Bool) (i : ℕ) → 1 + i ≡ 0 + cond v 2 1 → i ≡ cond v 1 0
        one_less true i h = omega arith
        one_less false i h = omega arith
    sits-healers (x₁ ∷ xs) v (formed-more {a = y} {l = u} z l₁) a b n c q w h d i f k o g s t =
        let one = sits-healer z a b c q h (omega arith) i f (g c (omega arith) (omega (arith, positive y)) ∙ rw (eq-eqb c c refl))
        (λ j y₁ z₁. g j (omega arith) (omega arith) ∙ rw (ne_eqb j c (omega arith), firsts-outside (suc (length xs)) u (c + size y) j (below (omega arith))))
        (λ j y₁ z₁. s j (omega arith) (omega arith) ∙ (ap (λ (z : Bool). v && z) (ne_eqb (part_at (suc (length xs)) u (c + size y)) j (omega (arith, part-from (suc (length xs)) u (c + size y)))) ∙ and-false v))
        (λ j y₁ z₁. t j (omega arith) (omega arith) ∙ parts_first (suc (length xs)) y u c j q q w (lt-ltb j (c + size y) z₁)) in
        heals-by one.0 one.1
        (sits-healers xs v l₁ a b (one_less v (count u) (length xs) n) (c + size y) q w (omega arith) (omega arith) i (fore-on q f (omega arith)) k (fore-on w o (omega arith))
        (λ j y₁ z₁. g j (omega arith) (omega arith) ∙ rw (ne_eqb j c (omega (arith, positive y))))
        (λ j y₁ z₁. s j (omega arith) (omega arith))
        (λ j y₁ z₁. t j (omega arith) (omega arith) ∙ parts-later (length xs) y u c j q q w (le-ltb j (c + size y) y₁)))
      where
        one_less : (v : Bool) (i j : ℕ) → 1 + i ≡ suc j + cond v 2 1 → i ≡ j + cond v 2 1
        one_less true i j h = omega arith
        one_less false i j h = omega arith

  -- the names around what stands in a scope, and that they come before it
  names-below : (v : Bool) (n : Name) (ns : List Name) → is_name p n ≡ true → every (is_name p) ns ≡ true → every (is_name p) (cond v [] (n ∷ ns)) ≡ true
  unfolding every
  names-below true n ns i e = refl
  names-below false n ns i e = rw (i, e)

  fores-below : (v : Bool) (n : Name) (ns : List Name) (k : ℕ) → Before n k → Befores ns k → Befores (cond v [] (n ∷ ns)) k
  fores-below true n ns k b e = tt
  fores-below false n ns k b e = (b, e)

  -- A tree in the body of a scope sits in its plan.
  mutual
    unfolding scopes_in kind size part part_at only

    -- an activity
    sits : {h r : Bool} {a : Act} → Formed h r a → (k : ℕ) (n : Name) (ns : List Name) (m : Name) → Focus p (scopes_in a k n ns) k (size a) → Named (body_of n ns m) → Fore (body_of n ns m) k
        → Stood p a k (body_of n ns m) → Sits p (body_of n ns m) a k
    sits (formed-part {own = own} {within = within} s x g f) k n ns m c i b d =
        let e = scopes-is own within k n ns false s in
        let c₁ : Focus p (scopes_among within (k + 1) n ns) k (1 + sizes within) = focus-same (scopes_in (act own within) k n ns) (scopes_among within (k + 1) n ns) e c in
        let q : Plain p k = plain-focus (scopes_among within (k + 1) n ns) k (1 + sizes within) k c₁ (omega arith) (omega arith) (clear-among f (k + 1) k n ns (before-other n k k b.0 (omega arith)) (below (omega arith))) in
        sits-part s g (spot_of (act own within) k (body_of n ns m) d i b) q
        (sits-all f (k + 1) n ns m (focus-part [] (scopes_among within (k + 1) n ns) [] (focus-same _ _ (sym (append-nil (scopes_among within (k + 1) n ns))) c₁) (omega arith) (omega arith) (λ j u v. clear_none j) (λ j u v. clear_none j)) i (fore-on (body_of n ns m) b (omega arith))
        (stood-within own within k (body_of n ns m) s d))
    sits (formed-scope {xs} {v = v₀} {b = b} {f = f} {u = u} few many x z) k n ns m c i h d =
        let xi = inner_at xs v₀ k n ns (trio b f u) in
        let l = scopes_in b (k + 1) (inner k) (cond v₀ [] (n ∷ ns)) in
        let e = k + 1 + size b in
        let free : (j : ℕ) → e ≤ j → Free j l = λ j y. free_in x (k + 1) j (inner k) (cond v₀ [] (n ∷ ns)) (above (omega arith)) in
        let c₁ : Focus p (xi ∷ l) k (spread b f u) = focus-same _ (xi ∷ l) (scopes-scope xs v₀ b z k n ns) c in
        let at = part_at (general_part xs) (more f u) e in
        let lo = part-from (general_part xs) (more f u) e in
        let kn : Known p xi = known-focus xi l (spread b f u) c₁ (omega arith) (fault-beside xs v₀ b f u k n ns k (omega arith))
        (λ t. let y = undo-in xs v₀ (more f u) many t in (
          omega (arith, lo),
          omega (arith, part-to (general_part xs) (more f u) e y, positive (part (general_part xs) (more f u))),
          firsts-behind (general_part xs) (more f u) e at (omega arith),
          free at lo,
        ))
        (free_in x (k + 1) k (inner k) (cond v₀ [] (n ∷ ns)) (below (omega arith)))
        (before-other n k k h.0 (omega arith)) i.0 i.1 few in
        let o : (j : ℕ) → k < j → by_undo j xi ≡ false → by_fault j xi ≡ false → Clear j (xi ∷ [])
        = λ j u v w. clear-cons xi [] (ne_eqb k j (omega arith)) v w (before-other n k j h.0 (omega arith)) (clear_none j) in
        let c₂ : Focus p ((xi ∷ []) ++ (l ++ [])) k (spread b f u) = focus-same (xi ∷ l) (xi ∷ (l ++ [])) (ap (λ (w : List Inner). xi ∷ w) (sym (append-nil l))) c₁ in
        let names = names-below v₀ n ns i.0 i.1 in
        sits-scope kn (spot_of (act (scope xs v₀) (trio b f u)) k (body_of n ns m) d i h)
        (inside-focus xi l (directs b (k + 1) (inner k) (cond v₀ [] (n ∷ ns))) k (spread b f u) c₁ (omega arith) (before-other n k k h.0 (omega arith)) (directs-only x (k + 1) (inner k) (cond v₀ [] (n ∷ ns)) (omega arith)))
        (sits x (k + 1) (inner k) (cond v₀ [] (n ∷ ns)) (cond v₀ n m) (focus-part (xi ∷ []) l [] c₂ (omega arith) (omega arith)
        (λ j v w. o j (omega arith) (undo-beside xs v₀ b f u k n ns j (omega arith)) (fault-beside xs v₀ b f u k n ns j (omega arith))) (λ j v w. clear_none j)) (kn.name, names)
        (omega arith, befores-on (cond v₀ [] (n ∷ ns)) (fores-below v₀ n ns k h.0 h.1) (omega arith))
        (stood-body xs v₀ b f u k (body_of n ns m) d))
        (sits-healers xi l (spread b f u) e c₁ (omega arith) (λ j y w. free j y)
        (λ j y w u₁ f₁. clear-append (xi ∷ []) l (o j (omega arith) u₁ f₁) (clear_in x (k + 1) j (inner k) (cond v₀ [] (n ∷ ns)) (ne_eqb k j (omega arith)) (above (omega arith))))
        xs v₀ z refl refl many e (fault_of (inner k) (cond v₀ [] (n ∷ ns)) (cond v₀ n m)) (undo_of n ns m) (omega arith) (omega arith) (kn.name, names)
        (omega arith, befores-on (cond v₀ [] (n ∷ ns)) (fores-below v₀ n ns k h.0 h.1) (omega arith)) i (fore-on (body_of n ns m) h (omega arith))
        (λ j y w. ap (λ (i : ℕ). among j (firsts i (more f u) e)) (general-suc xs)) (λ j y w. ap (λ (i : ℕ). v₀ && eqb (part_at i (more f u) e) j) (general-suc xs))
        (stood-parts xs v₀ b f u k (body_of n ns m) d))

    -- a list
    sits-all : {h r : Bool} {l : Acts} → FormedIn h r l → (c : ℕ) (n : Name) (ns : List Name) (m : Name) → Focus p (scopes_among l c n ns) c (sizes l) → Named (body_of n ns m)
        → Fore (body_of n ns m) c → StoodIn p l c (body_of n ns m) → SitsIn p (body_of n ns m) l c
    sits-all (formed-none) c n ns m f i b d = sits-none
    sits-all (formed-more {a = a} {l = l} x y) c n ns m f i b d =
        sits-more
        (sits x c n ns m (focus-part [] (scopes_in a c n ns) (scopes_among l (c + size a) n ns) f (omega arith) (omega arith) (λ j u v. clear_none j)
        (λ j u v. clear-among y (c + size a) j n ns (before-other n c j b.0 (omega arith)) (below (omega arith)))) i b (stood-first a l c (body_of n ns m) d))
        (sits-all y (c + size a) n ns m (focus-part (scopes_in a c n ns) (scopes_among l (c + size a) n ns) [] (focus-same _ _ (ap (λ (z : List Inner). scopes_in a c n ns ++ z) (sym (append-nil (scopes_among l (c + size a) n ns)))) f) (omega arith) (omega arith)
        (λ j u v. clear_in x c j n ns (before-other n c j b.0 (omega arith)) (above (omega arith))) (λ j u v. clear_none j)) i (fore-on (body_of n ns m) b (omega arith)) (stood-later a l c (body_of n ns m) d))

-- the scopes directly inside the root
root-insides : (p : Plan) → Formed false false p.body → scopes_of p ≡ scopes_in p.body 0 root [] → inside_of p root ≡ directs p.body 0 root []
unfolding inside_of
root-insides p x e = ap (only (λ y. same y.around root)) e ∙ directs-only x 0 root [] tt

-- What accepting promises: the root's seat, and that there are marks enough.
pub record Promised (p : Plan) : Type 0 where
  pub seat : Seat p (root_of p)
  pub alone : seat.beyond ≡ []
  pub few : size p.body + size p.fault ≤ 256
  pub body : Formed false false p.body
  pub fault : Formed true false p.fault

module _ (p : Plan) (x : Formed false false p.body) (y : Formed true false p.fault) where
  -- the scopes of the plan are those of its body
  pub whole : scopes_of p ≡ scopes_in p.body 0 root []
  unfolding scopes_of
  whole = rw ((bare-formed y refl).1 (size p.body) root [], append-nil)

  -- which has all that is to be found
  all-focus : (k n : ℕ) → ((j : ℕ) → k ≤ j → j < k + n → eqb (size p.body) j ≡ false) → Focus p (scopes_in p.body 0 root []) k n
  all-focus k n h =
      record {
        number = λ j u v. ap (only (by_number j)) whole;
        undo = λ j u v. ap (only (by_undo j)) whole;
        fault = λ j u v. ap (only (by_fault j)) whole;
        around = λ j u v. ap (only (by_around j)) whole;
        rootless = h;
      }

  -- the fault part of the root
  root-faulty : Faulty p root (size p.body)
  unfolding is_fault_part
  root-faulty =
      record {
        no_undo = ap (only (by_undo (size p.body))) whole ∙ (clear_in x 0 (size p.body) root [] refl (above (omega arith))).undo;
        own = theirs;
      }
    where
      theirs : (s : Name) → is_name p s ≡ true → is_fault_part p s (size p.body) ≡ same s root
      theirs root i = eq-eqb (size p.body) (size p.body) refl
      theirs (inner j) i = no-fault-in j (size p.body) (scopes_of p) (ap (only (by_fault (size p.body))) whole ∙ (clear_in x 0 (size p.body) root [] refl (above (omega arith))).fault)

  -- the root in its plan
  root-seat : Seat p (root_of p)
  unfolding place_of every size count part part_at choice_by is_part_for
  root-seat =
      record {
        name = refl;
        beyond = [];
        around = root;
        inside = root-inside;
        body = sits p x 0 root [] root (all-focus 0 (size p.body) (λ j u v. ne_eqb (size p.body) j (omega arith))) (refl, refl) (tt, tt)
            (λ t u v. first-of (ltb t (size p.body)) (place_in p.body 0 t (body_of root [] root)) (place_in p.fault (size p.body) t (fault_of root [] root)) (place_of p t) refl (lt-ltb t (size p.body) (omega arith)));
        faulty = λ c. root-chosen (λ a j. Faulty p root j) p root-faulty c;
        fault = λ c. root-chosen (λ a j. Remedy p (fault_of root [] root) a j) p root-remedy c;
        chosen = root-picks;
        choice = λ n. refl;
        numbered = λ n. root-chosen (λ a j. eqb (size p.body) j ≡ true) p (eq-eqb (size p.body) (size p.body) refl) (part_for n 1 []);
        bare = λ j u v. remedy-names root-remedy j u (omega arith);
        after = omega arith;
        before = tt;
        at = refl;
      }
    where
      root-inside : inside_of p root ≡ directs p.body 0 root []
      root-inside = root-insides p x whole

      root-remedy : Remedy p (fault_of root [] root) p.fault (size p.body)
      root-remedy =
          sits-remedy p y (size p.body) (fault_of root [] root) refl refl
          (none-some (by_number (size p.body)) (scopes_of p) (ap (only (by_number (size p.body))) whole ∙ (clear_in x 0 (size p.body) root [] refl (above (omega arith))).number))
          (λ m q. focus-part (scopes_in p.body 0 root []) [] [] (focus-same _ _ (sym (append-nil (scopes_in p.body 0 root [])))
          (all-focus (size p.body + 1) m (λ j u v. ne_eqb (size p.body) j (omega arith)))) (omega arith) (omega arith)
          (λ j v w. clear_in x 0 j root [] refl (above (omega arith))) (λ j v w. clear_none j)) (refl, refl) (tt, tt)
          (λ t u v. second-of (ltb t (size p.body)) (place_in p.body 0 t (body_of root [] root)) (place_in p.fault (size p.body) t (fault_of root [] root)) (place_of p t) refl (le-ltb t (size p.body) u))

      root-picks : (c : ℕ) → Chosen (root_of p) c
      root-picks c =
          let e : chosen_on [] c ≡ 0 = omega (arith, chosen-most [] c) in
          record {
            is = root-chosen (λ a j. a ≡ p.fault) p refl c ∙ sym (ap (λ (i : ℕ). part i (more p.fault none)) e);
            at = root-chosen (λ a j. j ≡ size p.body) p refl c ∙ sym (ap (λ (i : ℕ). part_at i (more p.fault none) (size p.body)) e);
            there = omega (arith, e);
          }

  root-alone : root-seat.beyond ≡ []
  unfolding root-seat
  root-alone = refl

-- An accepted plan keeps these promises.
pub promised : (p : Plan) → plan_within p ≡ true → Promised p
unfolding plan_within
promised p e =
    both (leb (length (spelling p)) 4096) _ e (λ a b. both (from1 16 p.variables) _ b (λ c d. both (ascending p.variables 0 p.correlation) _ d (λ g h. both (act_within p.variables p.correlation false false p.body 16) _ h (λ i j.
    both (act_within p.variables p.correlation true false p.fault 16) _ j (λ k l. both (leb (size p.body + size p.fault) 256) _ l (λ m n.
    let x = formed p.variables p.correlation false false p.body 16 i in
    let y = formed p.variables p.correlation true false p.fault 16 k in
    record { seat = root-seat p x y; alone = root-alone p x y; few = leb-true (size p.body + size p.fault) 256 m; body = x; fault = y }))))))
