-- The returns of the functions that undo. Assumes nothing.
use mathlib.Core.Path.{◌≡◌, refl, sym, ap, ◌∙◌}
use mathlib.Core.Bool.{Bool, true, false, cond, false≢true}
use mathlib.Core.List.{List, [], ◌∷◌, ◌++◌, map, map-append, reverse, append_assoc, append-nil, reverse-append, reverse-cons, reverse-reverse}
use Prim.Native.Nat.{ℕ, zero, suc, ◌+◌, ◌<◌, ◌≤◌}
use native.Mathlib.Numerals.{add-one}
use native.Mathlib.Omega.{arith}
use borrow.Author.Tests.{eq-eqb, ne_eqb, lt-ltb, le-ltb, ltb-true, ltb-false}
use lib.Dec.{eqb, ltb}
use lib.ListN.{length, get_or, take, drop}
use Rattle.plan.specs.Tree.{Own, scope, kind, is_scope, has_undo, numbers_of, general_part, undo_part, Act, act, Acts, none, more, size, sizes, count}
use Rattle.order.specs.declared.Closing.{Closing}
use Rattle.order.specs.declared.Entered.{Entered}
use Rattle.order.specs.declared.Order.{Order}
use Rattle.std.specs.Prelude.{Option, Some, None}
use Rattle.order.specs.declared.Spot.{Spot}
use Rattle.order.specs.declared.Way.TheVariants.{Over}
use Rattle.order.specs.declared.Went.{Went}
use Rattle.order.specs.Answering.{entered, went, is_over, begun_of, scope_kind, undo_kind, for_part, Begins, Made, UndoRow, SpotAt, BeginsPart, LooksTo, BeginsUndo, KindOf, Entry, Without, LastAt, Last, FindsLast, StartsUndo, Held, scope_of, UndoesList}
use Rattle.order.specs.Begin.{Begun, nothing_begun, part, part_at, begin_part}
use Rattle.order.specs.Lists.{only, without_first, without_last}
use Rattle.order.specs.Scope.{Scope, is_for, list_of, remembered_for, begin_undo, begin_undo_first, begin_undo_in, start_undo, undo}
use Rattle.order.specs.Stands.{End, Stands, StandAll}
use Rattle.order.specs.State.{closing_of, closings, remembering}
use Rattle.order.proofs.PartReturns.{spot-undo}
use Rattle.order.proofs.Standing.{stands-inside, stands-end, row-kind, scope-kind, own-scope, if_none, if-more, part-stands, scope-line, numbered-undo, undo-kind, own-undo, undo-last}
use Rattle.order.proofs.Deciding.{yes, no, where-over, where-not}
use Rattle.order.proofs.MemoryReturns.{closings-are, only-append, only-takes}

-- `begin_part`
pub part-is : {t : List ℕ} {e : ℕ} {ms : List ℕ} {z : Spot} → SpotAt t e z → {u : ℕ} → UndoRow t z u → {r : Entered} → Begins t u ms r → BeginsPart t e ms r
unfolding Stands count begin_part part part_at
part-is {t} {e} {ms} {z} y {u} w {r} x = record { is = is }
  where
    is : (ns : List ℕ) (l : Acts) → Stands (act (scope ns true) l) e t → r ≡ entered (begin_part (undo_part ns) l (e + 1) ms)
    is ns none s = absurd (omega (arith, (scope-line t e ns true none s).parts))
    is ns (more b l) s =
        let m : Made = record { body = b; numbers = ns; parts = l } in
        let g : u ≡ part_at (general_part ns) l (e + 1 + size b) = spot-undo y w true m s in
        let d : Stands (part (general_part ns) l) u t = rw g (part-stands t l (e + 1 + size b) (general_part ns) s.rest.rest (undo-last t e m s)) in
        rw g at (x.is (part (general_part ns) l) d)

-- of those from c on the one is looked through that e is no further than
undo-first : (a : Act) (l : Acts) (c e : ℕ) (ms : List ℕ) → e < c + size a → begin_undo_in (more a l) c e ms ≡ begin_undo a c e ms
unfolding begin_undo
undo-first a l c e ms h = yes (ltb e (c + size a)) (begin_undo a c e ms) (begin_undo_in l (c + size a) e ms) (lt-ltb e (c + size a) h)

undo-later : (a : Act) (l : Acts) (c e : ℕ) (ms : List ℕ) → c + size a ≤ e → begin_undo_in (more a l) c e ms ≡ begin_undo_in l (c + size a) e ms
unfolding begin_undo
undo-later a l c e ms h = no (ltb e (c + size a)) (begin_undo a c e ms) (begin_undo_in l (c + size a) e ms) (le-ltb e (c + size a) h)

-- nothing begins where e stands beyond
mutual
  unfolding begin_undo size

  undo-beyond : (a : Act) (k e : ℕ) (ms : List ℕ) → k + size a ≤ e → begin_undo a k e ms ≡ nothing_begun ms
  undo-beyond (act own l) k e ms h =
      by-test (is_scope own) (has_undo own) (eqb k e) (ne_eqb k e (λ g. omega arith))
      (first-beyond l (k + 1) e ms (omega arith)) (in-beyond l (k + 1) e ms (omega arith))
    where
      by-test : (x y z : Bool) → z ≡ false → begin_undo_first l (k + 1) e ms ≡ nothing_begun ms → begin_undo_in l (k + 1) e ms ≡ nothing_begun ms
          → ◌≡◌ {A = Begun} (elim x [
            | true ↦ cond y (cond z (begin_part (undo_part (numbers_of own)) l (k + 1) ms) (nothing_begun ms)) (begin_undo_first l (k + 1) e ms)
            | false ↦ begin_undo_in l (k + 1) e ms
          ]) (nothing_begun ms)
      by-test true true true g f i = absurd (false≢true (sym g))
      by-test true true false g f i = refl
      by-test true false z g f i = f
      by-test false y z g f i = i

  first-beyond : (l : Acts) (c e : ℕ) (ms : List ℕ) → c + sizes l ≤ e → begin_undo_first l c e ms ≡ nothing_begun ms
  first-beyond none c e ms h = refl
  first-beyond (more a l) c e ms h = undo-beyond a c e ms (omega arith)

  in-beyond : (l : Acts) (c e : ℕ) (ms : List ℕ) → c + sizes l ≤ e → begin_undo_in l c e ms ≡ nothing_begun ms
  in-beyond none c e ms h = refl
  in-beyond (more a l) c e ms h = undo-later a l c e ms (omega arith) ∙ in-beyond l (c + size a) e ms (omega arith)

-- one alone
one-undo : (a : Act) (k e : ℕ) (ms : List ℕ) → begin_undo_in (more a none) k e ms ≡ begin_undo a k e ms
unfolding begin_undo
one-undo a k e ms = go (ltb e (k + size a)) refl
  where
    go : (b : Bool) → ltb e (k + size a) ≡ b → begin_undo_in (more a none) k e ms ≡ begin_undo a k e ms
    go true h = undo-first a none k e ms (ltb-true e (k + size a) h)
    go false h = undo-later a none k e ms (ltb-false e (k + size a) h) ∙ sym (undo-beyond a k e ms (ltb-false e (k + size a) h))

one-stands : (a : Act) (k : ℕ) (t : List ℕ) → Stands a k t → StandAll (more a none) k t
unfolding Stands
one-stands a k t s = record { first = s; rest = tt }

one_size : (a : Act) → sizes (more a none) ≡ size a
unfolding size
one_size a = omega arith

-- r is how the undo part of scope e begins, of the activities in rows j to `end`
pub record UndoesIn (t : List ℕ) (j end e : ℕ) (ms : List ℕ) (r : Entered) : Type 0 where
  pub is : (l : Acts) → StandAll l j t → end ≡ j + sizes l → r ≡ entered (begin_undo_in l j e ms)

-- the loop of `begin_undo`: what the rows that are left say is what all say
pub record Looking (t : List ℕ) (from to e : ℕ) (ms : List ℕ) (j end : ℕ) : Type 0 where
  pub within : end ≤ 256
  pub on : (r : Entered) → UndoesIn t j end e ms r → BeginsUndo t from to e ms r

pub looking-far : (t : List ℕ) (from to e : ℕ) (ms : List ℕ) {r : Entered} → 256 < to → BeginsUndo t from to e ms r
looking-far t from to e ms h = record { is = λ a s g. absurd (omega (arith, stands-inside a from t s)) }

pub looking-starts : (t : List ℕ) (from to e : ℕ) (ms : List ℕ) → to ≤ 256 → Looking t from to e ms from to
looking-starts t from to e ms h = record {
  within = h;
  on = λ r x. record { is = λ a s g. x.is (more a none) (one-stands a from t s) (omega (arith, one_size a)) ∙ ap entered (one-undo a from e ms) };
}

-- what the kind says of what is looked through
not-open : (own : Own) → is_scope own ≡ false → kind own ≡ 12 → ⊥
unfolding scope_kind
not-open own h e = false≢true (sym h ∙ (sym (scope-kind own) ∙ rw e))

module _ {t : List ℕ} {from to e : ℕ} {ms : List ℕ} {j end : ℕ} (w : Looking t from to e ms j end) where
  pub looking-done : end ≤ j → BeginsUndo t from to e ms (record { marks = ms; over = true })
  unfolding begin_undo
  looking-done h = w.on _ (record { is = if_none (λ l. record { marks = ms; over = true } ≡ entered (begin_undo_in l j e ms)) t j end h refl })

  module _ (h : j < end) {n : ℕ} (z : End t j n) where
    pub looking-skips : n ≤ e → Looking t from to e ms n end
    looking-skips g = record {
      within = w.within;
      on = λ r x. w.on r (record {
        is = if-more (λ l. r ≡ entered (begin_undo_in l j e ms)) t j end h z
            (λ a l i sa sl q. (rw i at (x.is l sl q)) ∙ ap entered (sym (undo-later a l j e ms (omega arith))));
      });
    }

    module _ (g : e < n) {kd : ℕ} (q : KindOf t j kd) {u : Bool} (d : u ≡ undo_kind kd) where
      -- the one in row j is looked through
      first : (r : Entered) → ((a : Act) → Stands a j t → n ≡ j + size a → r ≡ entered (begin_undo a j e ms)) → BeginsUndo t from to e ms r
      first r f = w.on r (record {
        is = if-more (λ l. r ≡ entered (begin_undo_in l j e ms)) t j end h z
            (λ a l i sa sl x. f a sa i ∙ ap entered (sym (undo-first a l j e ms (omega arith))));
      })

      has-undo : (own : Own) (l : Acts) → Stands (act own l) j t → u ≡ has_undo own
      has-undo own l s = d ∙ rw (row-kind q own l s) (undo-kind t j own l s)

      pub looking-found : u ≡ true → j ≡ e → {r : Entered} → BeginsPart t e ms r → BeginsUndo t from to e ms r
      unfolding begin_undo
      looking-found k i {r} x = first r go
        where
          go : (a : Act) → Stands a j t → n ≡ j + size a → r ≡ entered (begin_undo a j e ms)
          go (act own l) s m =
              own-undo (λ w. Stands (act w l) j t → r ≡ entered (begin_undo (act w l) j e ms))
              (λ ns s. rw (eq-eqb j e i) (rw (← i) at (x.is ns l (rw i at s)))) own (sym (has-undo own l s) ∙ k) s

      pub looking-other : u ≡ true → (j ≡ e → ⊥) → BeginsUndo t from to e ms (record { marks = ms; over = true })
      unfolding begin_undo
      looking-other k i = first (record { marks = ms; over = true }) go
        where
          go : (a : Act) → Stands a j t → n ≡ j + size a → record { marks = ms; over = true } ≡ entered (begin_undo a j e ms)
          go (act own l) s m =
              own-undo (λ w. record { marks = ms; over = true } ≡ entered (begin_undo (act w l) j e ms)) (λ ns. rw (ne_eqb j e i)) own (sym (has-undo own l s) ∙ k)

      pub looking-deeper : u ≡ false → {m : ℕ} → LooksTo t j m → Looking t from to e ms (j + 1) m
      unfolding Stands begin_undo size kind count
      looking-deeper k {m} y = record { within = y.within; on = λ r x. first r (go r x) }
        where
          go : (r : Entered) → UndoesIn t (j + 1) m e ms r → (a : Act) → Stands a j t → n ≡ j + size a → r ≡ entered (begin_undo a j e ms)
          go r x (act own l) s i = by-test (is_scope own) refl
            where
              in-body : (l : Acts) → Stands (act (scope [] false) l) j t → r ≡ entered (begin_undo (act (scope [] false) l) j e ms)
              in-body none s = absurd (omega (arith, (scope-line t j [] false none s).parts))
              in-body (more b l) s =
                  let i : m ≡ j + 1 + size b = stands-end b (j + 1) t s.rest.first (y.body s.first.row.kind) in
                  x.is (more b none) (one-stands b (j + 1) t s.rest.first) (omega (arith, one_size b)) ∙ ap entered (one-undo b (j + 1) e ms)

              scoped : (ns : List ℕ) (v : Bool) → Stands (act (scope ns v) l) j t → r ≡ entered (begin_undo (act (scope ns v) l) j e ms)
              scoped ns true s = absurd (false≢true (sym k ∙ has-undo (scope ns true) l s))
              scoped [] false s = in-body l s
              scoped (n ∷ ns) false s = absurd (false≢true (numbered-undo n ns false (scope-line t j (n ∷ ns) false l s).numbers))

              by-test : (b : Bool) → is_scope own ≡ b → r ≡ entered (begin_undo (act own l) j e ms)
              by-test true c = own-scope (λ w. Stands (act w l) j t → r ≡ entered (begin_undo (act w l) j e ms)) (λ ns v s. scoped ns v s) own c s
              by-test false c =
                  let d : m ≡ j + (1 + sizes l) = stands-end (act own l) j t s (y.other (λ u. not-open own c (sym s.first.row.kind ∙ u))) in
                  x.is l s.rest (omega arith)
                  ∙ ap entered (sym (no (is_scope own)
                  (cond (has_undo own) (cond (eqb j e) (begin_part (undo_part (numbers_of own)) l (j + 1) ms) (nothing_begun ms)) (begin_undo_first l (j + 1) e ms))
                  (begin_undo_in l (j + 1) e ms) c))

-- a list around its i-th
split : (xs : List Closing) (i : ℕ) → i < length xs → xs ≡ take i xs ++ (get_or xs i (closing_of 0 0) ∷ drop (suc i) xs)
split [] i h = absurd (omega arith)
split (x ∷ xs) zero h = refl
split (x ∷ xs) (suc i) h = ap (λ (l : List Closing). x ∷ l) (split xs i (omega arith))

only-reverse : (P : Closing → Bool) (l : List Closing) → only P (reverse l) ≡ reverse (only P l)
unfolding only
only-reverse P [] = refl
only-reverse P (x ∷ l) = rw (reverse-cons x l, only-append P (reverse l) (x ∷ []), only-reverse P l) (by-test (P x))
  where
    by-test : (b : Bool) → reverse (only P l) ++ cond b (x ∷ []) [] ≡ reverse (cond b (x ∷ only P l) (only P l))
    by-test true = sym (reverse-cons x (only P l))
    by-test false = append-nil (reverse (only P l))

without-first : (P : Closing → Bool) (x : Closing) (zs ys : List Closing) → P x ≡ true → only P zs ≡ [] → without_first P (zs ++ (x ∷ ys)) ≡ zs ++ ys
unfolding without_first only
without-first P x [] ys h n = rw h
without-first P x (z ∷ zs) ys h n = by-test (P z) n (without-first P x zs ys h)
  where
    by-test : (b : Bool) → cond b (z ∷ only P zs) (only P zs) ≡ [] → (only P zs ≡ [] → without_first P (zs ++ (x ∷ ys)) ≡ zs ++ ys)
        → cond b (zs ++ (x ∷ ys)) (z ∷ without_first P (zs ++ (x ∷ ys))) ≡ z ∷ (zs ++ ys)
    by-test true m f = let c : ◌≡◌ {A = ℕ} 0 1 = cc in absurd (omega arith)
    by-test false m f = rw (f m)

-- the scopes of some closings
abbrev scopes : List Closing → List ℕ
scopes l = map (λ c. c.scope) l

module _ {P : Closing → Bool} {xs : List Closing} {i : ℕ} (w : LastAt P xs i) where
  parted : xs ≡ take i xs ++ (get_or xs i (closing_of 0 0) ∷ drop (i + 1) xs)
  parted = rw add-one (split xs i w.within)

  pub without-last : without_last P xs ≡ take i xs ++ drop (i + 1) xs
  without-last = go (take i xs) (drop (i + 1) xs) (get_or xs i (closing_of 0 0)) xs parted w.holds w.unlike
    where
      go : (ys zs : List Closing) (e : Closing) (l : List Closing) → l ≡ ys ++ (e ∷ zs) → P e ≡ true → only P zs ≡ [] → without_last P l ≡ ys ++ zs
      go ys zs e l q h n =
          let a : reverse l ≡ reverse zs ++ (e ∷ reverse ys) = rw q (reverse-append ys (e ∷ zs) ∙ rw (reverse-cons e zs, append_assoc (reverse zs) (e ∷ []) (reverse ys))) in
          let b : only P (reverse zs) ≡ [] = only-reverse P zs ∙ rw n in
          rw (a, without-first P e (reverse zs) (reverse ys) h b, reverse-append (reverse zs) (reverse ys), reverse-reverse ys, reverse-reverse zs)

  pub only-last : reverse (scopes (only P xs)) ≡ (get_or xs i (closing_of 0 0)).scope ∷ reverse (scopes (only P (take i xs ++ drop (i + 1) xs)))
  only-last = go (take i xs) (drop (i + 1) xs) (get_or xs i (closing_of 0 0)) xs parted w.holds w.unlike
    where
      go : (ys zs : List Closing) (e : Closing) (l : List Closing) → l ≡ ys ++ (e ∷ zs) → P e ≡ true → only P zs ≡ []
          → reverse (scopes (only P l)) ≡ e.scope ∷ reverse (scopes (only P (ys ++ zs)))
      go ys zs e l q h n =
          let a : only P l ≡ only P ys ++ (e ∷ []) = rw (q, only-append P ys (e ∷ zs), only-takes P e zs h, n) in
          let b : only P (ys ++ zs) ≡ only P ys = rw (only-append P ys zs, n, append-nil (only P ys)) in
          rw (a, b, map-append (λ (c : Closing). c.scope) (only P ys) (e ∷ []), reverse-append (scopes (only P ys)) (e.scope ∷ []))

-- `start_undo`
pub start_is : {t : List ℕ} {z : Spot} {o : Order} {i : ℕ} → i < length (closings o) → {c : Closing} → Entry o i c → {e : ℕ} → e ≡ c.scope
    → {p : Order} → Without o i p → {b : Entered} → BeginsUndo t z.body z.parts e p.marks b → {r : Went} → r ≡ begun_of p b → StartsUndo t z o i r
unfolding start_undo
start_is {t} {z} {o} {i} h {c} x {e} k {p} y {b} u {r} q = record { is = is; fewer = rw (ap (λ (w : Went). w.order.kept) q) (y.fewer h) }
  where
    is : (a : Made) → Held z a t → LastAt (for_part z.body) (closings o) i
        → r ≡ went (start_undo (get_or (closings o) i (closing_of 0 0)).scope (scope_of z a) o)
    is a s w =
        let g : e ≡ (get_or (closings o) i (closing_of 0 0)).scope = k ∙ ap (λ (c : Closing). c.scope) (x.is w.within) in
        let m : p ≡ remembering (without_last (for_part z.body) (closings o)) o = y.is h ∙ rw (without-last w) in
        let d : b ≡ entered (begin_undo a.body z.body e p.marks) = u.is a.body s.body s.next in
        q ∙ rw (d, ← g, m)

undo-over : (e : ℕ) (l : List ℕ) (s : Scope) (o : Order) → is_over (start_undo e s o).result ≡ true → went (undo (e ∷ l) s o) ≡ went (undo l s (start_undo e s o).order)
unfolding undo
undo-over e l s o h = where-over (undo l s) (start_undo e s o) h

undo-not : (e : ℕ) (l : List ℕ) (s : Scope) (o : Order) → is_over (start_undo e s o).result ≡ false → went (undo (e ∷ l) s o) ≡ went (start_undo e s o)
unfolding undo
undo-not e l s o h = where-not (undo l s) (start_undo e s o) h

kept-after : (e : ℕ) (s : Scope) (o : Order) (i : ℕ) → LastAt (is_for s) (closings o) i
    → closings (start_undo e s o).order ≡ take i (closings o) ++ drop (i + 1) (closings o)
unfolding start_undo
kept-after e s o i w = closings-are (without_last (is_for s) (closings o)) o ∙ without-last w

-- the loop of `undo`: what is left of the list leads to what the whole list leads to
pub record Undoing (t : List ℕ) (z : Spot) (o₀ o : Order) : Type 0 where
  pub on : (r : Went) → UndoesList t z o r → UndoesList t z o₀ r

pub undoing-starts : (t : List ℕ) (z : Spot) (o : Order) → Undoing t z o o
undoing-starts t z o = record { on = λ r x. x }

module _ {t : List ℕ} {z : Spot} {o₀ o : Order} (w : Undoing t z o₀ o) {f : Option ℕ} (x : FindsLast z.body o f) where
  pub undoing-done : f ≡ None → UndoesList t z o₀ (record { way = Over; order = o })
  unfolding undo remembered_for list_of Last
  undoing-done e = w.on _ (record {
    is = λ b h.
        let n : only (for_part z.body) (closings o) ≡ [] = rw e at x.is in
        rw n;
  })

  module _ {i : ℕ} (e : f ≡ Some i) {r : Went} (y : StartsUndo t z o i r) {v : Bool} (q : v ≡ is_over r.way) where
    abbrev last : ℕ
    last = (get_or (closings o) i (closing_of 0 0)).scope

    at_last : LastAt (for_part z.body) (closings o) i
    unfolding Last
    at_last = rw e at x.is

    list-is : (b : Made) → remembered_for (scope_of z b) o ≡ last ∷ reverse (scopes (only (for_part z.body) (take i (closings o) ++ drop (i + 1) (closings o))))
    unfolding remembered_for list_of
    list-is b = only-last at_last

    went-is : (b : Made) → Held z b t → r ≡ went (start_undo last (scope_of z b) o)
    went-is b h = y.is b h at_last

    pub undoing-stops : v ≡ false → UndoesList t z o₀ r
    undoing-stops n = w.on r (record {
      is = λ b h.
          let s = scope_of z b in
          let m : is_over (start_undo last s o).result ≡ false = sym (rw (ap (λ (u : Went). u.way) (went-is b h)) at q) ∙ n in
          rw (list-is b) (went-is b h ∙ sym (undo-not last _ s o m));
    })

    pub undoing-again : v ≡ true → Undoing t z o₀ r.order
    unfolding remembered_for list_of
    undoing-again n = record {
      on = λ p u. w.on p (record {
        is = λ b h.
            let s = scope_of z b in
            let m : is_over (start_undo last s o).result ≡ true = sym (rw (ap (λ (u : Went). u.way) (went-is b h)) at q) ∙ n in
            let k : r.order ≡ (start_undo last s o).order = ap (λ (u : Went). u.order) (went-is b h) in
            let c : closings r.order ≡ take i (closings o) ++ drop (i + 1) (closings o) = rw k (kept-after last s o i at_last) in
            rw (list-is b, ← c) (u.is b h ∙ sym (undo-over last _ s o m ∙ rw (← k)));
      });
    }

pub found_inside : {q : ℕ} {o : Order} {f : Option ℕ} {i : ℕ} → FindsLast q o f → f ≡ Some i → i < length (closings o)
found_inside {i = i} x e = x.inside i e
