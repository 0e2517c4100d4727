-- What is cut from the bytes of an accepted plan are its rows. Assumes nothing.
use borrow.Author.Tests.{ne_eqb, lt-ltb, le-ltb, ltb-true, leb-true, eqb-true}
use native.Mathlib.Omega.{arith}
use native.Mathlib.Nat.{add-zero}
use mathlib.Core.Path.{◌≡◌, refl, sym, ap, ◌∙◌}
use mathlib.Core.Bool.{Bool, true, false, cond, not, ◌&&◌, ◌||◌}
use mathlib.Core.List.{List, [], ◌∷◌, ◌++◌, append_assoc, append-nil}
use Prim.Native.Nat.{ℕ, zero, suc, ◌+◌, ◌*◌, ◌-◌, ◌≤◌, ◌<◌}
use lib.Dec.{eqb, ltb, leb}
use lib.ListN.{length, get_or, take, drop, length-append, length-drop, take-append-drop}
use lib.Seq.{length-take-le, drop-drop, drop_at}
use Rattle.numbers.specs.Number.{got, number_at}
use Rattle.numbers.specs.Shortest.{shortest}
use Rattle.numbers.proofs.Laws.{shortest-is-read, shortest-long}
use Rattle.plan.specs.Found.{among}
use Rattle.plan.specs.Read.{namable}
use Rattle.plan.specs.Spell.{spell, operation_code, exchange_numbers, own_numbers, gaps_of, gap, later, passing, act_numbers, acts_numbers, spelling}
use Rattle.plan.specs.Spells as spells
use Rattle.plan.specs.Spells.{Spells, SpellsAll, SpellsPlan}
use Rattle.plan.specs.Table.{row_of, nodes_of, own_nodes, nodes, nodes_all, body_place}
use Rattle.plan.specs.Tree.{Operation, sum, difference, equal, less, Exp, constant, variable, binary, Own, empty, to_partner, to_held, from_partner, from_asking, send, receive, set, raise, leave, choose, repeat, sequence, flow, pick, scope, arm, kind, numbers_of, Act, act, Acts, none, more, Plan, size, sizes, count}
use Rattle.plan.specs.Within.{expression_within, variables_within, exchange_within, from1, numbers_each, numbers_within, own_within, act_within, acts_within, ascending}
use Rattle.plan.proofs.Accepts.{both}
use Rattle.plan.proofs.ByKind.{raise-limits, namable-small, ByNumber, plain, numbered, by_number}
use Rattle.plan.proofs.Stands.{spell-append, spell-long}
use Rattle.writer.specs.Rows as rows
use Rattle.writer.specs.Rows.{used, expression_rows, own_rows, act_rows, acts_rows, plan_rows, rows_of}
use Rattle.rows.specs.Cut.{value_of, next_of, value_in, next_in, numbers_in, place_after, kind_in, count_in, place_in, between_in, width_of, opens, row_width, due_after, k_after, cut_rows, head_width, cut_plan}
use Rattle.rows.proofs.Completes.{Short, Limits, exchange-of, ascending-few, short-plan, lines_long}
use Rattle.writer.proofs.Lines.{flat, flat_append, flat-own, flat-alone, flat-act, flat-plan}
use Rattle.writer.proofs.RowsAsk.{alone-long}

-- Numbers of 32 bits, one after another in the bytes.

unfoldable pub Small : List ℕ → Type 0
Small [] = Unit
Small (x ∷ ns) = (x ≤ 4294967295) × Small ns

pub small-append : (a b : List ℕ) → Small a → Small b → Small (a ++ b)
unfolding Small
small-append [] b x y = y
small-append (n ∷ a) b x y = (x.0, small-append a b x.1 y)

pub small-first : (a b : List ℕ) → Small (a ++ b) → Small a
unfolding Small
small-first [] b x = tt
small-first (n ∷ a) b x = (x.0, small-first a b x.1)

pub small-second : (a b : List ℕ) → Small (a ++ b) → Small b
unfolding Small
small-second [] b x = x
small-second (n ∷ a) b x = small-second a b x.1

module _ (s : List ℕ) (at x : ℕ) (ns : List ℕ) (e : drop at s ≡ spell (x ∷ ns)) (small : x ≤ 4294967295) where
  start : length (take at s) ≡ at
  unfolding spell
  start = length-take-le at s (omega (arith, length-drop at s, ap length e, length-append (shortest x) (spell ns), shortest-long x))

  whole : s ≡ take at s ++ (shortest x ++ spell ns)
  unfolding spell
  whole = sym (take-append-drop at s) ∙ rw e

  one-read : number_at s at ≡ got x (at + length (shortest x))
  one-read = rw start at (rw (← whole) at (shortest-is-read (take at s) (spell ns) x small))

  pub one_value : value_in s at ≡ x
  unfolding value_of
  one_value = rw one-read

  pub one_place : next_in s at ≡ at + length (shortest x)
  unfolding next_of
  one_place = rw one-read

  pub one-next : drop (next_in s at) s ≡ spell ns
  unfolding next_of spell
  one-next = rw one-read (sym (drop-drop (length (shortest x)) at s) ∙ rw e (drop_at (shortest x) (spell ns) (length (shortest x)) refl))

-- where numbers stand, they are read, and what stands after them stands after them
pub record Read (s : List ℕ) (at : ℕ) (ns rest : List ℕ) : Type 0 where
  pub are : numbers_in (length ns) s at ≡ ns
  pub after : drop (place_after (length ns) s at) s ≡ spell rest
  pub ends : place_after (length ns) s at ≡ at + length (spell ns)

pub numbers-read : (s : List ℕ) (at : ℕ) (ns rest : List ℕ) → drop at s ≡ spell (ns ++ rest) → Small ns → Read s at ns rest
unfolding numbers_in place_after Small spell
numbers-read s at [] rest e m = record { are = refl; after = e; ends = omega arith }
numbers-read s at (x ∷ ns) rest e m =
    let v = one_value s at x (ns ++ rest) e m.0 in
    let r = numbers-read s (next_in s at) ns rest (one-next s at x (ns ++ rest) e m.0) m.1 in
    let l = length-append (shortest x) (spell ns) in
    record { are = rw (v, r.are); after = r.after; ends = omega (arith, r.ends, one_place s at x (ns ++ rest) e m.0) }

-- Rows that are cut: from any place where their numbers stand, k being the next activity and `due` the expressions that come before it.

unfoldable pub SmallRows : List (List ℕ) → Type 0
SmallRows [] = Unit
SmallRows (ns ∷ l) = Small ns × SmallRows l

pub small-rows-append : (a b : List (List ℕ)) → SmallRows a → SmallRows b → SmallRows (a ++ b)
unfolding SmallRows
small-rows-append [] b x y = y
small-rows-append (n ∷ a) b x y = (x.0, small-rows-append a b x.1 y)

-- how many bytes rows take
abbrev pub long : List (List ℕ) → ℕ
long l = length (spell (flat l))

spell-two : (a b : List ℕ) → length (spell (a ++ b)) ≡ length (spell a) + length (spell b)
spell-two a b = ap length (spell-append a b) ∙ length-append (spell a) (spell b)

long-append : (a b : List (List ℕ)) → long (a ++ b) ≡ long a + long b
long-append a b = ap (λ (l : List ℕ). length (spell l)) (flat_append a b) ∙ spell-two (flat a) (flat b)

long-more : (ns : List ℕ) (l : List (List ℕ)) → long (ns ∷ l) ≡ length (spell ns) + long l
unfolding flat
long-more ns l = spell-two ns (flat l)

long-one : (ns : List ℕ) → long (ns ∷ []) ≡ length (spell ns)
unfolding flat
long-one ns = rw (append-nil ns)

module _ (s t : List ℕ) where
  unfoldable Cut : (k due at : ℕ) → List (List ℕ) → Type 0
  Cut k due at l = (left : ℕ) → Short l → SmallRows l → length l ≡ left → drop at s ≡ spell (flat l) → cut_rows left s t k due at ≡ l

  cut-none : (k due at : ℕ) → Cut k due at []
  unfolding Cut cut_rows
  cut-none k due at zero x y n e = refl
  cut-none k due at (suc left) x y n e = absurd (omega arith)

  -- the place is another name for the same
  cut-there : (k due : ℕ) {at bt : ℕ} (l : List (List ℕ)) → at ≡ bt → Cut k due at l → Cut k due bt l
  cut-there k due l e c = rw e at c

  -- what is to be known of a row: how many numbers it has, how many expressions come after it, and which activity
  record Next (k due at j after : ℕ) (ns : List ℕ) : Type 0 where
    wide : row_width s t k due at ≡ length ns
    comes : due_after s t k due at ≡ after
    then : k_after t k due at ≡ j

  cut-more : (k due at j after : ℕ) (ns : List ℕ) (l : List (List ℕ))
      → (drop at s ≡ spell (ns ++ flat l) → length ns ≤ 19 → Small ns → Next k due at j after ns) → Cut j after (at + length (spell ns)) l → Cut k due at (ns ∷ l)
  unfolding Cut cut_rows flat Short SmallRows
  cut-more k due at j after ns l next rest zero x y n e = absurd (omega arith)
  cut-more k due at j after ns l next rest (suc left) x y n e =
      let w = next e x.0 y.0 in
      let r = numbers-read s at ns (flat l) e y.0 in
      let f : drop (at + length (spell ns)) s ≡ spell (flat l) = rw r.ends at r.after in
      rw (w.wide, w.comes, w.then, r.are, r.ends, rest left x.1 y.1 (omega arith) f)

  -- an expression
  first_small : (x : ℕ) (ns : List ℕ) → Small (x ∷ ns) → x ≤ 4294967295
  unfolding Small
  first_small x ns m = m.0

  some-due : (due : ℕ) → eqb (suc due) 0 ≡ false
  some-due due = ne_eqb (suc due) 0 (λ z. omega arith)

  leaf-next : (k due at code v : ℕ) (l : List ℕ) → code < 2 → drop at s ≡ spell ((code ∷ v ∷ []) ++ l) → Small (code ∷ v ∷ []) → Next k (suc due) at k due (code ∷ v ∷ [])
  unfolding row_width due_after k_after
  leaf-next k due at code v l h e m =
      let f = one_value s at code (v ∷ l) e (first_small code (v ∷ []) m) in
      let z : suc due - 1 ≡ due = omega arith in
      record { wide = rw (some-due due, f, lt-ltb code 2 h); comes = rw (some-due due, f, lt-ltb code 2 h) z; then = rw (some-due due) }

  operation-next : (k due at code : ℕ) (l : List ℕ) → 2 ≤ code → drop at s ≡ spell ((code ∷ []) ++ l) → Small (code ∷ [])
      → Next k (suc due) at k (suc (suc due)) (code ∷ [])
  unfolding row_width due_after k_after
  operation-next k due at code l h e m =
      let f = one_value s at code l e (first_small code [] m) in
      let z : suc due + 1 ≡ suc (suc due) = omega arith in
      record { wide = rw (some-due due, f, le-ltb code 2 h); comes = rw (some-due due, f, le-ltb code 2 h) z; then = rw (some-due due) }

  operation-large : (o : Operation) → 2 ≤ operation_code o
  unfolding operation_code
  operation-large sum = omega arith
  operation-large difference = omega arith
  operation-large equal = omega arith
  operation-large less = omega arith

  cut-expression : (k : ℕ) (x : Exp) (due at : ℕ) (l : List (List ℕ)) → Cut k due (at + long (expression_rows x)) l → Cut k (suc due) at (expression_rows x ++ l)
  unfolding expression_rows
  cut-expression k (constant v) due at l c =
      cut-more k (suc due) at k due (0 ∷ v ∷ []) l (λ e h m. leaf-next k due at 0 v (flat l) (omega arith) e m) (rw (long-one (0 ∷ v ∷ [])) at c)
  cut-expression k (variable v) due at l c =
      cut-more k (suc due) at k due (1 ∷ v ∷ []) l (λ e h m. leaf-next k due at 1 v (flat l) (omega arith) e m) (rw (long-one (1 ∷ v ∷ [])) at c)
  cut-expression k (binary o a b) due at l c =
      let from = at + length (spell (operation_code o ∷ [])) in
      let q : at + long ((operation_code o ∷ []) ∷ (expression_rows a ++ expression_rows b)) ≡ from + long (expression_rows a) + long (expression_rows b) =
      omega (arith, long-more (operation_code o ∷ []) (expression_rows a ++ expression_rows b), long-append (expression_rows a) (expression_rows b)) in
      cut-more k (suc due) at k (suc (suc due)) (operation_code o ∷ []) ((expression_rows a ++ expression_rows b) ++ l)
      (λ e h m. operation-next k due at (operation_code o) _ (operation-large o) e m)
      (rw (append_assoc (expression_rows a) (expression_rows b) l)
      (cut-expression k a (suc due) from (expression_rows b ++ l) (cut-expression k b due (from + long (expression_rows a)) l (cut-there _ _ _ q c))))

  -- what an activity or arm says of itself: `wide` is the number of variables where it names some
  module _ (k at : ℕ) (own : Own) (a : kind_in t k ≡ kind own) (c : place_in t k ≡ at) where
    own-next : (ns : List ℕ) (after : ℕ) → (length ns ≤ 19 → width_of (kind own) (count_in t k) ≡ length ns) → opens (kind own) ≡ after
        → (l : List ℕ) → drop at s ≡ spell (ns ++ l) → length ns ≤ 19 → Small ns → Next k 0 at (k + 1) after ns
    unfolding row_width due_after k_after
    own-next ns after w o l e h m =
        let z : ltb at (place_in t k) ≡ false = le-ltb at (place_in t k) (omega arith) in
        record { wide = rw (z, a) (w h); comes = rw (z, a) o; then = rw z }

  exchange-wide : (p o : ℕ) (vs : List ℕ) → length (exchange_numbers p o vs) ≤ 18 → used (4 + length vs) ≡ suc (length (exchange_numbers p o vs))
  unfolding exchange_numbers
  exchange-wide p o vs h = rw (le-ltb 19 (4 + length vs) (omega arith)) (omega arith)

  last-wide : (p o x : ℕ) (vs : List ℕ) → length (exchange_numbers p o vs ++ (x ∷ [])) ≤ 18 → used (5 + length vs) ≡ suc (length (exchange_numbers p o vs ++ (x ∷ [])))
  unfolding exchange_numbers
  last-wide p o x vs h = let e = length-append vs (x ∷ []) in rw (le-ltb 19 (5 + length vs) (omega arith)) (omega arith)

  arm-wide : (p o : ℕ) (vs : List ℕ) → length (exchange_numbers p o vs) ≤ 19 → used (3 + length vs) ≡ length (exchange_numbers p o vs)
  unfolding exchange_numbers
  arm-wide p o vs h = rw (le-ltb 19 (3 + length vs) (omega arith)) (omega arith)

  alone : (k at : ℕ) (own : Own) (ns : List ℕ) (l : List (List ℕ)) → kind_in t k ≡ kind own → place_in t k ≡ at
      → (length ns ≤ 19 → width_of (kind own) (count_in t k) ≡ length ns) → opens (kind own) ≡ 0 → Cut (k + 1) 0 (at + long (ns ∷ [])) l → Cut k 0 at (ns ∷ l)
  alone k at own ns l a c w o d = cut-more k 0 at (k + 1) 0 ns l (own-next k at own a c ns 0 w o (flat l)) (rw (long-one ns) at d)

  opening : (k at : ℕ) (own : Own) (ns : List ℕ) (x : Exp) (l : List (List ℕ)) → kind_in t k ≡ kind own → place_in t k ≡ at
      → width_of (kind own) (count_in t k) ≡ length ns → opens (kind own) ≡ 1 → Cut (k + 1) 0 (at + long (ns ∷ expression_rows x)) l → Cut k 0 at (ns ∷ (expression_rows x ++ l))
  opening k at own ns x l a c w o d =
      let q : at + long (ns ∷ expression_rows x) ≡ at + length (spell ns) + long (expression_rows x) = omega (arith, long-more ns (expression_rows x)) in
      cut-more k 0 at (k + 1) 1 ns (expression_rows x ++ l) (own-next k at own a c ns 1 (λ h. w) o (flat (expression_rows x ++ l))) (cut-expression (k + 1) x 0 (at + length (spell ns)) l (cut-there _ _ _ q d))

  cut-own : (own : Own) (within k m at : ℕ) (l : List (List ℕ)) → kind_in t k ≡ kind own → count_in t k ≡ get_or (row_of own m at) 3 0 → place_in t k ≡ at
      → Cut (k + 1) 0 (at + long (own_rows own within)) l → Cut k 0 at (own_rows own within ++ l)
  unfolding own_rows kind row_of width_of opens
  cut-own empty within k m at l a b c d = alone k at empty (0 ∷ []) l a c (λ h. refl) refl d
  cut-own (send (to_partner p) o vs) within k m at l a b c d =
      alone k at (send (to_partner p) o vs) (1 ∷ exchange_numbers p o vs) l a c (λ h. rw b (exchange-wide p o vs (omega arith))) refl d
  cut-own (send (to_held v reply) o vs) within k m at l a b c d =
      alone k at (send (to_held v reply) o vs) (17 ∷ (exchange_numbers v o vs ++ (reply ∷ []))) l a c (λ h. rw b (last-wide v o reply vs (omega arith))) refl d
  cut-own (receive (from_partner p) o vs) within k m at l a b c d =
      alone k at (receive (from_partner p) o vs) (2 ∷ exchange_numbers p o vs) l a c (λ h. rw b (exchange-wide p o vs (omega arith))) refl d
  cut-own (receive (from_asking p v) o vs) within k m at l a b c d =
      alone k at (receive (from_asking p v) o vs) (18 ∷ (exchange_numbers p o vs ++ (v ∷ []))) l a c (λ h. rw b (last-wide p o v vs (omega arith))) refl d
  cut-own (set v x) within k m at l a b c d = opening k at (set v x) (3 ∷ v ∷ []) x l a c refl refl d
  cut-own (raise zero) within k m at l a b c d = alone k at (raise zero) (4 ∷ []) l a c (λ h. refl) refl d
  cut-own (raise (suc n)) within k m at l a b c d = alone k at (raise (suc n)) (13 ∷ suc n ∷ []) l a c (λ h. refl) refl d
  cut-own leave within k m at l a b c d = alone k at leave (5 ∷ []) l a c (λ h. refl) refl d
  cut-own (choose x) within k m at l a b c d = opening k at (choose x) (6 ∷ []) x l a c refl refl d
  cut-own (repeat x) within k m at l a b c d = opening k at (repeat x) (7 ∷ []) x l a c refl refl d
  cut-own sequence within k m at l a b c d = alone k at sequence (8 ∷ within ∷ []) l a c (λ h. refl) refl d
  cut-own flow within k m at l a b c d = alone k at flow (9 ∷ within ∷ []) l a c (λ h. refl) refl d
  cut-own pick within k m at l a b c d = alone k at pick (10 ∷ within ∷ []) l a c (λ h. refl) refl d
  cut-own (scope [] true) within k m at l a b c d = alone k at (scope [] true) (11 ∷ []) l a c (λ h. refl) refl d
  cut-own (scope [] false) within k m at l a b c d = alone k at (scope [] false) (12 ∷ []) l a c (λ h. refl) refl d
  cut-own (scope (n ∷ ns) undo) within k m at l a b c d = alone k at (scope (n ∷ ns) undo) (14 ∷ []) l a c (λ h. refl) refl d
  cut-own (arm p o vs) within k m at l a b c d = alone k at (arm p o vs) (exchange_numbers p o vs) l a c (λ h. rw b (arm-wide p o vs h)) refl d

  -- numbers before the next activity or arm, each with its row
  number-next : (k at x : ℕ) → at < place_in t k → Next k 0 at k 0 (x ∷ [])
  unfolding row_width due_after k_after width_of opens
  number-next k at x h = let z = lt-ltb at (place_in t k) h in record { wide = rw z; comes = rw z; then = rw z }

  cut-alone : (g : List ℕ) (k at : ℕ) (l : List (List ℕ)) → place_in t k ≡ at + length (spell g) → Cut k 0 (at + length (spell g)) l → Cut k 0 at (rows.alone g ++ l)
  unfolding spell
  cut-alone [] k at l e c = let z : at + 0 ≡ at = omega arith in cut-there _ _ _ z c
  cut-alone (x ∷ g) k at l e c =
      let i = shortest-long x in
      let j = length-append (shortest x) (spell g) in
      let y = append-nil (shortest x) in
      let q : at + length (shortest x ++ spell g) ≡ at + length (shortest x ++ []) + length (spell g) = rw y (omega arith) in
      cut-more k 0 at k 0 (x ∷ []) (rows.alone g ++ l) (λ f h m. number-next k at x (omega (arith, i.0)))
      (cut-alone g k (at + length (shortest x ++ [])) l (e ∙ q) (cut-there _ _ _ q c))

  -- activities and arms with those within them
  kind-is : {own : Own} {at n m e f : ℕ} → n < 256 → spells.Row own at n m e f t → kind_in t n ≡ kind own
  unfolding kind_in
  kind-is {n = n} h w = rw (lt-ltb n 256 h) w.kind

  count-is : {own : Own} {at n m e f : ℕ} → n < 256 → spells.Row own at n m e f t → count_in t n ≡ get_or (row_of own m at) 3 0
  unfolding count_in
  count-is {n = n} h w = rw (lt-ltb n 256 h) w.count

  place_is : {own : Own} {at n m e f : ℕ} → n < 256 → spells.Row own at n m e f t → place_in t n ≡ at
  unfolding place_in
  place_is {n = n} h w = rw (lt-ltb n 256 h) w.place

  passing-is : (gs : List (List ℕ)) (at : ℕ) → passing gs at ≡ at + length (spell (gap gs))
  unfolding spell
  passing-is [] at = omega arith
  passing-is (g ∷ gs) at = refl

  act-place : (a : Act) (at n m : ℕ) → n + size a ≤ 256 → Spells a at n m t → place_in t n ≡ at
  unfolding Spells size
  act-place (act own w) at n m h x = place_is (omega arith) x.row

  none-long : (at : ℕ) → at + long [] ≡ at
  unfolding flat spell
  none-long at = omega arith

  mutual
    unfolding Spells SpellsAll size sizes act_rows acts_rows

    cut-act : (a : Act) (at n m : ℕ) (l : List (List ℕ)) → n + size a ≤ 256 → Spells a at n m t → Cut (n + size a) 0 (at + long (act_rows a)) l → Cut n 0 at (act_rows a ++ l)
    cut-act (act own w) at n m l h x c =
        let gs = gaps_of (numbers_of own) in
        let z : n + (1 + sizes w) ≡ n + 1 + sizes w = omega arith in
        let near = at + long (own_rows own (count w)) in
        let i : at + length (spell (own_numbers own (count w))) ≡ near = rw (flat-own own (count w)) in
        let q : at + long (own_rows own (count w) ++ acts_rows gs w) ≡ near + long (acts_rows gs w) = omega (arith, long-append (own_rows own (count w)) (acts_rows gs w)) in
        rw (append_assoc (own_rows own (count w)) (acts_rows gs w) l)
        (cut-own own (count w) n m at (acts_rows gs w ++ l) (kind-is (omega arith) x.row) (count-is (omega arith) x.row) (place_is (omega arith) x.row)
        (cut-acts gs w near (n + 1) _ l (omega arith) (rw i at x.within) (cut-there _ _ _ q (rw z at c))))

    cut-acts : (gs : List (List ℕ)) (w : Acts) (at n m : ℕ) (l : List (List ℕ)) → n + sizes w ≤ 256 → SpellsAll gs w at n m t
        → Cut (n + sizes w) 0 (at + long (acts_rows gs w)) l → Cut n 0 at (acts_rows gs w ++ l)
    cut-acts gs none at n m l h x c = let y : at + long [] ≡ at = none-long at in cut-there _ _ _ y (rw (add-zero n) at c)
    cut-acts gs (more a w) at n m l h x c =
        let z : n + (size a + sizes w) ≡ n + size a + sizes w = omega arith in
        let from = at + length (spell (gap gs)) in
        let near = from + long (act_rows a) in
        let g : long (rows.alone (gap gs)) ≡ length (spell (gap gs)) = rw (flat-alone (gap gs)) in
        let i : passing gs at ≡ from = passing-is gs at in
        let j : from + length (spell (act_numbers a)) ≡ near = rw (flat-act a) in
        let first : Spells a from n m t = rw i at x.first in
        let rest = rw (i, j) at x.rest in
        let q : at + long (rows.alone (gap gs) ++ (act_rows a ++ acts_rows (later gs) w)) ≡ near + long (acts_rows (later gs) w) =
        omega (arith, long-append (rows.alone (gap gs)) (act_rows a ++ acts_rows (later gs) w), long-append (act_rows a) (acts_rows (later gs) w)) in
        rw (append_assoc (rows.alone (gap gs)) (act_rows a ++ acts_rows (later gs) w) l, append_assoc (act_rows a) (acts_rows (later gs) w) l)
        (cut-alone (gap gs) n at _ (act-place a from n m (omega arith) first)
        (cut-act a from n m (acts_rows (later gs) w ++ l) (omega arith) first (cut-acts (later gs) w near (n + size a) _ l (omega arith) rest (cut-there _ _ _ q (rw z at c)))))

-- How many rows there are: one for each activity and arm, for each node of an expression, and for each number between the parts of a scope.

expression-rows : (e : Exp) → length (expression_rows e) ≡ nodes_of e
unfolding expression_rows nodes_of
expression-rows (constant v) = refl
expression-rows (variable v) = refl
expression-rows (binary o l r) = omega (arith, length-append (expression_rows l) (expression_rows r), expression-rows l, expression-rows r)

own-rows : (own : Own) (within : ℕ) → length (own_rows own within) ≡ 1 + own_nodes own
unfolding own_rows own_nodes
own-rows empty within = refl
own-rows (send (to_partner p) o vs) within = refl
own-rows (send (to_held v reply) o vs) within = refl
own-rows (receive (from_partner p) o vs) within = refl
own-rows (receive (from_asking p v) o vs) within = refl
own-rows (set v e) within = omega (arith, expression-rows e)
own-rows (raise zero) within = refl
own-rows (raise (suc n)) within = refl
own-rows leave within = refl
own-rows (choose e) within = omega (arith, expression-rows e)
own-rows (repeat e) within = omega (arith, expression-rows e)
own-rows sequence within = refl
own-rows flow within = refl
own-rows pick within = refl
own-rows (scope ns undo) within = refl
own-rows (arm p o vs) within = refl

-- the numbers between parts: those of an activity's own, of it with all within it, and of a list; and those before the ones of a list
unfoldable pub between_own : (numbers : List ℕ) → ℕ
between_own [] = 0
between_own (n ∷ ns) = length (n ∷ ns) + 1

unfoldable mutual
  pub between_of : Act → ℕ
  between_of (act own l) = between_own (numbers_of own) + between_all l

  pub between_all : Acts → ℕ
  between_all none = 0
  between_all (more a l) = between_of a + between_all l

unfoldable before : List (List ℕ) → Acts → ℕ
before gs none = 0
before gs (more a l) = length (gap gs) + before (later gs) l

before-none : (l : Acts) → before [] l ≡ 0
unfolding before
before-none none = refl
before-none (more a l) = omega (arith, before-none l)

before-alone : (ns : List ℕ) (l : Acts) → length ns ≤ count l → before (rows.alone ns) l ≡ length ns
unfolding before count
before-alone [] l h = before-none l
before-alone (x ∷ ns) none h = absurd (omega arith)
before-alone (x ∷ ns) (more a l) h = omega (arith, before-alone ns l (omega arith))

before-own : (ns : List ℕ) (l : Acts) → length ns + 1 ≤ count l → before (gaps_of ns) l ≡ between_own ns
unfolding before gaps_of between_own count
before-own [] l h = before-none l
before-own (x ∷ ns) none h = absurd (omega arith)
before-own (x ∷ ns) (more a none) h = absurd (omega arith)
before-own (x ∷ ns) (more a (more b l)) h = omega (arith, before-alone ns l (omega arith))

-- a scope has its parts, one for each number among them
part-some : (undo : Bool) → 2 ≤ cond undo 3 2
part-some true = omega arith
part-some false = omega arith

enough-parts : (vars : ℕ) (cs : List ℕ) (handler arms : Bool) (n : ℕ) (ns : List ℕ) (undo : Bool) (l : Acts) → own_within vars cs handler arms (scope (n ∷ ns) undo) (count l) ≡ true
    → before (gaps_of (n ∷ ns)) l ≡ between_own (n ∷ ns)
unfolding own_within
enough-parts vars cs handler arms n ns undo l h =
    both (not arms) _ h (λ a h1. both (eqb (count l) (length (n ∷ ns) + cond undo 3 2)) _ h1 (λ b c.
    let e = eqb-true (count l) (length (n ∷ ns) + cond undo 3 2) b in
    before-own (n ∷ ns) l (omega (arith, part-some undo))))

enough-by : (vars : ℕ) (cs : List ℕ) (handler arms : Bool) {own : Own} (l : Acts) → ByNumber own → own_within vars cs handler arms own (count l) ≡ true
    → before (gaps_of (numbers_of own)) l ≡ between_own (numbers_of own)
unfolding gaps_of between_own
enough-by vars cs handler arms l (plain e) h = rw e (before-none l)
enough-by vars cs handler arms l (numbered n ns undo) h = enough-parts vars cs handler arms n ns undo l h

enough : (vars : ℕ) (cs : List ℕ) (handler arms : Bool) (own : Own) (l : Acts) → own_within vars cs handler arms own (count l) ≡ true
    → before (gaps_of (numbers_of own)) l ≡ between_own (numbers_of own)
enough vars cs handler arms own l h = enough-by vars cs handler arms l (by_number own) h

mutual
  unfolding act_rows acts_rows size sizes nodes nodes_all between_of before act_within

  act-rows : (vars : ℕ) (cs : List ℕ) (handler arms : Bool) (a : Act) (depth : ℕ) → act_within vars cs handler arms a depth ≡ true
      → length (act_rows a) ≡ size a + nodes a + between_of a
  act-rows vars cs handler arms (act own l) depth h =
      both (arms || ltb 0 depth) _ h (λ a h1. both (own_within vars cs handler arms own (count l)) _ h1 (λ b c.
      omega (
        arith,
        length-append (own_rows own (count l)) (acts_rows (gaps_of (numbers_of own)) l),
        own-rows own (count l),
        acts-rows vars cs handler _ _ (gaps_of (numbers_of own)) l _ c,
        enough vars cs handler arms own l b,
      )))

  acts-rows : (vars : ℕ) (cs : List ℕ) (handler later arms : Bool) (gs : List (List ℕ)) (l : Acts) (depth : ℕ) → acts_within vars cs handler later arms l depth ≡ true
      → length (acts_rows gs l) ≡ sizes l + nodes_all l + between_all l + before gs l
  acts-rows vars cs handler after arms gs none depth h = refl
  acts-rows vars cs handler after arms gs (more a l) depth h =
      both (act_within vars cs handler arms a depth) _ h (λ b c.
      omega (
        arith,
        length-append (rows.alone (gap gs)) (act_rows a ++ acts_rows (later gs) l),
        length-append (act_rows a) (acts_rows (later gs) l),
        alone-long (gap gs),
        act-rows vars cs handler arms a depth b,
        acts-rows vars cs after after arms (later gs) l depth c,
      ))

-- what the table says of them
between-append : (m n : ℕ) (t : List ℕ) (k : ℕ) → between_in (m + n) t k ≡ between_in m t k + between_in n t (k + m)
unfolding between_in
between-append zero n t k = let e : 0 + n ≡ n = omega arith in rw (e, add-zero k) (omega arith)
between-append (suc m) n t k =
    let e : suc m + n ≡ suc (m + n) = omega arith in
    let f : k + 1 + m ≡ k + suc m = omega arith in
    rw (e, between-append m n t (k + 1), f) (omega arith)

own-between : (own : Own) (m at : ℕ) {k c : ℕ} → k ≡ kind own → c ≡ get_or (row_of own m at) 3 0 → cond (eqb k 14) (c + 1) 0 ≡ between_own (numbers_of own)
unfolding kind row_of between_own
own-between empty m at e f = rw e
own-between (send (to_partner p) o vs) m at e f = rw e
own-between (send (to_held v reply) o vs) m at e f = rw e
own-between (receive (from_partner p) o vs) m at e f = rw e
own-between (receive (from_asking p v) o vs) m at e f = rw e
own-between (set v x) m at e f = rw e
own-between (raise zero) m at e f = rw e
own-between (raise (suc n)) m at e f = rw e
own-between leave m at e f = rw e
own-between (choose x) m at e f = rw e
own-between (repeat x) m at e f = rw e
own-between sequence m at e f = rw e
own-between flow m at e f = rw e
own-between pick m at e f = rw e
own-between (scope [] true) m at e f = rw e
own-between (scope [] false) m at e f = rw e
own-between (scope (n ∷ ns) undo) m at e f = rw (e, f)
own-between (arm p o vs) m at e f = rw e

module _ (t : List ℕ) where
  mutual
    unfolding Spells SpellsAll size sizes between_of between_in

    act-between : (a : Act) (at n m : ℕ) → n + size a ≤ 256 → Spells a at n m t → between_in (size a) t n ≡ between_of a
    act-between (act own l) at n m h x =
        let e : 1 + sizes l ≡ suc (sizes l) = omega arith in
        rw (e, own-between own m at (kind-is [] t (omega arith) x.row) (count-is [] t (omega arith) x.row), acts-between (gaps_of (numbers_of own)) l _ (n + 1) _ (omega arith) x.within)

    acts-between : (gs : List (List ℕ)) (l : Acts) (at n m : ℕ) → n + sizes l ≤ 256 → SpellsAll gs l at n m t → between_in (sizes l) t n ≡ between_all l
    acts-between gs none at n m h x = refl
    acts-between gs (more a l) at n m h x =
        between-append (size a) (sizes l) t n ∙ rw (act-between a _ n m (omega arith) x.first, acts-between (later gs) l _ (n + size a) _ (omega arith) x.rest)

-- and they are no more than the bytes
mutual
  unfolding between_of before act_numbers acts_numbers act_within

  act-spread : (vars : ℕ) (cs : List ℕ) (handler arms : Bool) (a : Act) (depth : ℕ) → act_within vars cs handler arms a depth ≡ true → between_of a ≤ length (act_numbers a)
  act-spread vars cs handler arms (act own l) depth h =
      both (arms || ltb 0 depth) _ h (λ a h1. both (own_within vars cs handler arms own (count l)) _ h1 (λ b c.
      omega (arith, length-append (own_numbers own (count l)) (acts_numbers (gaps_of (numbers_of own)) l), acts-spread vars cs handler _ _ (gaps_of (numbers_of own)) l _ c, enough vars cs handler arms own l b)))

  acts-spread : (vars : ℕ) (cs : List ℕ) (handler later arms : Bool) (gs : List (List ℕ)) (l : Acts) (depth : ℕ) → acts_within vars cs handler later arms l depth ≡ true
      → between_all l + before gs l ≤ length (acts_numbers gs l)
  acts-spread vars cs handler after arms gs none depth h = omega arith
  acts-spread vars cs handler after arms gs (more a l) depth h =
      both (act_within vars cs handler arms a depth) _ h (λ b c.
      omega (
        arith,
        length-append (gap gs) (act_numbers a ++ acts_numbers (later gs) l),
        length-append (act_numbers a) (acts_numbers (later gs) l),
        act-spread vars cs handler arms a depth b,
        acts-spread vars cs after after arms (later gs) l depth c,
      ))

-- No number of a plan within the limits has more than 32 bits.

small-variables : (vars : ℕ) (once : Bool) (vs : List ℕ) → vars ≤ 16 → variables_within vars once vs ≡ true → Small vs
unfolding variables_within Small
small-variables vars once [] k h = tt
small-variables vars once (v ∷ vs) k h =
    both (ltb v vars) _ h (λ a h1. both (not (once && among v vs)) _ h1 (λ b c. (omega (arith, ltb-true v vars a), small-variables vars once vs k c)))

small-ascending : (vars least : ℕ) (vs : List ℕ) → vars ≤ 16 → ascending vars least vs ≡ true → Small vs
unfolding ascending Small
small-ascending vars least [] k h = tt
small-ascending vars least (v ∷ vs) k h =
    both (leb least v) _ h (λ a h1. both (ltb v vars) _ h1 (λ b c. (omega (arith, ltb-true v vars b), small-ascending vars (v + 1) vs k c)))

operation-small : (o : Operation) → operation_code o ≤ 5
unfolding operation_code
operation-small sum = omega arith
operation-small difference = omega arith
operation-small equal = omega arith
operation-small less = omega arith

small-expression : (vars : ℕ) (e : Exp) (depth : ℕ) → vars ≤ 16 → expression_within vars e depth ≡ true → SmallRows (expression_rows e)
unfolding expression_within expression_rows SmallRows Small
small-expression vars (constant v) depth k h = both (ltb 0 depth) _ h (λ a b. ((omega arith, (leb-true v 4294967295 b, tt)), tt))
small-expression vars (variable v) depth k h = both (ltb 0 depth) _ h (λ a b. ((omega arith, (omega (arith, ltb-true v vars b), tt)), tt))
small-expression vars (binary o l r) depth k h =
    both (ltb 0 depth) _ h (λ a h1. both (expression_within vars l (depth - 1)) _ h1 (λ b c. (
      (omega (arith, operation-small o), tt),
      small-rows-append (expression_rows l) (expression_rows r) (small-expression vars l (depth - 1) k b) (small-expression vars r (depth - 1) k c),
    )))

small-exchange : (vars : ℕ) (once : Bool) (p o : ℕ) (vs : List ℕ) → vars ≤ 16 → exchange_within vars once p o vs ≡ true → Small (exchange_numbers p o vs)
unfolding exchange_numbers Small
small-exchange vars once p o vs k h =
    let x = exchange-of vars once p o vs h in (
      omega (arith, ltb-true p 64 x.partner),
      (
        omega (arith, ltb-true o 64 x.operation),
        (omega (arith, leb-true (length vs) 4 x.most), small-variables vars once vs k x.each),
      ),
    )

-- the same behind another first number, with one number behind the variables
exchange-small : (vars : ℕ) (once : Bool) (p o : ℕ) (vs : List ℕ) → exchange_within vars once p o vs ≡ true → p ≤ 4294967295
exchange-small vars once p o vs h = omega (arith, ltb-true p 64 (exchange-of vars once p o vs h).partner)

small-last : (vars : ℕ) (once : Bool) (a x p o : ℕ) (vs : List ℕ) → vars ≤ 16 → a ≤ 4294967295 → x ≤ 4294967295 → exchange_within vars once p o vs ≡ true
    → Small (exchange_numbers a o vs ++ (x ∷ []))
unfolding exchange_numbers Small
small-last vars once a x p o vs k f g h = let y = small-exchange vars once p o vs k h in (f, small-append (o ∷ length vs ∷ vs) (x ∷ []) y.1 (g, tt))

-- a list's row
listed : (code most : ℕ) → code ≤ 10 → most ≤ 32 → (arms : Bool) (within : ℕ) → (not arms && from1 most within) ≡ true → SmallRows ((code ∷ within ∷ []) ∷ [])
unfolding SmallRows Small
listed code most c m arms within h =
    both (not arms) _ h (λ a h1. both (leb 1 within) _ h1 (λ b x. ((omega arith, (omega (arith, leb-true within most x), tt)), tt)))

no_rows : SmallRows []
unfolding SmallRows
no_rows = tt

module _ (vars : ℕ) (cs : List ℕ) (k : vars ≤ 16) where
  small-own : (handler arms : Bool) (own : Own) (within : ℕ) → own_within vars cs handler arms own within ≡ true → SmallRows (own_rows own within)
  unfolding SmallRows Small own_rows own_within
  small-own handler arms empty within h = ((omega arith, tt), tt)
  small-own handler arms (send (to_partner p) o vs) within h =
      both (not arms) _ h (λ a h1. both (eqb within 0) _ h1 (λ b x. ((omega arith, small-exchange vars false p o vs k x), tt)))
  small-own handler arms (send (to_held v reply) o vs) within h =
      both (not arms) _ h (λ a h1. both (eqb within 0) _ h1 (λ b h2. both (ltb v vars) _ h2 (λ c x.
      ((omega arith, small-last vars false v reply reply o vs k (omega (arith, ltb-true v vars c)) (exchange-small vars false reply o vs x) x), tt))))
  small-own handler arms (receive (from_partner p) o vs) within h =
      both (not arms) _ h (λ a h1. both (eqb within 0) _ h1 (λ b x. ((omega arith, small-exchange vars true p o vs k x), tt)))
  small-own handler arms (receive (from_asking p v) o vs) within h =
      both (not arms) _ h (λ a h1. both (eqb within 0) _ h1 (λ b h2. both (exchange_within vars true p o vs) _ h2 (λ x h3. both (ltb v vars) _ h3 (λ c d.
      ((omega arith, small-last vars true p v p o vs k (exchange-small vars true p o vs x) (omega (arith, ltb-true v vars c)) x), tt)))))
  small-own handler arms (set v e) within h =
      both (not arms) _ h (λ a h1. both (eqb within 0) _ h1 (λ b h2. both (ltb v vars) _ h2 (λ c h3. both (not (among v cs)) _ h3 (λ d x.
      ((omega arith, (omega (arith, ltb-true v vars c), tt)), small-expression vars e 8 k x)))))
  small-own handler arms (raise zero) within h = ((omega arith, tt), tt)
  small-own handler arms (raise (suc n)) within h =
      both (not arms) _ h (λ a h1. both (eqb within 0) _ h1 (λ b x. ((omega arith, (omega (arith, (raise-limits n x).1), tt)), tt)))
  small-own handler arms leave within h = ((omega arith, tt), tt)
  small-own handler arms (choose e) within h =
      both (not arms) _ h (λ a h1. both (eqb within 2) _ h1 (λ b x. ((omega arith, tt), small-expression vars e 8 k x)))
  small-own handler arms (repeat e) within h =
      both (not arms) _ h (λ a h1. both (eqb within 1) _ h1 (λ b x. ((omega arith, tt), small-expression vars e 8 k x)))
  small-own handler arms sequence within h = listed 8 32 (omega arith) (omega arith) arms within h
  small-own handler arms flow within h = listed 9 32 (omega arith) (omega arith) arms within h
  small-own handler arms pick within h = listed 10 8 (omega arith) (omega arith) arms within h
  small-own handler arms (scope [] true) within h = ((omega arith, tt), tt)
  small-own handler arms (scope [] false) within h = ((omega arith, tt), tt)
  small-own handler arms (scope (n ∷ ns) undo) within h = ((omega arith, tt), tt)
  small-own handler arms (arm p o vs) within h =
      both arms _ h (λ a h1. both (eqb within 1) _ h1 (λ b x. (small-exchange vars true p o vs k x, tt)))

  -- the numbers between parts
  small-alone : (ns : List ℕ) → Small ns → SmallRows (rows.alone ns)
  unfolding SmallRows Small
  small-alone [] m = tt
  small-alone (x ∷ ns) m = ((m.0, tt), small-alone ns m.1)

  small-names : (ns : List ℕ) → numbers_each ns ≡ true → Small ns
  unfolding numbers_each Small
  small-names [] h = tt
  small-names (x ∷ ns) h = both (namable x) _ h (λ a h1. both (not (among x ns)) _ h1 (λ b c. (omega (arith, namable-small x a), small-names ns c)))

  unfoldable SmallGaps : List (List ℕ) → Type 0
  SmallGaps [] = Unit
  SmallGaps (g ∷ gs) = Small g × SmallGaps gs

  gap-small : (gs : List (List ℕ)) → SmallGaps gs → Small (gap gs) × SmallGaps (later gs)
  unfolding SmallGaps Small
  gap-small [] h = (tt, tt)
  gap-small (g ∷ gs) h = h

  alone-small : (ns : List ℕ) → Small ns → SmallGaps (rows.alone ns)
  unfolding SmallGaps Small
  alone-small [] m = tt
  alone-small (x ∷ ns) m = ((m.0, tt), alone-small ns m.1)

  named_small : (handler arms : Bool) (n : ℕ) (ns : List ℕ) (undo : Bool) (within : ℕ) → own_within vars cs handler arms (scope (n ∷ ns) undo) within ≡ true → SmallGaps (gaps_of (n ∷ ns))
  unfolding own_within numbers_within gaps_of SmallGaps Small
  named_small handler arms n ns undo within h =
      both (not arms) _ h (λ a h1. both (eqb within (length (n ∷ ns) + cond undo 3 2)) _ h1 (λ b h2. both (not handler) _ h2 (λ c h3. both undo _ h3 (λ d h4.
      both (leb (length (n ∷ ns)) 8) _ h4 (λ e f.
      let l = leb-true (length (n ∷ ns)) 8 e in
      let m = small-names (n ∷ ns) f in
      (tt, ((omega arith, (m.0, tt)), alone-small ns m.1)))))))

  small_by : (handler arms : Bool) {own : Own} (within : ℕ) → ByNumber own → own_within vars cs handler arms own within ≡ true → SmallGaps (gaps_of (numbers_of own))
  unfolding gaps_of SmallGaps
  small_by handler arms within (plain e) h = rw e tt
  small_by handler arms within (numbered n ns undo) h = named_small handler arms n ns undo within h

  gaps-small : (handler arms : Bool) (own : Own) (within : ℕ) → own_within vars cs handler arms own within ≡ true → SmallGaps (gaps_of (numbers_of own))
  gaps-small handler arms own within h = small_by handler arms within (by_number own) h

  mutual
    unfolding act_rows acts_rows act_within acts_within

    small-act : (handler arms : Bool) (a : Act) (depth : ℕ) → act_within vars cs handler arms a depth ≡ true → SmallRows (act_rows a)
    small-act handler arms (act own l) depth h =
        both (arms || ltb 0 depth) _ h (λ a h1. both (own_within vars cs handler arms own (count l)) _ h1 (λ b c.
        small-rows-append (own_rows own (count l)) (acts_rows (gaps_of (numbers_of own)) l) (small-own handler arms own (count l) b)
        (small-acts handler _ _ (gaps_of (numbers_of own)) l _ (gaps-small handler arms own (count l) b) c)))

    small-acts : (handler after arms : Bool) (gs : List (List ℕ)) (l : Acts) (depth : ℕ) → SmallGaps gs → acts_within vars cs handler after arms l depth ≡ true → SmallRows (acts_rows gs l)
    small-acts handler after arms gs none depth g h = no_rows
    small-acts handler after arms gs (more a l) depth g h =
        both (act_within vars cs handler arms a depth) _ h (λ b c.
        small-rows-append (rows.alone (gap gs)) (act_rows a ++ acts_rows (later gs) l) (small-alone (gap gs) (gap-small gs g).0)
        (small-rows-append (act_rows a) (acts_rows (later gs) l) (small-act handler arms a depth b) (small-acts after after arms (later gs) l depth (gap-small gs g).1 c)))

-- Plans.

module _ (p : Plan) (l : Limits p) where
  body-rows : List (List ℕ)
  body-rows = act_rows p.body ++ act_rows p.fault

  head-row : List ℕ
  head-row = 1 ∷ p.variables ∷ length p.correlation ∷ p.correlation

  few-variables : p.variables ≤ 16
  few-variables = leb-true p.variables 16 l.few

  head-short : length head-row ≤ 19
  unfolding head-row
  head-short = omega (arith, few-variables, ascending-few p.variables 0 p.correlation (omega arith) l.ordered)

  head_small : Small head-row
  unfolding head-row Small
  head_small =
      (omega arith, (omega (arith, few-variables), (omega (arith, head-short), small-ascending p.variables 0 p.correlation few-variables l.ordered)))

  body-small : SmallRows body-rows
  unfolding body-rows
  body-small =
      small-rows-append (act_rows p.body) (act_rows p.fault) (small-act p.variables p.correlation few-variables false false p.body 16 l.body)
      (small-act p.variables p.correlation few-variables true false p.fault 16 l.fault)

  body-short : Short body-rows
  unfolding Short plan_rows body-rows
  body-short = (short-plan p l).1

  pub rows-many : length (plan_rows p) ≡ size p.body + size p.fault + (nodes p.body + nodes p.fault) + (between_of p.body + between_of p.fault) + 1
  unfolding plan_rows
  rows-many =
      omega (
        arith,
        length-append (act_rows p.body) (act_rows p.fault),
        act-rows p.variables p.correlation false false p.body 16 l.body,
        act-rows p.variables p.correlation true false p.fault 16 l.fault,
      )

  -- the numbers between parts, by the table; and they are no more than the bytes
  pub plan-between : (t : List ℕ) → SpellsPlan p t → between_in (size p.body + size p.fault) t 0 ≡ between_of p.body + between_of p.fault
  unfolding sizes between_all
  plan-between t x =
      let e : size p.body + size p.fault ≡ sizes (more p.body (more p.fault none)) = omega arith in
      rw e (acts-between t [] (more p.body (more p.fault none)) (body_place p) 0 0 (omega (arith, l.room)) x ∙ omega arith)

  pub between-few : (between_of p.body ≤ length (spell (act_numbers p.body))) × (between_of p.fault ≤ length (spell (act_numbers p.fault)))
  between-few = (
    omega (arith, act-spread p.variables p.correlation false false p.body 16 l.body, spell-long (act_numbers p.body)),
    omega (arith, act-spread p.variables p.correlation true false p.fault 16 l.fault, spell-long (act_numbers p.fault)),
  )

  pub table-long : length (rows_of p) ≡ length (plan_rows p) * 20
  unfolding rows_of
  table-long = lines_long (plan_rows p) (short-plan p l)

  module _ (s t : List ℕ) (e : s ≡ spelling p) (x : SpellsPlan p t) where
    numbers-stand : drop 0 s ≡ spell (head-row ++ flat body-rows)
    unfolding spelling plan_rows flat head-row body-rows
    numbers-stand = e ∙ ap spell (sym (flat-plan p))

    after_one : drop (next_in s 0) s ≡ spell (p.variables ∷ ((length p.correlation ∷ p.correlation) ++ flat body-rows))
    unfolding head-row
    after_one = one-next s 0 1 _ numbers-stand (omega arith)

    after_two : drop (next_in s (next_in s 0)) s ≡ spell (length p.correlation ∷ (p.correlation ++ flat body-rows))
    after_two = one-next s (next_in s 0) p.variables _ after_one (omega (arith, few-variables))

    head-wide : head_width s ≡ length head-row
    unfolding head_width head-row
    head-wide =
        let h = head-short in
        let v = one_value s (next_in s (next_in s 0)) (length p.correlation) (p.correlation ++ flat body-rows) after_two (omega arith) in
        rw (v, le-ltb 19 (3 + length p.correlation) (omega arith)) (omega arith)

    body-cut : Cut s t 0 0 (body_place p) body-rows
    unfolding body-rows acts_rows sizes SpellsAll
    body-cut =
        let q : (act_rows p.body ++ (act_rows p.fault ++ [])) ++ [] ≡ act_rows p.body ++ act_rows p.fault =
        append-nil (act_rows p.body ++ (act_rows p.fault ++ [])) ∙ rw (append-nil (act_rows p.fault)) in
        rw q at (cut-acts s t [] (more p.body (more p.fault none)) (body_place p) 0 0 [] (omega (arith, l.room)) x (cut-none s t _ 0 _))

    -- The rows cut from the bytes of a plan are the plan's rows.
    pub plan-cut : (left : ℕ) → length (plan_rows p) ≡ left + 1 → cut_plan left s t ≡ plan_rows p
    unfolding cut_plan plan_rows Cut head-row body-rows
    plan-cut left n =
        let r = numbers-read s 0 head-row (flat body-rows) numbers-stand head_small in
        let b : place_after (length head-row) s 0 ≡ body_place p = r.ends ∙ omega arith in
        let f : drop (body_place p) s ≡ spell (flat body-rows) = rw b at r.after in
        rw (head-wide, r.are, b, body-cut left body-short body-small (omega arith) f)
