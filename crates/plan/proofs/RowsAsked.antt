-- What the rows of a plan's table ask for is what its receives and arms ask for. Assumes nothing.
use borrow.Author.Tests.{ltb-true, leb-true, ne_eqb}
use native.Mathlib.Omega.{arith}
use native.Mathlib.Nat.{add-zero}
use mathlib.Core.Path.{◌≡◌, refl, sym, ap, ◌∙◌}
use mathlib.Core.Bool.{Bool, true, false, not, ◌||◌}
use mathlib.Core.List.{List, [], ◌∷◌, ◌++◌, append_assoc}
use Prim.Native.Nat.{ℕ, zero, suc, ◌+◌, ◌*◌, ◌≤◌, ◌<◌}
use lib.Dec.{eqb, ltb, leb}
use lib.ListN.{length, get_or, length-append}
use Rattle.numbers.specs.Shortest.{shortest}
use Rattle.numbers.proofs.Laws.{spelled-last}
use Rattle.plan.specs.Agree.{asking, Places, in_bytes, asked_own, beyond, span_of, span_all, asked_in, asked_all, asked}
use Rattle.plan.specs.Heard.{ahead_of, row_asked, rows_asked}
use Rattle.plan.specs.Spell.{spell, own_numbers, gaps_of, later, passing, act_numbers, acts_numbers}
use Rattle.plan.specs.Spells.{Row, Spells, SpellsAll, variables_of}
use Rattle.plan.specs.Table.{row_of, body_place, table_over}
use Rattle.plan.specs.Tree.{Own, empty, to_partner, to_held, from_partner, from_asking, send, receive, set, raise, leave, choose, repeat, sequence, flow, pick, scope, arm, kind, partner_from, numbers_of, Act, act, Acts, none, more, Plan, size, sizes, count}
use Rattle.plan.specs.Within.{exchange_within, own_within, act_within, acts_within, plan_within}
use Rattle.plan.proofs.Accepts.{both}
use Rattle.plan.proofs.Hears as hears
use Rattle.plan.proofs.Hears.{Fits, AllFit, fit_append}
use Rattle.plan.proofs.Stands.{spell-append}
use Rattle.plan.proofs.TableSpells.{limited, over-spells}

-- a number below 128 has one byte
one_byte : (v : ℕ) → v < 128 → shortest v ≡ v ∷ []
unfolding shortest
one_byte v h = spelled-last 4 v h

-- partner, operation and count of a receive or an arm within the limits
pub record Exchanged (p o : ℕ) (vs : List ℕ) : Type 0 where
  pub partner : p < 64
  pub operation : o < 64
  pub some : 1 ≤ length vs
  pub few : length vs ≤ 4

-- what an activity or arm asks for is within the limits
unfoldable pub AsksOwn : Own → Type 0
AsksOwn empty = Unit
AsksOwn (send p o vs) = Unit
AsksOwn (receive f o vs) = Exchanged (partner_from f) o vs
AsksOwn (set v e) = Unit
AsksOwn (raise number) = Unit
AsksOwn leave = Unit
AsksOwn (choose e) = Unit
AsksOwn (repeat e) = Unit
AsksOwn sequence = Unit
AsksOwn flow = Unit
AsksOwn pick = Unit
AsksOwn (scope ns undo) = Unit
AsksOwn (arm p o vs) = Exchanged p o vs

unfoldable mutual
  pub Asks : Act → Type 0
  Asks (act own l) = AsksOwn own × AsksAll l

  pub AsksAll : Acts → Type 0
  AsksAll none = Unit
  AsksAll (more a l) = Asks a × AsksAll l

exchanged : (vars : ℕ) (once : Bool) (p o : ℕ) (vs : List ℕ) → exchange_within vars once p o vs ≡ true → Exchanged p o vs
unfolding exchange_within
exchanged vars once p o vs h =
    both (ltb p 64) _ h (λ a h1. both (ltb o 64) _ h1 (λ b h2. both (leb 1 (length vs)) _ h2 (λ c h3. both (leb (length vs) 4) _ h3 (λ d h4.
    record { partner = ltb-true p 64 a; operation = ltb-true o 64 b; some = leb-true 1 (length vs) c; few = leb-true (length vs) 4 d }))))

own-asks : (vars : ℕ) (cs : List ℕ) (handler arms : Bool) (own : Own) (within : ℕ) → own_within vars cs handler arms own within ≡ true → AsksOwn own
unfolding own_within AsksOwn
own-asks vars cs handler arms empty w h = tt
own-asks vars cs handler arms (send p o vs) w h = tt
own-asks vars cs handler arms (receive (from_partner p) o vs) w h = both (not arms) _ h (λ a k. both (eqb w 0) _ k (λ b l. exchanged vars true p o vs l))
own-asks vars cs handler arms (receive (from_asking p v) o vs) w h =
    both (not arms) _ h (λ a k. both (eqb w 0) _ k (λ b l. both (exchange_within vars true p o vs) _ l (λ c x. exchanged vars true p o vs c)))
own-asks vars cs handler arms (set v e) w h = tt
own-asks vars cs handler arms (raise number) w h = tt
own-asks vars cs handler arms leave w h = tt
own-asks vars cs handler arms (choose e) w h = tt
own-asks vars cs handler arms (repeat e) w h = tt
own-asks vars cs handler arms sequence w h = tt
own-asks vars cs handler arms flow w h = tt
own-asks vars cs handler arms pick w h = tt
own-asks vars cs handler arms (scope ns undo) w h = tt
own-asks vars cs handler arms (arm p o vs) w h = both arms _ h (λ a k. both (eqb w 1) _ k (λ b l. exchanged vars true p o vs l))

mutual
  unfolding act_within Asks

  pub act-asks : (vars : ℕ) (cs : List ℕ) (handler arms : Bool) (a : Act) (depth : ℕ) → act_within vars cs handler arms a depth ≡ true → Asks a
  act-asks vars cs handler arms (act own l) depth h =
      both (arms || ltb 0 depth) _ h
      (λ a k. both (own_within vars cs handler arms own (count l)) _ k
      (λ b m. (own-asks vars cs handler arms own (count l) b, acts-asks vars cs handler _ _ l _ m)))

  acts-asks : (vars : ℕ) (cs : List ℕ) (handler later arms : Bool) (l : Acts) (depth : ℕ) → acts_within vars cs handler later arms l depth ≡ true → AsksAll l
  acts-asks vars cs handler later arms none depth h = tt
  acts-asks vars cs handler later arms (more a l) depth h =
      both (act_within vars cs handler arms a depth) _ h
      (λ b k. (act-asks vars cs handler arms a depth b, acts-asks vars cs later later arms l depth k))

fit-one : (p o q : ℕ) (vs : List ℕ) → 1 ≤ q → Exchanged p o vs → AllFit (asking p o (length vs) q ∷ [])
fit-one p o q vs h x =
    let f : Fits (asking p o (length vs) q) = record { partner = x.partner; operation = x.operation; some = x.some; few = omega (arith, x.few); placed = h } in
    hears.more f hears.none

-- What is asked for within the limits, whatever places are counted.
module _ (c : Places) where
  fit-own : (own : Own) (at : ℕ) → 1 ≤ at → AsksOwn own → AllFit (asked_own c own at)
  unfolding asked_own AsksOwn
  fit-own empty at h x = hears.none
  fit-own (send p o vs) at h x = hears.none
  fit-own (receive f o vs) at h x = fit-one (partner_from f) o (at + c.passed (kind (receive f o vs) ∷ partner_from f ∷ o ∷ [])) vs (omega arith) x
  fit-own (set v e) at h x = hears.none
  fit-own (raise number) at h x = hears.none
  fit-own leave at h x = hears.none
  fit-own (choose e) at h x = hears.none
  fit-own (repeat e) at h x = hears.none
  fit-own sequence at h x = hears.none
  fit-own flow at h x = hears.none
  fit-own pick at h x = hears.none
  fit-own (scope ns undo) at h x = hears.none
  fit-own (arm p o vs) at h x = fit-one p o (at + c.passed (p ∷ o ∷ [])) vs (omega arith) x

  beyond-far : (gs : List (List ℕ)) (at : ℕ) → 1 ≤ at → 1 ≤ beyond c gs at
  beyond-far [] at h = h
  beyond-far (g ∷ gs) at h = omega arith

  mutual
    unfolding asked_in Asks

    fit-in : (a : Act) (at : ℕ) → 1 ≤ at → Asks a → AllFit (asked_in c a at)
    fit-in (act own l) at h x = fit_append (fit-own own at h x.0) (fit_all (gaps_of (numbers_of own)) l (at + c.owned own (count l)) (omega arith) x.1)

    pub fit_all : (gs : List (List ℕ)) (l : Acts) (at : ℕ) → 1 ≤ at → AsksAll l → AllFit (asked_all c gs l at)
    fit_all gs none at h x = hears.none
    fit_all gs (more a l) at h x =
        let far = beyond-far gs at h in
        fit_append (fit-in a (beyond c gs at) far x.0) (fit_all (later gs) l (beyond c gs at + span_of c a) (omega arith) x.1)

-- the rows of two lists of rows
rows_append : (m n : ℕ) (t : List ℕ) (k : ℕ) → rows_asked (m + n) t k ≡ rows_asked m t k ++ rows_asked n t (k + m)
unfolding rows_asked
rows_append zero n t k = let e : 0 + n ≡ n = omega arith in rw (e, add-zero k)
rows_append (suc m) n t k =
    let e : suc m + n ≡ suc (m + n) = omega arith in
    let f : k + 1 + m ≡ k + suc m = omega arith in
    rw (e, rows_append m n t (k + 1), f) (sym (append_assoc (row_asked t k) (rows_asked m t (k + 1)) (rows_asked n t (k + suc m))))

-- a row that asks for nothing, and one that asks for something
module _ (t : List ℕ) (n : ℕ) where
  row-none : {k : ℕ} → get_or t (n * 13) 0 ≡ k → ahead_of k ≡ 0 → row_asked t n ≡ []
  unfolding row_asked
  row-none {k} e h = let z : get_or t (n * 13 + 0) 0 ≡ k = rw (add-zero (n * 13)) e in rw (z, h)

  row-some : (s : ℕ) {k p o m at : ℕ} → get_or t (n * 13) 0 ≡ k → ahead_of k ≡ s → (s ≡ 0 → ⊥) → get_or t (n * 13 + 1) 0 ≡ p → get_or t (n * 13 + 2) 0 ≡ o
      → get_or t (n * 13 + 3) 0 ≡ m → get_or t (n * 13 + 10) 0 ≡ at → row_asked t n ≡ asking p o m (at + s) ∷ []
  unfolding row_asked
  row-some s {k} e h i a b c d = let z : get_or t (n * 13 + 0) 0 ≡ k = rw (add-zero (n * 13)) e in rw (z, h, ne_eqb s 0 i, a, b, c, d)

three-bytes : (k p o : ℕ) → k < 128 → p < 64 → o < 64 → length (spell (k ∷ p ∷ o ∷ [])) ≡ 3
unfolding spell
three-bytes k p o j h l = rw (one_byte k j, one_byte p (omega arith), one_byte o (omega arith))

two_bytes : (p o : ℕ) → p < 64 → o < 64 → length (spell (p ∷ o ∷ [])) ≡ 2
unfolding spell
two_bytes p o h l = rw (one_byte p (omega arith), one_byte o (omega arith))

row-asked : (own : Own) (at n m e s : ℕ) (t : List ℕ) → AsksOwn own → Row own at n m e s t → row_asked t n ≡ asked_own in_bytes own at
unfolding asked_own in_bytes AsksOwn kind row_of variables_of ahead_of
row-asked empty at n m e s t x r = row-none t n r.kind refl
row-asked (send (to_partner p) o vs) at n m e s t x r = row-none t n r.kind refl
row-asked (send (to_held v q) o vs) at n m e s t x r = row-none t n r.kind refl
row-asked (receive (from_partner p) o vs) at n m e s t x r =
    rw (three-bytes 2 p o (omega arith) x.partner x.operation) (row-some t n 3 r.kind refl (λ z. omega arith) r.partner r.operation r.count r.place)
row-asked (receive (from_asking p v) o vs) at n m e s t x r =
    rw (three-bytes 18 p o (omega arith) x.partner x.operation) (row-some t n 3 r.kind refl (λ z. omega arith) r.partner r.operation r.count r.place)
row-asked (set v f) at n m e s t x r = row-none t n r.kind refl
row-asked (raise zero) at n m e s t x r = row-none t n r.kind refl
row-asked (raise (suc number)) at n m e s t x r = row-none t n r.kind refl
row-asked leave at n m e s t x r = row-none t n r.kind refl
row-asked (choose f) at n m e s t x r = row-none t n r.kind refl
row-asked (repeat f) at n m e s t x r = row-none t n r.kind refl
row-asked sequence at n m e s t x r = row-none t n r.kind refl
row-asked flow at n m e s t x r = row-none t n r.kind refl
row-asked pick at n m e s t x r = row-none t n r.kind refl
row-asked (scope [] true) at n m e s t x r = row-none t n r.kind refl
row-asked (scope [] false) at n m e s t x r = row-none t n r.kind refl
row-asked (scope (k ∷ ns) undo) at n m e s t x r = row-none t n r.kind refl
row-asked (arm p o vs) at n m e s t x r =
    rw (two_bytes p o x.partner x.operation) (row-some t n 2 r.kind refl (λ z. omega arith) r.partner r.operation r.count r.place)

-- how many bytes an activity takes
spell-long : (a b : List ℕ) → length (spell (a ++ b)) ≡ length (spell a) + length (spell b)
spell-long a b = ap length (spell-append a b) ∙ length-append (spell a) (spell b)

mutual
  unfolding span_of in_bytes act_numbers spell

  pub span-bytes : (a : Act) → span_of in_bytes a ≡ length (spell (act_numbers a))
  span-bytes (act own l) = rw (span-all (gaps_of (numbers_of own)) l) (sym (spell-long (own_numbers own (count l)) (acts_numbers (gaps_of (numbers_of own)) l)))

  pub span-all : (gs : List (List ℕ)) (l : Acts) → span_all in_bytes gs l ≡ length (spell (acts_numbers gs l))
  span-all gs none = refl
  span-all [] (more a l) = rw (span-bytes a, span-all [] l) (sym (spell-long (act_numbers a) (acts_numbers [] l)))
  span-all (g ∷ gs) (more a l) =
      rw (span-bytes a, span-all gs l)
      (omega (arith, spell-long g (act_numbers a ++ acts_numbers gs l), spell-long (act_numbers a) (acts_numbers gs l)))

-- the next of those within stands where it is passed to
beyond-bytes : (gs : List (List ℕ)) (at : ℕ) → beyond in_bytes gs at ≡ passing gs at
unfolding in_bytes
beyond-bytes [] at = refl
beyond-bytes (g ∷ gs) at = refl

mutual
  unfolding Spells asked_in Asks size in_bytes rows_asked

  act-asked : (a : Act) (at n m : ℕ) (t : List ℕ) → Asks a → Spells a at n m t → rows_asked (size a) t n ≡ asked_in in_bytes a at
  act-asked (act own l) at n m t x r =
      let e : 1 + sizes l ≡ suc (sizes l) = omega arith in
      rw (e, row-asked own at n m _ _ t x.0 r.row, all_asked (gaps_of (numbers_of own)) l _ (n + 1) _ t x.1 r.within)

  pub all_asked : (gs : List (List ℕ)) (l : Acts) (at n m : ℕ) (t : List ℕ) → AsksAll l → SpellsAll gs l at n m t → rows_asked (sizes l) t n ≡ asked_all in_bytes gs l at
  all_asked gs none at n m t x r = refl
  all_asked gs (more a l) at n m t x r =
      rows_append (size a) (sizes l) t n
      ∙ rw (beyond-bytes gs at, act-asked a (passing gs at) n m t x.0 r.first, span-bytes a, all_asked (later gs) l _ (n + size a) _ t x.1 r.rest)

two-sizes : (a b : Act) → size a + size b ≡ sizes (more a (more b none))
unfolding sizes
two-sizes a b = omega arith

-- A plan within the limits.
module _ (p : Plan) (h : plan_within p ≡ true) where
  pub plan-asks : AsksAll (more p.body (more p.fault none))
  unfolding AsksAll
  plan-asks =
      let l = limited p h in
      (act-asks p.variables p.correlation false false p.body 16 l.body, (act-asks p.variables p.correlation true false p.fault 16 l.fault, tt))

  pub plan-fits : AllFit (asked p)
  unfolding asked spell
  plan-fits = fit_all in_bytes [] (more p.body (more p.fault none)) (body_place p) (rw (one_byte 1 (omega arith)) (omega arith)) plan-asks

  pub table-asked : (t : List ℕ) → length t ≡ 11584 → rows_asked (size p.body + size p.fault) (table_over t p) 0 ≡ asked p
  unfolding asked table_over
  table-asked t long =
      let e : size p.body + size p.fault ≡ sizes (more p.body (more p.fault none)) = two-sizes p.body p.fault in
      rw e (all_asked [] (more p.body (more p.fault none)) (body_place p) 0 0 _ plan-asks (over-spells p h t long))
