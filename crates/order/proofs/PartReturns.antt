-- The returns of the functions by which a scope chooses its fault part and finds its parts. Assumes nothing.
use mathlib.Core.Path.{◌≡◌, refl, sym, ap, ◌∙◌}
use mathlib.Core.Bool.{Bool, true, false, cond, ◌&&◌}
use mathlib.Core.List.{List}
use Prim.Native.Nat.{ℕ, suc, ◌+◌, ◌-◌, ◌<◌, ◌≤◌, min}
use native.Mathlib.Numerals.{add-one}
use native.Mathlib.Omega.{arith}
use borrow.Author.Tests.{eq-eqb, ne_eqb, leb-true}
use lib.Dec.{eqb, ltb, leb}
use lib.ListN.{length, get_or, drop, drop_of_length-le}
use lib.Seq.{drop-cons}
use Rattle.plan.specs.Tree.{general_part, Acts, none, more, size, count}
use Rattle.plan.proofs.Accepts.{both}
use Rattle.order.specs.declared.Spot.{Spot}
use Rattle.order.specs.Answering.{Made, scope_of, Held, NumberAt, Chooses, PartRow, chosen_index, ChosenRow, UndoRow, scope_act, SpotAt}
use Rattle.order.specs.Begin.{part, part_at}
use Rattle.order.specs.Scope.{Scope, general_for, part_for, chosen_part, chosen_at}
use Rattle.order.specs.Stands.{End, Stands, StandAll}
use Rattle.order.proofs.Standing.{stands-end, first-at, part-stands, part-next, general-is}

-- the loop of `choice_for`: none of the numbers before is the one
pub record Choosing (t : List ℕ) (z : Spot) (number i : ℕ) : Type 0 where
  pub is : (x : Made) → Held z x t → part_for number 1 x.numbers ≡ part_for number (i + 1) (drop i x.numbers)

module _ {t : List ℕ} {z : Spot} {number i n : ℕ} (w : Choosing t z number i) (m : n ≡ min z.count 8) where
  pub choosing-done : n ≤ i → {r : ℕ} → r ≡ general_for number → r < 16 → Chooses t z number r
  unfolding part_for
  choosing-done g e s = record {
    is = λ x h.
        let d : length x.numbers ≤ i = omega (arith, h.many, h.numbers.few) in
        e ∙ sym (w.is x h ∙ rw (drop_of_length-le x.numbers d));
    small = s;
  }

  module _ (g : i < n) {y : ℕ} (a : NumberAt t z.first i y) {u : ℕ} (b : u ≡ number) where
    number-here : (x : Made) → Held z x t → y ≡ get_or x.numbers i 0
    number-here x h = a.is h.numbers.row (omega (arith, h.many)) ∙ h.numbers.is i (omega (arith, h.many))

    here : (x : Made) → Held z x t
        → part_for number (i + 1) (drop i x.numbers) ≡ cond (eqb number (get_or x.numbers i 0)) (i + 1) (part_for number (i + 1 + 1) (drop (i + 1) x.numbers))
    unfolding part_for
    here x h = let d : i < length x.numbers = omega (arith, h.many) in rw (drop-cons x.numbers i 0 d, add-one i)

    pub choosing-found : y ≡ u → {r : ℕ} → r ≡ i + 1 → Chooses t z number r
    choosing-found e j = record {
      is = λ x h. let d : number ≡ get_or x.numbers i 0 = sym b ∙ (sym e ∙ number-here x h) in j ∙ sym (w.is x h ∙ (here x h ∙ rw (eq-eqb _ _ d)));
      small = omega arith;
    }

    pub choosing-again : (y ≡ u → ⊥) → Choosing t z number (i + 1)
    choosing-again e = record {
      is = λ x h.
          let d : number ≡ get_or x.numbers i 0 → ⊥ = λ q. e (number-here x h ∙ (sym q ∙ sym b)) in
          w.is x h ∙ (here x h ∙ rw (ne_eqb _ _ d));
    }

-- the loop of `part_row`: what is left to go leads there
pub record Passing (t : List ℕ) (c i j k : ℕ) : Type 0 where
  pub on : (r : ℕ) → PartRow t j (i - k) r → PartRow t c i r

module _ {t : List ℕ} {c i j k : ℕ} (w : Passing t c i j k) where
  pub passing-done : i ≤ k → PartRow t c i j
  unfolding part_at
  passing-done h = w.on j (record { is = λ l s g. at_first l })
    where
      at_first : (l : Acts) → j ≡ part_at (i - k) l j
      at_first none = refl
      at_first (more a l) = let e : i - k ≡ 0 = omega arith in rw e

  pub passing-again : k < i → {e : ℕ} → End t j e → Passing t c i e (k + 1)
  unfolding Stands count part_at
  passing-again h {e} z = record { on = λ r x. w.on r (record { is = λ l s g. go r x l s g }) }
    where
      go : (r : ℕ) → PartRow t e (i - (k + 1)) r → (l : Acts) → StandAll l j t → i - k ≤ count l → r ≡ part_at (i - k) l j
      go r x none s g = absurd (omega arith)
      go r x (more a l) s g =
          let q : i - k ≡ suc (i - (k + 1)) = omega arith in
          let d : e ≡ j + size a = stands-end a j t s.first z in
          rw q (rw d at (x.is l (rw d s.rest) (omega arith)))

-- the chosen part is one of the fault parts
index-within : (c n : ℕ) → chosen_index c n ≤ n
index-within c n = go (ltb 0 c && (ltb c 9 && leb c n)) refl
  where
    go : (b : Bool) → (ltb 0 c && (ltb c 9 && leb c n)) ≡ b → cond b (c - 1) n ≤ n
    go true e = both (ltb 0 c) _ e (λ x y. both (ltb c 9) _ y (λ u v. omega (arith, leb-true c n v)))
    go false e = omega arith

module _ (c : ℕ) (z : Spot) (x : Made) where
  pub chosen_at_lem : chosen_at c (scope_of z x) ≡ part_at (chosen_index c (length x.numbers)) x.parts z.parts
  unfolding chosen_at
  chosen_at_lem = go (ltb 0 c && (ltb c 9 && leb c (length x.numbers)))
    where
      go : (b : Bool) → cond b (part_at (c - 1) x.parts z.parts) (part_at (length x.numbers) x.parts z.parts)
          ≡ part_at (cond b (c - 1) (length x.numbers)) x.parts z.parts
      go true = refl
      go false = refl

  chosen_is : chosen_part c (scope_of z x) ≡ part (chosen_index c (length x.numbers)) x.parts
  unfolding chosen_part
  chosen_is = go (ltb 0 c && (ltb c 9 && leb c (length x.numbers)))
    where
      go : (b : Bool) → cond b (part (c - 1) x.parts) (part (length x.numbers) x.parts) ≡ part (cond b (c - 1) (length x.numbers)) x.parts
      go true = refl
      go false = refl

  pub chosen-stands : {t : List ℕ} → Held z x t → Stands (chosen_part c (scope_of z x)) (chosen_at c (scope_of z x)) t
  chosen-stands {t} h =
      let g : chosen_index c (length x.numbers) < count x.parts = omega (arith, h.general, index-within c (length x.numbers)) in
      rw (chosen_is, chosen_at_lem) (part-stands t x.parts z.parts (chosen_index c (length x.numbers)) h.parts g)

-- `chosen_row`
pub chosen-row-is : {t : List ℕ} {z : Spot} {choice i : ℕ} → i ≡ chosen_index choice z.count → {r : ℕ} → PartRow t z.parts i r → ChosenRow t z choice r
chosen-row-is {t} {z} {choice} {i} e p = record {
  is = λ x h.
      let d : i ≡ chosen_index choice (length x.numbers) = rw h.many at e in
      let g : i ≤ count x.parts = omega (arith, d, h.general, index-within choice (length x.numbers)) in
      (rw d at (p.is x.parts h.parts g)) ∙ sym (chosen_at_lem choice z x);
}

-- `undo_row`
pub undo-row-is : {t : List ℕ} {z : Spot} {g : ℕ} → PartRow t z.parts z.count g → {r : ℕ} → End t g r → UndoRow t z r
undo-row-is {t} {z} {g} p {r} e = record {
  is = λ x h.
      let n = length x.numbers in
      let l = x.parts in
      let c = z.parts in
      let m : z.count ≤ count l = omega (arith, h.many, h.general) in
      let q : g ≡ part_at n l c = rw h.many at (p.is l h.parts m) in
      let s : Stands (part n l) g t = rw q (part-stands t l c n h.parts h.general) in
      let d : r ≡ g + size (part n l) = stands-end (part n l) g t s e in
      rw (general-is x.numbers, part-next l c n h.general, ← q) d;
}

-- where the parts of the scope in row k stand
module _ {t : List ℕ} {k : ℕ} {z : Spot} (y : SpotAt t k z) where
  pub spot-parts : (v : Bool) (x : Made) → Stands (scope_act v x) k t → z.parts ≡ k + 1 + size x.body
  unfolding part_at
  spot-parts v x s = ap (λ (c : Scope). c.parts_at) (y.same v x s) ∙ first-at x.parts (k + 1 + size x.body)

  pub spot-undo : {u : ℕ} → UndoRow t z u → (v : Bool) (x : Made) → Stands (scope_act v x) k t
      → u ≡ part_at (general_part x.numbers) x.parts (k + 1 + size x.body)
  spot-undo w v x s = rw (spot-parts v x s) at (w.is x (y.held v x s))
