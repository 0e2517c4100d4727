-- Where the activities and arms of a plan stand among its bytes, by its table. Assumes nothing.
use borrow.Author.Tests.{ltb-true, ltb-false, eqb-true, eqb-false}
use native.Mathlib.Omega.{arith}
use native.Mathlib.Nat.{add-zero, zero-add}
use mathlib.Core.Path.{◌≡◌, refl, sym, ap, ◌∙◌}
use mathlib.Core.List.{List, [], ◌∷◌, ◌++◌, append_assoc, append-nil}
use Prim.Native.Nat.{ℕ, ◌+◌, ◌*◌, ◌-◌, ◌≤◌, ◌<◌}
use lib.Dec.{ltb, eqb}
use lib.ListN.{length, get_or, take, drop}
use lib.Seq.{take_at, drop-drop, drop-append_seam}
use Rattle.plan.specs.Spell.{spell, own_numbers, gaps_of, gap, later, passing, act_numbers, acts_numbers, plan_numbers, spelling}
use Rattle.plan.specs.Spells.{Spells, SpellsAll, SpellsPlan, Part, stop_of, part_of, part_all, part_plan}
use Rattle.plan.specs.Table.{own_nodes, nodes, body_place}
use Rattle.plan.specs.Tree.{numbers_of, Act, act, Acts, none, more, Plan, size, sizes, count}
use Rattle.plan.proofs.Finds.{cond-case}
use Rattle.plan.proofs.Stands.{spell-append}
use Rattle.plan.proofs.TableSpells.{spell-append-length, plan-length}

-- what stands before the next of those within is passed
passed : (gs : List (List ℕ)) (at : ℕ) → passing gs at ≡ at + length (spell (gap gs))
unfolding spell
passed [] at = sym (add-zero at)
passed (g ∷ gs) at = refl

-- the bytes of a list: what stands before its first, that, and the rest
more-length : (gs : List (List ℕ)) (a : Act) (l : Acts) (at : ℕ)
    → at + length (spell (acts_numbers gs (more a l))) ≡ passing gs at + length (spell (act_numbers a)) + length (spell (acts_numbers (later gs) l))
unfolding acts_numbers
more-length gs a l at =
    omega (arith, passed gs at, spell-append-length (gap gs) (act_numbers a ++ acts_numbers (later gs) l), spell-append-length (act_numbers a) (acts_numbers (later gs) l))

-- row n has the start and the stop of a part
record At (t : List ℕ) (n : ℕ) (q : Part) : Type 0 where
  starts : get_or t (n * 13 + 10) 0 ≡ q.start
  stops : get_or t (n * 13 + 12) 0 ≡ stop_of q

module _ (t : List ℕ) where
  mutual
    unfolding Spells part_of size

    act-at : (a : Act) (at n m : ℕ) → Spells a at n m t → (k : ℕ) → k < size a → At t (n + k) (part_of a at k)
    act-at (act own l) at n m s k h =
        cond-case (At t (n + k)) (eqb k 0)
        (λ e. let q : n + k ≡ n = omega (arith, eqb-true k 0 e) in rw q (record { starts = s.row.place; stops = s.row.stop }))
        (λ e. let q : n + k ≡ n + 1 + (k - 1) = omega (arith, eqb-false k 0 e) in
        rw q (acts-at (gaps_of (numbers_of own)) l _ (n + 1) (m + own_nodes own) s.within (k - 1) (omega (arith, eqb-false k 0 e))))

    acts-at : (gs : List (List ℕ)) (l : Acts) (at n m : ℕ) → SpellsAll gs l at n m t → (k : ℕ) → k < sizes l → At t (n + k) (part_all gs l at k)
    acts-at gs none at n m s k h = absurd (omega arith)
    acts-at gs (more a l) at n m s k h =
        cond-case (At t (n + k)) (ltb k (size a))
        (λ e. act-at a (passing gs at) n m s.first k (ltb-true k (size a) e))
        (λ e. let q : n + k ≡ n + size a + (k - size a) = omega (arith, ltb-false k (size a) e) in
        rw q (acts-at (later gs) l _ (n + size a) (m + nodes a) s.rest (k - size a) (omega (arith, ltb-false k (size a) e))))

-- A part lies between two places.
pub record Inside (low high : ℕ) (q : Part) : Type 0 where
  pub above : low ≤ q.start
  pub ordered : q.start ≤ stop_of q
  pub below : stop_of q ≤ high

wider : {low high : ℕ} {q : Part} → Inside low high q → (f g : ℕ) → f ≤ low → high ≤ g → Inside f g q
wider r f g h l = record { above = omega arith; ordered = omega arith; below = omega arith }

mutual
  unfolding part_of size act_numbers

  act-inside : (a : Act) (at k : ℕ) → k < size a → Inside at (at + length (spell (act_numbers a))) (part_of a at k)
  act-inside (act own l) at k h =
      cond-case (Inside at (at + length (spell (act_numbers (act own l))))) (eqb k 0)
      (λ e. record { above = omega arith; ordered = omega arith; below = omega arith })
      (λ e. wider (acts-inside (gaps_of (numbers_of own)) l (at + length (spell (own_numbers own (count l)))) (k - 1) (omega (arith, eqb-false k 0 e))) _ _ (omega arith)
      (omega (arith, spell-append-length (own_numbers own (count l)) (acts_numbers (gaps_of (numbers_of own)) l))))

  acts-inside : (gs : List (List ℕ)) (l : Acts) (at k : ℕ) → k < sizes l → Inside at (at + length (spell (acts_numbers gs l))) (part_all gs l at k)
  acts-inside gs none at k h = absurd (omega arith)
  acts-inside gs (more a l) at k h =
      let w = more-length gs a l at in
      let z = passed gs at in
      cond-case (Inside at (at + length (spell (acts_numbers gs (more a l))))) (ltb k (size a))
      (λ e. wider (act-inside a (passing gs at) k (ltb-true k (size a) e)) _ _ (omega arith) (omega arith))
      (λ e. wider (acts-inside (later gs) l (passing gs at + length (spell (act_numbers a))) (k - size a) (omega (arith, ltb-false k (size a) e))) _ _ (omega arith) (omega arith))

-- the bytes of a part stand where it starts
abbrev pub Spelt : List ℕ → Part → Type 0
Spelt s q = take (length (spell (act_numbers q.what))) (drop q.start s) ≡ spell (act_numbers q.what)

-- what stands behind the numbers x, where more stand there
behind : (s : List ℕ) (at : ℕ) (x y r : List ℕ) → drop at s ≡ spell (x ++ y) ++ r → drop (at + length (spell x)) s ≡ spell y ++ r
behind s at x y r e =
    let f : drop at s ≡ spell x ++ (spell y ++ r) = e ∙ rw (spell-append, append_assoc) in
    rw (← drop-drop, f) (drop-append_seam (spell x) (spell y ++ r))

before : (s : List ℕ) (at : ℕ) (x y r : List ℕ) → drop at s ≡ spell (x ++ y) ++ r → drop at s ≡ spell x ++ (spell y ++ r)
before s at x y r e = e ∙ rw (spell-append, append_assoc)

module _ (s : List ℕ) where
  mutual
    unfolding part_of size act_numbers

    act-spelt : (a : Act) (at k : ℕ) (r : List ℕ) → drop at s ≡ spell (act_numbers a) ++ r → k < size a → Spelt s (part_of a at k)
    act-spelt (act own l) at k r e h =
        cond-case (Spelt s) (eqb k 0)
        (λ z. rw e (take_at (spell (act_numbers (act own l))) r _ refl))
        (λ z. acts-spelt (gaps_of (numbers_of own)) l _ (k - 1) r (behind s at (own_numbers own (count l)) (acts_numbers (gaps_of (numbers_of own)) l) r e) (omega (arith, eqb-false k 0 z)))

    acts-spelt : (gs : List (List ℕ)) (l : Acts) (at k : ℕ) (r : List ℕ) → drop at s ≡ spell (acts_numbers gs l) ++ r → k < sizes l → Spelt s (part_all gs l at k)
    acts-spelt gs none at k r e h = absurd (omega arith)
    acts-spelt gs (more a l) at k r e h =
        let f : drop (passing gs at) s ≡ spell (act_numbers a ++ acts_numbers (later gs) l) ++ r =
        rw (passed gs at) (behind s at (gap gs) (act_numbers a ++ acts_numbers (later gs) l) r e) in
        cond-case (Spelt s) (ltb k (size a))
        (λ z. act-spelt a (passing gs at) k _ (before s (passing gs at) (act_numbers a) (acts_numbers (later gs) l) r f) (ltb-true k (size a) z))
        (λ z. acts-spelt (later gs) l _ (k - size a) r (behind s (passing gs at) (act_numbers a) (acts_numbers (later gs) l) r f) (omega (arith, ltb-false k (size a) z)))

-- Of a list of activities that a table spells, row n + k has the start and the stop of the k-th, which lies within the list's bytes, and is spelled
-- there wherever the list is.
module _ (gs : List (List ℕ)) (l : Acts) (at k : ℕ) (few : k < sizes l) where
  pub part-start : (n m : ℕ) (t : List ℕ) → SpellsAll gs l at n m t → get_or t ((n + k) * 13 + 10) 0 ≡ (part_all gs l at k).start
  part-start n m t s = (acts-at t gs l at n m s k few).starts

  pub part-stop : (n m : ℕ) (t : List ℕ) → SpellsAll gs l at n m t → get_or t ((n + k) * 13 + 12) 0 ≡ stop_of (part_all gs l at k)
  part-stop n m t s = (acts-at t gs l at n m s k few).stops

  pub part-inside : Inside at (at + length (spell (acts_numbers gs l))) (part_all gs l at k)
  part-inside = acts-inside gs l at k few

  pub part-spelt : (s r : List ℕ) → drop at s ≡ spell (acts_numbers gs l) ++ r → Spelt s (part_all gs l at k)
  part-spelt s r e = acts-spelt s gs l at k r e few

-- the numbers, and the bytes, of the body and the fault part
root-numbers : (p : Plan) → acts_numbers [] (more p.body (more p.fault none)) ≡ act_numbers p.body ++ act_numbers p.fault
unfolding acts_numbers
root-numbers p = rw append-nil

root-spelled : (p : Plan) → drop (body_place p) (spelling p) ≡ spell (act_numbers p.body ++ act_numbers p.fault)
unfolding spelling plan_numbers
root-spelled p =
    let first : List ℕ = 1 ∷ p.variables ∷ length p.correlation ∷ p.correlation in
    ap (drop (body_place p)) (spell-append first (act_numbers p.body ++ act_numbers p.fault)) ∙ drop-append_seam (spell first) _

-- The same of a plan.
module _ (p : Plan) (k : ℕ) (few : k < size p.body + size p.fault) where
  counted : k < sizes (more p.body (more p.fault none))
  unfolding sizes
  counted = omega arith

  pub plan-start : (t : List ℕ) → SpellsPlan p t → get_or t (k * 13 + 10) 0 ≡ (part_plan p k).start
  plan-start t s = rw zero-add at (part-start _ _ (body_place p) k counted 0 0 t s)

  pub plan-stop : (t : List ℕ) → SpellsPlan p t → get_or t (k * 13 + 12) 0 ≡ stop_of (part_plan p k)
  plan-stop t s = rw zero-add at (part-stop _ _ (body_place p) k counted 0 0 t s)

  pub plan-inside : Inside (body_place p) (length (spelling p)) (part_plan p k)
  plan-inside =
      wider (rw (root-numbers p, spell-append-length) at (part-inside [] _ (body_place p) k counted)) _ _ (omega arith) (omega (arith, plan-length p))

  pub plan-spelt : Spelt (spelling p) (part_plan p k)
  plan-spelt = part-spelt _ _ (body_place p) k counted (spelling p) [] (rw (append-nil, root-numbers p) (root-spelled p))
