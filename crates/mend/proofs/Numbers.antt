-- The numbers of padded bytes, and that a spelling tells its numbers. Assumes nothing.
use native.Mathlib.Omega.{arith}
use native.Mathlib.Decide.{dec_lt}
use mathlib.Core.Path.{◌≡◌, refl, sym, ap, ◌∙◌}
use mathlib.Core.List.{List, [], ◌∷◌, ◌++◌}
use Prim.Native.Nat.{ℕ, zero, suc, ◌+◌, ◌-◌, ◌/◌, ◌%◌, ◌≤◌, ◌<◌}
use lib.ListN.{length, drop, length-append, length-drop}
use lib.Seq.{drop-drop, drop-append_seam}
use Rattle.std.specs.Prelude.{Result}
use Rattle.numbers.specs.declared.Number.{Number}
use Rattle.numbers.specs.declared.Trouble.{Trouble}
use Rattle.numbers.specs.Number.{got, number_at}
use Rattle.numbers.specs.Shortest.{spelled, shortest}
use Rattle.numbers.proofs.Laws.{shortest-long, spelled-last, spelled-more, values}
use Rattle.plan.specs.Spell.{spell}
use Rattle.mend.specs.Padded.{padded_at, numbers_from}
use Rattle.mend.proofs.Alike.{Pair, plain, cut, three, pair, number-there}
use Rattle.mend.proofs.PaddedLaws.{padded-bounds}
use Rattle.mend.proofs.RunLaws.{View, none, one, view}
use Rattle.mend.proofs.RunReturns.{end_none, numbers-none, numbers-some, Left, left_over}

-- numbers that fit
pub data Small : List ℕ → Type 0 where
  none-small : Small []
  more-small : {v : ℕ} {ns : List ℕ} → v ≤ 4294967295 → Small ns → Small (v ∷ ns)

small-view : (k : ℕ) (s : List ℕ) (at : ℕ) → View s at → ((next : ℕ) → Small (numbers_from k s next)) → Small (numbers_from (suc k) s at)
small-view k s at (none h) rest = rw (numbers-none (suc k) s at h) none-small
small-view k s at (one v next e) rest = rw (numbers-some k s at e) (more-small (padded-bounds s at e).small (rest next))

pub numbers-small : (left : ℕ) (s : List ℕ) (at : ℕ) → Small (numbers_from left s at)
unfolding numbers_from
numbers-small zero s at = none-small
numbers-small (suc k) s at = small-view k s at (view s at) (numbers-small k s)

pub value-padded : {v next : ℕ} (x y : Result Number Trouble) → x ≡ got v next → Pair x y → y ≡ got v next
value-padded _ _ e plain = e
value-padded _ _ e cut = let z : ◌≡◌ {A = ℕ} 0 1 = cc in absurd (omega arith)
value-padded _ _ e three = let z : ◌≡◌ {A = ℕ} 0 1 = cc in absurd (omega arith)

pub numbers-back : (ns t : List ℕ) (at left : ℕ) → Small ns → at ≤ length t → length t ≤ at + left → drop at t ≡ spell ns → numbers_from left t at ≡ ns
unfolding spell
numbers-back [] t at left _ i n e =
    let l : length t - at ≡ 0 = simp length-drop at (ap length e) in
    numbers-none left t at (end_none t at (omega arith))
numbers-back (v ∷ ns) t at left (more-small h m) i n e =
    let p = value-padded (number_at t at) (padded_at t at) (number-there t (spell ns) at v i e h) (pair t at) in
    let k : Left t at v (at + length (shortest v)) left = left_over t at v (at + length (shortest v)) left p n in
    let l : length t - at ≡ length (shortest v) + length (spell ns) = simp (length-drop, length-append) at (ap length e) in
    let d : drop (at + length (shortest v)) t ≡ spell ns =
    sym (drop-drop (length (shortest v)) at t) ∙ rw e (drop-append_seam (shortest v) (spell ns)) in
    ap (λ x. numbers_from x t at) k.is ∙ numbers-some k.rest t at p
    ∙ ap (λ l. v ∷ l) (numbers-back ns t (at + length (shortest v)) k.rest m (padded-bounds t at p).inside k.enough d)

-- A shortest form is told apart from every other, whatever follows.
Cancels : ℕ → Type 0
Cancels k = (v w : ℕ) (a b : List ℕ) → 0 < k → v < values k → spelled k v ++ a ≡ spelled k w ++ b → (v ≡ w) × (a ≡ b)

some_left : (k v : ℕ) → v < values (suc k) → 128 ≤ v → 0 < k
unfolding values
some_left zero v h l = absurd (omega arith)
some_left (suc k) v h l = omega arith

cancels-more : (k : ℕ) → Cancels k → Cancels (suc k)
unfolding Cancels values
cancels-more k rest v w a b _ h e =
    elim (dec_lt v 128) [
      | yes l ↦ elim (dec_lt w 128) [
        | yes m ↦ let f : v ∷ a ≡ w ∷ b = rw (spelled-last k v l, spelled-last k w m) at e in (cc, cc)
        | no m ↦
            let n : 128 ≤ w = omega (arith, m) in
            let f : v ∷ a ≡ (w % 128 + 128) ∷ (spelled k (w / 128) ++ b) = rw (spelled-last k v l, spelled-more k w n) at e in
            let i : v ≡ w % 128 + 128 = cc in
            absurd (omega arith)
      ]
      | no l ↦
          let g : 128 ≤ v = omega (arith, l) in
          elim (dec_lt w 128) [
            | yes m ↦
                let f : (v % 128 + 128) ∷ (spelled k (v / 128) ++ a) ≡ w ∷ b = rw (spelled-more k v g, spelled-last k w m) at e in
                let i : v % 128 + 128 ≡ w = cc in
                absurd (omega arith)
            | no m ↦
                let n : 128 ≤ w = omega (arith, m) in
                let f : (v % 128 + 128) ∷ (spelled k (v / 128) ++ a) ≡ (w % 128 + 128) ∷ (spelled k (w / 128) ++ b) =
                rw (spelled-more k v g, spelled-more k w n) at e in
                let i : v % 128 + 128 ≡ w % 128 + 128 = cc in
                let j : spelled k (v / 128) ++ a ≡ spelled k (w / 128) ++ b = cc in
                let (x, y) = rest (v / 128) (w / 128) a b (some_left k v h g) (omega arith) j in
                (omega (arith, x, i), y)
          ]
    ]

cancels : (k : ℕ) → Cancels k
unfolding Cancels
cancels zero = λ v w a b h. absurd (omega arith)
cancels (suc k) = cancels-more k (cancels k)

spell-some-bytes : (v : ℕ) (ns : List ℕ) → spell (v ∷ ns) ≡ [] → ⊥
unfolding spell
spell-some-bytes v ns e = omega (arith, (shortest-long v).0, length-append (shortest v) (spell ns), ap length e)

pub spell-same : (ms ns : List ℕ) → Small ms → spell ms ≡ spell ns → ms ≡ ns
unfolding spell shortest values Cancels
spell-same [] [] _ e = refl
spell-same [] (w ∷ ns) _ e = absurd (spell-some-bytes w ns (sym e))
spell-same (v ∷ ms) [] _ e = absurd (spell-some-bytes v ms e)
spell-same (v ∷ ms) (w ∷ ns) (more-small h m) e =
    let (i, j) = cancels 5 v w (spell ms) (spell ns) (omega arith) (omega arith) e in
    rw i (ap (λ l. w ∷ l) (spell-same ms ns m j))
