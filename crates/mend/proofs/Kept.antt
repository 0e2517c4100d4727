-- Plain reading refuses with 3, or padded reading finds the very same. Assumes nothing.
use borrow.Author.Tests.{lt-ltb, le-ltb}
use native.Mathlib.Omega.{arith}
use native.Mathlib.Decide.{dec_lt}
use native.Mathlib.Nat.{add-zero, zero-add}
use mathlib.Core.Path.{◌≡◌, refl, sym, ap, ◌∙◌}
use mathlib.Core.Bool.{Bool, true, false, ◌||◌}
use mathlib.Core.List.{List, [], ◌∷◌, ◌++◌, append_assoc, append-nil}
use Prim.Native.Nat.{ℕ, ◌+◌, ◌-◌}
use lib.Dec.{eqb, ltb}
use lib.ListN.{length, length-append}
use Rattle.std.specs.Prelude.{Result, Ok, Err}
use Rattle.numbers.specs.declared.Number.{Number}
use Rattle.numbers.specs.declared.Trouble.{Trouble}
use Rattle.numbers.specs.declared.Trouble.TheVariants.{Short, Bad}
use Rattle.numbers.specs.Number.{got}
use Rattle.numbers.specs.Shortest.{shortest}
use Rattle.plan.specs.Agree.{Asked, in_bytes, asked_own, beyond, span_of, asked_in, asked_all, asked, agrees_with, judged}
use Rattle.plan.specs.Found.{Found, refused, found}
use Rattle.plan.specs.Read.{read_any, read_plan}
use Rattle.plan.specs.Spell as spells
use Rattle.plan.specs.Spell.{spell, exchange_numbers, own_numbers, gaps_of, gap, act_numbers, acts_numbers, plan_numbers, spelling}
use Rattle.plan.specs.Table.{body_place}
use Rattle.plan.specs.Tree as tree
use Rattle.plan.specs.Tree.{Own, empty, from_partner, from_asking, send, receive, set, raise, leave, choose, repeat, sequence, flow, pick, scope, arm, kind, Act, act, Acts, none, more, Plan, count}
use Rattle.plan.proofs.Agreeing.{Among, here, later}
use Rattle.plan.proofs.Finds.{cond-case}
use Rattle.plan.proofs.RowsAsked.{span-bytes}
use Rattle.plan.proofs.Spelled.{any-is-spelled}
use Rattle.plan.proofs.Stands.{spell-append, plan-stands}
use Rattle.mend.specs.Padded.{padded_at, numbers_from, numbers_of, shortened, cut_from, groups_cut, place_of, last_place, no_number, original, read_padded}
use Rattle.mend.proofs.Alike.{Stands, stands-start, start_left, stands-place, over, stands-next, stands-left, Ends, any-ends}
use Rattle.mend.proofs.Alike as alike
use Rattle.mend.proofs.Numbers.{numbers-small, spell-same}
use Rattle.mend.proofs.PaddedLaws.{padded-bounds}
use Rattle.mend.proofs.RunLaws.{View, view, spell-bytes, cut-some, last-place, last-inside}
use Rattle.mend.proofs.RunLaws as run
use Rattle.mend.proofs.RunReturns.{numbers-none, numbers-some}

-- Where no group is cut, the places of numbers stay.

-- the number that comes first is in shortest form, and nothing is cut after it
record Uncut (o : List ℕ) {at q : ℕ} (r : Stands o at q) (v : ℕ) (ms : List ℕ) : Type 0 where
  value : ℕ
  next : ℕ
  first : padded_at o at ≡ got value next
  same : value ≡ v
  ends : next ≡ at + length (shortest value)
  rest : numbers_from (over r first).rest o next ≡ ms
  still : cut_from (over r first).rest o next ≡ 0

first-of : {v w : ℕ} {l m : List ℕ} → v ∷ l ≡ w ∷ m → v ≡ w
first-of g = cc

rest_of : {v w : ℕ} {l m : List ℕ} → v ∷ l ≡ w ∷ m → l ≡ m
rest_of g = cc

uncut : (o : List ℕ) {at q : ℕ} (r : Stands o at q) (v : ℕ) (ms : List ℕ) → numbers_from r.left o at ≡ v ∷ ms → cut_from r.left o at ≡ 0 → View o at → Uncut o r v ms
uncut o {at} r v ms e c (run.none h) =
    let f : ◌≡◌ {A = List ℕ} [] (v ∷ ms) = sym (numbers-none r.left o at h) ∙ e in
    let z : ◌≡◌ {A = ℕ} 0 1 = cc in
    absurd (omega arith)
uncut o {at} r v ms e c (run.one w next p) =
    let k = over r p in
    let f : w ∷ numbers_from k.rest o next ≡ v ∷ ms = sym (ap (λ x. numbers_from x o at) k.is ∙ numbers-some k.rest o at p) ∙ e in
    let d : next - at - length (shortest w) + cut_from k.rest o next ≡ 0 = sym (ap (λ x. cut_from x o at) k.is ∙ cut-some k.rest o at p) ∙ c in
    record {
      value = w;
      next = next;
      first = p;
      same = first-of f;
      ends = omega (arith, d, (padded-bounds o at p).long);
      rest = rest_of f;
      still = omega (arith, d);
    }

-- place p of o, where that is place q of its shortened bytes
record Walked (o : List ℕ) (p q : ℕ) : Type 0 where
  there : ℕ
  stands : Stands o there q
  is : there ≡ p

walked_as : {o : List ℕ} {p q i j : ℕ} → Walked o p q → p ≡ i → q ≡ j → Walked o i j
walked_as w e f = rw (sym e, sym f) w

walk : (o ns rest : List ℕ) {at q : ℕ} (r : Stands o at q) → numbers_from r.left o at ≡ ns ++ rest → cut_from r.left o at ≡ 0
    → Walked o (at + length (spell ns)) (q + length (spell ns))
unfolding spell
walk o [] rest {at} {q} r e c = record { there = at; stands = rw (add-zero q) r; is = omega arith }
walk o (v ∷ ns) rest {at} {q} r e c =
    let u = uncut o r v (ns ++ rest) e c (view o at) in
    let l = length-append (shortest v) (spell ns) in
    let k = ap (λ x. length (shortest x)) u.same in
    walked_as (walk o ns rest (stands-next r u.first) (rw (stands-left r u.first) u.rest) (rw (stands-left r u.first) u.still))
    (omega (arith, l, k, u.ends)) (omega (arith, l, k))

-- Where a count stands in the numbers of a plan.
record Within (ns : List ℕ) (at q : ℕ) : Type 0 where
  before : List ℕ
  after : List ℕ
  is : ns ≡ before ++ after
  place : q ≡ at + length (spell before)

within-left : {ns : List ℕ} (ms : List ℕ) {at q : ℕ} → Within ns at q → Within (ns ++ ms) at q
within-left ms w = record { before = w.before; after = w.after ++ ms; is = rw w.is (append_assoc w.before w.after ms); place = w.place }

within-right : (ns : List ℕ) {ms : List ℕ} {at q : ℕ} → Within ms (at + length (spell ns)) q → Within (ns ++ ms) at q
within-right ns w = record {
  before = ns ++ w.before;
  after = w.after;
  is = rw w.is (sym (append_assoc ns w.before w.after));
  place = omega (arith, w.place, ap length (spell-append ns w.before), length-append (spell ns) (spell w.before));
}

-- one of two lists
data Either (a : Asked) (l m : List Asked) : Type 0 where
  left : Among a l → Either a l m
  right : Among a m → Either a l m

either-more : {a b : Asked} {l m : List Asked} → Either a l m → Either a (b ∷ l) m
either-more (left x) = left (later x)
either-more (right x) = right x

either : (a : Asked) (l m : List Asked) → Among a (l ++ m) → Either a l m
either a [] m x = right x
either a (b ∷ l) m here = left here
either a (b ∷ l) m (later x) = either-more (either a l m x)

no_one : {P : Type 0} {a : Asked} → Among a [] → P
no_one m = elim m [ ]

only_one : (P : Asked → Type 0) (b : Asked) {a : Asked} → P b → Among a (b ∷ []) → P a
only_one P b h here = h
only_one P b h (later m) = no_one m

own-within : (own : Own) (within at : ℕ) {a : Asked} → Among a (asked_own in_bytes own at) → Within (own_numbers own within) at a.place
unfolding asked_own in_bytes own_numbers exchange_numbers kind
own-within empty within at m = no_one m
own-within (send p o vs) within at m = no_one m
own-within (receive (from_partner p) o vs) within at m =
    only_one (λ x. Within (2 ∷ p ∷ o ∷ length vs ∷ vs) at x.place) _ (record { before = 2 ∷ p ∷ o ∷ []; after = length vs ∷ vs; is = refl; place = refl }) m
own-within (receive (from_asking p v) o vs) within at m =
    only_one (λ x. Within (18 ∷ p ∷ o ∷ length vs ∷ (vs ++ (v ∷ []))) at x.place) _
    (record { before = 18 ∷ p ∷ o ∷ []; after = length vs ∷ (vs ++ (v ∷ [])); is = refl; place = refl }) m
own-within (set v e) within at m = no_one m
own-within (raise n) within at m = no_one m
own-within leave within at m = no_one m
own-within (choose e) within at m = no_one m
own-within (repeat e) within at m = no_one m
own-within sequence within at m = no_one m
own-within flow within at m = no_one m
own-within pick within at m = no_one m
own-within (scope ns undo) within at m = no_one m
own-within (arm p o vs) within at m =
    only_one (λ x. Within (p ∷ o ∷ length vs ∷ vs) at x.place) _ (record { before = p ∷ o ∷ []; after = length vs ∷ vs; is = refl; place = refl }) m

by-either : {P : Type 0} {a : Asked} {l m : List Asked} → Either a l m → (Among a l → P) → (Among a m → P) → P
by-either (left x) f g = f x
by-either (right x) f g = g x

-- the numbers before the next of those within
beyond-is : (gs : List (List ℕ)) (at : ℕ) → beyond in_bytes gs at ≡ at + length (spell (gap gs))
unfolding in_bytes spell
beyond-is [] at = omega arith
beyond-is (g ∷ gs) at = refl

mutual
  unfolding asked_in in_bytes act_numbers

  act-within : (b : Act) (at : ℕ) {a : Asked} → Among a (asked_in in_bytes b at) → Within (act_numbers b) at a.place
  act-within (act own l) at {a} m =
      by-either (either a (asked_own in_bytes own at) _ m)
      (λ x. within-left (acts_numbers (gaps_of (tree.numbers_of own)) l) (own-within own (count l) at x))
      (λ x. within-right (own_numbers own (count l)) (acts-within (gaps_of (tree.numbers_of own)) l (at + length (spell (own_numbers own (count l)))) x))

  acts-within : (gs : List (List ℕ)) (l : Acts) (at : ℕ) {a : Asked} → Among a (asked_all in_bytes gs l at) → Within (acts_numbers gs l) at a.place
  acts-within gs none at m = no_one m
  acts-within gs (more b l) at {a} m =
      let n = rw (beyond-is gs at) at m in
      within-right (gap gs)
      (by-either (either a (asked_in in_bytes b (at + length (spell (gap gs)))) _ n)
      (λ x. within-left (acts_numbers (spells.later gs) l) (act-within b (at + length (spell (gap gs))) x))
      (λ x. within-right (act_numbers b) (rw (span-bytes b) at (acts-within (spells.later gs) l (at + length (spell (gap gs)) + span_of in_bytes b) x))))

plan-within : (p : Plan) {a : Asked} → Among a (asked p) → Within (plan_numbers p) 0 a.place
unfolding asked plan_numbers acts_numbers
plan-within p {a} m =
    let w = acts-within [] (more p.body (more p.fault none)) (body_place p) m in
    let v : Within (act_numbers p.body ++ act_numbers p.fault) (body_place p) a.place = rw (append-nil (act_numbers p.fault)) at w in
    within-right (1 ∷ p.variables ∷ length p.correlation ∷ p.correlation) (rw (sym (zero-add (body_place p))) at v)

-- What plain reading reads has no group to cut.
no_cut : (o : List ℕ) {p : Plan} → read_any o ≡ found p (length o) → shortened o ≡ spelling p → groups_cut o ≡ 0
unfolding spelling
no_cut o e s = omega (arith, last-place o, last-inside o, ap length s, ((plan-stands o).holds e).plan.ends)

-- a count of what plain reading reads stands where it stood
count-stays : (o : List ℕ) {p : Plan} → read_any o ≡ found p (length o) → shortened o ≡ spelling p → {a : Asked} → Among a (asked p) → place_of o a.place ≡ a.place
unfolding spelling shortened numbers_of groups_cut
count-stays o {p} e s {a} m =
    let n : numbers_from (length o) o 0 ≡ plan_numbers p = spell-same (numbers_of o) (plan_numbers p) (numbers-small (length o) o 0) s in
    let c : cut_from (length o) o 0 ≡ 0 = no_cut o e s in
    let w = plan-within p m in
    let t = walked_as (walk o w.before w.after (stands-start o) (rw (start_left o) (n ∙ w.is)) (rw (start_left o) c)) (sym w.place) (sym w.place) in
    stands-place t.stands ∙ t.is

-- What is judged, whatever was found.
data Verdict (earlier l : List Asked) : Type 0 where
  fine : ((x : Found Plan) → judged earlier l x ≡ x) → Verdict earlier l
  differs : (a : Asked) → Among a l → ((x : Found Plan) → judged earlier l x ≡ refused 21 a.place) → Verdict earlier l

verdict-more : (a : Asked) (earlier l : List Asked) (b : Bool) → agrees_with earlier a ≡ b → Verdict (a ∷ earlier) l → Verdict earlier (a ∷ l)
unfolding judged
verdict-more a earlier l true e (fine f) = fine (λ x. rw e (f x))
verdict-more a earlier l true e (differs d m f) = differs d (later m) (λ x. rw e (f x))
verdict-more a earlier l false e v = differs a here (λ x. rw e)

verdict : (earlier l : List Asked) → Verdict earlier l
unfolding judged
verdict earlier [] = fine (λ x. refl)
verdict earlier (a ∷ l) = verdict-more a earlier l (agrees_with earlier a) refl (verdict (a ∷ earlier) l)

-- a refusal of the shortened bytes is one of the original
record Refusal (x : Found Plan) : Type 0 where
  number : ℕ
  place : ℕ
  is : x ≡ refused number place

is-refusal : (number place : ℕ) → Refusal (refused number place)
is-refusal n p = record { number = n; place = p; is = refl }

no-number-refused : (s : List ℕ) (at : ℕ) (n : Result Number Trouble) → Refusal (no_number s at n)
no-number-refused s at (Err Bad) = is-refusal 3 at
no-number-refused s at (Err Short) = is-refusal 2 (length s)
no-number-refused s at (Ok r) = is-refusal 2 (length s)

original-refused : (o : List ℕ) (n q : ℕ) → Refusal (original o (refused n q))
unfolding original
original-refused o n q =
    cond-case Refusal (eqb n 2) (λ e. no-number-refused o (last_place o) (padded_at o (last_place o)))
    (λ e. cond-case Refusal (eqb n 7 || eqb n 21)
    (λ f. cond-case Refusal (ltb (last_place o) (length o)) (λ g. is-refusal 9 (last_place o)) (λ g. is-refusal n (place_of o q)))
    (λ f. is-refusal n (place_of o q)))

plan-refused : (s : List ℕ) {n q : ℕ} → read_any s ≡ refused n q → read_plan s ≡ refused n q
unfolding read_plan
plan-refused s e = rw e

plan-judged : (s : List ℕ) {p : Plan} {next : ℕ} → read_any s ≡ found p next → read_plan s ≡ judged [] (asked p) (found p next)
unfolding read_plan
plan-judged s e = rw e

module _ (o : List ℕ) where
  module _ {p : Plan} {q : ℕ} (e : read_any (shortened o) ≡ found p q) where
    -- something follows the plan
    followed : ltb (last_place o) (length o) ≡ true → read_any o ≡ refused 9 (last_place o) → Verdict [] (asked p) → original o (read_plan (shortened o)) ≡ read_plan o
    unfolding original
    followed h x (fine f) = rw (plan-judged (shortened o) e ∙ f _, h) (sym (plan-refused o x))
    followed h x (differs a m f) = rw (plan-judged (shortened o) e ∙ f _, h) (sym (plan-refused o x))

    -- nothing follows it
    alone : ltb (last_place o) (length o) ≡ false → read_any o ≡ found p (length o) → Verdict [] (asked p) → original o (read_plan (shortened o)) ≡ read_plan o
    unfolding original shortened
    alone h x (fine f) = rw (plan-judged (shortened o) e ∙ f _, h) (sym (plan-judged o x ∙ f _))
    alone h x (differs a m f) =
        let s : shortened o ≡ spelling p = any-is-spelled (shortened o) (spell-bytes _) e in
        rw (plan-judged (shortened o) e ∙ f _, h) (ap (refused 21) (count-stays o x s m) ∙ sym (plan-judged o x ∙ f _))

    by_last : (b : Bool) → ltb (last_place o) (length o) ≡ b → original o (found p q) ≡ read_any o → original o (read_plan (shortened o)) ≡ read_plan o
    unfolding original
    by_last true h i = followed h (sym i ∙ rw h) (verdict [] (asked p))
    by_last false h i = alone h (sym i ∙ rw h) (verdict [] (asked p))

  by-found : (x : Found Plan) → read_any (shortened o) ≡ x → original o x ≡ read_any o → original o (read_plan (shortened o)) ≡ read_plan o
  by-found (refused n q) e i =
      let r = original-refused o n q in
      ap (original o) (plan-refused (shortened o) e) ∙ (r.is ∙ sym (plan-refused o (sym i ∙ r.is)))
  by-found (found p q) e i = by_last e (ltb (last_place o) (length o)) refl i

-- Plain reading refuses with 3, or padded reading finds the very same: the plan, or the refusal with its number and place.
pub data PlainKept (o : List ℕ) : Type 0 where
  three : (place : ℕ) → read_plan o ≡ refused 3 place → PlainKept o
  keeps : read_padded o ≡ read_plan o → PlainKept o

by-ends : (o : List ℕ) (x z : Found Plan) → read_any o ≡ x → read_any (shortened o) ≡ z → read_padded o ≡ original o (read_plan (shortened o)) → Ends o x z
    → PlainKept o
by-ends o _ _ e g f (alike.three {place}) = three place (plan-refused o e)
by-ends o x z e g f (alike.alike i) = keeps (f ∙ by-found o z g (i ∙ sym e))

pub plain-kept : (o : List ℕ) → PlainKept o
unfolding read_padded read_plan read_any
plain-kept o =
    elim (dec_lt 4096 (length o)) [
      | yes l ↦ keeps (rw (lt-ltb 4096 (length o) l))
      | no l ↦ by-ends o (read_any o) (read_any (shortened o)) refl refl (rw (le-ltb 4096 (length o) (omega (arith, l)))) (any-ends o (omega (arith, l)))
    ]
