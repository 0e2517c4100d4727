-- The returns of the functions that read a padded plan, and of `mend`. Assumes nothing.
use borrow.Author.Tests.{le-ltb, ltb-false}
use native.Mathlib.Omega.{arith}
use mathlib.Core.Path.{◌≡◌, refl, sym, ap, ◌∙◌}
use mathlib.Core.Bool.{◌||◌}
use mathlib.Core.List.{List, ◌++◌}
use Prim.Native.Nat.{ℕ, ◌+◌, ◌-◌, ◌≤◌}
use lib.Dec.{ltb, eqb}
use lib.ListN.{length, take, drop}
use lib.Seq.{sets, sets-eq, length-sets, take-append_seam}
use Rattle.std.specs.Prelude.{Result, Ok, Err}
use Rattle.numbers.specs.declared.Number.{Number}
use Rattle.numbers.specs.declared.Trouble.{Trouble}
use Rattle.numbers.specs.declared.Trouble.TheVariants.{Short, Bad}
use Rattle.plan.specs.Answers.{refusal}
use Rattle.plan.specs.Found.{Found, refused, found}
use Rattle.plan.specs.Read.{read_plan}
use Rattle.plan.specs.Spell.{spelling}
use Rattle.plan.specs.Tree.{Plan}
use Rattle.plan.specs.declared.Refusal.{Refusal}
use Rattle.plan.proofs.Spelled.{accepted-is-spelled}
use Rattle.mend.specs.Outcome.{reading_of, put_answer, put_buffer, answer_of, buffer_of}
use Rattle.mend.specs.Padded.{padded_at, shortened, groups_cut, last_place, no_number, original, read_padded}
use Rattle.numbers.proofs.Groups.{cond-elim}
use Rattle.mend.proofs.RunLaws.{last-place, last-inside, shortened-fits, shortened-bytes}

record Got (x : Found Plan) : Type 0 where
  p : Plan
  next : ℕ
  is : x ≡ found p next

-- what a reading tells
reading-no : (x : Found Plan) {r : Refusal} → Err r ≡ reading_of x → x ≡ refused r.number r.place
unfolding reading_of
reading-no (refused n p) {r} e = let i : refusal n p ≡ r = cc in ap (λ x. refused x.number x.place) i
reading-no (found p next) e = cc

reading-yes : (x : Found Plan) → Ok tt ≡ reading_of x → Got x
unfolding reading_of
reading-yes (refused n p) e = cc
reading-yes (found p next) e = record { p = p; next = next; is = refl }

-- What a padded plan is: its shortened bytes are the plan, and nothing follows it.
pub record WholePlan (s : List ℕ) (p : Plan) : Type 0 where
  pub next : ℕ
  pub read : read_plan (shortened s) ≡ found p next
  pub whole : length s ≤ last_place s

pub no-plan : {P : Type 0} {number place next : ℕ} {p : Plan} → ◌≡◌ {A = Found Plan} (refused number place) (found p next) → P
no-plan e = cc

no-number-none : {P : Type 0} (s : List ℕ) (at : ℕ) (n : Result Number Trouble) {p : Plan} {next : ℕ} → no_number s at n ≡ found p next → P
no-number-none s at (Err Bad) e = no-plan e
no-number-none s at (Err Short) e = no-plan e
no-number-none s at (Ok r) e = no-plan e

plan-of : {p q : Plan} {m n : ℕ} → found p m ≡ found q n → p ≡ q
plan-of e = cc

pub original-found : (s : List ℕ) (x : Found Plan) {p : Plan} {next : ℕ} → read_plan (shortened s) ≡ x → original s x ≡ found p next → WholePlan s p
unfolding original
original-found s (found q m) f e =
    cond-elim (ltb (last_place s) (length s)) e (λ t g. no-plan g)
    (λ t g. record { next = m; read = f ∙ ap (λ q. found q m) (plan-of g); whole = ltb-false (last_place s) (length s) t })
original-found s (refused number place) f e =
    cond-elim (eqb number 2) e (λ t g. no-number-none s (last_place s) (padded_at s (last_place s)) g)
    (λ t g. cond-elim (eqb number 7 || eqb number 21) g (λ u k. cond-elim (ltb (last_place s) (length s)) k (λ x y. no-plan y) (λ x y. no-plan y)) (λ u k. no-plan k))

module _ {s : List ℕ} {p : Plan} (w : WholePlan s p) where
  pub whole-spelled : shortened s ≡ spelling p
  whole-spelled = accepted-is-spelled (shortened s) (shortened-bytes s) w.read

  pub whole-cut : length s ≡ length (spelling p) + groups_cut s
  whole-cut = omega (arith, w.whole, last-place s, last-inside s, ap length whole-spelled)

-- `put_plan`
pub put-all-bytes : (bytes out : List ℕ) → length bytes ≤ length out → bytes ++ drop (length bytes) out ≡ put_buffer bytes out
unfolding put_buffer
put-all-bytes bytes out h = let z : 0 + length bytes ≡ length bytes = omega arith in rw (le-ltb (length out) (length bytes) h) (sym (rw z at (sets-eq bytes out 0 (omega arith))))

pub ruleset putting = (put-all-bytes)

-- `mend`
module _ (s : List ℕ) (h : length s ≤ 4096) where
  pub padded-is : read_padded s ≡ original s (read_plan (shortened s))
  unfolding read_padded
  padded-is = rw (le-ltb 4096 (length s) h)

  module _ {n : ℕ} (long : n ≡ length (shortened s)) where
    pub long-fits : n ≤ length s
    long-fits = omega (arith, long, shortened-fits s)

    module _ (z : List ℕ) {bytes : List ℕ} (b : bytes ≡ sets z 0 (shortened s)) (wide : length z ≡ 4096) where
      pub scratch-room : n ≤ length bytes
      scratch-room = omega (arith, long-fits, ap length b, length-sets z 0 (shortened s))

      pub scratch-is : take n bytes ≡ shortened s
      scratch-is = rw (long, b, sets-eq (shortened s) z 0 (omega (arith, long-fits))) (take-append_seam (shortened s) (drop (0 + length (shortened s)) z))

  module _ {r : Refusal} (e : Err r ≡ reading_of (original s (read_plan (shortened s)))) (out : List ℕ) where
    refused-is : read_padded s ≡ refused r.number r.place
    refused-is = padded-is ∙ reading-no (original s (read_plan (shortened s))) e

    pub mend-no : Err r ≡ answer_of s (read_padded s) (length out)
    unfolding answer_of
    mend-no = rw refused-is

    pub mend-no-bytes : out ≡ buffer_of (read_padded s) out
    unfolding buffer_of
    mend-no-bytes = rw refused-is

  module _ (e : Ok tt ≡ reading_of (original s (read_plan (shortened s)))) (out : List ℕ) where
    whole-got : Got (original s (read_plan (shortened s)))
    whole-got = reading-yes (original s (read_plan (shortened s))) e

    plan-is : WholePlan s whole-got.p
    plan-is = original-found s (read_plan (shortened s)) refl whole-got.is

    found-is : read_padded s ≡ found whole-got.p whole-got.next
    found-is = padded-is ∙ whole-got.is

    pub mend-yes : put_answer (length (shortened s)) (length s - length (shortened s)) (length out) ≡ answer_of s (read_padded s) (length out)
    unfolding answer_of
    mend-yes =
        let c : length s - length (shortened s) ≡ groups_cut s = omega (arith, ap length (whole-spelled plan-is), whole-cut plan-is) in
        rw (found-is, c, whole-spelled plan-is)

    pub mend-yes-bytes : put_buffer (shortened s) out ≡ buffer_of (read_padded s) out
    unfolding buffer_of
    mend-yes-bytes = rw (found-is, whole-spelled plan-is)

pub ruleset mending = (long-fits, scratch-room, scratch-is, mend-no, mend-no-bytes, mend-yes, mend-yes-bytes)
