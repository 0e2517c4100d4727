-- Request 11's promises, over what the contract of `mend` cites. Assumes nothing.
use borrow.Author.Tests.{lt-ltb, le-ltb}
use native.Mathlib.Omega.{arith}
use native.Mathlib.Decide.{dec_lt}
use mathlib.Core.Path.{◌≡◌, refl, sym, ap, ◌∙◌}
use mathlib.Core.Bool.{true}
use mathlib.Core.Logic.{◌↔◌}
use mathlib.Core.List.{List}
use Prim.Native.Nat.{ℕ, ◌+◌, ◌≤◌}
use lib.ListN.{length}
use Rattle.numbers.specs.Shortest.{Bytes}
use Rattle.plan.specs.Found.{Found, refused, found}
use Rattle.plan.specs.Read.{read_plan}
use Rattle.plan.specs.Spell.{spell, plan_numbers, spelling}
use Rattle.plan.specs.Tree.{Plan}
use Rattle.plan.specs.Within.{plan_within}
use Rattle.plan.specs.Agree.{agree}
use Rattle.plan.proofs.Agreeing.{accepted-agrees, spelled-is-accepted}
use Rattle.plan.proofs.Limits.{accepted-is-within}
use Rattle.plan.proofs.Spelled.{accepted-length, accepted-is-spelled}
use Rattle.mend.specs.Outcome.{put_answer, put_buffer, answer_of, buffer_of}
use Rattle.mend.specs.Padded.{numbers_of, shortened, groups_cut, last_place, original, read_padded}
use Rattle.mend.proofs.Kept.{PlainKept, three, keeps, plain-kept}
use Rattle.mend.proofs.Numbers.{numbers-small, numbers-back, spell-same}
use Rattle.mend.proofs.MendReturns.{WholePlan, original-found, whole-spelled, whole-cut, padded-is, no-plan}
use Rattle.mend.proofs.RunLaws.{spell-bytes, last-inside}

-- what mends is a padded plan
mended : (s : List ℕ) {p : Plan} {next : ℕ} → read_padded s ≡ found p next → WholePlan s p
unfolding read_padded
mended s {p} {next} e =
    elim (dec_lt 4096 (length s)) [
      | yes l ↦ no-plan (rw (lt-ltb 4096 (length s) l) at e)
      | no l ↦ original-found s (read_plan (shortened s)) refl (sym (padded-is s (omega (arith, l))) ∙ e)
    ]

-- What comes out is accepted, as the plan that was read.
pub comes-out-accepted : (s : List ℕ) {p : Plan} {next : ℕ} → read_padded s ≡ found p next → read_plan (spelling p) ≡ found p (length (spelling p))
comes-out-accepted s {p} e =
    let w = mended s e in
    let r : read_plan (spelling p) ≡ found p w.next = rw (whole-spelled w) at w.read in
    r ∙ ap (found p) (accepted-length (spelling p) r)

-- "say how many groups were cut": they are the difference in length.
pub cut-is-difference : (s : List ℕ) {p : Plan} {next : ℕ} → read_padded s ≡ found p next → length s ≡ length (spelling p) + groups_cut s
cut-is-difference s e = whole-cut (mended s e)

-- A plan that mends and was refused before was refused with 3.
pub refused-before : (s : List ℕ) {p : Plan} {next number place : ℕ} → read_padded s ≡ found p next → read_plan s ≡ refused number place → number ≡ 3
refused-before s {p} {next} {number} {place} e f = by-kept (plain-kept s)
  where
    by-kept : PlainKept s → number ≡ 3
    by-kept (three q g) = let z : ◌≡◌ {A = Found Plan} (refused 3 q) (refused number place) = sym g ∙ f in cc
    by-kept (keeps g) = no-plan (sym f ∙ sym g ∙ e)

-- "every other trouble keeps its own number and place in the original": whatever plain reading refuses, but not with 3.
pub other-trouble : (s : List ℕ) {number place : ℕ} → read_plan s ≡ refused number place → (number ≡ 3 → ⊥) → read_padded s ≡ refused number place
other-trouble s {number} {place} f n = by-kept (plain-kept s)
  where
    by-kept : PlainKept s → read_padded s ≡ refused number place
    by-kept (three q g) = let z : ◌≡◌ {A = Found Plan} (refused 3 q) (refused number place) = sym g ∙ f in absurd (n cc)
    by-kept (keeps g) = g ∙ f

-- "an accepted plan comes out identical with none cut"
pub record Identical (s : List ℕ) (p : Plan) : Type 0 where
  pub read : read_padded s ≡ found p (length s)
  pub bytes : spelling p ≡ s
  pub uncut : groups_cut s ≡ 0

pub accepted-identical : (s : List ℕ) {p : Plan} {next : ℕ} → Bytes s → read_plan s ≡ found p next → Identical s p
accepted-identical s {p} {next} y f =
    let b = sym (accepted-is-spelled s y f) in
    let r = by-kept (plain-kept s) in
    record { read = r; bytes = b; uncut = omega (arith, cut-is-difference s r, ap length b) }
  where
    by-kept : PlainKept s → read_padded s ≡ found p (length s)
    by-kept (three q g) = no-plan (sym g ∙ f)
    by-kept (keeps g) = g ∙ f ∙ ap (found p) (accepted-length s f)

-- Mending what comes out again changes nothing.
pub mended-again : (s : List ℕ) {p : Plan} {next : ℕ} → read_padded s ≡ found p next → Identical (spelling p) p
unfolding spelling
mended-again s {p} e = accepted-identical (spelling p) (spell-bytes _) (comes-out-accepted s e)

-- The same of the call: whatever the buffer, an accepted plan goes into it as it is.
pub accepted-put : (s out : List ℕ) {p : Plan} {next : ℕ} → Bytes s → read_plan s ≡ found p next
    → (answer_of s (read_padded s) (length out) ≡ put_answer (length s) 0 (length out)) × (buffer_of (read_padded s) out ≡ put_buffer s out)
unfolding answer_of buffer_of
accepted-put s out y f =
    let i = accepted-identical s y f in
    (rw (i.read, i.bytes, i.uncut), rw (i.read, i.bytes))

-- "Values and order stay": the numbers of what comes out are those of what went in.

pub values-stay : (s : List ℕ) {p : Plan} {next : ℕ} → read_padded s ≡ found p next → numbers_of (spelling p) ≡ numbers_of s
unfolding numbers_of shortened
values-stay s {p} e =
    numbers-back (numbers_of s) (spelling p) 0 (length (spelling p)) (numbers-small (length s) s 0) (omega arith) (omega arith) (sym (whole-spelled (mended s e)))

-- What bytes mend as the plan p: at most 4,096 of them that are, one after the other and to the end, padded forms of the numbers of p, a plan within the
-- limits of document 01 whose receives agree.
pub record Pads (s : List ℕ) (p : Plan) : Type 0 where
  pub short : length s ≤ 4096
  pub within : plan_within p ≡ true
  pub agreeing : agree p ≡ true
  pub numbers : numbers_of s ≡ plan_numbers p
  pub whole : last_place s ≡ length s

pads-of : (s : List ℕ) (p : Plan) {next : ℕ} → read_padded s ≡ found p next → Pads s p
unfolding read_padded shortened spelling numbers_of
pads-of s p e =
    let w = mended s e in
    record {
      short = elim (dec_lt 4096 (length s)) [ yes l ↦ no-plan (rw (lt-ltb 4096 (length s) l) at e) | no l ↦ omega (arith, l) ];
      within = accepted-is-within (shortened s) w.read;
      agreeing = accepted-agrees (shortened s) w.read;
      numbers = spell-same (numbers_of s) (plan_numbers p) (numbers-small (length s) s 0) (whole-spelled w);
      whole = omega (arith, w.whole, last-inside s);
    }

read_of : (s : List ℕ) (p : Plan) → Pads s p → read_padded s ≡ found p (length s)
unfolding original shortened spelling
read_of s p x =
    let t : shortened s ≡ spelling p = ap spell x.numbers in
    let r : read_plan (shortened s) ≡ found p (length (spelling p)) = rw t (spelled-is-accepted p x.within x.agreeing) in
    padded-is s x.short ∙ rw (r, le-ltb (last_place s) (length s) (omega (arith, x.whole)))

-- Bytes are read as the padded plan p exactly where they are one.
pub mends-exactly : (s : List ℕ) (p : Plan) → (read_padded s ≡ found p (length s)) ↔ Pads s p
mends-exactly s p = (λ e. pads-of s p e, λ x. read_of s p x)
