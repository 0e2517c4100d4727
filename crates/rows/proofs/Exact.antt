-- Request 1's promises: what is written is accepted and reads back as the same table, and every accepted plan comes back byte for byte; of the
-- definitions, and of the two public calls one after the other. Assumes nothing.
use mathlib.Core.Path.{◌≡◌, refl, sym}
use mathlib.Core.List.{List}
use Prim.Native.Nat.{ℕ, ◌+◌, ◌≤◌}
use lib.ListN.{length, take, drop}
use lib.Seq.{sets, sets-eq, take-append_seam}
use borrow.Author.Tests.{le-ltb, ltb-false}
use native.Mathlib.Omega.{arith}
use Rattle.numbers.specs.Shortest.{Bytes}
use Rattle.plan.specs.Found.{Found, refused, found}
use Rattle.plan.specs.Read.{read_plan}
use Rattle.plan.specs.Spell.{spelling}
use Rattle.plan.specs.Tree.{Plan}
use Rattle.plan.specs.Within.{plan_within}
use Rattle.plan.specs.Agree.{agree}
use Rattle.plan.proofs.Agreeing.{accepted-agrees}
use Rattle.plan.proofs.Limits.{accepted-is-within}
use Rattle.plan.proofs.Spelled.{accepted-is-spelled}
use Rattle.plan.proofs.Finds.{Finds, finds-refused, finds-found, finds-cond, finds-then, finds-itself}
use Rattle.writer.specs.Reading.{plan_at, agreed_at, read_rows}
use Rattle.writer.specs.Rows.{plan_rows, rows_of}
use Rattle.writer.specs.Written.{answer_for, bytes_for, rows_answer, rows_for}
use Rattle.writer.proofs.WriteReturns.{agreed-is-read}
use Rattle.std.specs.Prelude.{Result, Ok, Err}
use Rattle.plan.specs.declared.Refusal.{Refusal}
use Rattle.plan.specs.Answers.{refusal}
use Rattle.rows.proofs.Completes.{rows-are-read}
use Rattle.rows.proofs.TableLimits.{Words, read-is-within, read-agrees, written-is-accepted}
use Rattle.rows.proofs.Tables.{read-is-rows}
use lib.Dec.{ltb}
use mathlib.Core.Bool.{Bool, true, false, cond}
use mathlib.Core.Logic.{◌↔◌}

rows-planned : (t : List ℕ) → Finds (λ p next. plan_at t ≡ found p next) (read_rows t)
unfolding read_rows
rows-planned t =
    finds-then (finds-itself (agreed_at t)) (λ p next e.
    finds-cond (ltb 4096 (length (spelling p))) (λ f. finds-refused) (λ f. finds-found (agreed-is-read t e)))

-- A table of numbers of 32 bits is read as a plan exactly where it is the table of a plan within the limits whose receives agree.
pub read-exactly : (t : List ℕ) (p : Plan) → Words t → (read_rows t ≡ found p (length (plan_rows p))) ↔ ((plan_within p ≡ true) × ((agree p ≡ true) × (t ≡ rows_of p)))
read-exactly t p words =
    (λ e. (read-is-within t words e, (read-agrees t e, read-is-rows t ((rows-planned t).holds e))), λ k. rw k.1.1 (rows-are-read p k.0 k.1.0))

-- The table of an accepted plan is read as that plan, and what is written of it are the plan's bytes.
pub accepted-comes-back : (s : List ℕ) {p : Plan} {next : ℕ} → Bytes s → read_plan s ≡ found p next
    → (read_rows (rows_of p) ≡ found p (length (plan_rows p))) × (spelling p ≡ s)
accepted-comes-back s {p} y e = (rows-are-read p (accepted-is-within s e) (accepted-agrees s e), sym (accepted-is-spelled s y e))

-- The public calls, one after the other.

-- what is answered with a length is neither refused nor too long
answered : (b : Bool) {long n : ℕ} → cond {A = Result ℕ Refusal} b (Err (refusal 18 0)) (Ok long) ≡ Ok n → (b ≡ false) × (long ≡ n)
answered true e = let z : ◌≡◌ {A = ℕ} 0 1 = cc in absurd (omega arith)
answered false e = (refl, cc)

-- what stands in a buffer that a list was put into
front : (buffer l : List ℕ) → ltb (length buffer) (length l) ≡ false → take (length l) (sets buffer 0 l) ≡ l
front buffer l h = rw (sets-eq l buffer 0 (omega (arith, ltb-false (length buffer) (length l) h))) (take-append_seam l (drop (0 + length l) buffer))

-- `rows` answered n: it was a plan, and the first n numbers of the buffer are its table
record Handed (g : Found Plan) (buffer : List ℕ) (n : ℕ) : Type 0 where
  p : Plan
  next : ℕ
  is : g ≡ found p next
  table : take n (rows_for g buffer) ≡ rows_of p

handed : (g : Found Plan) (buffer : List ℕ) {n : ℕ} → rows_answer g (length buffer) ≡ Ok n → Handed g buffer n
unfolding rows_answer rows_for
handed (refused number place) buffer e = let z : ◌≡◌ {A = ℕ} 0 1 = cc in absurd (omega arith)
handed (found p next) buffer e =
    let (b, l) = answered (ltb (length buffer) (length (rows_of p))) e in
    record { p = p; next = next; is = refl; table = rw (← l, b) (front buffer (rows_of p) b) }

-- `write` answered n: the table is a plan's, and the first n bytes of the buffer are its spelling
record Spelt (g : Found Plan) (out : List ℕ) (n : ℕ) : Type 0 where
  p : Plan
  next : ℕ
  is : g ≡ found p next
  bytes : take n (bytes_for g out) ≡ spelling p

spelt : (g : Found Plan) (out : List ℕ) {n : ℕ} → answer_for g (length out) ≡ Ok n → Spelt g out n
unfolding answer_for bytes_for
spelt (refused number place) out e = let z : ◌≡◌ {A = ℕ} 0 1 = cc in absurd (omega arith)
spelt (found p next) out e =
    let (b, l) = answered (ltb (length out) (length (spelling p))) e in
    record { p = p; next = next; is = refl; bytes = rw (← l, b) (front out (spelling p) b) }

-- What `rows` gives of bytes s is written as s again, into any buffer with room for it.
pub rows-then-write : (s buffer out : List ℕ) {n : ℕ} → Bytes s → rows_answer (read_plan s) (length buffer) ≡ Ok n → length s ≤ length out
    → (answer_for (read_rows (take n (rows_for (read_plan s) buffer))) (length out) ≡ Ok (length s))
    × (bytes_for (read_rows (take n (rows_for (read_plan s) buffer))) out ≡ sets out 0 s)
unfolding answer_for bytes_for
rows-then-write s buffer out y e h =
    let x = handed (read_plan s) buffer e in
    let (r, b) = accepted-comes-back s y x.is in
    (rw (x.table, r, b, le-ltb (length out) (length s) h), rw (x.table, r, b, le-ltb (length out) (length s) h))

-- What `write` makes of a table is given as that table again, into any buffer with room for it.
pub write-then-rows : (t out buffer : List ℕ) {n : ℕ} → Words t → answer_for (read_rows t) (length out) ≡ Ok n → length t ≤ length buffer
    → (rows_answer (read_plan (take n (bytes_for (read_rows t) out))) (length buffer) ≡ Ok (length t))
    × (rows_for (read_plan (take n (bytes_for (read_rows t) out))) buffer ≡ sets buffer 0 t)
unfolding rows_answer rows_for
write-then-rows t out buffer words e h =
    let x = spelt (read_rows t) out e in
    let a = written-is-accepted t words x.is in
    let b : rows_of x.p ≡ t = sym (read-is-rows t ((rows-planned t).holds x.is)) in
    (rw (x.bytes, a, b, le-ltb (length buffer) (length t) h), rw (x.bytes, a, b, le-ltb (length buffer) (length t) h))
