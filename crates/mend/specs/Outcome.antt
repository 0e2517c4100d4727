-- Meaning: what mending comes to. Assumes nothing: these are definitions.
use Rattle.std.specs.Prelude.{ℕ, cond, List, ltb, length, Result, Ok, Err}
use Rattle.std.proofs.lemmas.List.Edits.{sets}
use Rattle.plan.specs.Answers.{refusal}
use Rattle.plan.specs.Found.{Found, refused, found}
use Rattle.plan.specs.Spell.{spelling}
use Rattle.plan.specs.Tree.{Plan}
pub use Rattle.plan.specs.declared.Refusal.{Refusal}
use Rattle.mend.specs.Padded.{groups_cut}
use Rattle.mend.specs.declared.Mended.{Mended}

-- what is read: a padded plan, or its refusal
unfoldable pub reading_of : Found Plan → Result Unit Refusal
reading_of (refused number place) = Err (refusal number place)
reading_of (found p next) = Ok tt

-- how many bytes were written, and how many groups were cut
abbrev pub mended : (length cut : ℕ) → Mended
mended length cut = record { length = length; cut = cut }

-- bytes that go into a buffer: the length written and the groups cut; "18 when the second buffer is too short, after the others", at 0
unfoldable pub put_answer : (n cut room : ℕ) → Result Mended Refusal
put_answer n cut room = cond (ltb room n) (Err (refusal 18 0)) (Ok (mended n cut))

-- the buffer afterwards: the bytes from its start on, or as it was
unfoldable pub put_buffer : (bytes out : List ℕ) → List ℕ
put_buffer bytes out = cond (ltb (length out) (length bytes)) out (sets out 0 bytes)

-- `mend`: what goes into the buffer is the plan's bytes; "A refused mend leaves it unchanged."
unfoldable pub answer_of : List ℕ → Found Plan → (room : ℕ) → Result Mended Refusal
answer_of s (refused number place) room = Err (refusal number place)
answer_of s (found p next) room = put_answer (length (spelling p)) (groups_cut s) room

unfoldable pub buffer_of : Found Plan → List ℕ → List ℕ
buffer_of (refused number place) out = out
buffer_of (found p next) out = put_buffer (spelling p) out
