-- A state with a change put in, by whether the step was taken. Assumes nothing.
use mathlib.Core.Path.{◌≡◌}
use Prim.Native.Nat.{ℕ}
use borrow.Author.Tests.{eq-eqb, ne_eqb}
use Rattle.machine.specs.declared.State.{State}
use Rattle.machine.specs.State.{with_messages, with_order}
use Rattle.step.specs.declared.Change.{Change}
use Rattle.step.specs.Stepping.{put_in}

pub put-taken : (s : State) (r : Change) → r.answer.refusal ≡ 0 → put_in s r ≡ with_order r.answer.slot r.order (with_messages r.messages r.waiting s)
put-taken s r h = rw (eq-eqb r.answer.refusal 0 h)

pub put_refused : (s : State) (r : Change) → (r.answer.refusal ≡ 0 → ⊥) → put_in s r ≡ s
put_refused s r h = rw (ne_eqb r.answer.refusal 0 h)
