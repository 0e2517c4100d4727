-- What post does to the letters. Assumes nothing.
use Prim.Native.Nat.{ℕ, zero, suc, ◌+◌, ◌<◌}
use native.Mathlib.Omega.{arith}
use mathlib.Core.Path.{◌≡◌, refl, sym, ap, subst}
use mathlib.Core.Bool.{true, false, false≢true}
use mathlib.Core.List.{List, [], ◌∷◌, ◌++◌}
use lib.ListN.{length, set, take}
use lib.Dec.{eqb, leb}
use borrow.Author.Tests.{leb-false}
use Rattle.plan.specs.Found.{Found, found, refused}
use Rattle.plan.specs.Tree.{Plan}
use Rattle.machine.specs.declared.Message.{Message}
use Rattle.machine.specs.declared.State.{State}
use Rattle.machine.specs.declared.Posted.{Posted}
use Rattle.machine.specs.State.{letters, adding}
use Rattle.machine.specs.Limits.{exchanged, plan_in, by}
use Rattle.machine.specs.Calls.{trimmed, post_by, post}
use Rattle.undoing.specs.Entirely.{PostAppends}
use Rattle.undoing.proofs.Parts.{decide}

-- the first of a list with one set at its end
take_set_end : (w : ℕ) (l : List Message) (x : Message) → w < length l → take (suc w) (set l w x) ≡ take w l ++ (x ∷ [])
take_set_end w [] x h = absurd (omega arith)
take_set_end zero (y ∷ l) x h = refl
take_set_end (suc w) (y ∷ l) x h = ap (λ (z : List Message). y ∷ z) (take_set_end w l x (omega arith))

-- by what is refused
abbrev Appends : Message → State → Posted → Type 0
Appends m s r = r.refusal ≡ 0 → letters r.state ≡ letters s ++ (trimmed m ∷ [])

abbrev Unchanged : State → Posted → Type 0
Unchanged s r = eqb r.refusal 0 ≡ false → r.state ≡ s

module _ (m : Message) (s : State) where
  added : length s.messages ≡ 64 → leb 64 s.waiting ≡ false → letters (adding (trimmed m) s) ≡ letters s ++ (trimmed m ∷ [])
  added n e =
      let d : suc s.waiting ≡ s.waiting + 1 = omega arith in
      subst (λ (k : ℕ). take k (set s.messages s.waiting (trimmed m)) ≡ letters s ++ (trimmed m ∷ [])) d
      (take_set_end s.waiting s.messages (trimmed m) (let z = leb-false 64 s.waiting e in omega arith))

  by-plan : length s.messages ≡ 64 → (f : Found Plan) → Appends m s (by (record { refusal = 17; state = s }) (λ p. post_by p m s) f)
  unfolding post_by
  by-plan n (refused i j) = λ e. absurd (omega arith)
  by-plan n (found p i) =
      decide (exchanged m.partner m.operation m.count m.reply)
      (λ a. decide (leb 64 s.waiting) (λ b. rw (a, b) (λ e. absurd (omega arith))) (λ b. rw (a, b) (λ e. added n b)))
      (λ a. rw a (λ e. absurd (omega arith)))

  by-refusal : (f : Found Plan) → Unchanged s (by (record { refusal = 17; state = s }) (λ p. post_by p m s) f)
  unfolding post_by
  by-refusal (refused i j) = λ e. refl
  by-refusal (found p i) =
      decide (exchanged m.partner m.operation m.count m.reply)
      (λ a. decide (leb 64 s.waiting) (λ b. rw (a, b) (λ e. refl)) (λ b. rw (a, b) (λ e. absurd (false≢true (sym e)))))
      (λ a. rw a (λ e. refl))

pub post-appends : PostAppends
unfolding PostAppends post
post-appends = ((λ m s n e. by-plan m s n (plan_in s) e), λ m s e. by-refusal m s (plan_in s) e)
