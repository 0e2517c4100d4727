-- The loop of `numbers::read`: what is to be read is what the groups left make of what was read; the scale has room for the groups left; the sum fits
-- a `u32`; and only the first group has scale 1. Assumes nothing.
use mathlib.Core.Path.{◌≡◌}
use mathlib.Core.List.{List}
use Prim.Native.Nat.{ℕ, zero, suc, ◌+◌, ◌/◌, ◌≤◌, ◌<◌}
use Rattle.numbers.specs.Number.{groups, number_at}
use Rattle.numbers.proofs.read.Given as goal

-- the largest scale that has room for `left` groups
abbrev pub room : ℕ → ℕ
room zero = 34359738368
room (suc k) = room k / 128

pub record Reading (s : List ℕ) (at i p scale sum : ℕ) : Type 0 where
  pub left : ℕ
  pub five : left + i ≡ 5
  pub same : number_at s at ≡ groups left s p scale sum
  pub fits : scale ≤ room left
  pub small : sum ≤ 4294967295
  pub first : i ≡ 0 → (scale ≡ 1) × (sum ≡ 0)
  pub grown : i < scale

abbrev pub invariant-loop-i : goal.invariant-loop-i
invariant-loop-i l = Reading l.s l.at l.i l.next l.scale l.sum
