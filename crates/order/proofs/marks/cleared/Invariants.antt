-- `order::marks::cleared` meets its contract. Assumes nothing.
use mathlib.Core.Path.{◌≡◌}
use Prim.Native.Nat.{◌-◌}
use Rattle.order.specs.Begin.{cleared}
use Rattle.order.proofs.marks.cleared.Given as goal

abbrev pub invariant-loop-i : goal.invariant-loop-i
invariant-loop-i l = cleared l.from (l.to - l.from) l.fn.marks ≡ cleared l.i (l.to - l.i) l.m
