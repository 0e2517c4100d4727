-- `order::marks::quiet` meets its contract. Assumes nothing.
use mathlib.Core.Path.{◌≡◌}
use Prim.Native.Nat.{◌-◌}
use Rattle.order.specs.Begin.{quiet}
use Rattle.order.proofs.marks.quiet.Given as goal

abbrev pub invariant-loop-i : goal.invariant-loop-i
invariant-loop-i l = quiet l.from (l.to - l.from) l.marks ≡ quiet l.i (l.to - l.i) l.marks
