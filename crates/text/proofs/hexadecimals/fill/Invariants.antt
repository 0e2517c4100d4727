-- `text::hexadecimals::fill` meets its contract. The loop's invariant: what it promises of all bytes holds of those passed. Assumes nothing.
use Rattle.std.proofs.Common.{◌≡◌}
use Rattle.text.specs.Hexadecimals.{filled}
use Rattle.text.proofs.hexadecimals.fill.Given as goal

abbrev pub invariant-loop-i : goal.invariant-loop-i
invariant-loop-i l = l.out ≡ filled l.s l.i l.initial.out
