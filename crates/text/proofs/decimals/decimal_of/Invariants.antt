-- `text::decimals::decimal_of` meets its contract. The loop's invariant: the whole has the value that the digits left make of the sum, which is
-- in range. Assumes nothing.
use Rattle.std.proofs.Common.{◌≡◌, ◌≤◌, drop}
use Rattle.text.specs.Decimals.{value_from}
use Rattle.text.proofs.decimals.decimal_of.Given as goal

abbrev pub invariant-loop-b : goal.invariant-loop-b
invariant-loop-b l = record {
  in_range : l.sum ≤ 4294967295;
  the_rest : value_from l.s 0 ≡ value_from (drop l.b-index l.s) l.sum;
}
