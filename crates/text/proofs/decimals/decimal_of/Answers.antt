-- `text::decimals::decimal_of` meets its contract: the digits that follow make no sum less, so a sum that is too large stays so. Assumes nothing.
use Rattle.std.proofs.Common.{◌≡◌, ℕ, ◌+◌, ◌-◌, ◌*◌, ◌<◌, ◌≤◌, List, [], ◌∷◌, length, get_or, drop, add-one, drop-cons, arith, rules}
use Rattle.text.specs.Decimals.{value_from, decimal_of}
use Rattle.text.proofs.decimals.decimal_of.Goals as goal

grows : (l : List ℕ) (sum : ℕ) → sum ≤ value_from l sum
unfolding value_from
grows [] sum = omega arith
grows (b ∷ l) sum = omega (arith, grows l (sum * 10 + (b - 48)))

one_more : (s : List ℕ) (i sum : ℕ) → i < length s → value_from (drop i s) sum ≡ value_from (drop (i + 1) s) (sum * 10 + (get_or s i 0 - 48))
unfolding value_from
one_more s i sum w = rw (add-one, drop-cons s i 0)

too_large : (s : List ℕ) (i sum top : ℕ) → i < length s → top < sum * 10 + (get_or s i 0 - 48) → top < value_from (drop i s) sum
too_large s i sum top w h = omega (arith, one_more s i sum w, grows (drop (i + 1) s) (sum * 10 + (get_or s i 0 - 48)))

pub returns-then-sum-gt4294967295 : goal.returns-then-sum-gt4294967295
unfolding decimal_of
returns-then-sum-gt4294967295 c =
    let h = too_large c.args.s.now c.loop-b.b-index c.loop-b.sum 4294967295 (omega arith) (omega arith) in
    let e = c.loop-b.invariant.the_rest in
    search rules
