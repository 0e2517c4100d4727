-- `machine::limits::rest_zero` meets its contract. Assumes nothing.
use Rattle.std.proofs.Common.{◌≡◌, ℕ, ◌∙◌, drop, eqb, arith, rules, tests}
use Rattle.std.proofs.lemmas.Bool.Decides.{nat_tests}
use Rattle.std.proofs.lemmas.Iterator.{YieldsList-from_slice}
use Rattle.std.proofs.lemmas.Iterator.Adapters.{YieldsList-from_skip}
use Rattle.std.proofs.lemmas.Iterator.Search.{all_from_yields_List}
use Rattle.machine.proofs.Tests.{every_as}
use Rattle.machine.proofs.limits.rest_zero.Goals as goal

turned : (x : ℕ) → eqb x 0 ≡ eqb 0 x
turned x = grind (arith, nat_tests)

pub returns : goal.returns
returns c =
    all_from_yields_List (λ x. eqb x 0) _ _ _ c.all.ensures.ran (YieldsList-from_skip c.args.count (YieldsList-from_slice c.args.values cc) cc)
    (λ x b q k. search (rules, tests))
    ∙ every_as (λ x. eqb x 0) (eqb 0) turned (drop c.args.count c.args.values)
